use Rattle.std.proofs.Common.{◌≤◌, ◌^◌, arith, ap, length, refl, subst, sym, ◌∙◌}
use Rattle.std.specs.Vec.{with_items}
use Rattle.std.proofs.lemmas.List.{with_items_is}
use Rattle.file_model.specs.Shard.{IsCutWriteOut, IsWholeWriteOut, IsWriteOut}
use Rattle.lower_inode.specs.NodeTurn.{AreNodes}
use Rattle.lower_inode.specs.Shards.{shard_of, shard_with}
use Rattle.lower_inode.proofs.WritingOut.{retabled}
use Rattle.lower_inode.proofs.shard.Shard.write_out.Goals as goal
use Rattle.lower_inode.proofs.shard.Shard.write_out.Goals.{in-Ok, in-Err}

pub invariant_of-self : goal.invariant_of-self
invariant_of-self g c =
    let table = c.write_nodes.ensures.table in
    let same = sym (with_items_is c.self.inside.nodes c.write_nodes.new.nodes (table.len ∙ c.deref_mut.ensures.len)) in
    record {
      index = c.self.invariant.index;
      few = subst (λ xs. length xs ≤ 2 ^ 29) same (omega (arith, table.len, ap length c.deref_mut.ensures.value, c.self.invariant.few));
      nodes = subst (AreNodes (g.B.LowerBodies.held c.write_nodes.new.bodies) c.self.inside.index) same table.nodes;
    }

pub returns-clause-writes : goal.returns-clause-writes
returns-clause-writes g c =
    let held = g.B.LowerBodies.held in
    let s = c.self.inside in
    let n = c.write_nodes.new in
    let table = c.write_nodes.ensures.table in
    let same = sym (with_items_is s.nodes n.nodes (table.len ∙ c.deref_mut.ensures.len)) in
    subst (λ v. IsWriteOut (g.F.BodyFormat.rules v.format) (held v.bodies) (held n.bodies) (shard_of v) (shard_with s.log s.index (with_items s.nodes n.nodes).items)) c.self.view_is
    (retabled (IsWriteOut (g.F.BodyFormat.rules s.format) (held s.bodies) (held n.bodies)) s.log s.index _ _ _ _ c.deref_mut.ensures.value same (table.writes s.log))

pub returns-clause-whole : goal.returns-clause-whole
returns-clause-whole g c =
    let held = g.B.LowerBodies.held in
    let s = c.self.inside in
    let n = c.write_nodes.new in
    let same = sym (with_items_is s.nodes n.nodes (c.write_nodes.ensures.table.len ∙ c.deref_mut.ensures.len)) in
    elim c.match-write_nodes.branch [
      | in-Ok w ↦ rw w.result-is
          (subst (λ v. IsWholeWriteOut (g.F.BodyFormat.rules v.format) (held v.bodies) (held n.bodies) (shard_of v) (shard_with s.log s.index (with_items s.nodes n.nodes).items)) c.self.view_is
          (retabled (IsWholeWriteOut (g.F.BodyFormat.rules s.format) (held s.bodies) (held n.bodies)) s.log s.index _ _ _ _ c.deref_mut.ensures.value same (w.in-Ok.ensures.whole s.log)))
      | in-Err w ↦ rw w.result-is tt
    ]

pub returns-clause-cut : goal.returns-clause-cut
returns-clause-cut g c =
    let held = g.B.LowerBodies.held in
    let s = c.self.inside in
    let n = c.write_nodes.new in
    let same = sym (with_items_is s.nodes n.nodes (c.write_nodes.ensures.table.len ∙ c.deref_mut.ensures.len)) in
    elim c.match-write_nodes.branch [
      | in-Ok w ↦ rw w.result-is tt
      | in-Err w ↦ rw w.result-is
          (subst (λ v. IsCutWriteOut (g.F.BodyFormat.rules v.format) (held v.bodies) (held n.bodies) (shard_of v) (shard_with s.log s.index (with_items s.nodes n.nodes).items)) c.self.view_is
          (retabled (IsCutWriteOut (g.F.BodyFormat.rules s.format) (held s.bodies) (held n.bodies)) s.log s.index _ _ _ _ c.deref_mut.ensures.value same (w.in-Err.ensures.cut s.log)))
    ]

pub returns-clause-fault : goal.returns-clause-fault
returns-clause-fault g c =
    let held = g.B.LowerBodies.held in
    elim c.match-write_nodes.branch [
      | in-Ok w ↦ rw w.result-is tt
      | in-Err w ↦ rw w.result-is (
        c.faults-before.ensures ∙ ap (λ v. (held v.bodies).faults) c.self.view_is,
        w.faults.ensures,
        rw (c.faults-before.ensures, w.faults.ensures) (w.in-Err.ensures.table.calls.rose refl),
      )
    ]
