use Rattle.std.proofs.Common.{◌≡◌, List, [], ◌∷◌, ◌++◌, length, map, refl, sym, subst, ap, ◌∙◌, arith}
use Rattle.std.proofs.lemmas.List.{nil_from_length}
use Rattle.std.proofs.lemmas.Option.{slice_get_read}
use Rattle.lower_model.specs.declared.node.LowerNode.{LowerNode}
use Rattle.tree_model.specs.IsTree.{IsNode, IsTree}
use Rattle.lower_tree.specs.Held.{file_at}
use Rattle.lower_mem.specs.Bodies.{BodiesInMemory, bodies_held}
use Rattle.lower_mem.specs.Laid.{Remaining, octets_kept, entry_node}
use Rattle.lower_mem.proofs.Kept.{Files}
use Rattle.lower_mem.proofs.Laying.{Laying, root_is_dir, laying_root, laying_few, laying_end, laying_pop, Turn, turn_node, turn_within, turn_dir, turn_file}
use Rattle.lower_mem.proofs.united.united_tree.Goals.{After-len-number, In_default-pop, In_ok-push-4, in-Dir+in_ok-push-2, in_default}
use Rattle.lower_mem.proofs.united.united_tree.Goals as goal

abbrev files_at : List BodiesInMemory → Files
files_at bodies = file_at (map bodies_held bodies)

turn : (c : After-len-number) → Turn (files_at c.args.bodies.now) (files_at c.loop-open.bodies) c.places-places.result.now c.loop-open.nodes.items c.loop-open.stack.items c.pop.new.self.items c.next.new.self c.in-Some-next.name.now c.in-Some-next.node
turn c = record {
  fit = c.requires.fit;
  tree = subst IsTree (sym c.places-places.ensures.places) c.places-places.ensures.lawful;
  laying = c.loop-open.invariant;
  taken = c.in-Some.ensures.items ∙ ap (λ (o : Remaining). c.pop.new.self.items ++ o ∷ []) c.in-Some-next.ensures;
}

pub loop-open-init : goal.loop-open-init
loop-open-init c =
    let tree = subst IsTree (sym c.places-places.ensures.places) c.places-places.ensures.lawful in
    elim c.match-places.branch [
      | in-Dir+in_ok-push-2 w ↦
          rw (w.stack-is, w.in_ok-push-2.ensures.items, c.new-stack.ensures.items, w.new.ensures, c.in_ok-push.ensures.items, c.new-nodes.ensures.items)
          (laying_root (files_at c.args.bodies.now) c.places-places.result.now tree c.index-places-0.result c.index-places-0.is w.in-Dir.dir w.in-Dir.is c.root.result c.root.ensures)
      | in_default w ↦ absurd (root_is_dir c.places-places.result.now tree c.index-places-0.result c.index-places-0.is w.in_default.not-Dir)
    ]

pub bounds-places-node : goal.bounds-places-node
bounds-places-node c = turn_within (turn (goal.at.bounds-places-node c).After-len-number)

pub overflow_cast-number : goal.overflow_cast-number
overflow_cast-number c =
    let tree = subst IsTree (sym c.places-places.ensures.places) c.places-places.ensures.lawful in
    omega (arith, laying_few c.places-places.result.now c.loop-open.nodes.items c.loop-open.stack.items c.loop-open.invariant, tree.few, c.loop-open.nodes.ok.0, c.len-number.ensures)

pub kind-kind-requires : goal.kind-kind-requires
kind-kind-requires c =
    let t = turn (goal.at.kind-kind-requires c).After-len-number in
    subst IsNode (slice_get_read c.places-places.result.now (length c.places-places.result.now) c.in-Some-next.node c.index-places-node.result refl (turn_within t) c.index-places-node.is) (turn_node t)

pub loop-open-preserved : goal.loop-open-preserved
loop-open-preserved c =
    laying_pop (files_at c.args.bodies.now) (files_at c.loop-open.bodies) c.requires.fit c.places-places.result.now (subst IsTree (sym c.places-places.ensures.places) c.places-places.ensures.lawful)
    c.loop-open.nodes.items c.pop.new.self.items c.in-Some.open (subst (Laying (files_at c.args.bodies.now) (files_at c.loop-open.bodies) c.places-places.result.now c.loop-open.nodes.items) c.in-Some.ensures.items c.loop-open.invariant) c.in_default-next.ensures.0

all_laid : (c : In_default-pop) → Laying (files_at c.args.bodies.now) (files_at c.loop-open.bodies) c.places-places.result.now c.loop-open.nodes.items []
all_laid c = subst (Laying (files_at c.args.bodies.now) (files_at c.loop-open.bodies) c.places-places.result.now c.loop-open.nodes.items) (nil_from_length c.loop-open.stack.items (sym c.loop-open.stack.ok.0 ∙ c.in_default-pop.ensures.cases.0)) c.loop-open.invariant

pub from_vec-requires : goal.from_vec-requires
from_vec-requires c = (laying_end c.places-places.result.now c.loop-open.nodes.items (subst IsTree (sym c.places-places.ensures.places) c.places-places.ensures.lawful) (all_laid c)).0

pub returns : goal.returns
returns c =
    rw (c.from_vec.ensures, ← c.places-places.ensures.places) (laying_end c.places-places.result.now c.loop-open.nodes.items (subst IsTree (sym c.places-places.ensures.places) c.places-places.ensures.lawful) (all_laid (goal.at.returns c).In_default-pop)).1

pushed : (c : In_ok-push-4) → c.push-in-Some-next.new.self.items ≡ c.loop-open.nodes.items ++ entry_node c.next.new.self.number c.kind-kind.result c.in-Some-next.name.now (octets_kept c.kind-kind.result (files_at c.loop-open.bodies c.in-Some-next.node)) ∷ []
pushed c =
    let number : c.open.inside.number ≡ c.next.new.self.number = ap (λ (o : Remaining). o.number) c.open.view_is in
    let node : c.in_ok-entry.field-0 ≡ entry_node c.next.new.self.number c.kind-kind.result c.in-Some-next.name.now (octets_kept c.kind-kind.result (files_at c.loop-open.bodies c.in-Some-next.node)) =
    rw (← number, ← c.take_octets-octets.ensures.octets) c.in_ok-entry.ensures in
    c.in_ok-push-3.ensures.items ∙ ap (λ (x : LowerNode). c.loop-open.nodes.items ++ x ∷ []) node

pub loop-open-preserved-in_ok-push-5 : goal.loop-open-preserved-in_ok-push-5
loop-open-preserved-in_ok-push-5 c =
    let t = turn (goal.at.loop-open-preserved-in_ok-push-5 c).After-len-number in
    turn_dir t c.index-places-node.result c.kind-kind.result c.push-in-Some-next.new.self.items c.index-places-node.is c.kind-kind.ensures (pushed (goal.at.loop-open-preserved-in_ok-push-5 c).In_ok-push-4)
    (files_at c.take_octets-octets.new.bodies) c.take_octets-octets.ensures.others
    c.in-Dir-place.dir c.len-number.result c.push-in-Dir-place.new.self.items c.in-Dir-place.is (c.len-number.ensures ∙ c.loop-open.nodes.ok.0)
    (rw (c.in_ok-push-5.ensures.items, c.in_ok-push-4.ensures.items, c.new-in-Dir-place.ensures) refl)

pub loop-open-preserved-in_default-place : goal.loop-open-preserved-in_default-place
loop-open-preserved-in_default-place c =
    let t = turn (goal.at.loop-open-preserved-in_default-place c).After-len-number in
    turn_file t c.index-places-node.result c.kind-kind.result c.push-in-Some-next.new.self.items c.index-places-node.is c.kind-kind.ensures (pushed (goal.at.loop-open-preserved-in_default-place c).In_ok-push-4)
    (files_at c.take_octets-octets.new.bodies) c.take_octets-octets.ensures.others
    c.push-in-Some-next-2.new.self.items c.in_default-place.not-Dir c.in_ok-push-4.ensures.items

pub loop-open-smaller-in_ok-push-5 : goal.loop-open-smaller-in_ok-push-5
loop-open-smaller-in_ok-push-5 c =
    let few = laying_few c.places-places.result.now c.push-in-Some-next.new.self.items c.push-in-Dir-place.new.self.items (loop-open-preserved-in_ok-push-5 c) in
    omega (arith, few, c.push-in-Some-next.new.self.ok.0, c.in_ok-push-3.ensures.len, c.in_ok-push-4.ensures.len, c.in_ok-push-5.ensures.len, c.in-Some.ensures.len)

pub loop-open-smaller-in_default-place : goal.loop-open-smaller-in_default-place
loop-open-smaller-in_default-place c =
    let few = laying_few c.places-places.result.now c.push-in-Some-next.new.self.items c.push-in-Some-next-2.new.self.items (loop-open-preserved-in_default-place c) in
    omega (arith, few, c.push-in-Some-next.new.self.ok.0, c.in_ok-push-3.ensures.len, c.in_ok-push-4.ensures.len, c.in-Some.ensures.len)
