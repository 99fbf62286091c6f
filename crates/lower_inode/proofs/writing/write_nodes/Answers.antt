use Rattle.std.proofs.Common.{arith, true, false}
use Rattle.std.proofs.lemmas.Option.{slice_get-get_or}
use Rattle.lower_inode.proofs.WritingOut.{cut_next, next_place, on_err_always, out_next, out_none, shape_placed, table_next, whole_out}
use Rattle.lower_inode.proofs.writing.write_nodes.Goals as goal

pub loop-place-init : goal.loop-place-init
loop-place-init g c = out_none _ _ _ _ c.requires.index c.requires.nodes

pub write_node-requires : goal.write_node-requires
write_node-requires g c =
    let l = c.loop-place in
    shape_placed (g.B.LowerBodies.held l.bodies) c.args.index l.place l.nodes _ c.requires.index (slice_get-get_or l.nodes l.place c.index-nodes-place.result (omega (arith, c.loop-place-test.true, l.auto.nodes))) l.invariant.table.nodes

pub returns-in_err-write_node-clause-table : goal.returns-in_err-write_node-clause-table
returns-in_err-write_node-clause-table g c =
    let l = c.loop-place in
    rw c.from_residual.ensures.0 (table_next _ true c.args.index l.place _ _ _ _ _ _
    (next_place _ true c.args.index l.place _ _ _ _ _ _ _ c.requires.index l.invariant (slice_get-get_or l.nodes l.place c.index-nodes-place.result (omega (arith, c.loop-place-test.true, l.auto.nodes))) c.in_err-write_node.ensures))

pub returns-in_err-write_node-clause-cut : goal.returns-in_err-write_node-clause-cut
returns-in_err-write_node-clause-cut g c =
    let l = c.loop-place in
    on_err_always c.from_residual.result (cut_next _ c.args.index l.place _ _ _ _ _ _
    (next_place _ true c.args.index l.place _ _ _ _ _ _ _ c.requires.index l.invariant (slice_get-get_or l.nodes l.place c.index-nodes-place.result (omega (arith, c.loop-place-test.true, l.auto.nodes))) c.in_err-write_node.ensures))

pub loop-place-preserved : goal.loop-place-preserved
loop-place-preserved g c =
    let l = c.loop-place in
    out_next _ c.args.index l.place _ _ _ _ _ _
    (next_place _ false c.args.index l.place _ _ _ _ _ _ _ c.requires.index l.invariant (slice_get-get_or l.nodes l.place c.index-nodes-place.result (omega (arith, c.loop-place-test.true, l.auto.nodes))) c.in_ok-write_node.ensures)

pub returns-clause-whole : goal.returns-clause-whole
returns-clause-whole g c =
    let l = c.loop-place in
    whole_out _ c.args.index l.place _ _ _ l.nodes c.requires.index l.invariant (omega (arith, l.auto.nodes, c.loop-place-test.false))
