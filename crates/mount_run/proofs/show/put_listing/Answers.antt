use Rattle.std.proofs.Common.{◌∷◌, []}
use Rattle.mount_run.proofs.ShownLines.{none_added, added_more}
use Rattle.mount_run.proofs.show.put_listing.Goals as goal

pub loop-listed-init : goal.loop-listed-init
loop-listed-init c = none_added _ _ _

pub loop-listed-preserved : goal.loop-listed-preserved
loop-listed-preserved c =
    let line = c.in_ok-put_listed.ensures in
    added_more (c.args.ring.now ∷ []) c.args.nodes.now c.loop-listed.yielded c.args.out.now.items c.loop-listed.out.items _ c.in-Some.listed line.item c.loop-listed.invariant line.lists line.told line.text
