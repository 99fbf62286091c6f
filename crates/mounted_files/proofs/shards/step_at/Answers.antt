use Rattle.std.proofs.Common.{◌%◌, refl, arith}
use Rattle.std.proofs.lemmas.Option.{slice_get-get_or}
use Rattle.mounted_files.proofs.Places.{shards_set}
use Rattle.mounted_files.proofs.Stepping.{adds_turn, goes_on_set}
use Rattle.mounted_files.proofs.shards.step_at.Goals as goal

pub returns-clause-shards : goal.returns-clause-shards
returns-clause-shards g c =
    let shards = c.args.shards.now in
    shards_set shards (c.args.node % 8) _ _ c.requires.shards (slice_get-get_or shards (c.args.node % 8) c.index-shards-node.result (omega (arith, c.requires.shards.all))) c.step.ensures.index

pub returns-clause-turn : goal.returns-clause-turn
returns-clause-turn g c =
    let shards = c.args.shards.now in
    adds_turn g.B.LowerBodies.held g.F.BodyFormat.rules shards (c.args.node % 8) _ _ _ (slice_get-get_or shards (c.args.node % 8) c.index-shards-node.result (omega (arith, c.requires.shards.all))) c.step.ensures.step refl

pub returns-clause-goes_on : goal.returns-clause-goes_on
returns-clause-goes_on g c =
    let shards = c.args.shards.now in
    goes_on_set g.B.LowerBodies.held g.F.BodyFormat.rules shards (c.args.node % 8) _ _ _ (slice_get-get_or shards (c.args.node % 8) c.index-shards-node.result (omega (arith, c.requires.shards.all))) c.step.ensures.step c.step.ensures.format
