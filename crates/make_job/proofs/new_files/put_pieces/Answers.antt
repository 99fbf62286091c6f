use Rattle.make_model.specs.MakeJobs.{piece}
use Rattle.make_model.proofs.Drawing.{behind_none, behind_more}
use Rattle.make_job.proofs.new_files.put_pieces.Goals as goal

pub loop-j-init : goal.loop-j-init
loop-j-init c = behind_none piece c.args.ops.now c.args.draws.now

pub loop-j-preserved : goal.loop-j-preserved
loop-j-preserved c =
    behind_more piece c.args.ops.now c.loop-j.j c.args.draws.now c.loop-j.ops c.loop-j.draws (c.put_piece.new.ops, c.put_piece.new.draws) c.loop-j.invariant c.in_ok-put_piece.ensures
