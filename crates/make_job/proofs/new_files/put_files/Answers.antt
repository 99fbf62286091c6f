use Rattle.make_model.specs.MakeJobs.{new_file}
use Rattle.make_model.proofs.Drawing.{behind_none, behind_more}
use Rattle.make_job.proofs.new_files.put_files.Goals as goal

pub loop-i-init : goal.loop-i-init
loop-i-init c = behind_none new_file c.args.ops.now c.args.draws.now

pub loop-i-preserved : goal.loop-i-preserved
loop-i-preserved c =
    behind_more new_file c.args.ops.now c.loop-i.i c.args.draws.now c.loop-i.ops c.loop-i.draws (c.put_file.new.ops, c.put_file.new.draws) c.loop-i.invariant c.in_ok-put_file.ensures
