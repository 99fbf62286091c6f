use Rattle.std.proofs.Common.{refl}
use Rattle.script_model.specs.declared.op.Op.{Op}
use Rattle.script_model.specs.declared.op.Op.TheVariants as ops
use Rattle.make_model.specs.MakeJobs.{new_directory}
use Rattle.make_model.proofs.Drawing.{behind_none, behind_more}
use Rattle.make_job.proofs.new_files.put_directories.Goals as goal

pub loop-d-init : goal.loop-d-init
loop-d-init c = behind_none new_directory c.args.ops.now c.args.draws.now

pub loop-d-preserved : goal.loop-d-preserved
loop-d-preserved c =
    behind_more new_directory c.args.ops.now c.loop-d.d c.args.draws.now c.loop-d.ops c.args.draws.now (c.push.new.self, c.args.draws.now) c.loop-d.invariant
    (rw (c.in_ok-push.ensures.ok, c.in_ok-directory_path.ensures) refl)
