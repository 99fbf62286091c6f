-- What is answered of a line of a script.
use Rattle.std.specs.Prelude.{◌≡◌, Option, Some, None, Result, Ok, Err}
use Rattle.script_model.specs.declared.op.Op.{Op}
use Rattle.script_text.specs.declared.read.OpError.{OpError}
use Rattle.script_text.specs.declared.read.OpError.TheVariants.{Bad, Memory}

-- What is answered of a line is what is read, unless memory ran out.
abbrev pub ReadsOp : Result Op OpError → Option Op → Type 0
ReadsOp (Ok op) read = read ≡ Some op
ReadsOp (Err Bad) read = read ≡ None
ReadsOp (Err Memory) read = Unit {0}
