use Rattle.std.proofs.Common.{◌≡◌, Some, None}
use Rattle.std.specs.Option.{option_copied}
use Rattle.reading_model.specs.OpReading.{fields_behind, op_in}
use Rattle.reading_model.proofs.OpReader.{is_op_text, no_op_text, read_of}
use Rattle.script_text.proofs.read.read_op.Goals as goal

pub returns-in-Ok-Some-clause-value : goal.returns-in-Ok-Some-clause-value
returns-in-Ok-Some-clause-value c =
    let read = read_of c.args.line.now c.first_field.result.0.now (fields_behind (option_copied c.first_field.result.1)) c.first_field.ensures in
    cc (read, c.in-Ok-Some.ensures)

pub returns-in-Ok-Some-clause-found : goal.returns-in-Ok-Some-clause-found
returns-in-Ok-Some-clause-found c =
    let read = read_of c.args.line.now c.first_field.result.0.now (fields_behind (option_copied c.first_field.result.1)) c.first_field.ensures in
    let value : op_in c.args.line.now ≡ Some c.in-Ok-Some.op = cc (read, c.in-Ok-Some.ensures) in
    is_op_text c.args.line.now c.in-Ok-Some.op value

pub returns-in-Ok-None-clause-value : goal.returns-in-Ok-None-clause-value
returns-in-Ok-None-clause-value c =
    let read = read_of c.args.line.now c.first_field.result.0.now (fields_behind (option_copied c.first_field.result.1)) c.first_field.ensures in
    cc (read, c.in-Ok-None.ensures)

pub returns-in-Ok-None-clause-bad : goal.returns-in-Ok-None-clause-bad
returns-in-Ok-None-clause-bad c = λ _ op t.
    let read = read_of c.args.line.now c.first_field.result.0.now (fields_behind (option_copied c.first_field.result.1)) c.first_field.ensures in
    let value : op_in c.args.line.now ≡ None = cc (read, c.in-Ok-None.ensures) in
    no_op_text c.args.line.now op value t
