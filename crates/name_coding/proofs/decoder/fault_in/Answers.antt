use Rattle.std.proofs.Common.{Some, None}
use Rattle.name_coding.proofs.Steps.{fault_found}
use Rattle.name_coding.proofs.decoder.fault_in.Goals as goal

pub returns-in-Some : goal.returns-in-Some
returns-in-Some c = fault_found c.args.letters.now (Some c.in-Some.index) c.if-letters-ne0.false c.in-Some.ensures.first

pub returns-in-None : goal.returns-in-None
returns-in-None c = fault_found c.args.letters.now None c.if-letters-ne0.false c.in-None.ensures.first
