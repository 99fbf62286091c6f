use Rattle.line_writer.proofs.Hex.{digit_of, letter_of}
use Rattle.line_writer.proofs.field.digit.Goals as goal

pub returns-then-n-lt10 : goal.returns-then-n-lt10
returns-then-n-lt10 c = digit_of c.args.n c.if-n-lt10.true

pub returns-else-n-lt10 : goal.returns-else-n-lt10
returns-else-n-lt10 c = letter_of c.args.n c.if-n-lt10.false c.requires
