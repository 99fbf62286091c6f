use Rattle.format_laws.proofs.FormatLaws.{content_is}
use Rattle.format_laws.proofs.content_is_that_of_the_format.Goals as goal

pub returns : goal.returns
returns c = content_is
