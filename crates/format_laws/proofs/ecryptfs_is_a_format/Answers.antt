use Rattle.format_laws.proofs.FormatLaws.{ecryptfs_is_format}
use Rattle.format_laws.proofs.ecryptfs_is_a_format.Goals as goal

pub returns : goal.returns
returns c = ecryptfs_is_format
