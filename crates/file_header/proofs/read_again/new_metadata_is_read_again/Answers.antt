use Rattle.file_header.proofs.NewMetadata.{header_again, attribute_again, lengths}
use Rattle.file_header.proofs.read_again.new_metadata_is_read_again.Goals as goal

pub returns-clause-header : goal.returns-clause-header
returns-clause-header c = header_again

pub returns-clause-attribute : goal.returns-clause-attribute
returns-clause-attribute c = attribute_again

pub returns-clause-long : goal.returns-clause-long
returns-clause-long c = lengths
