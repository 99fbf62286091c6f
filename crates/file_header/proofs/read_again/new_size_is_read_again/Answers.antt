use Rattle.file_header.proofs.NewMetadata.{size_again_read}
use Rattle.file_header.proofs.read_again.new_size_is_read_again.Goals as goal

pub returns : goal.returns
returns c = size_again_read
