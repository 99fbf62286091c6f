-- What is opened of a file.
use Rattle.std.specs.Prelude.{ℕ, List, Result}
use Rattle.answer_model.specs.Answer.{◌>>=◌}
use Rattle.lower_model.specs.declared.meta_place.MetaPlace.{MetaPlace}
use Rattle.packet_model.specs.declared.cause.BadCause.{BadCause}
use Rattle.body_model.specs.declared.opened.Opened.{Opened}
use Rattle.body_model.specs.Format.{with_data}
use Rattle.content_model.specs.Ecryptfs.{EcryptfsMount, file_read}

-- what the metadata in these octets says, of a file with a body of this length
abbrev pub opened_in : EcryptfsMount → MetaPlace → List ℕ → ℕ → Result (Opened (List ℕ)) BadCause
opened_in mount place octets len = file_read mount place octets >>= with_data len
