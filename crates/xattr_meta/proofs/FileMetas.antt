-- What is answered of a file's metadata, from what is answered of the octets in which it stands.
use Rattle.std.proofs.Common.{◌≡◌, List, Option, Some, None, Result, Ok, Err, sym, subst, ap, ◌∙◌}
use Rattle.std.specs.Prelude.{IsOkAnd}
use Rattle.answer_model.specs.Answer.{FailsAs}
use Rattle.key_model.specs.SignedKey.{SignedKey}
use Rattle.packet_model.specs.declared.cause.BadCause.{BadCause}
use Rattle.packet_model.specs.Metadata.{FileMetadata, if_any}
use Rattle.xattr_meta.specs.declared.file_meta.FileMeta.{FileMeta}
use Rattle.xattr_meta.specs.FileMeta.{IsFileMeta, AreFileMeta}

pub fails_if_any : (fault : Option BadCause) (Taken : Type 0) (read : Result FileMetadata BadCause) (all : Result (Option FileMetadata) BadCause) → all ≡ if_any read → FailsAs fault Taken read → FailsAs fault Taken all
fails_if_any None Taken read all same h = h
fails_if_any (Some cause) Taken read all same h = same ∙ ap if_any h

some_are : (ring : List SignedKey) (meta : FileMeta) (read : Result FileMetadata BadCause) → IsOkAnd read (IsFileMeta ring meta) → IsOkAnd (if_any read) (AreFileMeta ring (Some meta))
some_are ring meta (Ok found) h = h
some_are ring meta (Err cause) h = absurd h

pub are_if_any : (ring : List SignedKey) (meta : FileMeta) (read : Result FileMetadata BadCause) (all : Result (Option FileMetadata) BadCause) → all ≡ if_any read → IsOkAnd read (IsFileMeta ring meta) → IsOkAnd all (AreFileMeta ring (Some meta))
are_if_any ring meta read all same h = subst (λ (r : Result (Option FileMetadata) BadCause). IsOkAnd r (AreFileMeta ring (Some meta))) (sym same) (some_are ring meta read h)
