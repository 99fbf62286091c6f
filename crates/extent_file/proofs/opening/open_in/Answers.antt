use Rattle.std.proofs.Common.{List, ℕ, [], ◌∷◌, replicate, Result, Err, sym, subst, ap, ◌∙◌, arith}
use Rattle.std.specs.Prelude.{IsOkAnd}
use Rattle.octet_model.proofs.Octets.{AreOctets-from_each}
use Rattle.key_model.specs.SignedKey.{SignedKey}
use Rattle.packet_model.specs.declared.cause.BadCause.{BadCause}
use Rattle.packet_model.specs.MetadataError.{cause_of}
use Rattle.packet_model.specs.Metadata.{HeaderTakesMemory, metadata_in}
use Rattle.body_model.specs.declared.opened.Opened.{Opened}
use Rattle.answer_model.specs.Answer.{FailsAs}
use Rattle.xattr_meta.specs.FileMeta.{IsFileMeta}
use Rattle.extent_file.proofs.OpenedFiles.{body_long, opened_good, opened_bad}
use Rattle.extent_file.proofs.opening.open_in.Goals as goal

pub returns-in-Ok-opened : goal.returns-in-Ok-opened
returns-in-Ok-opened c = λ mount own.
    let octets : List ℕ = c.args.octets.now in
    let given : IsOkAnd (metadata_in c.args.meta_place (mount.key.signature ∷ []) octets (replicate c.args.len 0)) (IsFileMeta (mount.key ∷ []) c.in-Ok.meta) =
    subst (λ (k : SignedKey). IsOkAnd (metadata_in c.args.meta_place (k.signature ∷ []) octets (replicate c.args.len 0)) (IsFileMeta (k ∷ []) c.in-Ok.meta)) (sym own)
    (c.in-Ok.ensures.read (replicate c.args.len 0) (body_long c.args.len)) in
    opened_good mount c.args.meta_place octets c.args.len c.in-Ok.meta c.in-Ok-opened.o (AreOctets-from_each octets (λ i. omega (arith, c.type_inv.octets i))) given c.in-Ok-opened.ensures.value c.in-Ok-opened.ensures.key

abbrev err : BadCause → Result (Opened (List ℕ)) BadCause
err cause = Err cause

pub returns-in-Err-Bad : goal.returns-in-Err-Bad
returns-in-Err-Bad c = λ mount own.
    let octets : List ℕ = c.args.octets.now in
    let Taken : Type 0 = HeaderTakesMemory c.args.meta_place octets in
    let given : FailsAs (cause_of c.in-Err-Bad.field-0) Taken (metadata_in c.args.meta_place (mount.key.signature ∷ []) octets (replicate c.args.len 0)) =
    subst (λ (k : SignedKey). FailsAs (cause_of c.in-Err-Bad.field-0) Taken (metadata_in c.args.meta_place (k.signature ∷ []) octets (replicate c.args.len 0))) (sym own)
    (c.in-Err-Bad.ensures.read (replicate c.args.len 0) (body_long c.args.len)) in
    opened_bad mount c.args.meta_place octets c.args.len c.in-Err-Bad.field-0 c.in-Err-Bad.cause Taken c.in-Err-Bad.field-0-is given ∙ ap err (sym c.in-Err-Bad.cause-is)
