use Rattle.std.proofs.Common.{◌≡◌, ℕ, List, Option, None, ap, sym, subst, ◌∙◌}
use Rattle.std.proofs.lemmas.Result.{err_from_is_err_and}
use Rattle.std.specs.Option.{option_copied}
use Rattle.lower_model.specs.declared.meta_place.MetaPlace.TheVariants.{Header}
use Rattle.answer_model.specs.Answer.{FailsAs}
use Rattle.answer_model.proofs.MoreMemory.{FailsAs-more}
use Rattle.key_model.specs.SignedKey.{signatures}
use Rattle.packet_model.specs.MetadataError.{cause_of}
use Rattle.packet_model.specs.Metadata.{FileTakesMemory, HeaderTakesMemory, metadata, metadata_in, if_any}
use Rattle.xattr_meta.proofs.Head.{at_head}
use Rattle.xattr_meta.proofs.FileMetas.{fails_if_any, are_if_any}
use Rattle.xattr_meta.proofs.file_meta.read_meta.Goals as goal

pub returns-in_err-file_meta_in-in-None-2-clause-read : goal.returns-in_err-file_meta_in-in-None-2-clause-read
returns-in_err-file_meta_in-in-None-2-clause-read g c = λ body is.
    let ours : List (List ℕ) = signatures (g.R.Ring.ring c.args.ring.now) in
    let p = err_from_is_err_and c.from_residual-in_err-file_meta_in-in-None-2.result c.from_residual-in_err-file_meta_in-in-None-2.ensures.1 in
    let none : option_copied c.args.attribute ≡ None = ap option_copied c.in-None-2.is in
    let read : metadata ours body (option_copied c.args.attribute) ≡ if_any (metadata_in Header ours c.args.head.now body) =
    ap (λ a. metadata ours body (option_copied a)) c.in-None-2.is ∙ at_head ours c.args.head.now body c.args.len (record { long = is.long; same = λ _. is.same none }) c.if-len-eq0.false in
    let memory : FailsAs (cause_of c.in_err-file_meta_in-in-None-2.field-0.0) (FileTakesMemory c.args.head.now (option_copied c.args.attribute)) (metadata_in Header ours c.args.head.now body) =
    FailsAs-more (cause_of c.in_err-file_meta_in-in-None-2.field-0.0) (HeaderTakesMemory Header c.args.head.now) (FileTakesMemory c.args.head.now (option_copied c.args.attribute)) (metadata_in Header ours c.args.head.now body)
    (λ takes. subst (λ (a : Option (List ℕ)). FileTakesMemory c.args.head.now a) (sym none) takes) (c.in_err-file_meta_in-in-None-2.ensures.read body is.long) in
    rw (p.1, p.2) (fails_if_any (cause_of c.in_err-file_meta_in-in-None-2.field-0.0) (FileTakesMemory c.args.head.now (option_copied c.args.attribute)) (metadata_in Header ours c.args.head.now body) (metadata ours body (option_copied c.args.attribute)) read memory)

pub returns-in_ok-file_meta_in-in-None-2-clause-read : goal.returns-in_ok-file_meta_in-in-None-2-clause-read
returns-in_ok-file_meta_in-in-None-2-clause-read g c = λ body is.
    let ours : List (List ℕ) = signatures (g.R.Ring.ring c.args.ring.now) in
    let none : option_copied c.args.attribute ≡ None = ap option_copied c.in-None-2.is in
    let read : metadata ours body (option_copied c.args.attribute) ≡ if_any (metadata_in Header ours c.args.head.now body) =
    ap (λ a. metadata ours body (option_copied a)) c.in-None-2.is ∙ at_head ours c.args.head.now body c.args.len (record { long = is.long; same = λ _. is.same none }) c.if-len-eq0.false in
    are_if_any (g.R.Ring.ring c.args.ring.now) c.in_ok-file_meta_in-in-None-2.field-0 (metadata_in Header ours c.args.head.now body) (metadata ours body (option_copied c.args.attribute)) read (c.in_ok-file_meta_in-in-None-2.ensures.read body is.long)
