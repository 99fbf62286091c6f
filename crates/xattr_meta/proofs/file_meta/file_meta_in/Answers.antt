use Rattle.std.proofs.Common.{◌≡◌, ◌≤◌, ℕ, true, Result, sym, ap, subst}
use Rattle.answer_model.specs.Answer.{◌>>=◌, GivesBy}
use Rattle.answer_model.proofs.Values.{value_of}
use Rattle.answer_model.proofs.MoreMemory.{GivesBy-more}
use Rattle.key_model.specs.SignedKey.{signatures}
use Rattle.packet_model.specs.declared.cause.BadCause.{BadCause}
use Rattle.packet_model.specs.declared.layout.TheConstants.{MAX_SIZE}
use Rattle.packet_model.specs.MetadataError.{cause_of}
use Rattle.packet_model.specs.Metadata.{FileHeader, FileMetadata, HeaderTakesMemory, header_at, is_meta_size, metadata_in, with_body}
use Rattle.file_header.specs.Meta.{IsMeta}
use Rattle.xattr_meta.specs.FileMeta.{IsFileMeta}
use Rattle.xattr_meta.proofs.Bounds.{good_header}
use Rattle.xattr_meta.proofs.file_meta.file_meta_in.Goals as goal

pub long_enough-requires-clause-size : goal.long_enough-requires-clause-size
long_enough-requires-clause-size g c =
    let ring = g.R.Ring.ring c.args.ring.now in
    let read = value_of (header_at c.args.meta_place (signatures ring) c.args.octets.now) (IsMeta ring c.in_ok-meta.meta) c.in_ok-meta.ensures in
    subst (λ (n : ℕ). n ≤ MAX_SIZE) (sym read.2.size) (good_header c.args.meta_place (signatures ring) c.args.octets.now read.0 read.1).size

pub long_enough-requires-clause-meta_size : goal.long_enough-requires-clause-meta_size
long_enough-requires-clause-meta_size g c =
    let ring = g.R.Ring.ring c.args.ring.now in
    let read = value_of (header_at c.args.meta_place (signatures ring) c.args.octets.now) (IsMeta ring c.in_ok-meta.meta) c.in_ok-meta.ensures in
    subst (λ (n : ℕ). is_meta_size c.args.meta_place n ≡ true) (sym read.2.meta_size) (good_header c.args.meta_place (signatures ring) c.args.octets.now read.0 read.1).meta_size

pub returns-clause-read : goal.returns-clause-read
returns-clause-read g c = λ body long.
    let ring = g.R.Ring.ring c.args.ring.now in
    let read = value_of (header_at c.args.meta_place (signatures ring) c.args.octets.now) (IsMeta ring c.in_ok-meta.meta) c.in_ok-meta.ensures in
    let is : metadata_in c.args.meta_place (signatures ring) c.args.octets.now body ≡ with_body c.args.meta_place body read.0 =
    ap (λ (r : Result FileHeader BadCause). r >>= with_body c.args.meta_place body) read.1 in
    let given = c.long_enough.ensures.read ring body read.0 long read.2 in
    subst (λ (r : Result FileMetadata BadCause). GivesBy (IsFileMeta ring) cause_of (HeaderTakesMemory c.args.meta_place c.args.octets.now) c.long_enough.result r) (sym is)
    (GivesBy-more (IsFileMeta ring) cause_of ⊥ (HeaderTakesMemory c.args.meta_place c.args.octets.now) c.long_enough.result (with_body c.args.meta_place body read.0) (λ none. absurd none) given)
