-- What is opened of a file, by the metadata that is read.
use Rattle.std.proofs.Common.{◌≡◌, ℕ, ltb, List, [], ◌∷◌, length, replicate, Result, Ok, Err, refl, sym, ap, subst, ◌∙◌, inl, inr}
use Rattle.std.specs.Prelude.{IsOkAnd}
use Rattle.std.proofs.lemmas.Bool.{cases_Bool}
use Rattle.std.proofs.lemmas.List.{length-replicate}
use Rattle.octet_model.specs.Octets.{AreOctets}
use Rattle.answer_model.specs.Answer.{◌>>=◌, FailsAs}
use Rattle.answer_model.proofs.Binds.{bind_ok, ok_is}
use Rattle.answer_model.proofs.Values.{value_of}
use Rattle.lower_model.specs.declared.meta_place.MetaPlace.{MetaPlace}
use Rattle.packet_model.specs.declared.cause.BadCause.{BadCause}
use Rattle.packet_model.specs.declared.cause.BadCause.TheVariants.{ShortData}
use Rattle.packet_model.specs.declared.error.MetadataError.{MetadataError}
use Rattle.packet_model.specs.declared.error.MetadataError.TheVariants as errors
use Rattle.packet_model.specs.MetadataError.{cause_of}
use Rattle.packet_model.specs.Metadata.{FileHeader, FileMetadata, data_start, header_at, metadata_in, needed, with_body}
use Rattle.packet_model.proofs.Found.{chosen}
use Rattle.xattr_meta.specs.declared.file_meta.FileMeta.{FileMeta}
use Rattle.xattr_meta.specs.FileMeta.{IsFileMeta}
use Rattle.body_model.specs.declared.opened.Opened.{Opened}
use Rattle.body_model.specs.Format.{kept_of, with_data}
use Rattle.content_model.specs.Ecryptfs.{EcryptfsMount, opened_of}
use Rattle.content_model.proofs.WrappedKeys.{IsWrappedBy, wrapped_by}
use Rattle.content_model.proofs.FormatContent.{key_is}
use Rattle.extent_file.specs.Reading.{opened_in}

abbrev found_in : MetaPlace → FileHeader → FileMetadata
found_in place header = record { meta_place = place; header = header }

-- the length of the body is looked at in one way
same_test : (mount : EcryptfsMount) (place : MetaPlace) (octets body : List ℕ) (header : FileHeader)
    → with_data (length body) (opened_of mount place octets header) ≡ (with_body place body header >>= λ found. Ok (opened_of mount place octets found.header))
same_test mount place octets body header = elim (cases_Bool (ltb (length body) (needed (data_start place header) header))) [ inl t ↦ rw t refl | inr f ↦ rw f refl ]

same_read : (mount : EcryptfsMount) (place : MetaPlace) (octets body : List ℕ) (read : Result FileHeader BadCause)
    → ((read >>= λ header. Ok (opened_of mount place octets header)) >>= with_data (length body)) ≡ (read >>= with_body place body >>= λ found. Ok (opened_of mount place octets found.header))
same_read mount place octets body (Ok header) = same_test mount place octets body header
same_read mount place octets body (Err cause) = refl

-- a body of so many octets
abbrev body_of : ℕ → List ℕ
body_of len = replicate len 0

pub body_long : (len : ℕ) → length (body_of len) ≡ len
body_long len = length-replicate len 0

opened_by : (mount : EcryptfsMount) (place : MetaPlace) (octets : List ℕ) (len : ℕ)
    → opened_in mount place octets len ≡ (metadata_in place (mount.key.signature ∷ []) octets (body_of len) >>= λ found. Ok (opened_of mount place octets found.header))
opened_by mount place octets len =
    ap (λ (n : ℕ). opened_in mount place octets n) (sym (body_long len)) ∙ same_read mount place octets (body_of len) (header_at place (mount.key.signature ∷ []) octets)

-- ---- a good file

abbrev ok : {A : Type 0} → A → Result A BadCause
ok x = Ok x

found_is : (place : MetaPlace) (body : List ℕ) (header : FileHeader) (found : FileMetadata) → with_body place body header ≡ ok found → found_in place header ≡ found
found_is place body header found e = elim (chosen (ltb (length body) (needed (data_start place header) header)) (Err (ShortData (length body) (needed (data_start place header) header))) (ok (found_in place header)) (ok found) e) [
  | inl t ↦ absurd (let g : Err (ShortData (length body) (needed (data_start place header) header)) ≡ ok found = t.1 in cc)
  | inr f ↦ ok_is (found_in place header) found f.1
]

-- what metadata says, with what is kept of it
abbrev opened_from : FileMeta → List ℕ → Opened (List ℕ)
opened_from meta octets = record { key = meta.fek; size = meta.size; data_start = meta.data_start; meta_place = meta.meta_place; metadata = kept_of meta.meta_place octets }

opened_is : (mount : EcryptfsMount) (place : MetaPlace) (octets : List ℕ) (meta : FileMeta) (header : FileHeader) → IsWrappedBy mount.key.signature header.key → AreOctets meta.fek
    → IsFileMeta (mount.key ∷ []) meta (found_in place header) → opened_from meta octets ≡ opened_of mount place octets header
opened_is mount place octets meta header by fits is =
    let key = key_is mount.key header.key meta.fek by fits is.fek in
    λ t. record { key = key t; size = is.size t; data_start = is.start t; meta_place = is.meta_place t; metadata = kept_of (is.meta_place t) octets }

pub opened_good : (mount : EcryptfsMount) (place : MetaPlace) (octets : List ℕ) (len : ℕ) (meta : FileMeta) (o : Opened (List ℕ)) → AreOctets octets
    → IsOkAnd (metadata_in place (mount.key.signature ∷ []) octets (body_of len)) (IsFileMeta (mount.key ∷ []) meta) → o ≡ opened_from meta octets → AreOctets o.key
    → opened_in mount place octets len ≡ Ok o
opened_good mount place octets len meta o written given value key =
    let ours : List (List ℕ) = mount.key.signature ∷ [] in
    let found = value_of (metadata_in place ours octets (body_of len)) (IsFileMeta (mount.key ∷ []) meta) given in
    let read = bind_ok (header_at place ours octets) (with_body place (body_of len)) found.0 found.1 in
    let same : found_in place read.0 ≡ found.0 = found_is place (body_of len) read.0 found.0 read.2 in
    let is : IsFileMeta (mount.key ∷ []) meta (found_in place read.0) = subst (λ (f : FileMetadata). IsFileMeta (mount.key ∷ []) meta f) (sym same) found.2 in
    let fits : AreOctets meta.fek = subst (λ (x : Opened (List ℕ)). AreOctets x.key) value key in
    opened_by mount place octets len
    ∙ ap (λ (r : Result FileMetadata BadCause). r >>= λ f. Ok (opened_of mount place octets f.header)) found.1
    ∙ ap (λ (f : FileMetadata). ok (opened_of mount place octets f.header)) (sym same)
    ∙ ap (λ (x : Opened (List ℕ)). ok x) (sym (value ∙ opened_is mount place octets meta read.0 (wrapped_by place mount.key.signature octets read.0 written read.1) fits is))

-- ---- a bad file

pub opened_bad : (mount : EcryptfsMount) (place : MetaPlace) (octets : List ℕ) (len : ℕ) (e : MetadataError) (cause : BadCause) (Taken : Type 0) → e ≡ errors.Bad cause
    → FailsAs (cause_of e) Taken (metadata_in place (mount.key.signature ∷ []) octets (body_of len)) → opened_in mount place octets len ≡ Err cause
opened_bad mount place octets len e cause Taken is given =
    let read : metadata_in place (mount.key.signature ∷ []) octets (body_of len) ≡ Err cause = rw is at given in
    opened_by mount place octets len ∙ ap (λ (r : Result FileMetadata BadCause). r >>= λ f. Ok (opened_of mount place octets f.header)) read
