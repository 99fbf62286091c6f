-- A file of which nothing is marked, whatever pages it has.
use Rattle.std.proofs.Common.{ℕ, ◌≡◌, ◌+◌, ◌-◌, ◌*◌, ◌/◌, ◌%◌, ◌<◌, ◌≤◌, inl, inr, cond, List, [], ◌∷◌, length, get_or, take, Option, Some, None, Result, Ok, Err, refl, sym, ◌∙◌, ap, subst, arith}
use Rattle.std.proofs.lemmas.Bool.{le-ltb}
use Rattle.std.proofs.lemmas.List.{get_or-take, length-take, ext_get_or}
use Rattle.answer_model.specs.Answer.{◌>>=◌}
use Rattle.lower_model.specs.declared.meta_place.MetaPlace.{MetaPlace}
use Rattle.lower_model.specs.declared.meta_place.MetaPlace.TheVariants.{Header, Attribute}
use Rattle.packet_model.specs.Metadata.{extent_count}
use Rattle.packet_model.specs.declared.cause.BadCause.{BadCause}
use Rattle.packet_model.specs.declared.cause.BadCause.TheVariants.{ShortData}
use Rattle.body_model.specs.declared.opened.Opened.{Opened}
use Rattle.body_model.specs.declared.content.Content.TheVariants.{Good}
use Rattle.body_model.specs.LowerFile.{LowerFile}
use Rattle.body_model.specs.Bodies.{HeldBodies}
use Rattle.body_model.specs.Format.{Format, IsFormat, content, content_by, content_of, joined, meta_place_of, metadata_of, needed, opening, plain_at, with_data}
use Rattle.file_model.specs.declared.mark.MetadataMark.TheVariants.{Clean}
use Rattle.file_model.specs.LaidOut.{IsReadAs, IsUnmarked, IsWrittenOut, KeepsMetadata, LaidOut, Origin, Working, cleared, page_of}
use Rattle.file_model.proofs.Cleared.{get_or-cleared, length-cleared}
use Rattle.file_model.proofs.Extents.{get_or-joined, get_or-page_of, length-joined, length-page_of, page_of_past}
use Rattle.file_model.proofs.ByExtent.{is_lower, laid_at}

abbrev good : {K : Type 0} → Opened K → Result (Opened K) BadCause
good o = Ok o

abbrev short : {K : Type 0} → ℕ → Opened K → Result (Opened K) BadCause
short len o = Err (ShortData len (needed o.data_start o.size))

pub with_data_is : {K : Type 0} (len : ℕ) (o : Opened K) → needed o.data_start o.size ≤ len → with_data len o ≡ Ok o
with_data_is len o h = ap (λ b. cond b (short len o) (good o)) (le-ltb len (needed o.data_start o.size) h)

-- a file that isn't empty
pub content_by_opening : {K : Type 0} (format : Format K) (body : List ℕ) (attribute : Option (List ℕ)) (read : Result (Opened K) BadCause) → (length body ≡ 0 → attribute ≡ None → ⊥)
    → content_of format body attribute read ≡ content_by format body read
content_by_opening format [] None read some = absurd (some refl refl)
content_by_opening format (x ∷ body) None read some = refl
content_by_opening format [] (Some octets) read some = refl
content_by_opening format (x ∷ body) (Some octets) read some = refl

-- what lies below is read as what was opened
pub reads_clean : {K : Type 0} (format : Format K) (file : LowerFile) (o : Opened K) (place : MetaPlace) → IsReadAs format file place Clean o
    → (metadata : List ℕ) × (format.reads (meta_place_of file.attribute) (metadata_of file.body file.attribute) ≡ Ok (record o { metadata = metadata }))
reads_clean format file o Header m = ([], ap (λ a. format.reads (meta_place_of a) (metadata_of file.body a)) m.0 ∙ m.2)
reads_clean format file o Attribute m = (o.metadata, ap (λ a. format.reads (meta_place_of a) (metadata_of file.body a)) m.0 ∙ m.1)

-- pages of octets that are those of f up to the size have the octets of f joined
octets_joined : (f : ℕ → List ℕ) (n size : ℕ) (octets : List ℕ) → size ≡ length octets → size ≤ 4096 * n → ((k : ℕ) → k < n → page_of octets k ≡ cleared (size - 4096 * k) (f k)) → take size (joined f n) ≡ octets
octets_joined f n size octets len fits same =
    ext_get_or 0 (take size (joined f n)) octets (omega (arith, length-take size (joined f n), length-joined f n pages)) (λ i h. octet i (omega (arith, length-take size (joined f n))))
  where
    pages : (k : ℕ) → k < n → length (f k) ≡ 4096
    pages k h = sym (length-cleared (size - 4096 * k) (f k)) ∙ ap length (sym (same k h)) ∙ length-page_of octets k

    octet : (i : ℕ) → i < size → get_or (take size (joined f n)) i 0 ≡ get_or octets i 0
    octet i h =
        let whole : 4096 * (i / 4096) + i % 4096 ≡ i = omega arith in
        get_or-take size (joined f n) i 0 h ∙ get_or-joined f n i pages (omega arith)
        ∙ sym (get_or-cleared (size - 4096 * (i / 4096)) (f (i / 4096)) (i % 4096) (omega arith))
        ∙ ap (λ xs. get_or xs (i % 4096) 0) (sym (same (i / 4096) (omega arith)))
        ∙ get_or-page_of octets (i / 4096) (i % 4096) (omega arith) ∙ ap (λ j. get_or octets j 0) whole

module _ {K : Type 0} (format : Format K) (origin : Origin) (held : HeldBodies) (node : ℕ) (w : Working K) (octets : List ℕ) where
  -- With nothing marked the file alone decodes to the octets.
  pub laid_content : IsFormat format → LaidOut format origin held node w octets → IsUnmarked w → content format (held.files node) ≡ Good octets
  laid_content lawful laid unmarked =
      let file = held.files node in
      let o = w.opened in
      let reads = reads_clean format file o o.meta_place (subst (λ m. IsReadAs format file o.meta_place m o) unmarked.metadata laid.metadata) in
      content_by_opening format file.body file.attribute (opening format file) (not_empty file.body file.attribute (lawful.read _ _ _ reads.1).enough)
      ∙ ap (content_by format file.body) (ap (λ (r : Result (Opened _) BadCause). r >>= with_data (length file.body)) reads.1 ∙ with_data_is (length file.body) (record o { metadata = reads.0 }) (laid.length_is unmarked.length_is))
      ∙ ap Good (octets_joined (plain_at format o.key o.data_start file.body) (extent_count o.size) o.size octets laid.size (omega arith) whole)
    where
      not_empty : (body : List ℕ) (attribute : Option (List ℕ)) → 26 ≤ length (metadata_of body attribute) → length body ≡ 0 → attribute ≡ None → ⊥
      not_empty body None long none e = omega (arith, length-take 4096 body)
      not_empty body (Some octets) long none e = cc

      whole : (k : ℕ) → k < extent_count w.opened.size → page_of octets k ≡ cleared (w.opened.size - 4096 * k) (plain_at format w.opened.key w.opened.data_start (held.files node).body k)
      whole k h =
          is_lower format origin (held.files node).body w.opened octets k (w.page k) (w.is_dirty k) (w.is_unwritten k) (laid_at format origin held node w octets laid k) h (unmarked.pages k)
          ∙ rw (unmarked.written k h) refl

  -- With nothing marked the file is written out.
  pub laid_written_out : LaidOut format origin held node w octets → IsUnmarked w → IsWrittenOut format origin (held.files node) w.opened
  laid_written_out laid unmarked = record {
    place = laid.place;
    metadata = subst (λ m. IsReadAs format (held.files node) w.opened.meta_place m w.opened) unmarked.metadata laid.metadata;
    kept = subst (λ m. KeepsMetadata origin (held.files node) w.opened.meta_place m w.opened) unmarked.metadata laid.kept;
    exact = laid.exact unmarked.length_is;
    past = λ k h. elim ((laid.there k h (unmarked.pages k) (unmarked.written k h)).1) [
      | inl e ↦ inl (λ i past. ap (λ p. get_or p i 0) e ∙ page_of_past octets k i (omega (arith, laid.size)))
      | inr e ↦ inr e
    ];
  }
