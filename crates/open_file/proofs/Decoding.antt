-- What clean extents decode to.
use Rattle.std.proofs.Common.{ℕ, ◌≡◌, inl, inr, ◌+◌, ◌-◌, ◌*◌, ◌/◌, ◌%◌, ◌<◌, ◌≤◌, List, length, get_or, take, drop, Option, Some, None, Result, refl, sym, ◌∙◌, ap, subst, arith}
use Rattle.std.proofs.lemmas.List.{get_or-take, get_or-drop, length-take, ext_get_or}
use Rattle.answer_model.specs.Answer.{◌>>=◌}
use Rattle.packet_model.specs.Metadata.{extent_count}
use Rattle.packet_model.specs.declared.cause.BadCause.{BadCause}
use Rattle.body_model.specs.declared.opened.Opened.{Opened}
use Rattle.body_model.specs.declared.content.Content.TheVariants.{Good}
use Rattle.body_model.specs.LowerFile.{LowerFile}
use Rattle.body_model.specs.Bodies.{HeldBodies}
use Rattle.body_model.specs.Format.{Format, IsFormat, content, content_by, joined, metadata_of, opening, plain_at, with_data}
use Rattle.file_model.specs.LaidOut.{IsReadAs, IsUnmarked, IsWrittenOut, LaidOut, KeepsMetadata, Origin, cleared}
use Rattle.open_file.specs.Buffered.{Buffered, IsBuffer, octets_of, page_at, working_of}
use Rattle.open_file.specs.Standing.{FileStands, NoMarks, marks_of}
use Rattle.file_model.proofs.Cleared.{get_or-cleared}
use Rattle.file_model.proofs.Extents.{get_or-joined, length-joined}
use Rattle.file_model.proofs.Decoding.{content_by_opening, reads_clean, with_data_is}
use Rattle.open_file.proofs.Resizing.{plain_length}
use Rattle.open_file.proofs.Laid.{laid_octets, stands_by}
use Rattle.open_file.proofs.Standing.{zeros_in}

-- pages that are the pages of f, with zeros past the size, have the octets of f joined
same_octets : (f : ℕ → List ℕ) (n size : ℕ) (buffer : List ℕ) → ((j : ℕ) → j < n → length (f j) ≡ 4096) → size ≤ 4096 * n → length buffer ≡ 4096 * n
    → ((k : ℕ) → k < n → page_at k buffer ≡ cleared (size - 4096 * k) (f k)) → take size (joined f n) ≡ take size buffer
same_octets f n size buffer pages fits len same =
    let total = length-joined f n pages in
    ext_get_or 0 (take size (joined f n)) (take size buffer) (omega (arith, length-take size (joined f n), length-take size buffer)) (λ i h.
    octet i (omega (arith, length-take size (joined f n))))
  where
    octet : (i : ℕ) → i < size → get_or (take size (joined f n)) i 0 ≡ get_or (take size buffer) i 0
    octet i h =
        let whole : 4096 * (i / 4096) + i % 4096 ≡ i = omega arith in
        get_or-take size (joined f n) i 0 h ∙ get_or-joined f n i pages (omega arith)
        ∙ sym (get_or-cleared (size - 4096 * (i / 4096)) (f (i / 4096)) (i % 4096) (omega arith))
        ∙ ap (λ xs. get_or xs (i % 4096) 0) (sym (same (i / 4096) (omega arith)))
        ∙ get_or-take 4096 (drop (4096 * (i / 4096)) buffer) (i % 4096) 0 (omega arith) ∙ get_or-drop (4096 * (i / 4096)) buffer (i % 4096) 0
        ∙ ap (λ j. get_or buffer j 0) whole ∙ sym (get_or-take size buffer i 0 h)

-- With nothing marked the file alone decodes to the octets.
pub content_unmarked : {K : Type 0} (format : Format K) (origin : Origin) (file : LowerFile) (f : Buffered K) → IsFormat format → IsBuffer f
    → FileStands format origin file f → NoMarks (marks_of f) → content format file ≡ Good (octets_of f)
content_unmarked format origin file f lawful shaped s unmarked =
    let o = f.opened in
    let enough = s.length_is unmarked.2 in
    let reads = reads_clean format file o o.meta_place (subst (λ m. IsReadAs format file o.meta_place m o) unmarked.1 s.metadata) in
    content_by_opening format file.body file.attribute (opening format file) (not_empty file.body file.attribute (lawful.read _ _ _ reads.1).enough)
    ∙ ap (content_by format file.body) (ap (λ (r : Result (Opened _) BadCause). r >>= with_data (length file.body)) reads.1 ∙ with_data_is (length file.body) (record o { metadata = reads.0 }) enough)
    ∙ ap Good (same_octets (plain_at format o.key o.data_start file.body) (extent_count o.size) o.size f.buffer
    (λ k h. plain_length k (extent_count o.size) (o.size - 4096 * k) f.buffer (plain_at format o.key o.data_start file.body k) shaped.pages h (s.clean k h (unmarked.0 k)).0) (omega arith) shaped.pages
    (λ k h. (s.clean k h (unmarked.0 k)).0))
  where
    not_empty : (body : List ℕ) (attribute : Option (List ℕ)) → 26 ≤ length (metadata_of body attribute) → length body ≡ 0 → attribute ≡ None → ⊥
    not_empty body None long none e = omega (arith, length-take 4096 body)
    not_empty body (Some octets) long none e = cc

pub written_out : {K : Type 0} (format : Format K) (origin : Origin) (file : LowerFile) (f : Buffered K) → IsBuffer f → FileStands format origin file f → NoMarks (marks_of f)
    → IsWrittenOut format origin file f.opened
written_out format origin file f shaped s u = record {
  place = s.place;
  metadata = subst (λ m. IsReadAs format file f.opened.meta_place m f.opened) u.1 s.metadata;
  kept = subst (λ m. KeepsMetadata origin file f.opened.meta_place m f.opened) u.1 s.kept;
  exact = s.exact u.2;
  past = λ k h. elim ((s.clean k h (u.0 k)).2) [
    | inl e ↦ inl (λ i b. ap (λ p. get_or p i 0) e ∙ zeros_in k f.buffer f.opened.size i shaped.zeros (omega arith))
    | inr e ↦ inr e
  ];
}

pub out_of : {K : Type 0} (format : Format K) (origin : Origin) (node : ℕ) (old new : HeldBodies) (f g : Buffered K) (octets : List ℕ) → IsFormat format → IsBuffer f → IsBuffer g
    → g.opened ≡ f.opened → g.buffer ≡ f.buffer → (FileStands format origin (old.files node) f → FileStands format origin (new.files node) g) → NoMarks (marks_of g)
    → LaidOut format origin old node (working_of f) octets → (content format (new.files node) ≡ Good octets) × IsWrittenOut format origin (new.files node) g.opened
out_of format origin node old new f g octets lawful shaped shaped' opened buffer stands clean l =
    let s = stands (stands_by format origin old node f octets shaped l) in (
      content_unmarked format origin (new.files node) g lawful shaped' s clean
          ∙ ap Good (ap (λ (o : Opened _). take o.size g.buffer) opened ∙ ap (λ (xs : List ℕ). take f.opened.size xs) buffer ∙ sym (laid_octets format origin old node f octets shaped l)),
      written_out format origin (new.files node) g shaped' s clean,
    )

pub unmarked_of : {K : Type 0} (f : Buffered K) → NoMarks (marks_of f) → IsUnmarked (working_of f)
unmarked_of f n = record { pages = n.0; written = λ k h. refl; metadata = n.1; length_is = n.2 }
