-- What the opening of a file finds.
use Rattle.std.proofs.Common.{ℕ, ◌≡◌, ◌+◌, ◌-◌, ◌*◌, ◌/◌, ◌%◌, ◌<◌, ◌≤◌, ◌⊎◌, inl, inr, Bool, true, false, cond, ltb, List, [], ◌∷◌, length, get_or, take, drop, Option, Some, None, Result, Ok, Err, IfOk, refl, sym, ◌∙◌, ap, subst, arith}
use Rattle.std.proofs.lemmas.Bool.{cases_lt, ltb-false}
use Rattle.std.proofs.lemmas.List.{get_or-take, get_or-drop, length-take, length-drop, ext_get_or, take-take}
use Rattle.std.proofs.Math.Seq.{take-nil}
use Rattle.answer_model.specs.Answer.{◌>>=◌}
use Rattle.lower_model.specs.declared.meta_place.MetaPlace.{MetaPlace}
use Rattle.lower_model.specs.declared.meta_place.MetaPlace.TheVariants.{Header, Attribute}
use Rattle.packet_model.specs.Metadata.{extent_count}
use Rattle.packet_model.specs.declared.cause.BadCause.{BadCause}
use Rattle.packet_model.specs.declared.cause.BadCause.TheVariants.{ShortData}
use Rattle.body_model.specs.declared.opened.Opened.{Opened}
use Rattle.body_model.specs.declared.content.Content.TheVariants.{Empty}
use Rattle.body_model.specs.LowerFile.{LowerFile}
use Rattle.body_model.specs.Bodies.{HeldBodies}
use Rattle.body_model.specs.BodyCalls.{KeepsFiles, TellsAttribute, TellsLength}
use Rattle.body_model.specs.Format.{Format, IsDataStart, IsFormat, IsRead, content, content_by, content_of, joined, kept_of, meta_place_of, metadata_of, needed, opening, plain_at, read_of, with_data, with_size}
use Rattle.lower_tree.specs.declared.format.OpenFault.{OpenFault}
use Rattle.lower_tree.specs.declared.format.OpenFault.TheVariants as faults
use Rattle.lower_tree.specs.Opening.{AnswersOpening, opening_of}
use Rattle.file_model.specs.declared.mark.MetadataMark.TheVariants.{Clean, Whole}
use Rattle.file_model.specs.ByteFile.{Good}
use Rattle.file_model.specs.LaidOut.{IsReadAs, KeepsMetadata, cleared, metadata_found}
use Rattle.file_model.specs.Shard.{origin_by, origin_with, state_by}
use Rattle.file_model.proofs.Cleared.{get_or-cleared, get_or-cleared_behind, length-cleared}
use Rattle.open_file.specs.Buffered.{IsBuffer, IsKept, page_at}
use Rattle.open_file.specs.Opening.{IsCause, IsFound, IsOpened, error_of, found, origin_found}
use Rattle.open_file.specs.Standing.{AllClean, FileStands, TellsHead}
use Rattle.file_model.proofs.Extents.{extent_within, get_or-joined, length-joined}
use Rattle.file_model.proofs.Decoding.{content_by_opening}
use Rattle.open_file.proofs.Standing.{told_on}
use Rattle.open_file.proofs.Decoding.{content_unmarked}

abbrev good : {K : Type 0} → Opened K → Result (Opened K) BadCause
good o = Ok o

abbrev short : {K : Type 0} → ℕ → Opened K → Result (Opened K) BadCause
short len o = Err (ShortData len (needed o.data_start o.size))

-- data that is there
with_data_ok : {K : Type 0} (len : ℕ) (p o : Opened K) (b : Bool) → ltb len (needed p.data_start p.size) ≡ b → cond b (short len p) (good p) ≡ good o
    → (good p ≡ good o) × (needed o.data_start o.size ≤ len)
with_data_ok len p o false test same =
    let e : p ≡ o = cc in
    (same, subst (λ (q : Opened _). needed q.data_start q.size ≤ len) e (ltb-false len (needed p.data_start p.size) test))
with_data_ok len p o true test same = absurd cc

pub with_data_inverse : {K : Type 0} (len : ℕ) (r : Result (Opened K) BadCause) (o : Opened K) → r >>= with_data len ≡ Ok o → (r ≡ Ok o) × (needed o.data_start o.size ≤ len)
with_data_inverse len (Ok p) o same = with_data_ok len p o (ltb len (needed p.data_start p.size)) refl same
with_data_inverse len (Err cause) o same = absurd cc

kept_opened : {K : Type 0} (place : MetaPlace) (octets : List ℕ) (o : Opened K) → IsRead place octets o → IsKept place Clean o
kept_opened Header octets o read = tt
kept_opened Attribute octets o read = omega (arith, ap length read.kept, read.enough)

-- bounds of what was opened
pub bounds_of_opening : {K : Type 0} (format : Format K) (head : List ℕ) (attribute : Option (List ℕ)) (len : ℕ) (result : Result (Opened K) OpenFault) → IsFormat format
    → AnswersOpening result (opening_of format head attribute len) → IfOk result (λ o. IsOpened o)
bounds_of_opening format head attribute len (Ok o) lawful opens =
    let read = lawful.read (meta_place_of attribute) (metadata_of head attribute) o (with_data_inverse len (format.reads (meta_place_of attribute) (metadata_of head attribute)) o opens).0 in
    record {
      most = read.size;
      start = subst (λ p. IsDataStart p o.data_start) (sym read.place_is) read.start;
      kept = subst (λ p. IsKept p Clean o) (sym read.place_is) (kept_opened (meta_place_of attribute) (metadata_of head attribute) o read);
    }
bounds_of_opening format head attribute len (Err fault) lawful opens = tt

-- the head of a body serves for the body
head_serves : (attribute : Option (List ℕ)) (body : List ℕ) → metadata_of (take 4096 body) attribute ≡ metadata_of body attribute
head_serves (Some octets) body = refl
head_serves None body = take-take 4096 4096 body (omega arith)

opening_from : {K : Type 0} (format : Format K) (file : LowerFile) (head : List ℕ) (attribute : Option (List ℕ)) (len : ℕ) → head ≡ take 4096 file.body → attribute ≡ file.attribute → len ≡ length file.body
    → opening_of format head attribute len ≡ opening format file
opening_from format file head attribute len h a l = rw (h, a, l, head_serves file.attribute file.body) refl

-- octets past the size are cleared, page by page
cleared_page : (f : ℕ → List ℕ) (n size k : ℕ) (old new : List ℕ) → ((j : ℕ) → j < n → length (f j) ≡ 4096) → k < n → old ≡ joined f n → length new ≡ length old
    → ((i : ℕ) → i < size → get_or new i 0 ≡ get_or old i 0) → ((i : ℕ) → size ≤ i → get_or new i 0 ≡ 0) → page_at k new ≡ cleared (size - 4096 * k) (f k)
cleared_page f n size k old new pages within whole len same zeros =
    let total : length old ≡ 4096 * n = ap length whole ∙ length-joined f n pages in
    let one : length (page_at k new) ≡ 4096 = omega (arith, length-take 4096 (drop (4096 * k) new), length-drop (4096 * k) new) in
    ext_get_or 0 (page_at k new) (cleared (size - 4096 * k) (f k)) (omega (arith, length-cleared (size - 4096 * k) (f k), pages k within)) (λ i h.
    get_or-take 4096 (drop (4096 * k) new) i 0 (omega arith) ∙ get_or-drop (4096 * k) new i 0 ∙ octet i (omega arith) (cases_lt i (size - 4096 * k)))
  where
    octet : (i : ℕ) → i < 4096 → (i < size - 4096 * k) ⊎ (size - 4096 * k ≤ i) → get_or new (4096 * k + i) 0 ≡ get_or (cleared (size - 4096 * k) (f k)) i 0
    octet i h (inl below) =
        let q : (4096 * k + i) / 4096 ≡ k = omega arith in
        let r : (4096 * k + i) % 4096 ≡ i = omega arith in
        same (4096 * k + i) (omega arith) ∙ ap (λ xs. get_or xs (4096 * k + i) 0) whole ∙ get_or-joined f n (4096 * k + i) pages (omega arith)
        ∙ ap (λ j. get_or (f j) ((4096 * k + i) % 4096) 0) q ∙ ap (λ j. get_or (f k) j 0) r ∙ sym (get_or-cleared (size - 4096 * k) (f k) i below)
    octet i h (inr behind) = zeros (4096 * k + i) (omega arith) ∙ sym (get_or-cleared_behind (size - 4096 * k) (f k) i behind)

-- metadata that was read fits
meta_opened : {K : Type 0} (format : Format K) (file : LowerFile) (o : Opened K) (attribute : Option (List ℕ)) → file.attribute ≡ attribute → IsRead (meta_place_of attribute) (metadata_of file.body attribute) o
    → format.reads (meta_place_of attribute) (metadata_of file.body attribute) ≡ Ok o → o.data_start ≤ length file.body → IsReadAs format file o.meta_place Clean o
meta_opened format file o (Some octets) same read reads there =
    subst (λ p. IsReadAs format file p Clean o) (sym read.place_is) (same ∙ ap Some (sym read.kept), ap (format.reads Attribute) read.kept ∙ reads)
meta_opened format file o None same read reads there =
    subst (λ p. IsReadAs format file p Clean o) (sym read.place_is) (same, there, reads ∙ ap (λ m. Ok (record o { metadata = m })) read.kept)

-- The extents of a file that was opened stand for it.
pub stands_opened : {K : Type 0} (format : Format K) (file : LowerFile) (o : Opened K) (old new : List ℕ) (dirty : List Bool) → IsFormat format → opening format file ≡ Ok o
    → old ≡ joined (plain_at format o.key o.data_start file.body) (extent_count o.size) → ((n : ℕ) → n < extent_count o.size → length (plain_at format o.key o.data_start file.body n) ≡ 4096) → length new ≡ length old
    → ((i : ℕ) → i < o.size → get_or new i 0 ≡ get_or old i 0) → ((i : ℕ) → o.size ≤ i → get_or new i 0 ≡ 0) → FileStands format (origin_found file o) file (found o new dirty)
stands_opened format file o old new dirty lawful opens whole long len same zeros =
    let read = with_data_inverse (length file.body) (format.reads (meta_place_of file.attribute) (metadata_of file.body file.attribute)) o opens in
    record {
      clean = λ k within _. (
        cleared_page (plain_at format o.key o.data_start file.body) (extent_count o.size) o.size k old new long within whole len same zeros,
        omega (arith, read.1, extent_within o.size k within),
        inr (refl, refl),
      );
      place = refl;
      metadata = meta_opened format file o file.attribute refl (lawful.read _ _ o read.0) read.0 (omega (arith, read.1));
      length_is = λ _. read.1;
      kept = same_found o.meta_place;
      exact = λ _. inr (refl, refl);
    }
  where
    same_found : (place : MetaPlace) → KeepsMetadata (record { meta_place = place; size = o.size; body = file.body; metadata = metadata_found place Clean o file }) file place Clean o
    same_found Header = inr (refl, refl)
    same_found Attribute = inr (refl, refl)

-- what an opening has read, in terms of the store as it was
pub opening_found : {K : Type 0} (format : Format K) (node : ℕ) (a b d : HeldBodies) (len : ℕ) (attribute : Option (List ℕ)) (head now : List ℕ) (r : Result (Opened K) BadCause)
    → a.told ≡ true → b.told ≡ a.told → d.told ≡ b.told → KeepsFiles a b → KeepsFiles b d → TellsLength a node len → TellsAttribute b node attribute → TellsHead d node len head → now ≡ head
    → opening_of format now attribute len ≡ r → opening format (a.files node) ≡ r
opening_found format node a b d len attribute head now r told b_told d_told keeps_b keeps_d tells_len tells_attribute tells_head same opens =
    let in_b = told_on told b_told in
    let first = keeps_b told node in
    sym (opening_from format (a.files node) now attribute len
    (same ∙ tells_head.1 (told_on in_b d_told) ∙ ap (λ (f : LowerFile). take 4096 f.body) (keeps_d in_b node ∙ first))
    (tells_attribute in_b ∙ ap (λ (f : LowerFile). f.attribute) first) (tells_len told))
    ∙ opens

-- that it isn't empty
pub found_some : (node : ℕ) (a b : HeldBodies) (len : ℕ) (attribute : Option (List ℕ)) → a.told ≡ true → b.told ≡ a.told → KeepsFiles a b → TellsLength a node len → TellsAttribute b node attribute
    → ((len ≡ 0) × (attribute ≡ None) → ⊥) → length (a.files node).body ≡ 0 → (a.files node).attribute ≡ None → ⊥
found_some node a b len attribute told b_told keeps_b tells_len tells_attribute some zero_len none =
    some (tells_len told ∙ zero_len, tells_attribute (told_on told b_told) ∙ ap (λ (f : LowerFile). f.attribute) (keeps_b told node) ∙ none)

-- that it is empty
pub empty_found : (node : ℕ) (a b : HeldBodies) (len : ℕ) (attribute : Option (List ℕ)) → a.told ≡ true → b.told ≡ a.told → KeepsFiles a b → TellsLength a node len → TellsAttribute b node attribute
    → (len ≡ 0) × (attribute ≡ None) → ((a.files node).body ≡ []) × ((a.files node).attribute ≡ None)
empty_found node a b len attribute told b_told keeps_b tells_len tells_attribute none =
    (no_items (a.files node).body (sym (tells_len told) ∙ none.0), sym (ap (λ (f : LowerFile). f.attribute) (keeps_b told node)) ∙ sym (tells_attribute (told_on told b_told)) ∙ none.1)
  where
    no_items : (xs : List ℕ) → length xs ≡ 0 → xs ≡ []
    no_items [] e = refl
    no_items (x ∷ xs) e = absurd (omega (arith, e))

pub cause_found : {K : Type 0} (format : Format K) (file : LowerFile) (fault : OpenFault) (r : Result (Opened K) BadCause) → (length file.body ≡ 0 → file.attribute ≡ None → ⊥)
    → opening format file ≡ r → AnswersOpening (Err fault) r → IsCause format file (error_of fault)
cause_found format file (faults.Bad cause) r some same answer =
    content_by_opening format file.body file.attribute (opening format file) some ∙ ap (content_by format file.body) (same ∙ answer)
cause_found format file faults.Memory r some same answer = tt

origin_some : {K : Type 0} (new : Opened K) (file : LowerFile) (body : List ℕ) (attribute : Option (List ℕ)) (read : Result (Opened K) BadCause) → (length body ≡ 0 → attribute ≡ None → ⊥)
    → origin_with new file body attribute read ≡ origin_by new file read
origin_some new file [] None read some = absurd (some refl refl)
origin_some new file (x ∷ body) None read some = refl
origin_some new file [] (Some octets) read some = refl
origin_some new file (x ∷ body) (Some octets) read some = refl

-- What is kept of a file that was there.
pub found_opened : {K : Type 0} (format : Format K) (node : ℕ) (file : LowerFile) (o : Opened K) (buffer : List ℕ) (dirty : List Bool) → IsFormat format → opening format file ≡ Ok o
    → (length file.body ≡ 0 → file.attribute ≡ None → ⊥) → IsBuffer (found o buffer dirty) → FileStands format (origin_found file o) file (found o buffer dirty) → AllClean dirty
    → IsFound format node file (found o buffer dirty)
found_opened format node file o buffer dirty lawful opens some shaped s clean = record {
  state = ap state_by (content_unmarked format (origin_found file o) file (found o buffer dirty) lawful shaped s (clean, refl, refl));
  origin = origin_some (format.new_file node) file file.body file.attribute (opening format file) some ∙ ap (origin_by (format.new_file node) file) opens;
  stands = s;
  unmarked = λ _. (clean, refl, refl);
}

new_read : {K : Type 0} (format : Format K) (file : LowerFile) (o : Opened K) (place : MetaPlace) → file.attribute ≡ None → (place ≡ Header → length o.metadata ≡ o.data_start)
    → format.reads place (read_of place o.metadata) ≡ Ok (record o { metadata = kept_of place o.metadata }) → IsReadAs format file place Whole o
new_read format file o Header none fills reads = (none, fills refl, reads)
new_read format file o Attribute none fills reads = reads

same_new : {K : Type 0} (file : LowerFile) (o : Opened K) (place : MetaPlace) → o.metadata ≡ with_size o.size o.metadata
    → KeepsMetadata (record { meta_place = place; size = o.size; body = file.body; metadata = metadata_found place Whole o file }) file place Whole o
same_new file o Header e = e
same_new file o Attribute e = e

found_place : {K : Type 0} (file : LowerFile) (o : Opened K) (place : MetaPlace) → metadata_found place Whole o file ≡ o.metadata
found_place file o Header = refl
found_place file o Attribute = refl

empty_content : {K : Type 0} (format : Format K) (body : List ℕ) (attribute : Option (List ℕ)) (read : Result (Opened K) BadCause) → body ≡ [] → attribute ≡ None → content_of format body attribute read ≡ Empty
empty_content format [] None read empty none = refl
empty_content format (x ∷ body) attribute read empty none = absurd cc
empty_content format [] (Some octets) read empty none = absurd cc

empty_origin : {K : Type 0} (new : Opened K) (file : LowerFile) (body : List ℕ) (attribute : Option (List ℕ)) (read : Result (Opened K) BadCause) → body ≡ [] → attribute ≡ None
    → origin_with new file body attribute read ≡ Some (record { meta_place = new.meta_place; size = 0; body = []; metadata = new.metadata })
empty_origin new file [] None read empty none = refl
empty_origin new file (x ∷ body) attribute read empty none = absurd cc
empty_origin new file [] (Some octets) read empty none = absurd cc

-- A file that has nothing is kept with new metadata that is marked.
pub found_new : {K : Type 0} (format : Format K) (node : ℕ) (file : LowerFile) → IsFormat format → file.body ≡ [] → file.attribute ≡ None
    → IsFound format node file (record { opened = format.new_file node; buffer = []; dirty = []; metadata_mark = Whole; length_mark = true })
found_new {K} format node file lawful empty none =
    let o : Opened K = format.new_file node in
    let new = lawful.new node in
    let content_is : content format file ≡ Empty = empty_content format file.body file.attribute (opening format file) empty none in
    record {
      state = ap state_by content_is ∙ ap (λ (xs : List ℕ). Good (record { octets = xs; slots = [] })) (sym (take-nil o.size));
      origin = empty_origin o file file.body file.attribute (opening format file) empty none
          ∙ ap (λ (n : ℕ). Some (record { meta_place = o.meta_place; size = n; body = []; metadata = o.metadata })) (sym new.size)
          ∙ ap (λ (xs : List ℕ). Some (record { meta_place = o.meta_place; size = o.size; body = xs; metadata = o.metadata })) (sym empty)
          ∙ ap (λ (xs : List ℕ). Some (record { meta_place = o.meta_place; size = o.size; body = file.body; metadata = xs })) (sym (found_place file o o.meta_place));
      stands = record {
        clean = λ k h _. absurd (omega (arith, new.size));
        place = refl;
        metadata = new_read format file o o.meta_place none new.fills (lawful.new_read node);
        kept = same_new file o o.meta_place (sym new.sized ∙ ap (λ n. with_size n o.metadata) (sym new.size));
        length_is = λ e. absurd cc;
        exact = λ e. absurd cc;
      };
      unmarked = λ some. absurd (some content_is);
    }
