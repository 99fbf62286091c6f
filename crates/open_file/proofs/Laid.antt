-- Whole extents that fit a lower file are a layout of the file's octets.
use Rattle.std.proofs.Common.{ℕ, ◌≡◌, ◌+◌, ◌-◌, ◌*◌, ◌/◌, ◌%◌, ◌<◌, ◌≤◌, ◌⊎◌, inl, inr, min, Bool, true, false, cond, List, length, get_or, take, drop, replicate, Some, None, refl, sym, ◌∙◌, ap, subst, arith}
use Rattle.std.proofs.lemmas.Bool.{cases_lt, false≢true, lt-ltb}
use Rattle.std.proofs.lemmas.List.{get_or-take, get_or-drop, length-take, length-drop, length-append, length-replicate, get_or_past, ext_get_or, get_or_append_left, get_or-append_right, get_or-replicate}
use Rattle.packet_model.specs.Metadata.{extent_count}
use Rattle.body_model.specs.declared.opened.Opened.{Opened}
use Rattle.body_model.specs.LowerFile.{LowerFile}
use Rattle.body_model.specs.Bodies.{HeldBodies}
use Rattle.body_model.specs.BodyCalls.{KeepsFiles}
use Rattle.body_model.specs.Format.{Format, IsFormat}
use Rattle.file_model.specs.LaidOut.{IsExact, IsPage, LaidOut, Origin, below, page_of, page_or}
use Rattle.open_file.specs.Buffered.{Buffered, ChangesOctets, HasItsRoom, IsBuffer, IsLaidOut, is_dirty, octets_of, page_at, page_below, working_of}
use Rattle.open_file.specs.Standing.{FileStands}
use Rattle.open_file.proofs.Standing.{zeros_in}

-- a page of the octets, filled up with zeros, is the page of the buffer
pub page_of_octets : (size k n : ℕ) (buffer : List ℕ) → length buffer ≡ 4096 * n → size ≤ length buffer → k < n → ((i : ℕ) → size ≤ i → get_or buffer i 0 ≡ 0) → page_of (take size buffer) k ≡ page_at k buffer
page_of_octets size k n buffer pages fits within zeros =
    let front : List ℕ = take 4096 (drop (4096 * k) (take size buffer)) in
    let back = 4096 - (length (take size buffer) - 4096 * k) in
    let taken = length-take size buffer in
    let front_len : length front ≡ min 4096 (size - 4096 * k) = omega (arith, length-take 4096 (drop (4096 * k) (take size buffer)), length-drop (4096 * k) (take size buffer), taken) in
    let page_len : length (page_at k buffer) ≡ 4096 = omega (arith, length-take 4096 (drop (4096 * k) buffer), length-drop (4096 * k) buffer) in
    ext_get_or 0 (page_of (take size buffer) k) (page_at k buffer)
    (omega (arith, length-append front (replicate back 0), length-replicate {A = ℕ} back 0))
    (λ i h. octet i front_len (cases_lt i (length front)) (omega (arith, length-append front (replicate back 0), length-replicate {A = ℕ} back 0)))
  where
    octet : (i : ℕ) → length (take 4096 (drop (4096 * k) (take size buffer))) ≡ min 4096 (size - 4096 * k) → (i < length (take 4096 (drop (4096 * k) (take size buffer)))) ⊎ (length (take 4096 (drop (4096 * k) (take size buffer))) ≤ i) → i < 4096
        → get_or (page_of (take size buffer) k) i 0 ≡ get_or (page_at k buffer) i 0
    octet i len (inl below) h =
        get_or_append_left (take 4096 (drop (4096 * k) (take size buffer))) (replicate (4096 - (length (take size buffer) - 4096 * k)) 0) 0 i below
        ∙ get_or-take 4096 (drop (4096 * k) (take size buffer)) i 0 h ∙ get_or-drop (4096 * k) (take size buffer) i 0 ∙ get_or-take size buffer (4096 * k + i) 0 (omega arith)
        ∙ sym (get_or-drop (4096 * k) buffer i 0) ∙ sym (get_or-take 4096 (drop (4096 * k) buffer) i 0 h)
    octet i len (inr behind) h =
        get_or-append_right (take 4096 (drop (4096 * k) (take size buffer))) (replicate (4096 - (length (take size buffer) - 4096 * k)) 0) (length (take 4096 (drop (4096 * k) (take size buffer)))) i 0 refl behind
        ∙ get_or-replicate (4096 - (length (take size buffer) - 4096 * k)) (i - length (take 4096 (drop (4096 * k) (take size buffer)))) 0 0 (omega (arith, length-take size buffer))
        ∙ sym (zeros_in k buffer size i zeros (omega arith))

page_is : (size k : ℕ) (buffer : List ℕ) → k < extent_count size → page_below size buffer k ≡ Some (page_at k buffer)
page_is size k buffer h = ap (λ b. cond b (Some (page_at k buffer)) None) (lt-ltb k (extent_count size) h)

some_same : (p q : List ℕ) → Some p ≡ Some q → q ≡ p
some_same p q e = cc

dirty_page : (size k : ℕ) (buffer : List ℕ) (dirty : List Bool) → length dirty ≡ extent_count size → length buffer ≡ 4096 * extent_count size → is_dirty dirty k ≡ true → (k < extent_count size) × IsPage (page_below size buffer k)
dirty_page size k buffer dirty marks pages marked = elim (cases_lt k (extent_count size)) [
  | inl h ↦ (h, subst IsPage (sym (page_is size k buffer h)) (omega (arith, length-take 4096 (drop (4096 * k) buffer), length-drop (4096 * k) buffer)))
  | inr past ↦ absurd (false≢true (sym (get_or_past dirty k false (omega arith)) ∙ marked))
]

page_of_file : {K : Type 0} (f : Buffered K) (k : ℕ) → IsBuffer f → k < extent_count f.opened.size → page_of (octets_of f) k ≡ page_at k f.buffer
page_of_file f k shaped h = page_of_octets f.opened.size k (extent_count f.opened.size) f.buffer shaped.pages (omega (arith, shaped.pages)) h shaped.zeros

pub laid_out : {K : Type 0} (format : Format K) (origin : Origin) (held : HeldBodies) (node : ℕ) (f : Buffered K) → IsBuffer f → HasItsRoom held node f.opened
    → FileStands format origin (held.files node) f → IsLaidOut format origin held node f
laid_out format origin held node f shaped room s = record {
  size = omega (arith, length-take f.opened.size f.buffer, shaped.pages);
  most = omega (arith, length-take f.opened.size f.buffer, shaped.most);
  extents = λ k h. page_of_file f k shaped h ∙ ap (λ p. page_or p (below format (held.files node).body (working_of f) k)) (sym (page_is f.opened.size k f.buffer h));
  clean = λ k page h c e. some_same _ _ (sym (page_is f.opened.size k f.buffer h) ∙ e) ∙ (s.clean k h c).0;
  dirty = λ k marked. dirty_page f.opened.size k f.buffer f.dirty shaped.marks shaped.pages marked;
  there = λ k h c u. ((s.clean k h c).1, subst (IsExact format origin (held.files node).body f.opened k) (sym (page_of_file f k shaped h)) (s.clean k h c).2);
  place = s.place;
  metadata = s.metadata;
  kept = s.kept;
  length_is = s.length_is;
  exact = s.exact;
  body_room = room.body;
  attribute_room = room.attribute;
}

pub stands_laid : {K : Type 0} (format : Format K) (origin : Origin) (held : HeldBodies) (node : ℕ) (f : Buffered K) → IsBuffer f → IsLaidOut format origin held node f
    → FileStands format origin (held.files node) f
stands_laid format origin held node f shaped l = record {
  clean = λ k h c.
      let there = l.there k h c refl in
      (l.clean k (page_at k f.buffer) h c (page_is f.opened.size k f.buffer h), there.0, subst (IsExact format origin (held.files node).body f.opened k) (page_of_file f k shaped h) there.1);
  place = l.place;
  metadata = l.metadata;
  kept = l.kept;
  length_is = l.length_is;
  exact = l.exact;
}

-- An open file stands for no other octets.
module _ (octets buffer : List ℕ) (size : ℕ) (long : size ≡ length octets) (fits : size ≤ length buffer) (same : (k : ℕ) → k < extent_count size → page_of octets k ≡ page_at k buffer) where
  in_page : (k r : ℕ) → r < 4096 → 4096 * k + r < size → get_or (page_of octets k) r 0 ≡ get_or octets (4096 * k + r) 0
  in_page k r low h =
      get_or_append_left (take 4096 (drop (4096 * k) octets)) (replicate (4096 - (length octets - 4096 * k)) 0) 0 r (omega (arith, length-take 4096 (drop (4096 * k) octets), length-drop (4096 * k) octets))
      ∙ get_or-take 4096 (drop (4096 * k) octets) r 0 low ∙ get_or-drop (4096 * k) octets r 0

  in_buffer : (k r : ℕ) → r < 4096 → get_or (page_at k buffer) r 0 ≡ get_or buffer (4096 * k + r) 0
  in_buffer k r low = get_or-take 4096 (drop (4096 * k) buffer) r 0 low ∙ get_or-drop (4096 * k) buffer r 0

  same_octet : (i : ℕ) → i < size → get_or octets i 0 ≡ get_or buffer i 0
  same_octet i h =
      let whole : 4096 * (i / 4096) + i % 4096 ≡ i = omega arith in
      ap (λ j. get_or octets j 0) (sym whole) ∙ sym (in_page (i / 4096) (i % 4096) (omega arith) (omega arith)) ∙ ap (λ (p : List ℕ). get_or p (i % 4096) 0) (same (i / 4096) (omega arith))
      ∙ in_buffer (i / 4096) (i % 4096) (omega arith) ∙ ap (λ j. get_or buffer j 0) whole

  all_octets : octets ≡ take size buffer
  all_octets = ext_get_or 0 octets (take size buffer) (omega (arith, length-take size buffer)) (λ i h. same_octet i (omega arith) ∙ sym (get_or-take size buffer i 0 (omega arith)))

pub laid_octets : {K : Type 0} (format : Format K) (origin : Origin) (held : HeldBodies) (node : ℕ) (f : Buffered K) (octets : List ℕ) → IsBuffer f → LaidOut format origin held node (working_of f) octets → octets ≡ octets_of f
laid_octets format origin held node f octets shaped l =
    all_octets octets f.buffer f.opened.size l.size (omega (arith, shaped.pages))
    (λ k h. l.extents k h ∙ ap (λ p. page_or p (below format (held.files node).body (working_of f) k)) (page_is f.opened.size k f.buffer h))

pub stands_by : {K : Type 0} (format : Format K) (origin : Origin) (held : HeldBodies) (node : ℕ) (f : Buffered K) (octets : List ℕ) → IsBuffer f → LaidOut format origin held node (working_of f) octets
    → FileStands format origin (held.files node) f
stands_by format origin held node f octets shaped l =
    stands_laid format origin held node f shaped (subst (λ xs. LaidOut format origin held node (working_of f) xs) (laid_octets format origin held node f octets shaped l) l)

-- A change that keeps standing with each lower file.
pub goes_on : {K : Type 0} (node : ℕ) (old new : HeldBodies) (f g : Buffered K) (change : List ℕ → List ℕ) → IsBuffer f → IsBuffer g → HasItsRoom new node g.opened → octets_of g ≡ change (octets_of f)
    → KeepsFiles old new → ((format : Format K) (origin : Origin) (file : LowerFile) → IsFormat format → FileStands format origin file f → FileStands format origin file g) → ChangesOctets node old new f g change
goes_on node old new f g change shaped shaped' room same keeps stands told format origin octets lawful l =
    let s = stands format origin (old.files node) lawful (stands_by format origin old node f octets shaped l) in
    subst (λ xs. LaidOut format origin new node (working_of g) xs) (same ∙ ap change (sym (laid_octets format origin old node f octets shaped l)))
    (laid_out format origin new node g shaped' room (subst (λ file. FileStands format origin file g) (sym (keeps told node)) s))

-- What is written out goes on standing for the same octets.
pub stays_laid : {K : Type 0} (format : Format K) (origin : Origin) (node : ℕ) (old new : HeldBodies) (f g : Buffered K) (octets : List ℕ) → IsBuffer f → IsBuffer g → HasItsRoom new node g.opened
    → g.opened ≡ f.opened → g.buffer ≡ f.buffer → (FileStands format origin (old.files node) f → FileStands format origin (new.files node) g)
    → LaidOut format origin old node (working_of f) octets → LaidOut format origin new node (working_of g) octets
stays_laid format origin node old new f g octets shaped shaped' room opened buffer stands l =
    subst (λ xs. LaidOut format origin new node (working_of g) xs)
    (ap (λ (o : Opened _). take o.size g.buffer) opened ∙ ap (λ (xs : List ℕ). take f.opened.size xs) buffer ∙ sym (laid_octets format origin old node f octets shaped l))
    (laid_out format origin new node g shaped' room (stands (stands_by format origin old node f octets shaped l)))
