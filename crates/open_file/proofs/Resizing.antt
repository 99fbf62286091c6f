-- What a change of size leaves.
use Rattle.std.proofs.Common.{ℕ, ◌≡◌, ◌+◌, ◌-◌, ◌*◌, ◌/◌, ◌<◌, ◌≤◌, ◌⊎◌, inl, inr, min, Bool, true, List, length, get_or, take, drop, replicate, sym, ◌∙◌, ap, arith}
use Rattle.std.proofs.lemmas.Bool.{cases_lt, false≢true}
use Rattle.std.proofs.lemmas.List.{get_or-take, get_or-drop, length-take, length-drop, length-append, length-replicate, ext_get_or, get_or_append_left, get_or-append_right, get_or-replicate}
use Rattle.body_model.specs.declared.opened.Opened.{Opened}
use Rattle.body_model.specs.LowerFile.{LowerFile}
use Rattle.body_model.specs.Format.{Format, IsFormat, plain_at}
use Rattle.packet_model.specs.Metadata.{extent_count}
use Rattle.file_model.specs.ByteFile.{resized, written}
use Rattle.file_model.specs.LaidOut.{Origin, cleared}
use Rattle.open_file.specs.Buffered.{Buffered, IsBuffer, octets_of, page_at}
use Rattle.open_file.specs.Standing.{FileStands, Marks, Stands, marks_of}
use Rattle.file_model.specs.Resizing.{mark_size, sized_opened}
use Rattle.open_file.specs.Resizing.{ChangesSize, ResizesPages}
use Rattle.file_model.proofs.Cleared.{cleared_whole, length-cleared}
use Rattle.file_model.proofs.Resizing.{meta_kept, meta_resized, written_resized}

pub page_same : (k both n : ℕ) (old new : List ℕ) → 4096 * k + 4096 ≤ both → length new ≡ 4096 * n → both ≤ length new → both ≤ length old
    → ((i : ℕ) → i < both → get_or new i 0 ≡ get_or old i 0) → page_at k new ≡ page_at k old
page_same k both n old new below len fits fits' same =
    let a = length-take 4096 (drop (4096 * k) new) in
    let b = length-take 4096 (drop (4096 * k) old) in
    ext_get_or 0 (page_at k new) (page_at k old) (omega (arith, a, b, length-drop (4096 * k) new, length-drop (4096 * k) old)) (λ i h.
    let low : i < 4096 = omega arith in
    get_or-take 4096 (drop (4096 * k) new) i 0 low ∙ get_or-drop (4096 * k) new i 0 ∙ same (4096 * k + i) (omega arith)
    ∙ sym (get_or-drop (4096 * k) old i 0) ∙ sym (get_or-take 4096 (drop (4096 * k) old) i 0 low))

-- the octets of a resized file
pub resized_octets : (before size : ℕ) (old new : List ℕ) (dirty dirty' : List Bool) → before ≤ length old → size ≤ length new
    → ResizesPages (min before size) size old new dirty dirty' → take size new ≡ resized size (take before old)
resized_octets before size old new dirty dirty' fits fits' r =
    let front : length (take size (take before old)) ≡ min before size = omega (arith, length-take size (take before old), length-take before old) in
    let count : length (take before old) ≡ before = omega (arith, length-take before old) in
    ext_get_or 0 (take size new) (resized size (take before old))
    (omega (arith, length-take size new, length-append (take size (take before old)) (replicate (size - length (take before old)) 0), length-replicate {A = ℕ} (size - length (take before old)) 0))
    (λ i h. octet i front count (omega (arith, length-take size new)) (cases_lt i (min before size)))
  where
    octet : (i : ℕ) → length (take size (take before old)) ≡ min before size → length (take before old) ≡ before → i < size → (i < min before size) ⊎ (min before size ≤ i)
        → get_or (take size new) i 0 ≡ get_or (resized size (take before old)) i 0
    octet i front count h (inl low) =
        get_or-take size new i 0 h ∙ r.same i low ∙ sym (get_or-take before old i 0 (omega arith)) ∙ sym (get_or-take size (take before old) i 0 h)
        ∙ sym (get_or_append_left (take size (take before old)) (replicate (size - length (take before old)) 0) 0 i (omega arith))
    octet i front count h (inr high) =
        get_or-take size new i 0 h ∙ r.zeros i high
        ∙ sym (get_or-append_right (take size (take before old)) (replicate (size - length (take before old)) 0) (min before size) i 0 front high
        ∙ get_or-replicate (size - length (take before old)) (i - min before size) 0 0 (omega arith))

-- what lies below a whole page is whole
pub plain_length : (k n size : ℕ) (buffer plain : List ℕ) → length buffer ≡ 4096 * n → k < n → page_at k buffer ≡ cleared size plain → length plain ≡ 4096
plain_length k n size buffer plain pages within same =
    sym (length-cleared size plain) ∙ ap length (sym same) ∙ omega (arith, length-take 4096 (drop (4096 * k) buffer), length-drop (4096 * k) buffer)

-- The pages and the lower file go on fitting together when the size is changed and marked.
pub stands_resized : {K : Type 0} (format : Format K) (origin : Origin) (file : LowerFile) (o : Opened K) (size : ℕ) (old new : List ℕ) (marks : Marks) (dirty' : List Bool) → IsFormat format → size ≤ 67108864
    → length old ≡ 4096 * extent_count o.size → ResizesPages (min o.size size) size old new marks.pages dirty' → Stands format origin file o old marks
    → Stands format origin file (sized_opened size o) new (record { pages = dirty'; metadata = mark_size o.meta_place marks.metadata; len = true })
stands_resized format origin file o size old new marks dirty' lawful most pages r s = record {
  clean = λ k within c. elim (cases_lt k (min o.size size / 4096)) [
    | inl low ↦
        let below = s.clean k (omega arith) (sym (r.kept k low) ∙ c) in
        let len = plain_length k (extent_count o.size) (o.size - 4096 * k) old (plain_at format o.key o.data_start file.body k) pages (omega arith) below.0 in
        let whole : page_at k new ≡ plain_at format o.key o.data_start file.body k = page_same k (min o.size size) (extent_count size) old new (omega arith) r.pages (omega (arith, r.pages)) (omega arith) r.same ∙ below.0
        ∙ cleared_whole (o.size - 4096 * k) (plain_at format o.key o.data_start file.body k) (omega arith) in
        (whole ∙ sym (cleared_whole (size - 4096 * k) (plain_at format o.key o.data_start file.body k) (omega arith)), below.1, inl (sym whole))
    | inr high ↦ absurd (false≢true (sym c ∙ r.marked k high within))
  ];
  place = s.place;
  metadata = meta_resized format file o.meta_place marks.metadata o size lawful most s.metadata;
  length_is = λ e. absurd (false≢true (sym e));
  kept = meta_kept format origin file o.meta_place marks.metadata o size lawful s.metadata s.kept;
  exact = λ e. absurd (false≢true (sym e));
}

-- the same of a file that is kept
pub changed_octets : {K : Type 0} (size : ℕ) (f g : Buffered K) → IsBuffer f → ChangesSize size f g → octets_of g ≡ resized size (octets_of f)
changed_octets size f g shaped c =
    ap (λ (o : Opened _). take o.size g.buffer) c.opened
    ∙ resized_octets f.opened.size size f.buffer g.buffer f.dirty g.dirty (omega (arith, shaped.pages)) (omega (arith, c.pages.pages)) c.pages

pub changed_stands : {K : Type 0} (size : ℕ) (f g : Buffered K) (format : Format K) (origin : Origin) (file : LowerFile) → IsBuffer f → size ≤ 67108864 → ChangesSize size f g → IsFormat format
    → FileStands format origin file f → FileStands format origin file g
changed_stands size f g format origin file shaped most c lawful s =
    rw (c.opened, c.metadata, c.len) (stands_resized format origin file f.opened size f.buffer g.buffer (marks_of f) g.dirty lawful most shaped.pages c.pages s)

-- a write up to the end, once the file reaches it
pub reached_octets : {K : Type 0} (end : ℕ) (f g : Buffered K) → IsBuffer f → f.opened.size ≤ end → octets_of g ≡ resized end (octets_of f)
    → (at : ℕ) (octets : List ℕ) → at + length octets ≡ end → written at octets (octets_of g) ≡ written at octets (octets_of f)
reached_octets end f g shaped past same at octets here =
    ap (written at octets) same ∙ written_resized at end octets (octets_of f) here (omega (arith, length-take f.opened.size f.buffer))
