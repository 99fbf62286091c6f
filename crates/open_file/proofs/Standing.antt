-- What a written or torn page leaves of how pages and file fit together.
use Rattle.std.proofs.Common.{ℕ, ◌≡◌, ◌≢◌, ◌+◌, ◌-◌, ◌*◌, ◌<◌, ◌≤◌, ◌⊎◌, inl, inr, Bool, true, false, List, ◌++◌, length, get_or, set, take, drop, count_by, refl, sym, ◌∙◌, ap, subst, arith, cond, add_comm, zero-add}
use Rattle.std.proofs.lemmas.Bool.{cases_lt, cases_eq}
use Rattle.std.proofs.lemmas.List.{get_or-set_other, get_or-take, get_or-drop, length-take, get_or_past, at_drop_more, take-take, drop-take, take-append-drop}
use Rattle.std.proofs.lemmas.Bool.{false≢true}
use Rattle.std.proofs.lemmas.List.Sums.{sum_by-cons}
use Rattle.body_model.specs.declared.opened.Opened.{Opened}
use Rattle.lower_model.specs.declared.meta_place.MetaPlace.{MetaPlace}
use Rattle.lower_model.specs.declared.meta_place.MetaPlace.TheVariants.{Header, Attribute}
use Rattle.answer_model.specs.Count.{Rose}
use Rattle.packet_model.specs.Metadata.{extent_count}
use Rattle.body_model.specs.LowerFile.{LowerFile}
use Rattle.body_model.specs.Bodies.{HeldBodies}
use Rattle.body_model.specs.BodyCalls.{Resizes, Tears, Writes}
use Rattle.body_model.specs.Format.{Format, IsDataStart, extent_at, needed, plain_at, with_size}
use Rattle.std.specs.Int.{to_be_bytes, w64}
use Rattle.file_model.specs.declared.mark.MetadataMark.{MetadataMark}
use Rattle.file_model.specs.declared.mark.MetadataMark.TheVariants.{Clean, Size, Whole}
use Rattle.file_model.specs.LaidOut.{IsExact, IsReadAs, KeepsMetadata, Origin, cleared}
use Rattle.open_file.specs.Buffered.{IsKept, dirty_count, is_dirty, page_at}
use Rattle.open_file.specs.Calling.{AreCalls, AreReads, AreWrites}
use Rattle.open_file.specs.Standing.{IsBelow, Marks, Stands, StandsOn}
use Rattle.file_model.proofs.Cleared.{cleared_is}
use Rattle.file_model.proofs.Extents.{Leaves, Stays, extent_is, extent_within, extent_written, leaves_torn, leaves_written, stays_behind, stays_below, stays_resized}
use Rattle.file_model.proofs.Staying.{exact_stays, kept_stays, meta_stays, there_of}

-- a page that lies below goes on lying below
pub below_stays : {K : Type 0} (format : Format K) (origin : Origin) (old new : LowerFile) (o : Opened K) (buffer : List ℕ) (k : ℕ) → Stays (o.data_start + 4096 * k) 4096 old.body new.body
    → IsBelow format origin old o buffer k → IsBelow format origin new o buffer k
below_stays format origin old new o buffer k stays b =
    let s = stays b.1 in
    let same : extent_at o.data_start new.body k ≡ extent_at o.data_start old.body k = extent_is o.data_start k new.body ∙ s.1 ∙ sym (extent_is o.data_start k old.body) in
    (b.0 ∙ ap (λ x. cleared (o.size - 4096 * k) (format.plain o.key k x)) (sym same), s.0, exact same b.2)
  where
    exact : extent_at o.data_start new.body k ≡ extent_at o.data_start old.body k → IsExact format origin old.body o k (page_at k buffer) → IsExact format origin new.body o k (page_at k buffer)
    exact same (inl e) = inl (ap (format.plain o.key k) same ∙ e)
    exact same (inr e) = inr (e.0, same ∙ e.1)

-- zeros past the size are zeros in its page
pub zeros_in : (k : ℕ) (buffer : List ℕ) (size i : ℕ) → ((i : ℕ) → size ≤ i → get_or buffer i 0 ≡ 0) → size - 4096 * k ≤ i → get_or (page_at k buffer) i 0 ≡ 0
zeros_in k buffer size i zeros h = elim (cases_lt i 4096) [
  | inl below ↦ get_or-take 4096 (drop (4096 * k) buffer) i 0 below ∙ get_or-drop (4096 * k) buffer i 0 ∙ zeros (4096 * k + i) (omega arith)
  | inr past ↦ get_or_past (page_at k buffer) i 0 (omega (arith, length-take 4096 (drop (4096 * k) buffer)))
]

-- What stays where one page's lower extent changes, and the page isn't clean.
pub stands_on : {K : Type 0} (format : Format K) (origin : Origin) (old new : LowerFile) (o : Opened K) (buffer : List ℕ) (marks marks' : Marks) (k : ℕ) → k < extent_count o.size → IsDataStart o.meta_place o.data_start
    → Leaves (o.data_start + 4096 * k) 4096 old.body new.body → new.attribute ≡ old.attribute → Stands format origin old o buffer marks → marks'.metadata ≡ marks.metadata → marks'.len ≡ marks.len
    → ((j : ℕ) → j ≢ k → is_dirty marks'.pages j ≡ false → is_dirty marks.pages j ≡ false)
    → (is_dirty marks'.pages k ≡ false → IsBelow format origin new o buffer k)
    → Stands format origin new o buffer marks'
stands_on format origin old new o buffer marks marks' k inside start leaves same s same_meta same_len kept here = record {
  clean = λ j within c. elim (cases_eq j k) [
    | inl e ↦ subst (IsBelow format origin new o buffer) (sym e) (here (sym (ap (is_dirty marks'.pages) e) ∙ c))
    | inr n ↦ below_stays format origin old new o buffer j (other n) (s.clean j within (kept j n c))
  ];
  place = s.place;
  metadata = subst (λ m. IsReadAs format new o.meta_place m o) (sym same_meta)
      (meta_stays format old new o.meta_place marks.metadata o start (stays_below (o.data_start + 4096 * k) 4096 0 o.data_start old.body new.body leaves (omega arith)) same s.metadata);
  length_is = λ e. omega (arith, s.length_is (sym same_len ∙ e), leaves.no_shorter);
  kept = subst (λ m. KeepsMetadata origin new o.meta_place m o) (sym same_meta) (kept_stays origin old new o.meta_place marks.metadata o
      (λ n. (stays_below (o.data_start + 4096 * k) 4096 0 o.data_start old.body new.body leaves (omega arith) (omega (arith, there_of format old o.meta_place marks.metadata o start s.metadata n))).1) s.kept);
  exact = λ e. exact_stays origin old.body new.body o (omega (arith, s.length_is (sym same_len ∙ e), leaves.no_shorter, leaves.no_longer, extent_within o.size k inside)) (s.exact (sym same_len ∙ e));
}
  where
    other : {j : ℕ} → j ≢ k → Stays (o.data_start + 4096 * j) 4096 old.body new.body
    other {j} n = elim (cases_lt j k) [
      | inl low ↦ stays_below (o.data_start + 4096 * k) 4096 (o.data_start + 4096 * j) 4096 old.body new.body leaves (omega arith)
      | inr high ↦ stays_behind (o.data_start + 4096 * k) 4096 (o.data_start + 4096 * j) 4096 old.body new.body leaves (omega arith)
    ]

-- After a write that was done the page may be marked clean.
pub stands_written : {K : Type 0} (format : Format K) (origin : Origin) (old new : LowerFile) (o : Opened K) (buffer sealed : List ℕ) (dirty : List Bool) (mark : MetadataMark) (len : Bool) (k : ℕ)
    → IsDataStart o.meta_place o.data_start → ((i : ℕ) → o.size ≤ i → get_or buffer i 0 ≡ 0) → k < extent_count o.size → length sealed ≡ 4096 → format.plain o.key k sealed ≡ page_at k buffer
    → Writes (o.data_start + 4096 * k) sealed old.body new.body → new.attribute ≡ old.attribute
    → Stands format origin old o buffer (record { pages = dirty; metadata = mark; len = len }) → Stands format origin new o buffer (record { pages = set dirty k false; metadata = mark; len = len })
stands_written format origin old new o buffer sealed dirty mark len k start zeros within long plain w same s =
    let read : extent_at o.data_start new.body k ≡ sealed = extent_is o.data_start k new.body ∙ extent_written (o.data_start + 4096 * k) sealed old.body new.body long w in
    let back : plain_at format o.key o.data_start new.body k ≡ page_at k buffer = ap (format.plain o.key k) read ∙ plain in
    let whole = cleared_is (o.size - 4096 * k) (page_at k buffer) (λ i h. zeros_in k buffer o.size i zeros h) in
    stands_on format origin old new o buffer (record { pages = dirty; metadata = mark; len = len }) (record { pages = set dirty k false; metadata = mark; len = len }) k within start
    (subst (λ n. Leaves (o.data_start + 4096 * k) n old.body new.body) long (leaves_written _ _ _ _ w)) same s refl refl
    (λ j n c. sym (get_or-set_other dirty k j false false n) ∙ c)
    (λ c. (sym whole ∙ ap (cleared (o.size - 4096 * k)) (sym back), omega (arith, w.length_is), inl back))

-- After a write that failed, of a page that is dirty, all stays as it was.
pub stands_torn : {K : Type 0} (format : Format K) (origin : Origin) (old new : LowerFile) (o : Opened K) (buffer : List ℕ) (marks : Marks) (k : ℕ) → k < extent_count o.size → IsDataStart o.meta_place o.data_start
    → is_dirty marks.pages k ≡ true → Tears (o.data_start + 4096 * k) 4096 old.body new.body → new.attribute ≡ old.attribute
    → Stands format origin old o buffer marks → Stands format origin new o buffer marks
stands_torn format origin old new o buffer marks k within start marked t same s =
    stands_on format origin old new o buffer marks marks k within start (leaves_torn _ _ _ _ t) same s refl refl (λ j n c. c)
    (λ c. absurd (false≢true (sym c ∙ marked)))

-- What the writes of metadata leave of the pages: all of them lie behind it.
pub stands_meta : {K : Type 0} (format : Format K) (origin : Origin) (old new : LowerFile) (o : Opened K) (buffer : List ℕ) (marks : Marks) (mark : MetadataMark) (n : ℕ) → n ≤ o.data_start
    → Leaves 0 n old.body new.body → IsReadAs format new o.meta_place mark o → KeepsMetadata origin new o.meta_place mark o → Stands format origin old o buffer marks → Stands format origin new o buffer (record marks { metadata = mark })
stands_meta format origin old new o buffer marks mark n within leaves meta kept s = record {
  clean = λ k h c. below_stays format origin old new o buffer k (stays_behind 0 n (o.data_start + 4096 * k) 4096 old.body new.body leaves (omega arith)) (s.clean k h c);
  place = s.place;
  metadata = meta;
  length_is = λ e. omega (arith, s.length_is e, leaves.no_shorter);
  kept = kept;
  exact = λ e. exact_stays origin old.body new.body o (omega (arith, s.length_is e, leaves.no_shorter, leaves.no_longer)) (s.exact e);
}

-- Behind the size octets the head stays.
pub rest_of_head : (n : ℕ) (old new : List ℕ) → n ≡ 8 → drop n new ≡ drop n old → drop 8 (take 4096 new) ≡ drop 8 (take 4096 old)
rest_of_head n old new eight same =
    drop-take 8 4088 new ∙ ap (take 4088) (ap (λ m. drop m new) (sym eight) ∙ same ∙ ap (λ m. drop m old) eight) ∙ sym (drop-take 8 4088 old)

-- the size octets were written
pub size_written : (size : ℕ) (octets old new : List ℕ) → octets ≡ to_be_bytes w64 size → Writes 0 octets old new → take 4096 new ≡ with_size size (take 4096 old)
size_written size octets old new same w =
    let eight : length octets ≡ 8 = ap length same in
    sym (take-append-drop 8 (take 4096 new))
    ∙ ap (λ xs. xs ++ drop 8 (take 4096 new)) (take-take 8 4096 new (omega arith) ∙ ap (λ n. take n new) (sym eight) ∙ w.here ∙ same)
    ∙ ap (λ xs. to_be_bytes w64 size ++ xs) (rest_of_head (0 + length octets) old new (omega (arith, eight)) w.behind)

-- whole metadata was written
pub whole_written : (metadata old new : List ℕ) → 4096 ≤ length metadata → Writes 0 metadata old new → take 4096 new ≡ take 4096 metadata
whole_written metadata old new long w = sym (take-take 4096 (length metadata) new long) ∙ ap (take 4096) w.here

-- behind the size octets all up to the data stays
pub rest_of_start : (n start : ℕ) (old new : List ℕ) → n ≡ 8 → 8 ≤ start → drop n new ≡ drop n old → drop 8 (take start new) ≡ drop 8 (take start old)
rest_of_start n start old new eight long same =
    let split : start ≡ 8 + (start - 8) = omega arith in
    ap (λ m. drop 8 (take m new)) split ∙ drop-take 8 (start - 8) new ∙ ap (take (start - 8)) (ap (λ m. drop m new) (sym eight) ∙ same ∙ ap (λ m. drop m old) eight)
    ∙ sym (drop-take 8 (start - 8) old) ∙ ap (λ m. drop 8 (take m old)) (sym split)

-- the size octets were written, and all up to the data reads so
pub size_written_to : (n size : ℕ) (octets old new : List ℕ) → 8 ≤ n → octets ≡ to_be_bytes w64 size → Writes 0 octets old new → take n new ≡ with_size size (take n old)
size_written_to n size octets old new long same w =
    let eight : length octets ≡ 8 = ap length same in
    sym (take-append-drop 8 (take n new))
    ∙ ap (λ xs. xs ++ drop 8 (take n new)) (take-take 8 n new long ∙ ap (λ m. take m new) (sym eight) ∙ w.here ∙ same)
    ∙ ap (λ xs. to_be_bytes w64 size ++ xs) (rest_of_start (0 + length octets) n old new (omega (arith, eight)) long w.behind)

-- The size octets of a header are written, or torn.
pub size_ok : {K : Type 0} (format : Format K) (origin : Origin) (old new : LowerFile) (o : Opened K) (buffer octets : List ℕ) (pages : List Bool) (len : Bool) (place : MetaPlace) (mark : MetadataMark) → o.meta_place ≡ place → place ≡ Header → mark ≡ Size → IsDataStart Header o.data_start
    → octets ≡ to_be_bytes w64 o.size → Writes 0 octets old.body new.body → new.attribute ≡ old.attribute
    → Stands format origin old o buffer (record { pages = pages; metadata = mark; len = len }) → Stands format origin new o buffer (record { pages = pages; metadata = Clean; len = len })
size_ok format origin old new o buffer octets pages len Header Size here e m start same w attribute s =
    let fits : IsReadAs format old Header Size o = subst (λ p. IsReadAs format old p Size o) here s.metadata in
    let eight : length octets ≡ 8 = ap length same in
    let grows = w.length_is in
    stands_meta format origin old new o buffer (record { pages = pages; metadata = Size; len = len }) Clean (length octets) (omega (arith, start.0)) (leaves_written 0 octets old.body new.body w)
    (subst (λ p. IsReadAs format new p Clean o) (sym here)
    (attribute ∙ fits.0, omega (arith, fits.1), ap (format.reads Header) (size_written o.size octets old.body new.body same w) ∙ fits.2))
    (subst (λ p. KeepsMetadata origin new p Clean o) (sym here) (inl (size_written_to o.data_start o.size octets old.body new.body (omega (arith, start.0)) same w
    ∙ ap (λ xs. to_be_bytes w64 o.size ++ xs) (subst (λ p. KeepsMetadata origin old p Size o) here s.kept)))) s
size_ok format origin old new o buffer octets pages len Header Clean here e m start same w attribute s = absurd cc
size_ok format origin old new o buffer octets pages len Header Whole here e m start same w attribute s = absurd cc
size_ok format origin old new o buffer octets pages len Attribute mark here e m start same w attribute s = absurd cc

pub size_torn : {K : Type 0} (format : Format K) (origin : Origin) (old new : LowerFile) (o : Opened K) (buffer : List ℕ) (pages : List Bool) (len : Bool) (n : ℕ) (place : MetaPlace) (mark : MetadataMark) → o.meta_place ≡ place → place ≡ Header → mark ≡ Size → IsDataStart Header o.data_start
    → n ≡ 8 → Tears 0 n old.body new.body → new.attribute ≡ old.attribute
    → Stands format origin old o buffer (record { pages = pages; metadata = mark; len = len }) → Stands format origin new o buffer (record { pages = pages; metadata = mark; len = len })
size_torn format origin old new o buffer pages len n Header Size here e m start eight t attribute s =
    let fits : IsReadAs format old Header Size o = subst (λ p. IsReadAs format old p Size o) here s.metadata in
    stands_meta format origin old new o buffer (record { pages = pages; metadata = Size; len = len }) Size n (omega (arith, start.0)) (leaves_torn 0 n old.body new.body t)
    (subst (λ p. IsReadAs format new p Size o) (sym here) (
      attribute ∙ fits.0,
      omega (arith, fits.1, t.no_shorter),
      ap (λ xs. format.reads Header (to_be_bytes w64 o.size ++ xs)) (rest_of_head (0 + n) old.body new.body (omega arith) t.behind) ∙ fits.2,
    ))
    (subst (λ p. KeepsMetadata origin new p Size o) (sym here) (rest_of_start (0 + n) o.data_start old.body new.body (omega arith) (omega (arith, start.0)) t.behind
    ∙ subst (λ p. KeepsMetadata origin old p Size o) here s.kept)) s
size_torn format origin old new o buffer pages len n Header Clean here e m start eight t attribute s = absurd cc
size_torn format origin old new o buffer pages len n Header Whole here e m start eight t attribute s = absurd cc
size_torn format origin old new o buffer pages len n Attribute mark here e m start eight t attribute s = absurd cc

-- A new header fills the place before the data.
pub fills : {K : Type 0} (place : MetaPlace) (mark : MetadataMark) (o : Opened K) → place ≡ Header → mark ≡ Whole → IsKept place mark o → length o.metadata ≡ o.data_start
fills Header Whole o h w k = k
fills Header Clean o h w k = absurd cc
fills Header Size o h w k = absurd cc
fills Attribute mark o h w k = absurd cc

-- A new header is written, or torn.
pub whole_ok : {K : Type 0} (format : Format K) (origin : Origin) (old new : LowerFile) (o : Opened K) (buffer : List ℕ) (pages : List Bool) (len : Bool) (place : MetaPlace) (mark : MetadataMark) → o.meta_place ≡ place → place ≡ Header → mark ≡ Whole → IsDataStart Header o.data_start
    → length o.metadata ≡ o.data_start → Writes 0 o.metadata old.body new.body → new.attribute ≡ old.attribute
    → Stands format origin old o buffer (record { pages = pages; metadata = mark; len = len }) → Stands format origin new o buffer (record { pages = pages; metadata = Clean; len = len })
whole_ok format origin old new o buffer pages len Header Whole here e m start fills w attribute s =
    let fits : IsReadAs format old Header Whole o = subst (λ p. IsReadAs format old p Whole o) here s.metadata in
    stands_meta format origin old new o buffer (record { pages = pages; metadata = Whole; len = len }) Clean (length o.metadata) (omega arith) (leaves_written 0 o.metadata old.body new.body w)
    (subst (λ p. IsReadAs format new p Clean o) (sym here)
    (attribute ∙ fits.0, omega (arith, w.length_is), ap (format.reads Header) (whole_written o.metadata old.body new.body (omega (arith, start.0)) w) ∙ fits.2))
    (subst (λ p. KeepsMetadata origin new p Clean o) (sym here) (inl (ap (λ m. take m new.body) (sym fills) ∙ w.here ∙ subst (λ p. KeepsMetadata origin old p Whole o) here s.kept))) s
whole_ok format origin old new o buffer pages len Header Clean here e m start fills w attribute s = absurd cc
whole_ok format origin old new o buffer pages len Header Size here e m start fills w attribute s = absurd cc
whole_ok format origin old new o buffer pages len Attribute mark here e m start fills w attribute s = absurd cc

pub whole_torn : {K : Type 0} (format : Format K) (origin : Origin) (old new : LowerFile) (o : Opened K) (buffer : List ℕ) (pages : List Bool) (len : Bool) (n : ℕ) (place : MetaPlace) (mark : MetadataMark) → o.meta_place ≡ place → place ≡ Header → mark ≡ Whole
    → n ≡ o.data_start → Tears 0 n old.body new.body → new.attribute ≡ old.attribute
    → Stands format origin old o buffer (record { pages = pages; metadata = mark; len = len }) → Stands format origin new o buffer (record { pages = pages; metadata = mark; len = len })
whole_torn format origin old new o buffer pages len n Header Whole here e m fills t attribute s =
    let fits : IsReadAs format old Header Whole o = subst (λ p. IsReadAs format old p Whole o) here s.metadata in
    stands_meta format origin old new o buffer (record { pages = pages; metadata = Whole; len = len }) Whole n (omega arith) (leaves_torn 0 n old.body new.body t)
    (subst (λ p. IsReadAs format new p Whole o) (sym here) (attribute ∙ fits.0, fits.1, fits.2))
    (subst (λ p. KeepsMetadata origin new p Whole o) (sym here) (subst (λ p. KeepsMetadata origin old p Whole o) here s.kept)) s
whole_torn format origin old new o buffer pages len n Header Clean here e m fills t attribute s = absurd cc
whole_torn format origin old new o buffer pages len n Header Size here e m fills t attribute s = absurd cc
whole_torn format origin old new o buffer pages len n Attribute mark here e m fills t attribute s = absurd cc

-- What a resizing that keeps all that is needed leaves. At the length that is needed the mark may go.
pub stands_length : {K : Type 0} (format : Format K) (origin : Origin) (old new : LowerFile) (o : Opened K) (buffer : List ℕ) (marks : Marks) (len : Bool) (n : ℕ) → IsDataStart o.meta_place o.data_start
    → (needed o.data_start o.size ≤ n) ⊎ (n ≡ length old.body) → Resizes n old.body new.body → new.attribute ≡ old.attribute → (len ≡ false → n ≡ needed o.data_start o.size)
    → Stands format origin old o buffer marks → Stands format origin new o buffer (record marks { len = len })
stands_length format origin old new o buffer marks len n start enough r same marked s = record {
  clean = λ k h c.
      let b = s.clean k h c in
      below_stays format origin old new o buffer k (kept (o.data_start + 4096 * k) 4096 (omega (arith, extent_within o.size k h))) b;
  place = s.place;
  metadata = meta_stays format old new o.meta_place marks.metadata o start (kept 0 o.data_start (omega arith)) same s.metadata;
  length_is = λ e. omega (arith, marked e, r.length_is);
  kept = kept_stays origin old new o.meta_place marks.metadata o (λ m. (kept 0 o.data_start (omega arith) (omega (arith, there_of format old o.meta_place marks.metadata o start s.metadata m))).1) s.kept;
  exact = λ e. inl (r.length_is ∙ marked e);
}
  where
    kept : (a m : ℕ) → a + m ≤ needed o.data_start o.size → Stays a m old.body new.body
    kept a m within there = elim enough [
      | inl long ↦ stays_resized n a m old.body new.body r (omega arith) there
      | inr same_len ↦ stays_resized n a m old.body new.body r (omega arith) there
    ]

pub told_on : {a b : Bool} → a ≡ true → b ≡ a → b ≡ true
told_on told same = same ∙ told

-- calls, one after another
pub calls_on : (failed : Bool) (a b c : HeldBodies) → AreCalls false a b → AreCalls failed b c → AreCalls failed a c
calls_on failed a b c g h = record {
  later = omega (arith, g.later, h.later);
  rose = λ e. subst (λ n. Rose n c.faults) (g.stays refl) (h.rose e);
  stays = λ e. h.stays e ∙ g.stays refl;
  told = h.told ∙ g.told;
  body_room = λ n. omega (arith, g.body_room n, h.body_room n);
  attribute_room = λ n. omega (arith, g.attribute_room n, h.attribute_room n);
}

pub reads_on : (failed : Bool) (a b c : HeldBodies) → AreReads false a b → AreReads failed b c → AreReads failed a c
reads_on failed a b c g h = record {
  calls = calls_on failed a b c g.calls h.calls;
  keeps = λ told n. h.keeps (told_on told g.calls.told) n ∙ g.keeps told n;
}

pub writes_on : (failed : Bool) (node : ℕ) (a b c : HeldBodies) → AreWrites false node a b → AreWrites failed node b c → AreWrites failed node a c
writes_on failed node a b c g h = record {
  calls = calls_on failed a b c g.calls h.calls;
  others = record {
    others = λ told n differs. h.others.others (told_on told g.calls.told) n differs ∙ g.others.others told n differs;
    octets = λ told octets. h.others.octets (told_on told g.calls.told) (g.others.octets told octets);
  };
}

-- the dirty pages that are left
pub count_dirty : (dirty : List Bool) (k : ℕ) → k < length dirty → is_dirty dirty k ≡ true → dirty_count (drop k dirty) ≡ dirty_count (drop (k + 1) dirty) + 1
count_dirty dirty k within marked =
    at_drop_more (count_by (λ d. d)) dirty k false within ∙ sum_by-cons (λ d. cond d 1 0) (get_or dirty k false) (drop (k + 1) dirty)
    ∙ ap (λ d. cond d 1 0 + dirty_count (drop (k + 1) dirty)) marked ∙ add_comm 1 (dirty_count (drop (k + 1) dirty))

pub count_clean : (dirty : List Bool) (k : ℕ) → k < length dirty → is_dirty dirty k ≡ false → dirty_count (drop k dirty) ≡ dirty_count (drop (k + 1) dirty)
count_clean dirty k within marked =
    at_drop_more (count_by (λ d. d)) dirty k false within ∙ sum_by-cons (λ d. cond d 1 0) (get_or dirty k false) (drop (k + 1) dirty)
    ∙ ap (λ d. cond d 1 0 + dirty_count (drop (k + 1) dirty)) marked ∙ zero-add (dirty_count (drop (k + 1) dirty))

-- what a page costs
pub cost_more : (dirty : List Bool) (k before now cost : ℕ) → k < length dirty → cost + 256 * dirty_count (drop k dirty) ≤ before → (is_dirty dirty k ≡ false → now ≤ cost) → now ≤ cost + 256
    → now + 256 * dirty_count (drop (k + 1) dirty) ≤ before
cost_more dirty k before now cost within spent quiet most = of (is_dirty dirty k) refl
  where
    of : (b : Bool) → is_dirty dirty k ≡ b → now + 256 * dirty_count (drop (k + 1) dirty) ≤ before
    of true e = omega (arith, spent, most, count_dirty dirty k within e)
    of false e = omega (arith, spent, quiet e, count_clean dirty k within e)

pub clean_below : (old new : List Bool) (k : ℕ) → ((j : ℕ) → j < k → is_dirty old j ≡ false) → is_dirty new k ≡ false → ((j : ℕ) → j ≢ k → is_dirty new j ≡ is_dirty old j) → (j : ℕ) → j < k + 1 → is_dirty new j ≡ false
clean_below old new k clean here same j h = elim (cases_eq j k) [
  | inl e ↦ ap (is_dirty new) e ∙ here
  | inr n ↦ same j n ∙ clean j (omega arith)
]

-- one after another
pub then_on : {K : Type 0} (format : Format K) (origin : Origin) (node : ℕ) (a b c : HeldBodies) (o : Opened K) (xs : List ℕ) (m m' m'' : Marks) → StandsOn format origin node a b o xs m m' → b.told ≡ a.told → StandsOn format origin node b c o xs m' m''
    → StandsOn format origin node a c o xs m m''
then_on format origin node a b c o xs m m' m'' first told next is_told s = next (told_on is_told told) (first is_told s)
