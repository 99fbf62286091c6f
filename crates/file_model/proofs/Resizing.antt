-- A change of the size of an open file, page by page.
use Rattle.std.proofs.Common.{ℕ, ◌≡◌, ◌+◌, ◌-◌, ◌*◌, ◌/◌, ◌<◌, ◌≤◌, ◌⊎◌, inl, inr, min, Bool, true, false, cond, List, ◌++◌, length, get_or, take, drop, replicate, Option, Some, None, Ok, refl, sym, ◌∙◌, ap, arith}
use Rattle.std.proofs.lemmas.Bool.{cases_lt, false≢true, le-ltb, lt-ltb}
use Rattle.std.proofs.lemmas.List.{get_or-take, length-take, length-drop, length-append, length-replicate, get_or_past, ext_get_or, get_or_append_left, get_or-append_right, get_or-replicate, drop_at, drop-take, drop_all, append-nil, take_all, take-append-le}
use Rattle.std.specs.Int.{to_be_bytes, w64}
use Rattle.lower_model.specs.declared.meta_place.MetaPlace.{MetaPlace}
use Rattle.lower_model.specs.declared.meta_place.MetaPlace.TheVariants.{Header, Attribute}
use Rattle.packet_model.specs.declared.layout.TheConstants.{MAX_SIZE}
use Rattle.packet_model.specs.Metadata.{extent_count}
use Rattle.body_model.specs.declared.opened.Opened.{Opened}
use Rattle.body_model.specs.LowerFile.{LowerFile}
use Rattle.body_model.specs.Bodies.{HeldBodies}
use Rattle.body_model.specs.Format.{Format, IsFormat, needed, plain_at, with_size}
use Rattle.file_model.specs.declared.mark.MetadataMark.{MetadataMark}
use Rattle.file_model.specs.declared.mark.MetadataMark.TheVariants.{Clean, Size, Whole}
use Rattle.file_model.specs.ByteFile.{resized, written}
use Rattle.file_model.specs.LaidOut.{IsReadAs, KeepsMetadata, LaidOut, Origin, Working, attribute_needed, cleared, page_of, page_or}
use Rattle.file_model.specs.Resizing.{ResizesExtents, mark_size, sized, sized_opened}
use Rattle.file_model.proofs.Cleared.{cleared_whole, get_or-cleared, get_or-cleared_behind, length-cleared}
use Rattle.file_model.proofs.Extents.{get_or-page_of, length-page_of, length_zeros, padded, page_by}
use Rattle.file_model.proofs.ByExtent.{IsLaidAt, is_lower, laid_as, laid_at, laid_by, lower_page, not_dirty, page_or_same}

-- ---- metadata that takes a size more than once

with_size_again : (size size' : ℕ) (metadata : List ℕ) → with_size size (with_size size' metadata) ≡ with_size size metadata
with_size_again size size' metadata = ap (λ xs. to_be_bytes w64 size ++ xs) (drop_at (to_be_bytes w64 size') (drop 8 metadata) 8 refl)

pub sized_is : (size : ℕ) (metadata : List ℕ) → 8 ≤ length metadata → sized size metadata ≡ with_size size metadata
sized_is size metadata some = ap (λ b. cond b metadata (with_size size metadata)) (le-ltb (length metadata) 8 some)

pub length-sized : (size : ℕ) (metadata : List ℕ) → length (sized size metadata) ≡ length metadata
length-sized size metadata = elim (cases_lt (length metadata) 8) [
  | inl short ↦ ap (λ b. length (cond b metadata (with_size size metadata))) (lt-ltb (length metadata) 8 short)
  | inr some ↦ ap length (sized_is size metadata some) ∙ with_size_long some
]
  where
    eight : length (to_be_bytes w64 size) ≡ 8
    eight = refl

    with_size_long : 8 ≤ length metadata → length (with_size size metadata) ≡ length metadata
    with_size_long some = omega (arith, length-append (to_be_bytes w64 size) (drop 8 metadata), length-drop 8 metadata, eight)

pub head_with_size : (size : ℕ) (metadata : List ℕ) → with_size size (take 4096 metadata) ≡ take 4096 (with_size size metadata)
head_with_size size metadata =
    ap (λ xs. to_be_bytes w64 size ++ xs) (drop-take 8 4088 metadata)

-- Metadata that fits goes on fitting with another size and its mark.
pub meta_resized : {K : Type 0} (format : Format K) (file : LowerFile) (place : MetaPlace) (mark : MetadataMark) (o : Opened K) (size : ℕ) → IsFormat format → size ≤ 67108864
    → IsReadAs format file place mark o → IsReadAs format file place (mark_size place mark) (sized_opened size o)
meta_resized format file Header Clean o size lawful most m = (m.0, m.1, lawful.resized Header (take 4096 file.body) _ size m.2 most)
meta_resized format file Header Size o size lawful most m =
    (m.0, m.1, ap (format.reads Header) (sym (with_size_again size o.size (take 4096 file.body))) ∙ lawful.resized Header (with_size o.size (take 4096 file.body)) _ size m.2 most)
meta_resized format file Header Whole o size lawful most m =
    let some = (lawful.read Header (take 4096 o.metadata) _ m.2).enough in (
      m.0,
      length-sized size o.metadata ∙ m.1,
      ap (λ xs. format.reads Header (take 4096 xs)) (sized_is size o.metadata (omega (arith, length-take 4096 o.metadata)))
          ∙ ap (format.reads Header) (sym (head_with_size size o.metadata)) ∙ lawful.resized Header (take 4096 o.metadata) _ size m.2 most,
    )
meta_resized format file Attribute Clean o size lawful most m = attribute_resized format o size lawful most m.1
  where
    attribute_resized : {K : Type 0} (format : Format K) (o : Opened K) (size : ℕ) → IsFormat format → size ≤ 67108864 → format.reads Attribute o.metadata ≡ Ok o → format.reads Attribute (sized size o.metadata) ≡ Ok (sized_opened size o)
    attribute_resized format o size lawful most reads =
        let same = sized_is size o.metadata (omega (arith, (lawful.read Attribute o.metadata o reads).enough)) in
        ap (format.reads Attribute) same ∙ lawful.resized Attribute o.metadata o size reads most ∙ ap (λ xs. Ok (record o { size = size; metadata = xs })) (sym same)
meta_resized format file Attribute Size o size lawful most m = absurd m
meta_resized format file Attribute Whole o size lawful most m =
    let same = sized_is size o.metadata (omega (arith, (lawful.read Attribute o.metadata o m).enough)) in
    ap (format.reads Attribute) same ∙ lawful.resized Attribute o.metadata o size m most ∙ ap (λ xs. Ok (record o { size = size; metadata = xs })) (sym same)

-- Of kept metadata nothing but the size changes.
sized_kept : (size size' : ℕ) (metadata origin : List ℕ) → 26 ≤ length metadata → metadata ≡ with_size size' origin → sized size metadata ≡ with_size size origin
sized_kept size size' metadata origin long same = sized_is size metadata (omega arith) ∙ ap (with_size size) same ∙ with_size_again size size' origin

sized_first : (size : ℕ) (metadata origin : List ℕ) → 26 ≤ length metadata → metadata ≡ origin → sized size metadata ≡ with_size size origin
sized_first size metadata origin long same = sized_is size metadata (omega arith) ∙ ap (with_size size) same

pub meta_kept : {K : Type 0} (format : Format K) (origin : Origin) (file : LowerFile) (place : MetaPlace) (mark : MetadataMark) (o : Opened K) (size : ℕ) → IsFormat format
    → IsReadAs format file place mark o → KeepsMetadata origin file place mark o → KeepsMetadata origin file place (mark_size place mark) (sized_opened size o)
meta_kept format origin file Header Clean o size lawful m (inl e) = ap (drop 8) e ∙ drop_at (to_be_bytes w64 o.size) (drop 8 origin.metadata) 8 refl
meta_kept format origin file Header Clean o size lawful m (inr e) = ap (drop 8) e.1
meta_kept format origin file Header Size o size lawful m k = k
meta_kept format origin file Header Whole o size lawful m k = sized_kept size o.size o.metadata origin.metadata (omega (arith, (lawful.read Header (take 4096 o.metadata) _ m.2).enough, length-take 4096 o.metadata)) k
meta_kept format origin file Attribute Clean o size lawful m (inl e) = sized_kept size o.size o.metadata origin.metadata (lawful.read Attribute o.metadata o m.1).enough e
meta_kept format origin file Attribute Clean o size lawful m (inr e) = sized_first size o.metadata origin.metadata (lawful.read Attribute o.metadata o m.1).enough e.1
meta_kept format origin file Attribute Size o size lawful m k = absurd m
meta_kept format origin file Attribute Whole o size lawful m k = sized_kept size o.size o.metadata origin.metadata (lawful.read Attribute o.metadata o m).enough k

-- ---- octets

-- what is written up to the new end doesn't see that the gap was filled before
pub written_resized : (at end : ℕ) (octets old : List ℕ) → at + length octets ≡ end → length old ≤ end → written at octets (resized end old) ≡ written at octets old
written_resized at end octets old here fits =
    let len : length (resized end old) ≡ end = omega (arith, length-append (take end old) (replicate (end - length old) 0), length-take end old, length-replicate {A = ℕ} (end - length old) 0) in
    let gap : at - length (resized end old) ≡ 0 = omega arith in
    ap (λ n. take at (resized end old) ++ replicate n 0 ++ octets ++ drop (at + length octets) (resized end old)) gap
    ∙ ap (λ xs. xs ++ octets ++ drop (at + length octets) (resized end old)) (append-nil (take at (resized end old)))
    ∙ ap (λ xs. take at (resized end old) ++ octets ++ xs) (drop_all (at + length octets) (resized end old) (omega arith) ∙ sym (drop_all (at + length octets) old (omega arith)))
    ∙ ap (λ xs. xs ++ octets ++ drop (at + length octets) old) (front (cases_lt at (length old)))
  where
    front : (at < length old) ⊎ (length old ≤ at) → take at (resized end old) ≡ take at old ++ replicate (at - length old) 0
    front (inl inside) =
        let none : at - length old ≡ 0 = omega arith in
        ap (λ xs. take at (xs ++ replicate (end - length old) 0)) (take_all end old fits) ∙ take-append-le at old (replicate (end - length old) 0) (omega arith)
        ∙ sym (append-nil (take at old)) ∙ ap (λ n. take at old ++ replicate n 0) (sym none)
    front (inr past) =
        ext_get_or 0 (take at (resized end old)) (take at old ++ replicate (at - length old) 0)
        (omega (
          arith,
          length-take at (resized end old),
          length-append (take end old) (replicate (end - length old) 0),
          length-take end old,
          length-replicate {A = ℕ} (end - length old) 0,
          length-append (take at old) (replicate (at - length old) 0),
          length-take at old,
          length-replicate {A = ℕ} (at - length old) 0,
        ))
        (λ i h. octet i (omega (arith, length-take at (resized end old))) (cases_lt i (length old)))
      where
        octet : (i : ℕ) → i < at → (i < length old) ⊎ (length old ≤ i) → get_or (take at (resized end old)) i 0 ≡ get_or (take at old ++ replicate (at - length old) 0) i 0
        octet i h (inl low) =
            get_or-take at (resized end old) i 0 h ∙ get_or_append_left (take end old) (replicate (end - length old) 0) 0 i (omega (arith, length-take end old)) ∙ get_or-take end old i 0 (omega arith)
            ∙ sym (get_or-take at old i 0 h) ∙ sym (get_or_append_left (take at old) (replicate (at - length old) 0) 0 i (omega (arith, length-take at old)))
        octet i h (inr high) =
            get_or-take at (resized end old) i 0 h
            ∙ get_or-append_right (take end old) (replicate (end - length old) 0) (length old) i 0 (omega (arith, length-take end old)) high ∙ get_or-replicate (end - length old) (i - length old) 0 0 (omega arith)
            ∙ sym (get_or-append_right (take at old) (replicate (at - length old) 0) (length old) i 0 (omega (arith, length-take at old)) high ∙ get_or-replicate (at - length old) (i - length old) 0 0 (omega arith))

resized_low : (size : ℕ) (old : List ℕ) (j : ℕ) → j < min (length old) size → get_or (resized size old) j 0 ≡ get_or old j 0
resized_low size old j h = padded (take size old) (size - length old) j ∙ get_or-take size old j 0 (omega arith)

resized_high : (size : ℕ) (old : List ℕ) (j : ℕ) → min (length old) size ≤ j → get_or (resized size old) j 0 ≡ 0
resized_high size old j h = padded (take size old) (size - length old) j ∙ get_or_past (take size old) j 0 (omega (arith, length-take size old))

pub length-resized : (size : ℕ) (old : List ℕ) → length (resized size old) ≡ size
length-resized size old = omega (arith, length-append (take size old) (replicate (size - length old) 0), length-take size old, length_zeros (size - length old))

attribute_sized : {K : Type 0} (place : MetaPlace) (o : Opened K) (size room : ℕ) → attribute_needed place o ≤ room → attribute_needed place (sized_opened size o) ≤ room
attribute_sized Header o size room h = h
attribute_sized Attribute o size room h = omega (arith, length-sized size o.metadata)

-- ---- extents

module _ {K : Type 0} (format : Format K) (origin : Origin) (body : List ℕ) (o : Opened K) (size : ℕ) (octets : List ℕ) (k : ℕ) where
  -- one that lies below both sizes
  low_at : o.size ≡ length octets → 4096 * k + 4096 ≤ min o.size size → (page : Option (List ℕ)) (d u : Bool) → IsLaidAt format origin body o octets k page d u
      → IsLaidAt format origin body (sized_opened size o) (resized size octets) k page d u
  low_at len within page d u a = record {
    extent = λ h. same ∙ a.extent (omega arith) ∙ page_or_same page (lower_page format body o k u) (lower_page format body (sized_opened size o) k u)
        (λ none. lower u refl (not_dirty format origin body o octets k page d u none a));
    clean = λ p h c e. a.clean p (omega arith) c e ∙ lower u refl c;
    dirty = λ e. (omega arith, (a.dirty e).1);
    there = λ h c is. ((a.there (omega arith) c is).0, inl (sym (same ∙ below c is ∙ cleared_whole (o.size - 4096 * k) plain (omega (arith, long c is)))));
  }
    where
      plain : List ℕ
      plain = plain_at format o.key o.data_start body k

      same : page_of (resized size octets) k ≡ page_of octets k
      same = page_by (resized size octets) k (page_of octets k) (length-page_of octets k) (λ i b. resized_low size octets (4096 * k + i) (omega arith) ∙ sym (get_or-page_of octets k i b))

      below : d ≡ false → u ≡ false → page_of octets k ≡ cleared (o.size - 4096 * k) plain
      below c is = is_lower format origin body o octets k page d u a (omega arith) c ∙ ap (lower_page format body o k) is

      long : d ≡ false → u ≡ false → length plain ≡ 4096
      long c is = sym (length-cleared (o.size - 4096 * k) plain) ∙ ap length (sym (below c is)) ∙ length-page_of octets k

      lower : (b : Bool) → u ≡ b → d ≡ false → lower_page format body o k u ≡ lower_page format body (sized_opened size o) k u
      lower true is c = ap (lower_page format body o k) is ∙ sym (ap (lower_page format body (sized_opened size o) k) is)
      lower false is c =
          ap (lower_page format body o k) is ∙ cleared_whole (o.size - 4096 * k) plain (omega (arith, long c is))
          ∙ sym (cleared_whole (size - 4096 * k) plain (omega (arith, long c is))) ∙ sym (ap (lower_page format body (sized_opened size o) k) is)

  -- the one in which the smaller size ends
  edge_at : o.size ≡ length octets → 4096 * k < min o.size size → (p : List ℕ) (page : Option (List ℕ)) (d u u' : Bool) → page ≡ Some p → IsLaidAt format origin body o octets k page d u
      → IsLaidAt format origin body (sized_opened size o) (resized size octets) k (Some (cleared (min o.size size - 4096 * k) p)) true u'
  edge_at len inside p page d u u' is a = record {
    extent = λ h. page_by (resized size octets) k (cleared n p) long (λ i b. elim (cases_lt i n) [
      | inl low ↦ resized_low size octets (4096 * k + i) (omega arith) ∙ sym (get_or-page_of octets k i b) ∙ ap (λ q. get_or q i 0) old ∙ sym (get_or-cleared n p i low)
      | inr high ↦ resized_high size octets (4096 * k + i) (omega arith) ∙ sym (get_or-cleared_behind n p i high)
    ]);
    clean = λ q h c e. absurd (false≢true (sym c));
    dirty = λ e. (omega arith, long);
    there = λ h c e. absurd (false≢true (sym c));
  }
    where
      n : ℕ
      n = min o.size size - 4096 * k

      old : page_of octets k ≡ p
      old = a.extent (omega arith) ∙ ap (λ q. page_or q (lower_page format body o k u)) is

      long : length (cleared n p) ≡ 4096
      long = length-cleared n p ∙ ap length (sym old) ∙ length-page_of octets k

  -- one that lies behind
  behind_at : o.size ≡ length octets → min o.size size ≤ 4096 * k → IsLaidAt format origin body (sized_opened size o) (resized size octets) k None false true
  behind_at len behind = record {
    extent = λ h. page_by (resized size octets) k (replicate 4096 0) (length_zeros 4096) (λ i b. resized_high size octets (4096 * k + i) (omega arith) ∙ sym (get_or-replicate 4096 i 0 0 b));
    clean = λ p h c e. absurd cc;
    dirty = λ e. absurd (false≢true e);
    there = λ h c e. absurd (false≢true (sym e));
  }

  -- one past the new size
  past_at : extent_count size ≤ k → (page : Option (List ℕ)) (u : Bool) → IsLaidAt format origin body (sized_opened size o) (resized size octets) k page false u
  past_at past page u = record {
    extent = λ h. absurd (omega arith);
    clean = λ p h c e. absurd (omega arith);
    dirty = λ e. absurd (false≢true e);
    there = λ h c e. absurd (omega arith);
  }

module _ {K : Type 0} (format : Format K) (origin : Origin) (held : HeldBodies) (node size : ℕ) (w v : Working K) (octets : List ℕ) where
  -- A change of size resizes the octets.
  pub laid_resized : IsFormat format → size ≤ MAX_SIZE → needed w.opened.data_start size ≤ held.body_room node → LaidOut format origin held node w octets → ResizesExtents size w v → LaidOut format origin held node v (resized size octets)
  laid_resized lawful most room laid r =
      laid_by format origin held node v (resized size octets) (sized_opened size w.opened) (mark_size w.opened.meta_place w.metadata_mark) true r.opened r.metadata_mark r.length_mark (record {
        place = laid.place;
        size = sym (length-resized size octets);
        most = omega (arith, length-resized size octets);
        metadata = meta_resized format (held.files node) w.opened.meta_place w.metadata_mark w.opened size lawful most laid.metadata;
        kept = meta_kept format origin (held.files node) w.opened.meta_place w.metadata_mark w.opened size lawful laid.metadata laid.kept;
        length_is = λ e. absurd (false≢true (sym e));
        exact = λ e. absurd (false≢true (sym e));
        body_room = room;
        attribute_room = attribute_sized w.opened.meta_place w.opened size (held.attribute_room node) laid.attribute_room;
      }) extent
    where
      body : List ℕ
      body = (held.files node).body

      both : ℕ
      both = min w.opened.size size

      extent : (k : ℕ) → IsLaidAt format origin (held.files node).body (sized_opened size w.opened) (resized size octets) k (v.page k) (v.is_dirty k) (v.is_unwritten k)
      extent k = elim (cases_lt k (both / 4096)) [
        | inl low ↦
            let l = r.low k low in
            laid_as format origin body (sized_opened size w.opened) (resized size octets) k (w.page k) (v.page k) (w.is_dirty k) (v.is_dirty k) (w.is_unwritten k) (v.is_unwritten k) l.0 l.1 l.2
            (low_at format origin body w.opened size octets k laid.size (omega arith) (w.page k) (w.is_dirty k) (w.is_unwritten k) (laid_at format origin held node w octets laid k))
        | inr high ↦ elim (cases_lt (4096 * k) both) [
          | inl inside ↦
              let g = r.edge k (omega arith) inside in
              laid_as format origin body (sized_opened size w.opened) (resized size octets) k (Some (cleared (both - 4096 * k) g.0)) (v.page k) true (v.is_dirty k) (v.is_unwritten k) (v.is_unwritten k) g.2 g.3 refl
              (edge_at format origin body w.opened size octets k laid.size inside g.0 (w.page k) (w.is_dirty k) (w.is_unwritten k) (v.is_unwritten k) g.1 (laid_at format origin held node w octets laid k))
          | inr behind ↦ elim (cases_lt k (extent_count size)) [
            | inl h ↦
                let b = r.behind k behind h in
                laid_as format origin body (sized_opened size w.opened) (resized size octets) k None (v.page k) false (v.is_dirty k) true (v.is_unwritten k) b.0 b.1 b.2 (behind_at format origin body w.opened size octets k laid.size behind)
            | inr past ↦
                laid_as format origin body (sized_opened size w.opened) (resized size octets) k (v.page k) (v.page k) false (v.is_dirty k) (v.is_unwritten k) (v.is_unwritten k) refl (r.past k past) refl
                (past_at format origin body w.opened size octets k past (v.page k) (v.is_unwritten k))
          ]
        ]
      ]
