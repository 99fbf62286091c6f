-- A file that was written out and is opened again stands as it did by what its first opening found.
use Rattle.std.proofs.Common.{ℕ, ◌≡◌, ◌+◌, ◌-◌, ◌*◌, ◌<◌, ◌≤◌, ◌⊎◌, inl, inr, List, [], Option, Some, None, Result, Ok, false, refl, sym, ◌∙◌, ap, subst, arith}
use Rattle.std.specs.Prelude.{slice_index}
use Rattle.lower_model.specs.declared.meta_place.MetaPlace.{MetaPlace}
use Rattle.lower_model.specs.declared.meta_place.MetaPlace.TheVariants.{Header, Attribute}
use Rattle.packet_model.specs.declared.cause.BadCause.{BadCause}
use Rattle.packet_model.specs.Metadata.{extent_count}
use Rattle.body_model.specs.declared.opened.Opened.{Opened}
use Rattle.body_model.specs.LowerFile.{LowerFile}
use Rattle.body_model.specs.Bodies.{HeldBodies}
use Rattle.body_model.specs.Format.{Format, extent_at, plain_at}
use Rattle.file_model.specs.declared.mark.MetadataMark.TheVariants.{Clean}
use Rattle.file_model.specs.LaidOut.{IsExact, IsExactLength, IsReadAs, IsUnmarked, IsWrittenOut, KeepsMetadata, LaidOut, Origin, Working, below, origin_of, page_of, page_or}
use Rattle.file_model.proofs.Cleared.{cleared_is}

-- What two readings of one file agree in.
record AreAlike {K : Type 0} (a b : Opened K) : Type 0 where
  key : a.key ≡ b.key
  size : a.size ≡ b.size
  start : a.data_start ≡ b.data_start
  place : a.meta_place ≡ b.meta_place

module _ {K : Type 0} (format : Format K) (origin : Origin) (file : LowerFile) (a b : Opened K) where
  ok_same : (x y : Opened K) → (let read : Result (Opened K) BadCause = Ok x in read ≡ Ok y) → x ≡ y
  ok_same x y e = cc

  some_same : (x y : List ℕ) → Some x ≡ Some y → x ≡ y
  some_same x y e = cc

  none_some : {X : Type 0} → (read : Option (List ℕ)) (x : List ℕ) → read ≡ None → read ≡ Some x → X
  none_some read x e f = absurd cc

  -- one file is read in one way
  alike_by : (p q : MetaPlace) → IsReadAs format file p Clean a → IsReadAs format file q Clean b → (p ≡ q) × AreAlike a b × (p ≡ Attribute → a.metadata ≡ b.metadata)
  alike_by Header Header r s =
      let e : record a { metadata = [] } ≡ record b { metadata = [] } = ok_same _ _ (sym r.2 ∙ s.2) in
      (refl, record { key = ap (λ (o : Opened K). o.key) e; size = ap (λ (o : Opened K). o.size) e; start = ap (λ (o : Opened K). o.data_start) e; place = ap (λ (o : Opened K). o.meta_place) e }, λ no. absurd cc)
  alike_by Header Attribute r s = none_some file.attribute b.metadata r.0 s.0
  alike_by Attribute Header r s = none_some file.attribute a.metadata s.0 r.0
  alike_by Attribute Attribute r s =
      let m : a.metadata ≡ b.metadata = some_same _ _ (sym r.0 ∙ s.0) in
      let e : a ≡ b = ok_same _ _ (sym r.1 ∙ ap (format.reads Attribute) m ∙ s.1) in
      (refl, record { key = ap (λ (o : Opened K). o.key) e; size = ap (λ (o : Opened K). o.size) e; start = ap (λ (o : Opened K). o.data_start) e; place = ap (λ (o : Opened K). o.meta_place) e }, λ yes. m)

  kept_alike : (p : MetaPlace) → a.size ≡ b.size → a.data_start ≡ b.data_start → (p ≡ Attribute → a.metadata ≡ b.metadata) → KeepsMetadata origin file p Clean a → KeepsMetadata origin file p Clean b
  kept_alike Header size start meta kept = rw (sym size, sym start) kept
  kept_alike Attribute size start meta kept = rw (sym size, sym (meta refl)) kept

-- what an open file has at an extent that isn't marked is what lies below
page_below : (page : Option (List ℕ)) (octets lower : List ℕ) → octets ≡ page_or page lower → ((p : List ℕ) → page ≡ Some p → p ≡ lower) → octets ≡ lower
page_below (Some p) octets lower is clean = is ∙ clean p refl
page_below None octets lower is clean = is

-- A file that was written out, and has nothing marked since it was opened again, stands by what its first opening found.
pub reopened : {K : Type 0} (format : Format K) (origin : Origin) (held : HeldBodies) (node : ℕ) (o : Opened K) (w : Working K) (octets : List ℕ)
    → IsWrittenOut format origin (held.files node) o → IsUnmarked w → LaidOut format (origin_of (held.files node) w) held node w octets → LaidOut format origin held node w octets
reopened {K} format origin held node o w octets out unmarked laid = record {
  place = sym alike.place ∙ out.place;
  size = laid.size;
  most = laid.most;
  extents = laid.extents;
  clean = laid.clean;
  dirty = laid.dirty;
  there = λ n within clean written. ((laid.there n within clean written).0, exact_page n within clean written (out.past n (subst (λ (size : ℕ). n < extent_count size) (sym alike.size) within)));
  metadata = laid.metadata;
  kept = subst (λ m. KeepsMetadata origin file w.opened.meta_place m w.opened) (sym unmarked.metadata) (subst (λ (p : MetaPlace). KeepsMetadata origin file p Clean w.opened) same.0
      (kept_alike format origin file o w.opened o.meta_place alike.size alike.start same.2 out.kept));
  length_is = laid.length_is;
  exact = λ no_mark. exact_length out.exact;
  body_room = laid.body_room;
  attribute_room = laid.attribute_room;
}
  where
    file : LowerFile
    file = held.files node

    same : (o.meta_place ≡ w.opened.meta_place) × AreAlike o w.opened × (o.meta_place ≡ Attribute → o.metadata ≡ w.opened.metadata)
    same = alike_by format origin file o w.opened o.meta_place w.opened.meta_place out.metadata (subst (λ m. IsReadAs format file w.opened.meta_place m w.opened) unmarked.metadata laid.metadata)

    alike : AreAlike o w.opened
    alike = same.1

    exact_length : IsExactLength origin file.body o → IsExactLength origin file.body w.opened
    exact_length e = rw (sym alike.start, sym alike.size) e

    exact_page : (n : ℕ) → n < extent_count w.opened.size → w.is_dirty n ≡ false → w.is_unwritten n ≡ false
        → ((i : ℕ) → o.size ≤ 4096 * n + i → slice_index (plain_at format o.key o.data_start file.body n) i ≡ 0) ⊎ ((o.size ≡ origin.size) × (extent_at o.data_start file.body n ≡ extent_at o.data_start origin.body n))
        → IsExact format origin file.body w.opened n (page_of octets n)
    exact_page n within clean written (inl zeros) =
        let plain : List ℕ = plain_at format w.opened.key w.opened.data_start file.body n in
        let zeros_here : (i : ℕ) → w.opened.size - 4096 * n ≤ i → slice_index plain i ≡ 0 = λ i past.
        subst (λ (k : K). slice_index (plain_at format k w.opened.data_start file.body n) i ≡ 0) alike.key
        (subst (λ (start : ℕ). slice_index (plain_at format o.key start file.body n) i ≡ 0) alike.start (zeros i (omega (arith, alike.size)))) in
        let lower : below format file.body w n ≡ plain = rw written (cleared_is (w.opened.size - 4096 * n) plain zeros_here) in
        inl (sym (page_below (w.page n) (page_of octets n) (below format file.body w n) (laid.extents n within) (λ p is. laid.clean n p within clean is) ∙ lower))
    exact_page n within clean written (inr found) =
        inr (sym alike.size ∙ found.0, subst (λ (start : ℕ). extent_at start file.body n ≡ extent_at start origin.body n) alike.start found.1)
