-- Extents of an open file that are written to its lower file.
use Rattle.std.proofs.Common.{ℕ, ◌≡◌, ◌≢◌, ◌+◌, ◌-◌, ◌*◌, ◌<◌, ◌≤◌, ◌⊎◌, inl, inr, Bool, true, false, List, length, Option, Some, None, refl, sym, ◌∙◌, ap, subst, arith}
use Rattle.std.proofs.lemmas.Bool.{cases_eq, cases_lt, false≢true}
use Rattle.packet_model.specs.Metadata.{extent_count}
use Rattle.body_model.specs.declared.opened.Opened.{Opened}
use Rattle.body_model.specs.LowerFile.{LowerFile}
use Rattle.body_model.specs.Bodies.{HeldBodies}
use Rattle.body_model.specs.Format.{Format, IsDataStart, IsFormat, extent_at, plain_at}
use Rattle.file_model.specs.declared.mark.MetadataMark.{MetadataMark}
use Rattle.file_model.specs.LaidOut.{LaidOut, Origin, Working, cleared, page_of, page_or}
use Rattle.file_model.specs.Paging.{KeepsRooms, TearsExtent, UnmarksExtent, WritesExtent}
use Rattle.file_model.proofs.Cleared.{cleared_is}
use Rattle.file_model.proofs.Extents.{Leaves, Stays, extent_is, extent_within, extent_written, leaves_torn, leaves_written, page_of_past, stays_behind, stays_below}
use Rattle.file_model.proofs.Staying.{exact_stays, extent_stays, kept_stays, meta_stays, start_of, there_of}
use Rattle.file_model.proofs.ByExtent.{IsLaidAt, IsLaidBeside, laid_as, laid_at, laid_beside, laid_by, lower_page, not_dirty, page_or_same}
use Rattle.file_model.proofs.Paging.{laid_changed}

module _ {K : Type 0} (format : Format K) (origin : Origin) (old new : List ℕ) (o : Opened K) (octets : List ℕ) where
  lower_same : (n : ℕ) (u : Bool) → (u ≡ false → extent_at o.data_start new n ≡ extent_at o.data_start old n) → lower_page format old o n u ≡ lower_page format new o n u
  lower_same n true same = refl
  lower_same n false same = ap (λ x. cleared (o.size - 4096 * n) (format.plain o.key n x)) (sym (same refl))

  -- an extent that is there, and stays
  stays_at : (n : ℕ) (page : Option (List ℕ)) (d u : Bool) → Stays (o.data_start + 4096 * n) 4096 old new → IsLaidAt format origin old o octets n page d u → IsLaidAt format origin new o octets n page d u
  stays_at n page d u stays a = record {
    extent = λ h. a.extent h ∙ page_or_same page (lower_page format old o n u) (lower_page format new o n u) (λ none. lower_same n u (same h (not_dirty format origin old o octets n page d u none a)));
    clean = λ p h c e. a.clean p h c e ∙ lower_same n u (same h c);
    dirty = a.dirty;
    there = λ h c is. ((stays (a.there h c is).0).0, extent_stays format origin old new o n (page_of octets n) (same h c is) (a.there h c is).1);
  }
    where
      same : n < extent_count o.size → d ≡ false → u ≡ false → extent_at o.data_start new n ≡ extent_at o.data_start old n
      same h c is = extent_is o.data_start n new ∙ (stays (a.there h c is).0).1 ∙ sym (extent_is o.data_start n old)

  others_at : (n m : ℕ) (page : Option (List ℕ)) (d u : Bool) → m ≢ n → Leaves (o.data_start + 4096 * n) 4096 old new → IsLaidAt format origin old o octets m page d u → IsLaidAt format origin new o octets m page d u
  others_at n m page d u differs leaves a = elim (cases_lt m n) [
    | inl low ↦ stays_at m page d u (stays_below (o.data_start + 4096 * n) 4096 (o.data_start + 4096 * m) 4096 old new leaves (omega arith)) a
    | inr high ↦ stays_at m page d u (stays_behind (o.data_start + 4096 * n) 4096 (o.data_start + 4096 * m) 4096 old new leaves (omega arith)) a
  ]

  -- an extent whose lower one has its plain text
  written_at : (n : ℕ) (page : Option (List ℕ)) (d u : Bool) → o.size ≡ length octets → o.data_start + 4096 * n + 4096 ≤ length new → plain_at format o.key o.data_start new n ≡ page_of octets n
      → IsLaidAt format origin old o octets n page d u → IsLaidAt format origin new o octets n page false false
  written_at n page d u size there plain a = record {
    extent = λ h. of page (a.extent h);
    clean = λ p h c e. sym (ap (λ q. page_or q (lower_page format old o n u)) e) ∙ sym (a.extent h) ∙ lower;
    dirty = λ e. absurd (false≢true e);
    there = λ h c is. (there, inl plain);
  }
    where
      lower : page_of octets n ≡ lower_page format new o n false
      lower = sym (cleared_is (o.size - 4096 * n) (page_of octets n) (λ i past. page_of_past octets n i (omega (arith, size)))) ∙ ap (cleared (o.size - 4096 * n)) (sym plain)

      of : (page : Option (List ℕ)) → page_of octets n ≡ page_or page (lower_page format old o n u) → page_of octets n ≡ page_or page (lower_page format new o n false)
      of (Some p) e = e
      of None e = lower

  torn_at : (n : ℕ) (page : Option (List ℕ)) (d u : Bool) → (d ≡ true) ⊎ (u ≡ true) → IsLaidAt format origin old o octets n page d u → IsLaidAt format origin new o octets n page d u
  torn_at n page d u marked a = record {
    extent = λ h. a.extent h ∙ page_or_same page (lower_page format old o n u) (lower_page format new o n u) (λ none. lower_same n u (λ is. absurd (no_mark (not_dirty format origin old o octets n page d u none a) is)));
    clean = λ p h c e. a.clean p h c e ∙ lower_same n u (λ is. absurd (no_mark c is));
    dirty = a.dirty;
    there = λ h c is. absurd (no_mark c is);
  }
    where
      no_mark : d ≡ false → u ≡ false → ⊥
      no_mark c is = elim marked [
        | inl e ↦ false≢true (sym c ∙ e)
        | inr e ↦ false≢true (sym is ∙ e)
      ]

beside_on : {K : Type 0} (format : Format K) (origin : Origin) (old new : HeldBodies) (node n : ℕ) (o : Opened K) (octets : List ℕ) (mark : MetadataMark) (len : Bool) → IsFormat format → KeepsRooms node old new
    → n < extent_count o.size → Leaves (o.data_start + 4096 * n) 4096 (old.files node).body (new.files node).body → (new.files node).attribute ≡ (old.files node).attribute
    → IsLaidBeside format origin old node o octets mark len → IsLaidBeside format origin new node o octets mark len
beside_on format origin old new node n o octets mark len lawful rooms within leaves attribute b = record {
  place = b.place;
  size = b.size;
  most = b.most;
  metadata = meta_stays format a c o.meta_place mark o start head attribute b.metadata;
  kept = kept_stays origin a c o.meta_place mark o (λ part. (head (omega (arith, there_of format a o.meta_place mark o start b.metadata part))).1) b.kept;
  length_is = λ e. omega (arith, b.length_is e, leaves.no_shorter);
  exact = λ e. exact_stays origin a.body c.body o (omega (arith, b.length_is e, leaves.no_shorter, leaves.no_longer, extent_within o.size n within)) (b.exact e);
  body_room = omega (arith, b.body_room, rooms.body);
  attribute_room = omega (arith, b.attribute_room, rooms.attribute);
}
  where
    start : IsDataStart o.meta_place o.data_start
    start = start_of format (old.files node) o.meta_place mark o lawful b.metadata

    a : LowerFile
    a = old.files node

    c : LowerFile
    c = new.files node

    head : Stays 0 o.data_start (old.files node).body (new.files node).body
    head = stays_below (o.data_start + 4096 * n) 4096 0 o.data_start (old.files node).body (new.files node).body leaves (omega arith)

module _ {K : Type 0} (format : Format K) (origin : Origin) (old new : HeldBodies) (node n : ℕ) (w v : Working K) (octets : List ℕ) where
  -- An extent that was written, as its octets are, needs no mark.
  pub laid_written : IsFormat format → KeepsRooms node old new → n < extent_count w.opened.size → LaidOut format origin old node w octets
      → WritesExtent format w.opened n (page_of octets n) (old.files node) (new.files node) → UnmarksExtent n w v → LaidOut format origin new node v octets
  laid_written lawful rooms within laid s c =
      laid_changed format origin new node n w v octets (beside_on format origin old new node n w.opened octets w.metadata_mark w.length_mark lawful rooms within leaves s.attribute (laid_beside format origin old node w octets laid)) c.others
      (λ m differs. others_at format origin (old.files node).body (new.files node).body w.opened octets n m (w.page m) (w.is_dirty m) (w.is_unwritten m) differs leaves (laid_at format origin old node w octets laid m))
      (laid_as format origin (new.files node).body w.opened octets n (w.page n) (v.page n) false (v.is_dirty n) false (v.is_unwritten n) c.page_is c.dirty c.unwritten
      (written_at format origin (old.files node).body (new.files node).body w.opened octets n (w.page n) (w.is_dirty n) (w.is_unwritten n) laid.size (omega (arith, s.written.length_is, s.long)) plain (laid_at format origin old node w octets laid n)))
    where
      leaves : Leaves (w.opened.data_start + 4096 * n) 4096 (old.files node).body (new.files node).body
      leaves = subst (λ m. Leaves (w.opened.data_start + 4096 * n) m (old.files node).body (new.files node).body) s.long (leaves_written _ _ _ _ s.written)

      plain : plain_at format w.opened.key w.opened.data_start (new.files node).body n ≡ page_of octets n
      plain = ap (format.plain w.opened.key n) (extent_is w.opened.data_start n (new.files node).body ∙ extent_written (w.opened.data_start + 4096 * n) s.sealed (old.files node).body (new.files node).body s.long s.written) ∙ s.plain

  -- Where the write of an extent that is marked failed, its mark stands for it.
  pub laid_torn : IsFormat format → KeepsRooms node old new → n < extent_count w.opened.size → LaidOut format origin old node w octets
      → (w.is_dirty n ≡ true) ⊎ (w.is_unwritten n ≡ true) → TearsExtent w.opened n (old.files node) (new.files node) → LaidOut format origin new node w octets
  laid_torn lawful rooms within laid marked t =
      laid_by format origin new node w octets w.opened w.metadata_mark w.length_mark refl refl refl
      (beside_on format origin old new node n w.opened octets w.metadata_mark w.length_mark lawful rooms within leaves t.attribute (laid_beside format origin old node w octets laid)) (λ m. elim (cases_eq m n) [
        | inl e ↦ subst (λ k. IsLaidAt format origin (new.files node).body w.opened octets k (w.page k) (w.is_dirty k) (w.is_unwritten k)) (sym e)
            (torn_at format origin (old.files node).body (new.files node).body w.opened octets n (w.page n) (w.is_dirty n) (w.is_unwritten n) marked (laid_at format origin old node w octets laid n))
        | inr differs ↦ others_at format origin (old.files node).body (new.files node).body w.opened octets n m (w.page m) (w.is_dirty m) (w.is_unwritten m) differs leaves (laid_at format origin old node w octets laid m)
      ])
    where
      leaves : Leaves (w.opened.data_start + 4096 * n) 4096 (old.files node).body (new.files node).body
      leaves = leaves_torn _ _ _ _ t.torn
