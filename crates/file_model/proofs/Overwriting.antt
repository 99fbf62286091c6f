-- Writes into the pages of an open file.
use Rattle.std.proofs.Common.{ℕ, ◌≡◌, ◌+◌, ◌-◌, ◌*◌, ◌<◌, ◌≤◌, inl, inr, min, max, Bool, true, List, length, get_or, drop, Option, Some, refl, sym, ◌∙◌, ap, subst, arith}
use Rattle.std.proofs.lemmas.Bool.{cases_lt, false≢true}
use Rattle.std.proofs.lemmas.List.{get_or-take, get_or-drop, length-take, length-drop}
use Rattle.packet_model.specs.declared.layout.TheConstants.{MAX_SIZE}
use Rattle.packet_model.specs.Metadata.{extent_count}
use Rattle.body_model.specs.declared.opened.Opened.{Opened}
use Rattle.body_model.specs.Bodies.{HeldBodies}
use Rattle.body_model.specs.Format.{Format, IsFormat, needed}
use Rattle.file_model.specs.ByteFile.{resized, written}
use Rattle.file_model.specs.LaidOut.{IsExact, LaidOut, Origin, Working, page_of, page_or}
use Rattle.file_model.specs.Resizing.{OverwritesPages, ResizesExtents, part_in}
use Rattle.file_model.proofs.Extents.{get_or-page_of, length-page_of, length-written, page_by, written_before, written_behind, written_here}
use Rattle.file_model.proofs.ByExtent.{IsLaidAt, laid_as, laid_at, laid_by, lower_page}
use Rattle.file_model.proofs.Resizing.{laid_resized, written_resized}

-- ---- a page of what was written

module _ (at : ℕ) (octets old : List ℕ) (k : ℕ) where
  -- an extent that the octets don't touch
  page_kept : at ≤ length old → min (at + length octets) (4096 * k + 4096) ≤ max at (4096 * k) → page_of (written at octets old) k ≡ page_of old k
  page_kept within apart = page_by (written at octets old) k (page_of old k) (length-page_of old k) (λ i h. elim (cases_lt (4096 * k + i) at) [
    | inl low ↦ written_before at octets old (4096 * k + i) within low ∙ sym (get_or-page_of old k i h)
    | inr high ↦ written_behind at octets old (4096 * k + i) within (omega arith) ∙ sym (get_or-page_of old k i h)
  ])

  length-part_in : length (part_in at octets k) ≡ min (4096 - (at - 4096 * k)) (length octets - (4096 * k - at))
  length-part_in = omega (arith, length-take (4096 - (at - 4096 * k)) (drop (4096 * k - at) octets), length-drop (4096 * k - at) octets)

  get_or-part_in : (i : ℕ) → i < 4096 - (at - 4096 * k) → get_or (part_in at octets k) i 0 ≡ get_or octets (4096 * k - at + i) 0
  get_or-part_in i h = get_or-take (4096 - (at - 4096 * k)) (drop (4096 * k - at) octets) i 0 h ∙ get_or-drop (4096 * k - at) octets i 0

  -- one that they touch
  page_written : at + length octets ≤ length old → max at (4096 * k) < min (at + length octets) (4096 * k + 4096) → (page : List ℕ) → page_of old k ≡ page
      → page_of (written at octets old) k ≡ written (at - 4096 * k) (part_in at octets k) page
  page_written within touched page is =
      page_by (written at octets old) k (written a part page) (length-written a part page (omega (arith, long, length-part_in)) ∙ long) (λ i h. elim (cases_lt i a) [
        | inl low ↦ written_before at octets old (4096 * k + i) (omega arith) (omega arith) ∙ here i h ∙ sym (written_before a part page i (omega (arith, long)) low)
        | inr from ↦ elim (cases_lt i (a + length part)) [
          | inl inside ↦
              let place : 4096 * k + i - at ≡ 4096 * k - at + (i - a) = omega arith in
              written_here at octets old (4096 * k + i) (omega arith) (omega arith) (omega (arith, length-part_in)) ∙ ap (λ j. get_or octets j 0) place
              ∙ sym (get_or-part_in (i - a) (omega (arith, length-part_in))) ∙ sym (written_here a part page i (omega (arith, long)) from inside)
          | inr behind ↦ written_behind at octets old (4096 * k + i) (omega arith) (omega (arith, length-part_in)) ∙ here i h ∙ sym (written_behind a part page i (omega (arith, long)) behind)
        ]
      ])
    where
      a : ℕ
      a = at - 4096 * k

      part : List ℕ
      part = part_in at octets k

      long : length page ≡ 4096
      long = ap length (sym is) ∙ length-page_of old k

      here : (i : ℕ) → i < 4096 → get_or old (4096 * k + i) 0 ≡ get_or page i 0
      here i h = sym (get_or-page_of old k i h) ∙ ap (λ p. get_or p i 0) is

-- ---- extents

module _ {K : Type 0} (format : Format K) (origin : Origin) (body : List ℕ) (o : Opened K) (old new : List ℕ) (k : ℕ) where
  kept_at : (page : Option (List ℕ)) (d u : Bool) → page_of new k ≡ page_of old k → IsLaidAt format origin body o old k page d u → IsLaidAt format origin body o new k page d u
  kept_at page d u same a = record {
    extent = λ h. same ∙ a.extent h;
    clean = a.clean;
    dirty = a.dirty;
    there = λ h c is. ((a.there h c is).0, subst (IsExact format origin body o k) (sym same) (a.there h c is).1);
  }

  overwritten_at : (p : List ℕ) (u : Bool) → k < extent_count o.size → page_of new k ≡ p → IsLaidAt format origin body o new k (Some p) true u
  overwritten_at p u within is = record {
    extent = λ h. is;
    clean = λ q h c e. absurd (false≢true (sym c));
    dirty = λ e. (within, ap length (sym is) ∙ length-page_of new k);
    there = λ h c e. absurd (false≢true (sym c));
  }

module _ {K : Type 0} (format : Format K) (origin : Origin) (held : HeldBodies) (node at : ℕ) (octets : List ℕ) where
  -- A write within the size, into pages, writes the old.
  pub laid_overwritten : (w v : Working K) (old : List ℕ) → at + length octets ≤ w.opened.size → LaidOut format origin held node w old → OverwritesPages at octets w v → LaidOut format origin held node v (written at octets old)
  laid_overwritten w v old within laid c =
      laid_by format origin held node v (written at octets old) w.opened w.metadata_mark w.length_mark c.opened c.metadata_mark c.length_mark (record {
        place = laid.place;
        size = laid.size ∙ sym long;
        most = omega (arith, laid.most, long);
        metadata = laid.metadata;
        kept = laid.kept;
        length_is = laid.length_is;
        exact = laid.exact;
        body_room = laid.body_room;
        attribute_room = laid.attribute_room;
      }) extent
    where
      body : List ℕ
      body = (held.files node).body

      long : length (written at octets old) ≡ length old
      long = length-written at octets old (omega (arith, laid.size))

      extent : (k : ℕ) → IsLaidAt format origin (held.files node).body w.opened (written at octets old) k (v.page k) (v.is_dirty k) (v.is_unwritten k)
      extent k = elim (cases_lt (max at (4096 * k)) (min (at + length octets) (4096 * k + 4096))) [
        | inl touched ↦
            let t = c.touched k touched in
            let is : page_of old k ≡ t.0 = laid.extents k (omega arith) ∙ ap (λ q. page_or q (lower_page format body w.opened k (w.is_unwritten k))) t.1 in
            laid_as format origin body w.opened (written at octets old) k (Some (written (at - 4096 * k) (part_in at octets k) t.0)) (v.page k) true (v.is_dirty k) (v.is_unwritten k) (v.is_unwritten k) t.2 t.3 refl
            (overwritten_at format origin body w.opened old (written at octets old) k (written (at - 4096 * k) (part_in at octets k) t.0) (v.is_unwritten k) (omega arith)
            (page_written at octets old k (omega (arith, laid.size)) touched t.0 is))
        | inr apart ↦
            let s = c.others k apart in
            laid_as format origin body w.opened (written at octets old) k (w.page k) (v.page k) (w.is_dirty k) (v.is_dirty k) (w.is_unwritten k) (v.is_unwritten k) s.0 s.1 s.2
            (kept_at format origin body w.opened old (written at octets old) k (w.page k) (w.is_dirty k) (w.is_unwritten k) (page_kept at octets old k (omega (arith, laid.size)) apart) (laid_at format origin held node w old laid k))
      ]

  -- One that ends past the size does so once the size is changed to its end.
  pub laid_written_past : (w u v : Working K) (old : List ℕ) (end : ℕ) → IsFormat format → end ≤ MAX_SIZE → needed w.opened.data_start end ≤ held.body_room node → LaidOut format origin held node w old
      → at + length octets ≡ end → w.opened.size ≤ end → ResizesExtents end w u → OverwritesPages at octets u v → LaidOut format origin held node v (written at octets old)
  laid_written_past w u v old end lawful most room laid is past r c =
      let middle = laid_resized format origin held node end w u old lawful most room laid r in
      subst (LaidOut format origin held node v) (written_resized at end octets old is (omega (arith, laid.size)))
      (laid_overwritten u v (resized end old) (omega (arith, is, ap (λ (o : Opened K). o.size) r.opened)) middle c)
