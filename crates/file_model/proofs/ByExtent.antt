-- What is laid out, extent by extent.
use Rattle.std.proofs.Common.{ℕ, ◌≡◌, ◌+◌, ◌-◌, ◌*◌, ◌<◌, ◌≤◌, Bool, true, false, cond, List, length, replicate, Option, Some, None, refl, sym, ◌∙◌, ap, subst}
use Rattle.packet_model.specs.declared.layout.TheConstants.{EXTENT_SIZE, MAX_SIZE}
use Rattle.packet_model.specs.Metadata.{extent_count}
use Rattle.body_model.specs.declared.opened.Opened.{Opened}
use Rattle.body_model.specs.Bodies.{HeldBodies}
use Rattle.body_model.specs.Format.{Format, needed, plain_at}
use Rattle.file_model.specs.declared.mark.MetadataMark.{MetadataMark}
use Rattle.file_model.specs.LaidOut.{IsExact, IsExactLength, IsPage, IsReadAs, KeepsMetadata, LaidOut, Origin, Working, attribute_needed, cleared, page_of, page_or}

-- an extent without its page
abbrev pub lower_page : {K : Type 0} → Format K → List ℕ → Opened K → ℕ → Bool → List ℕ
lower_page format body o n is_unwritten = cond is_unwritten (replicate EXTENT_SIZE 0) (cleared (o.size - EXTENT_SIZE * n) (plain_at format o.key o.data_start body n))

-- What is laid out of one extent.
pub record IsLaidAt {K : Type 0} (format : Format K) (origin : Origin) (body : List ℕ) (o : Opened K) (octets : List ℕ) (n : ℕ) (page : Option (List ℕ)) (is_dirty is_unwritten : Bool) : Type 0 where
  pub extent : n < extent_count o.size → page_of octets n ≡ page_or page (lower_page format body o n is_unwritten)
  pub clean : (p : List ℕ) → n < extent_count o.size → is_dirty ≡ false → page ≡ Some p → p ≡ lower_page format body o n is_unwritten
  pub dirty : is_dirty ≡ true → (n < extent_count o.size) × IsPage page
  pub there : n < extent_count o.size → is_dirty ≡ false → is_unwritten ≡ false → (o.data_start + EXTENT_SIZE * n + EXTENT_SIZE ≤ length body) × IsExact format origin body o n (page_of octets n)

-- What is laid out beside the extents.
pub record IsLaidBeside {K : Type 0} (format : Format K) (origin : Origin) (held : HeldBodies) (node : ℕ) (o : Opened K) (octets : List ℕ) (metadata_mark : MetadataMark) (length_mark : Bool) : Type 0 where
  pub place : o.meta_place ≡ origin.meta_place
  pub size : o.size ≡ length octets
  pub most : length octets ≤ MAX_SIZE
  pub metadata : IsReadAs format (held.files node) o.meta_place metadata_mark o
  pub kept : KeepsMetadata origin (held.files node) o.meta_place metadata_mark o
  pub length_is : length_mark ≡ false → needed o.data_start o.size ≤ length (held.files node).body
  pub exact : length_mark ≡ false → IsExactLength origin (held.files node).body o
  pub body_room : needed o.data_start o.size ≤ held.body_room node
  pub attribute_room : attribute_needed o.meta_place o ≤ held.attribute_room node

module _ {K : Type 0} (format : Format K) (origin : Origin) (held : HeldBodies) (node : ℕ) (w : Working K) (octets : List ℕ) where
  pub laid_at : LaidOut format origin held node w octets → (n : ℕ) → IsLaidAt format origin (held.files node).body w.opened octets n (w.page n) (w.is_dirty n) (w.is_unwritten n)
  laid_at laid n = record { extent = laid.extents n; clean = λ p. laid.clean n p; dirty = laid.dirty n; there = laid.there n }

  pub laid_beside : LaidOut format origin held node w octets → IsLaidBeside format origin held node w.opened octets w.metadata_mark w.length_mark
  laid_beside laid = record {
    place = laid.place;
    size = laid.size;
    most = laid.most;
    metadata = laid.metadata;
    kept = laid.kept;
    length_is = laid.length_is;
    exact = laid.exact;
    body_room = laid.body_room;
    attribute_room = laid.attribute_room;
  }

  pub laid_by : (o : Opened K) (metadata_mark : MetadataMark) (length_mark : Bool) → w.opened ≡ o → w.metadata_mark ≡ metadata_mark → w.length_mark ≡ length_mark → IsLaidBeside format origin held node o octets metadata_mark length_mark
      → ((n : ℕ) → IsLaidAt format origin (held.files node).body o octets n (w.page n) (w.is_dirty n) (w.is_unwritten n)) → LaidOut format origin held node w octets
  laid_by o metadata_mark length_mark is_o is_metadata is_length beside extents =
      subst (λ x. LaidOut format origin held node (record w { opened = x }) octets) (sym is_o)
      (subst (λ x. LaidOut format origin held node (record w { opened = o; metadata_mark = x }) octets) (sym is_metadata)
      (subst (λ x. LaidOut format origin held node (record w { opened = o; metadata_mark = metadata_mark; length_mark = x }) octets) (sym is_length) (record {
        place = beside.place;
        size = beside.size;
        most = beside.most;
        extents = λ n. (extents n).extent;
        clean = λ n p. (extents n).clean p;
        dirty = λ n. (extents n).dirty;
        there = λ n. (extents n).there;
        metadata = beside.metadata;
        kept = beside.kept;
        length_is = beside.length_is;
        exact = beside.exact;
        body_room = beside.body_room;
        attribute_room = beside.attribute_room;
      })))

module _ {K : Type 0} (format : Format K) (origin : Origin) (body : List ℕ) (o : Opened K) (octets : List ℕ) (n : ℕ) where
  -- an extent that isn't dirty is what lies below
  pub is_lower : (page : Option (List ℕ)) (d u : Bool) → IsLaidAt format origin body o octets n page d u → n < extent_count o.size → d ≡ false → page_of octets n ≡ lower_page format body o n u
  is_lower (Some p) d u a h c = a.extent h ∙ a.clean p h c refl
  is_lower None d u a h c = a.extent h

  -- an extent without a page isn't dirty
  pub not_dirty : (page : Option (List ℕ)) (d u : Bool) → page ≡ None → IsLaidAt format origin body o octets n page d u → d ≡ false
  not_dirty page false u none a = refl
  not_dirty page true u none a = absurd (subst IsPage none (a.dirty refl).1)

  -- an extent that is kept as another one is
  pub laid_as : (page page' : Option (List ℕ)) (d d' u u' : Bool) → page' ≡ page → d' ≡ d → u' ≡ u → IsLaidAt format origin body o octets n page d u → IsLaidAt format origin body o octets n page' d' u'
  laid_as page page' d d' u u' is_page is_d is_u a = rw (is_page, is_d, is_u) a

pub page_or_same : (page : Option (List ℕ)) (lower lower' : List ℕ) → (page ≡ None → lower ≡ lower') → page_or page lower ≡ page_or page lower'
page_or_same (Some p) lower lower' same = refl
page_or_same None lower lower' same = same refl

module _ {K : Type 0} (format : Format K) (origin : Origin) (held : HeldBodies) (node : ℕ) (w : Working K) (octets : List ℕ) where
  -- the octets of an extent that has a page, and of one that counts as zeros
  pub octets_of_page : (n : ℕ) (page : List ℕ) → n < extent_count w.opened.size → LaidOut format origin held node w octets → w.page n ≡ Some page → page_of octets n ≡ page
  octets_of_page n page within laid is = laid.extents n within ∙ ap (λ p. page_or p (lower_page format (held.files node).body w.opened n (w.is_unwritten n))) is

  pub octets_unwritten : (n : ℕ) → n < extent_count w.opened.size → LaidOut format origin held node w octets → w.is_dirty n ≡ false → w.is_unwritten n ≡ true → page_of octets n ≡ replicate EXTENT_SIZE 0
  octets_unwritten n within laid clean unwritten =
      is_lower format origin (held.files node).body w.opened octets n (w.page n) (w.is_dirty n) (w.is_unwritten n) (laid_at format origin held node w octets laid n) within clean
      ∙ ap (lower_page format (held.files node).body w.opened n) unwritten
