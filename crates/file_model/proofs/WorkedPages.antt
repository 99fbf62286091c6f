-- Worked changes of pages.
use Rattle.std.proofs.Common.{ℕ, ◌≡◌, ◌≢◌, true, false, cond, List, [], Option, None, refl, ap, arith}
use Rattle.std.specs.Prelude.{nat_lt, ◌==◌, if◌then◌else◌}
use Rattle.std.proofs.lemmas.Bool.{lt-ltb, ne_eqb}
use Rattle.lower_model.specs.declared.meta_place.MetaPlace.TheVariants.{Header}
use Rattle.body_model.specs.declared.opened.Opened.{Opened}
use Rattle.file_model.specs.declared.mark.MetadataMark.TheVariants.{Clean, Size}
use Rattle.file_model.specs.LaidOut.{Working}
use Rattle.file_model.specs.Paging.{EvictsPage}
use Rattle.file_model.specs.Resizing.{OverwritesPages, ResizesExtents}

abbrev opened : ℕ → Opened ℕ
opened size = record { key = 0; size = size; data_start = 8192; meta_place = Header; metadata = [] }

-- ---- sizes

abbrev empty : Working ℕ
empty = record { opened = opened 0; page = λ n. None; is_dirty = λ n. false; is_unwritten = λ n. false; metadata_mark = Clean; length_mark = false }

abbrev of_zeros : Working ℕ
of_zeros = record { opened = opened 5000; page = λ n. None; is_dirty = λ n. false; is_unwritten = λ n. nat_lt n 2; metadata_mark = Size; length_mark = true }

-- an empty file that grows has no page
grows : ResizesExtents 5000 empty of_zeros
grows = record {
  opened = refl;
  low = λ n h. absurd (omega arith);
  edge = λ n e h. absurd (omega arith);
  behind = λ n h within. (refl, refl, lt-ltb n 2 (omega arith));
  past = λ n h. refl;
  metadata_mark = refl;
  length_mark = refl;
}

abbrev of_pages : (ℕ → Option (List ℕ)) → Working ℕ
of_pages page = record { opened = opened 9000; page = page; is_dirty = λ n. false; is_unwritten = λ n. false; metadata_mark = Clean; length_mark = false }

abbrev cut : (ℕ → Option (List ℕ)) → Working ℕ
cut page = record { opened = opened 4096; page = page; is_dirty = λ n. false; is_unwritten = λ n. false; metadata_mark = Size; length_mark = true }

-- one that is cut where an extent ends keeps the pages that are left
shrinks : (page : ℕ → Option (List ℕ)) → ResizesExtents 4096 (of_pages page) (cut page)
shrinks page = record {
  opened = refl;
  low = λ n h. (refl, refl, refl);
  edge = λ n e h. absurd (omega arith);
  behind = λ n h within. absurd (omega arith);
  past = λ n h. refl;
  metadata_mark = refl;
  length_mark = refl;
}

-- ---- pages

abbrev first_gone : (ℕ → Option (List ℕ)) → ℕ → Option (List ℕ)
first_gone page n = if n == 0 then None else page n

evicts : (page : ℕ → Option (List ℕ)) → EvictsPage 0 (of_pages page) (of_pages (first_gone page))
evicts page = record {
  others = record { opened = refl; pages = λ n differs. others n differs; dirty = λ n differs. refl; unwritten = λ n differs. refl; metadata_mark = refl; length_mark = refl };
  clean = refl;
  page_is = refl;
  dirty = refl;
  unwritten = refl;
}
  where
    others : (n : ℕ) → n ≢ 0 → first_gone page n ≡ page n
    others n differs = ap (λ b. cond b None (page n)) (ne_eqb n 0 differs)

-- no octets touch no page
writes_nothing : (at : ℕ) (page : ℕ → Option (List ℕ)) → OverwritesPages at [] (of_pages page) (of_pages page)
writes_nothing at page = record {
  opened = refl;
  touched = λ n h. absurd (omega arith);
  others = λ n h. (refl, refl, refl);
  metadata_mark = refl;
  length_mark = refl;
}
