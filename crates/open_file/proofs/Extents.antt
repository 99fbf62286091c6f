-- What calls read and write of a buffer of whole pages.
use Rattle.std.proofs.Common.{ℕ, ◌≡◌, ◌+◌, ◌-◌, ◌*◌, ◌/◌, ◌<◌, ◌≤◌, ◌⊎◌, min, List, ◌++◌, length, get_or, take, drop, refl, sym, ◌∙◌, ap, arith, inl, inr, add-one, Bool, true}
use Rattle.std.proofs.lemmas.List.{take-take, drop-take, length-take, get_or-drop, drop_all, append-nil, take_all, take_min}
use Rattle.std.proofs.lemmas.Bool.{cases_lt, false≢true}
use Rattle.body_model.specs.Format.{joined}
use Rattle.file_model.proofs.Extents.{drop-written, take-written, window_after, window_before}
use Rattle.open_file.specs.Buffered.{is_dirty}
use Rattle.open_file.specs.Resizing.{WritesPages}
use Rattle.file_model.specs.ByteFile.{written}

pub joined_more : (f : ℕ → List ℕ) (k : ℕ) (front page : List ℕ) → front ≡ joined f k → page ≡ f k → front ++ page ≡ joined f (k + 1)
joined_more f k front page same here = rw (add-one, same, here) refl

-- a `Vec` that was passed as a slice
pub whole_after : {A : Type 0} (n : ℕ) (new old : List A) → length new ≡ length old → n ≡ length old → take n (new ++ drop (length new) old) ≡ new
whole_after n new old len all = ap (λ r. take n (new ++ r)) (drop_all (length new) old (omega arith)) ∙ ap (take n) (append-nil new) ∙ take_all n new (omega arith)

-- the head of a body
pub head_is : (n len : ℕ) (body : List ℕ) → n ≡ min len 4096 → len ≡ length body → take n (drop 0 body) ≡ take 4096 body
head_is n len body count all =
    let m : n ≡ min 4096 (length body) = omega arith in
    ap (λ k. take k body) m ∙ take_min 4096 body

-- A write within the size marks each page that it touches.
pub writes_pages : (size at last : ℕ) (octets old new : List ℕ) (dirty dirty' : List Bool) → last ≡ (at + length octets + 4095) / 4096 → new ≡ written at octets old → at + length octets ≤ size → size ≤ length old
    → ((k : ℕ) → at / 4096 ≤ k → k < last → is_dirty dirty' k ≡ true)
    → ((k : ℕ) → k < at / 4096 → is_dirty dirty' k ≡ is_dirty dirty k)
    → ((k : ℕ) → last ≤ k → is_dirty dirty' k ≡ is_dirty dirty k)
    → WritesPages size old new dirty dirty'
writes_pages size at last octets old new dirty dirty' end whole within most marked low high = record {
  zeros = λ i h.
      let back : at + length octets + (i - (at + length octets)) ≡ i = omega arith in
      ap (λ j. get_or new j 0) (sym back) ∙ sym (get_or-drop (at + length octets) new (i - (at + length octets)) 0) ∙ ap (λ xs. get_or xs (i - (at + length octets)) 0) behind
      ∙ get_or-drop (at + length octets) old (i - (at + length octets)) 0 ∙ ap (λ j. get_or old j 0) back;
  clean = λ k c. elim (cases_lt k (at / 4096)) [
    | inl below ↦ (sym (low k below) ∙ c, window_before at at (4096 * k) 4096 old new before (omega arith) (omega arith))
    | inr h ↦ elim (cases_lt k (last)) [
      | inl inside ↦ absurd (false≢true (sym c ∙ marked k h inside))
      | inr above ↦ (sym (high k above) ∙ c, window_after (at + length octets) (4096 * k) 4096 old new behind (omega arith))
    ]
  ];
}
  where
    before : take at new ≡ take at old
    before = ap (take at) whole ∙ take-written at octets old (omega arith)

    behind : drop (at + length octets) new ≡ drop (at + length octets) old
    behind = ap (drop (at + length octets)) whole ∙ drop-written at octets old (omega arith)

-- what is read of the octets up to a size
pub copied : (len at size n : ℕ) (buffer : List ℕ) → at < size → size ≤ length buffer → n ≡ min len (size - at) → take n (drop at buffer) ≡ take len (drop at (take size buffer))
copied len at size n buffer inside fits count =
    let split : at + (size - at) ≡ size = omega arith in
    of (cases_lt len (size - at)) ∙ ap (take len) (sym (drop-take at (size - at) buffer) ∙ ap (λ m. drop at (take m buffer)) split)
  where
    of : (len < size - at) ⊎ (size - at ≤ len) → take n (drop at buffer) ≡ take len (take (size - at) (drop at buffer))
    of (inl low) =
        let e : n ≡ len = omega arith in
        ap (λ m. take m (drop at buffer)) e ∙ sym (take-take len (size - at) (drop at buffer) (omega arith))
    of (inr high) =
        let e : n ≡ size - at = omega arith in
        ap (λ m. take m (drop at buffer)) e ∙ sym (take_all len (take (size - at) (drop at buffer)) (omega (arith, length-take (size - at) (drop at buffer))))
