-- Texts block by block.
use Rattle.std.proofs.Common.{◌≡◌, ℕ, ◌+◌, ◌-◌, ◌*◌, ◌/◌, ◌%◌, ◌<◌, List, length, drop, sym, ap, subst, inl, inr, ◌∙◌, zero-add, arith}
use Rattle.std.specs.Prelude.{slice_index}
use Rattle.std.proofs.lemmas.Bool.{cases_lt}
use Rattle.std.proofs.lemmas.List.{ext_get_or, get_or-take, get_or-drop, get_or_past}
use Rattle.std.proofs.lemmas.List.Edits.{length-between}
use Rattle.std.proofs.lemmas.List.FromFn.{length-map-range_with_len, get_or-map-range_with_len}
use Rattle.octet_model.specs.Octets.{AreOctets}
use Rattle.octet_model.proofs.Octets.{octet_at, AreOctets-from_each}
use Rattle.cipher_model.specs.Aes.{IsBlock}
use Rattle.cipher_model.specs.Blocks.{block_at, block_count, text_of}
use Rattle.cipher_model.proofs.States.{IsBlock-from_each}

pub slice_index-block_at : (xs : List ℕ) (i j : ℕ) → j < 16 → slice_index (block_at xs i) j ≡ slice_index xs (16 * i + j)
slice_index-block_at xs i j h =
    let inside : j < 16 * i + 16 - 16 * i = omega arith in
    get_or-take (16 * i + 16 - 16 * i) (drop (16 * i) xs) j 0 inside ∙ get_or-drop (16 * i) xs j 0

pub length-block_at : (xs : List ℕ) (i : ℕ) → i < block_count xs → length (block_at xs i) ≡ 16
length-block_at xs i h = omega (arith, length-between xs (16 * i) (16 * i + 16))

-- a block whose octets are known is a block
block_from : (b : List ℕ) (f : ℕ → ℕ) → length b ≡ 16 → ((j : ℕ) → j < 16 → slice_index b j ≡ f j) → ((j : ℕ) → j < 16 → f j < 256) → IsBlock b
block_from b f long is lt = IsBlock-from_each b long (λ j. elim (cases_lt j 16) [
  | inl less ↦ subst (λ (x : ℕ). x < 256) (sym (is j less)) (lt j less)
  | inr past ↦
      let none : slice_index b j ≡ 0 = get_or_past b j 0 (omega arith) in
      omega arith
])

pub IsBlock-block_at : (xs : List ℕ) (i : ℕ) → AreOctets xs → i < block_count xs → IsBlock (block_at xs i)
IsBlock-block_at xs i octets h =
    block_from (block_at xs i) (λ j. slice_index xs (16 * i + j)) (length-block_at xs i h) (λ j lt. slice_index-block_at xs i j lt) (λ j lt. octet_at xs (16 * i + j) octets)

-- texts of whole blocks are one when their blocks are
pub same_text : (xs ys : List ℕ) → length xs ≡ length ys → length xs % 16 ≡ 0 → ((i : ℕ) → i < block_count xs → block_at xs i ≡ block_at ys i) → xs ≡ ys
same_text xs ys long whole same = ext_get_or 0 xs ys long (λ j h.
    let i : ℕ = j / 16 in
    let r : ℕ = j % 16 in
    let at : 16 * i + r ≡ j = omega arith in
    let below : i < block_count xs = omega arith in
    let inside : r < 16 = omega arith in
    ap (λ (n : ℕ). slice_index xs n) (sym at) ∙ sym (slice_index-block_at xs i r inside) ∙ ap (λ (b : List ℕ). slice_index b r) (same i below)
    ∙ slice_index-block_at ys i r inside ∙ ap (λ (n : ℕ). slice_index ys n) at)

pub length-text_of : (f : ℕ → List ℕ) (n : ℕ) → length (text_of f n) ≡ 16 * n
length-text_of f n = length-map-range_with_len (λ j. slice_index (f (j / 16)) (j % 16)) 0 (16 * n)

slice_index-text_of : (f : ℕ → List ℕ) (n j : ℕ) → j < 16 * n → slice_index (text_of f n) j ≡ slice_index (f (j / 16)) (j % 16)
slice_index-text_of f n j h = get_or-map-range_with_len (λ j. slice_index (f (j / 16)) (j % 16)) 0 (16 * n) j j 0 h (zero-add j)

pub block_at-text_of : (f : ℕ → List ℕ) (n i : ℕ) → i < n → length (f i) ≡ 16 → block_at (text_of f n) i ≡ f i
block_at-text_of f n i h long =
    let text : List ℕ = text_of f n in
    let whole : length text ≡ 16 * n = length-text_of f n in
    let len : length (block_at text i) ≡ 16 = length-block_at text i (omega arith) in
    ext_get_or 0 (block_at text i) (f i) (len ∙ sym long) (λ j lt.
    let inside : j < 16 = omega arith in
    let quotient : (16 * i + j) / 16 ≡ i = omega arith in
    let remainder : (16 * i + j) % 16 ≡ j = omega arith in
    slice_index-block_at text i j inside ∙ slice_index-text_of f n (16 * i + j) (omega arith)
    ∙ (λ t. slice_index (f (quotient t)) (remainder t)))

pub AreOctets-text_of : (f : ℕ → List ℕ) (n : ℕ) → ((i : ℕ) → i < n → AreOctets (f i)) → AreOctets (text_of f n)
AreOctets-text_of f n octets = AreOctets-from_each (text_of f n) (λ j. elim (cases_lt j (16 * n)) [
  | inl less ↦ subst (λ (x : ℕ). x < 256) (sym (slice_index-text_of f n j less)) (octet_at (f (j / 16)) (j % 16) (octets (j / 16) (omega arith)))
  | inr past ↦
      let none : slice_index (text_of f n) j ≡ 0 = get_or_past (text_of f n) j 0 (omega (arith, length-text_of f n)) in
      omega arith
])
