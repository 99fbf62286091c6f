-- States byte by byte.
use Rattle.std.proofs.Common.{◌≡◌, ℕ, zero-add, ◌<◌, length, List, [], ◌∷◌, sym, subst, inl, inr, ◌∙◌, arith}
use Rattle.std.specs.Prelude.{slice_index}
use Rattle.std.proofs.lemmas.Bool.{cases_lt}
use Rattle.std.proofs.lemmas.List.{get_or_past}
use Rattle.std.proofs.lemmas.List.FromFn.{length-map-range_with_len, get_or-map-range_with_len}
use Rattle.std.proofs.lemmas.Simd.{pick_l_whole}
use Rattle.octet_model.proofs.Octets.{octet_at, AreOctets-from_each}
use Rattle.cipher_model.specs.Aes.{IsBlock, each_byte}

-- a list of 16 is that of its elements in order
pub each_byte_whole : (xs : List ℕ) → length xs ≡ 16 → each_byte (λ i. slice_index xs i) ≡ xs
each_byte_whole xs h = pick_l_whole 0 xs 16 h

-- two blocks that are made byte by byte, from bytes that are equal at each place
pub each_byte_same : (f g : ℕ → ℕ) → ((i : ℕ) → i < 16 → f i ≡ g i) → each_byte f ≡ each_byte g
each_byte_same f g e =
    let lt : (i : ℕ) → i < 16 → f i ≡ g i = e in
    λ j. lt 0 (omega arith) j ∷ lt 1 (omega arith) j ∷ lt 2 (omega arith) j ∷ lt 3 (omega arith) j
    ∷ lt 4 (omega arith) j ∷ lt 5 (omega arith) j ∷ lt 6 (omega arith) j ∷ lt 7 (omega arith) j
    ∷ lt 8 (omega arith) j ∷ lt 9 (omega arith) j ∷ lt 10 (omega arith) j ∷ lt 11 (omega arith) j
    ∷ lt 12 (omega arith) j ∷ lt 13 (omega arith) j ∷ lt 14 (omega arith) j ∷ lt 15 (omega arith) j ∷ []

-- at each index of a block, and past its end, there is a byte
pub block_byte : (b : List ℕ) (i : ℕ) → IsBlock b → slice_index b i < 256
block_byte b i block = octet_at b i block.bytes

-- 16 numbers that each fit a byte
pub IsBlock-from_each : (b : List ℕ) → length b ≡ 16 → ((i : ℕ) → slice_index b i < 256) → IsBlock b
IsBlock-from_each b long each = record { long = long; bytes = AreOctets-from_each b each }

pub IsBlock-each_byte : (f : ℕ → ℕ) → ((i : ℕ) → i < 16 → f i < 256) → IsBlock (each_byte f)
IsBlock-each_byte f h = IsBlock-from_each (each_byte f) (length-map-range_with_len f 0 16) (λ i. elim (cases_lt i 16) [
  | inl lt ↦ subst (λ (x : ℕ). x < 256) (sym (get_or-map-range_with_len f 0 16 i i 0 lt (zero-add i))) (h i lt)
  | inr ge ↦ subst (λ (x : ℕ). x < 256) (sym (get_or_past (each_byte f) i 0 (omega (arith, length-map-range_with_len f 0 16)))) (omega arith)
])

-- what is the byte at each place of a block is the block
pub whole_from : (s : List ℕ) (f : ℕ → ℕ) → IsBlock s → ((i : ℕ) → i < 16 → f i ≡ slice_index s i) → each_byte f ≡ s
whole_from s f b e = each_byte_same f (λ i. slice_index s i) e ∙ each_byte_whole s b.long
