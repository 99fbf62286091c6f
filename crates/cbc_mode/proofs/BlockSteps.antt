-- One block of a text after another.
use Rattle.std.proofs.Common.{◌≡◌, ℕ, ◌+◌, ◌-◌, ◌*◌, ◌≤◌, List, length, take, drop, refl, sym, ap, ◌∙◌, inl, inr, subst, arith}
use Rattle.std.proofs.lemmas.Slice.{between_is, take-put_mid_below, between-put_mid, drop-put_mid}
use Rattle.std.proofs.lemmas.Bool.{cases_lt}
use Rattle.std.proofs.lemmas.List.{drop-drop}
use borrow.Rule.Slice.PartMut.{put_mid}
use Rattle.cipher_model.specs.Blocks.{block_at}
use Rattle.cbc_mode.specs.BlocksInPlace.{PutsBlock, IsDone}

pub puts_block : (xs ys b : List ℕ) (i k : ℕ) → k ≡ 16 → 16 * i + 16 ≤ length xs → length b ≡ 16 → ys ≡ b → PutsBlock xs (put_mid (16 * i) k xs ys) i b
puts_block xs ys b i k is room long e =
    subst (λ (z : List ℕ). PutsBlock xs (put_mid (16 * i) k xs z) i b) (sym e) record {
      below = λ j lt. between_is (put_mid (16 * i) k xs b) (16 * j) (16 * j + 16)
          ∙ ap (λ (t : List ℕ). drop (16 * j) t) (take-put_mid_below (16 * i) k xs b (16 * j + 16) (omega arith) (omega arith))
          ∙ sym (between_is xs (16 * j) (16 * j + 16));
      at = between-put_mid (16 * i) k xs b (16 * i + 16) (omega arith) (omega arith);
      above = drop-put_mid (16 * i) k xs b (16 * i + 16) (omega arith) (omega arith) (omega arith);
    }

pub block_at-rest : (xs ys : List ℕ) (i : ℕ) → drop (16 * i) xs ≡ drop (16 * i) ys → block_at xs i ≡ block_at ys i
block_at-rest xs ys i e = ap (λ (t : List ℕ). take (16 * i + 16 - 16 * i) t) e

pub rest_more : (start old new b : List ℕ) (i : ℕ) → drop (16 * i) old ≡ drop (16 * i) start → PutsBlock old new i b
    → drop (16 * (i + 1)) new ≡ drop (16 * (i + 1)) start
rest_more start old new b i rest puts =
    let next : 16 * (i + 1) ≡ 16 * i + 16 = omega arith in
    ap (λ (n : ℕ). drop n new) next ∙ puts.above
    ∙ sym (drop-drop 16 (16 * i) old) ∙ ap (λ (t : List ℕ). drop 16 t) rest ∙ drop-drop 16 (16 * i) start
    ∙ ap (λ (n : ℕ). drop n start) (sym next)

pub rest_later : (xs ys : List ℕ) (i j : ℕ) → i ≤ j → drop (16 * i) xs ≡ drop (16 * i) ys → drop (16 * j) xs ≡ drop (16 * j) ys
rest_later xs ys i j le e =
    let p : 16 * i + (16 * j - 16 * i) ≡ 16 * j = omega arith in
    sym (drop-drop (16 * j - 16 * i) (16 * i) xs ∙ ap (λ (n : ℕ). drop n xs) p)
    ∙ ap (λ (t : List ℕ). drop (16 * j - 16 * i) t) e
    ∙ drop-drop (16 * j - 16 * i) (16 * i) ys ∙ ap (λ (n : ℕ). drop n ys) p

pub done_none : (R : ℕ → List ℕ → Type 0) (start : List ℕ) → IsDone R start start 0
done_none R start = record { done = λ j lt. absurd (omega arith); rest = refl }

pub done_more : (R : ℕ → List ℕ → Type 0) (start old new b : List ℕ) (i : ℕ) → IsDone R start old i → PutsBlock old new i b → R i b
    → IsDone R start new (i + 1)
done_more R start old new b i before puts r = record {
  done = λ j lt. elim (cases_lt j i) [
    | inl less ↦ subst (λ (x : List ℕ). R j x) (sym (puts.below j less)) (before.done j less)
    | inr more ↦
        let is : i ≡ j = omega arith in
        subst (λ (n : ℕ). R n (block_at new n)) is (subst (λ (x : List ℕ). R i x) (sym puts.at) r)
  ];
  rest = rest_more start old new b i before.rest puts;
}
