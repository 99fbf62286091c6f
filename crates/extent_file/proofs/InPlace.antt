-- One extent decrypted in place after another.
use Rattle.std.proofs.Common.{◌≡◌, ℕ, ◌+◌, ◌-◌, ◌*◌, ◌<◌, ◌≤◌, List, length, take, drop, refl, sym, ap, ◌∙◌, inl, inr, subst, arith}
use Rattle.std.specs.Prelude.{slice_range}
use Rattle.std.proofs.lemmas.Bool.{cases_lt}
use Rattle.std.proofs.lemmas.List.{drop-drop, take-take, length-take, length-drop}
use Rattle.std.proofs.lemmas.Slice.{between_is, take-put_mid_below, between-put_mid, drop-put_mid}
use borrow.Rule.Slice.PartMut.{put_mid}
use Rattle.cipher_model.specs.Cbc.{IsCbc}
use Rattle.key_model.specs.ExtentIv.{root_iv, extent_iv}
use Rattle.body_model.specs.Format.{extent_at}
use Rattle.content_model.specs.Content.{ArePlain}
use Rattle.extent_file.specs.DecryptedExtents.{IsDecryptedTo}

-- an extent that is counted from the front
extent_is : (octets : List ℕ) (n : ℕ) → extent_at 0 octets n ≡ slice_range octets (4096 * n) (4096 * n + 4096)
extent_is octets n =
    let at : 0 + 4096 * n ≡ 4096 * n = omega arith in
    ap (λ (a : ℕ). slice_range octets a (a + 4096)) at

pub decrypted_none : (key root cipher : List ℕ) → IsDecryptedTo key root cipher cipher 0
decrypted_none key root cipher = record { done = λ j lt. absurd (omega arith); rest = refl }

pub decrypted_more : (key root cipher old part iv : List ℕ) (n k : ℕ) → k ≡ 4096 → 4096 * n + 4096 ≤ length old → iv ≡ extent_iv root n
    → IsDecryptedTo key root cipher old n → IsCbc key iv part (take k (drop (4096 * n) old)) → IsDecryptedTo key root cipher (put_mid (4096 * n) k old part) (n + 1)
decrypted_more key root cipher old part iv n k is room number before cbc =
    let new : List ℕ = put_mid (4096 * n) k old part in
    let long : length part ≡ 4096 = omega (arith, cbc.same_length.long, length-take k (drop (4096 * n) old), length-drop (4096 * n) old) in
    let size : 4096 * n + 4096 - 4096 * n ≡ k = omega arith in
    let plain : extent_at 0 new n ≡ part = extent_is new n ∙ between-put_mid (4096 * n) k old part (4096 * n + 4096) (omega arith) (omega arith) in
    let coded : take k (drop (4096 * n) old) ≡ extent_at 0 cipher n =
    ap (λ (xs : List ℕ). take k xs) before.rest ∙ ap (λ (m : ℕ). take m (drop (4096 * n) cipher)) (sym size) ∙ sym (extent_is cipher n) in
    let here : IsCbc key (extent_iv root n) (extent_at 0 new n) (extent_at 0 cipher n) =
    subst (λ (v : List ℕ). IsCbc key v (extent_at 0 new n) (extent_at 0 cipher n)) number
    (subst (λ (ps : List ℕ). IsCbc key iv ps (extent_at 0 cipher n)) (sym plain) (subst (λ (cs : List ℕ). IsCbc key iv part cs) coded cbc)) in
    let same : (j : ℕ) → j < n → extent_at 0 old j ≡ extent_at 0 new j = λ j less.
    extent_is old j ∙ between_is old (4096 * j) (4096 * j + 4096)
    ∙ ap (λ (xs : List ℕ). drop (4096 * j) xs) (sym (take-put_mid_below (4096 * n) k old part (4096 * j + 4096) (omega arith) (omega arith)))
    ∙ sym (between_is new (4096 * j) (4096 * j + 4096)) ∙ sym (extent_is new j) in
    let next : 4096 * (n + 1) ≡ 4096 * n + 4096 = omega arith in
    record {
      done = λ j lt. elim (cases_lt j n) [
        | inl less ↦ subst (λ (ps : List ℕ). IsCbc key (extent_iv root j) ps (extent_at 0 cipher j)) (same j less) (before.done j less)
        | inr more ↦
            let at : n ≡ j = omega arith in
            subst (λ (m : ℕ). IsCbc key (extent_iv root m) (extent_at 0 new m) (extent_at 0 cipher m)) at here
      ];
      rest =
          ap (λ (m : ℕ). drop m new) next
          ∙ drop-put_mid (4096 * n) k old part (4096 * n + 4096) (omega arith) (omega arith) (omega arith)
          ∙ sym (drop-drop 4096 (4096 * n) old) ∙ ap (λ (xs : List ℕ). drop 4096 xs) before.rest ∙ drop-drop 4096 (4096 * n) cipher
          ∙ ap (λ (m : ℕ). drop m cipher) (sym next);
    }

-- an extent of the extents of a body
extent_behind : (body : List ℕ) (start count m n : ℕ) → m ≡ 4096 * count → n < count → extent_at 0 (take m (drop start body)) n ≡ extent_at start body n
extent_behind body start count m n all lt =
    let a : ℕ = 0 + 4096 * n in
    let inside : a + 4096 ≤ m = omega arith in
    let long : a + 4096 - a ≡ start + 4096 * n + 4096 - (start + 4096 * n) = omega arith in
    let at : start + a ≡ start + 4096 * n = omega arith in
    between_is (take m (drop start body)) a (a + 4096)
    ∙ ap (λ (xs : List ℕ). drop a xs) (take-take (a + 4096) m (drop start body) inside)
    ∙ sym (between_is (drop start body) a (a + 4096))
    ∙ ap (λ (xs : List ℕ). take (a + 4096 - a) xs) (drop-drop a start body)
    ∙ (λ t. take (long t) (drop (at t) body))

pub plain_behind : (key body plain : List ℕ) (start count m : ℕ) → m ≡ 4096 * count → ArePlain key 0 count (take m (drop start body)) plain → ArePlain key start count body plain
plain_behind key body plain start count m all are = record {
  octets = are.octets;
  whole = are.whole;
  extents = λ n lt. subst (λ (cs : List ℕ). IsCbc key (extent_iv (root_iv key) n) (extent_at 0 plain n) cs) (extent_behind body start count m n all lt) (are.extents n lt);
}
