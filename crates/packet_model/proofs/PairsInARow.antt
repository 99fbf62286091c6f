-- The pairs of a set one behind another, as a loop reads them.
use Rattle.std.proofs.Common.{◌≡◌, ◌∙◌, ℕ, zero, suc, ◌+◌, ◌≤◌, true, false, cond, List, [], ◌∷◌, length, drop, Result, Ok, Err, refl, sym, ap, arith}
use Rattle.std.proofs.lemmas.List.{length-drop}
use Rattle.octet_model.specs.Octets.{AreOctets}
use Rattle.octet_model.proofs.Octets.{AreOctets-drop}
use Rattle.answer_model.specs.Answer.{◌>>=◌}
use Rattle.packet_model.specs.declared.cause.BadCause.{BadCause}
use Rattle.packet_model.specs.declared.packet.Pair.{Pair}
use Rattle.packet_model.specs.PacketSet.{begins_pair, pair_at, pairs_at, pairs_from}
use Rattle.packet_model.proofs.Sets.{ok, pair_takes, none_begins, ends_here}

abbrev then_others : ℕ → ℕ → List ℕ → Pair × ℕ → Result (List Pair) BadCause
then_others most offset octets f = pairs_at most (offset + f.1) (drop f.1 octets) >>= λ ps. Ok (f.0 ∷ ps)

same_others : (m n offset : ℕ) (octets : List ℕ) (r : Result (Pair × ℕ) BadCause) → ((f : Pair × ℕ) → r ≡ ok f → pairs_at m (offset + f.1) (drop f.1 octets) ≡ pairs_at n (offset + f.1) (drop f.1 octets))
    → (r >>= then_others m offset octets) ≡ (r >>= then_others n offset octets)
same_others m n offset octets (Err cause) same = refl
same_others m n offset octets (Ok f) same = ap (λ (r : Result (List Pair) BadCause). r >>= λ ps. Ok (f.0 ∷ ps)) (same f refl)

-- more than enough is enough
pub enough : (m n offset : ℕ) (octets : List ℕ) → AreOctets octets → length octets ≤ m → length octets ≤ n → pairs_at m offset octets ≡ pairs_at n offset octets
unfolding pairs_at
enough zero n offset octets fits low high = sym (ends_here n offset octets (none_begins octets low))
enough (suc m) zero offset octets fits low high = ends_here (suc m) offset octets (none_begins octets high)
enough (suc m) (suc n) offset octets fits low high =
    ap (λ (r : Result (List Pair) BadCause). cond (begins_pair octets) r (Ok []))
    (same_others m n offset octets (pair_at offset octets) (λ f e.
    let has = pair_takes offset octets f fits e in
    enough m n (offset + f.1) (drop f.1 octets) (AreOctets-drop f.1 octets fits) (omega (arith, length-drop f.1 octets, has.some_octets)) (omega (arith, length-drop f.1 octets, has.some_octets))))

-- the pairs begin with the one that stands here
pub goes_on : (offset : ℕ) (octets : List ℕ) (f : Pair × ℕ) → AreOctets octets → begins_pair octets ≡ true → pair_at offset octets ≡ ok f
    → pairs_from offset octets ≡ (pairs_from (offset + f.1) (drop f.1 octets) >>= λ ps. Ok (f.0 ∷ ps))
unfolding pairs_at
goes_on offset [] f fits b e = absurd cc
goes_on offset (x ∷ xs) f fits b e =
    let has = pair_takes offset (x ∷ xs) f fits e in
    let same = enough (length xs) (length (drop f.1 (x ∷ xs))) (offset + f.1) (drop f.1 (x ∷ xs)) (AreOctets-drop f.1 (x ∷ xs) fits) (omega (arith, length-drop f.1 (x ∷ xs), has.some_octets)) (omega arith) in
    ap (λ b. cond b (pair_at offset (x ∷ xs) >>= then_others (length xs) offset (x ∷ xs)) (Ok [])) b
    ∙ ap (λ (r : Result (Pair × ℕ) BadCause). r >>= then_others (length xs) offset (x ∷ xs)) e
    ∙ ap (λ (r : Result (List Pair) BadCause). r >>= λ ps. Ok (f.0 ∷ ps)) same

-- the first fault is that of the pair that should stand here
pub stops : (offset : ℕ) (octets : List ℕ) (cause : BadCause) → begins_pair octets ≡ true → pair_at offset octets ≡ Err cause → pairs_from offset octets ≡ Err cause
unfolding pairs_at
stops offset [] cause b e = absurd cc
stops offset (x ∷ xs) cause b e =
    ap (λ b. cond b (pair_at offset (x ∷ xs) >>= then_others (length xs) offset (x ∷ xs)) (Ok [])) b
    ∙ ap (λ (r : Result (Pair × ℕ) BadCause). r >>= then_others (length xs) offset (x ∷ xs)) e

-- the set ends here
pub ends : (offset : ℕ) (octets : List ℕ) → begins_pair octets ≡ false → pairs_from offset octets ≡ ok []
ends offset octets e = ends_here (length octets) offset octets e
