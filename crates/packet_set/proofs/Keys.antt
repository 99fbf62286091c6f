-- The key of a set, by its first pair and what is own of the others.
use Rattle.std.proofs.Common.{◌≡◌, ℕ, ◌+◌, true, List, ◌∷◌, drop, Option, None, Result, Ok, Err, refl, sym, ap, ◌∙◌}
use Rattle.std.specs.Prelude.{⊤}
use Rattle.octet_model.specs.Octets.{AreOctets}
use Rattle.packet_model.specs.declared.cause.BadCause.{BadCause}
use Rattle.packet_model.specs.declared.packet.Pair.{Pair}
use Rattle.answer_model.specs.Answer.{◌>>=◌, FailsAs}
use Rattle.packet_model.specs.PacketSet.{begins_pair, pair_at, pairs_from, SetTakesMemory, key_among, key_at, key_if_found, first_or_none}
use Rattle.packet_model.specs.declared.layout.TheConstants.{SET_OFFSET}
use Rattle.packet_model.proofs.Sets.{ok}
use Rattle.packet_model.proofs.Headers.{pair_takes_memory}
use Rattle.packet_model.proofs.PairsInARow as steps
use Rattle.packet_model.specs.declared.error.MetadataError.{MetadataError}
use Rattle.packet_model.specs.declared.error.MetadataError.TheVariants as errors
use Rattle.packet_model.specs.MetadataError.{cause_of}
use Rattle.packet_set.specs.OwnPair.{own_pair_with, own_pair_among, own_pair_behind}
use Rattle.packet_set.proofs.PairsInTurn.{one_more}

key_of_pairs : (ours : List (List ℕ)) (octets : List ℕ) → begins_pair octets ≡ true → key_at ours octets ≡ (pairs_from SET_OFFSET octets >>= key_among ours)
unfolding key_at
key_of_pairs ours octets b = rw b refl

pub first_fails : (e : MetadataError) (ours : List (List ℕ)) (octets : List ℕ) → begins_pair octets ≡ true → FailsAs (cause_of e) (SetTakesMemory octets) (pair_at SET_OFFSET octets) → FailsAs (cause_of e) (SetTakesMemory octets) (key_at ours octets)
first_fails errors.Memory ours octets b h = h
first_fails (errors.Bad cause) ours octets b h =
    key_of_pairs ours octets b ∙ ap (λ (r : Result (List Pair) BadCause). r >>= key_among ours) (steps.stops SET_OFFSET octets cause b h)

-- the first pair, and how the others go on
pub record HasFirst (ours : List (List ℕ)) (octets : List ℕ) (f : Pair × ℕ) (own : Option Pair) (rest : List ℕ) : Type 0 where
  pub fits : AreOctets octets
  pub begins : begins_pair octets ≡ true
  pub pair : pair_at SET_OFFSET octets ≡ ok f
  pub keeps : own ≡ own_pair_with ours None f.0
  pub behind : rest ≡ drop f.1 octets

others_of : (ours : List (List ℕ)) (octets : List ℕ) (f : Pair × ℕ) (own : Option Pair) (rest : List ℕ) → HasFirst ours octets f own rest
    → key_at ours octets ≡ ((pairs_from (SET_OFFSET + f.1) rest >>= λ ps. ok (f.0 ∷ ps)) >>= key_among ours)
others_of ours octets f own rest h =
    key_of_pairs ours octets h.begins
    ∙ ap (λ (r : Result (List Pair) BadCause). r >>= key_among ours) (steps.goes_on SET_OFFSET octets f h.fits h.begins h.pair)
    ∙ ap (λ (r : List ℕ). (pairs_from (SET_OFFSET + f.1) r >>= λ ps. ok (f.0 ∷ ps)) >>= key_among ours) (sym h.behind)

failed : (cause : BadCause) (ours : List (List ℕ)) (p : Pair) (own : Option Pair) (read : Result (List Pair) BadCause) → own_pair_behind ours own read ≡ Err cause
    → ((read >>= λ ps. ok (p ∷ ps)) >>= key_among ours) ≡ Err cause
failed cause ours p own (Ok pairs) e = absurd cc
failed cause ours p own (Err d) e = let same : d ≡ cause = cc in ap (λ (x : BadCause). Err x) same

pub others_fail : (e : MetadataError) (ours : List (List ℕ)) (octets : List ℕ) (f : Pair × ℕ) (own : Option Pair) (rest : List ℕ) → HasFirst ours octets f own rest
    → FailsAs (cause_of e) ⊤ (own_pair_behind ours own (pairs_from (SET_OFFSET + f.1) rest)) → FailsAs (cause_of e) (SetTakesMemory octets) (key_at ours octets)
others_fail errors.Memory ours octets f own rest first h = pair_takes_memory SET_OFFSET octets f first.pair
others_fail (errors.Bad cause) ours octets f own rest first h = others_of ours octets f own rest first ∙ failed cause ours f.0 own (pairs_from (SET_OFFSET + f.1) rest) h

option_is : (x y : Option Pair) → ok x ≡ ok y → x ≡ y
option_is x y e = cc

found_among : (ours : List (List ℕ)) (p : Pair) (own o : Option Pair) (read : Result (List Pair) BadCause) → own ≡ own_pair_with ours None p → own_pair_behind ours own read ≡ ok o
    → ((read >>= λ ps. ok (p ∷ ps)) >>= key_among ours) ≡ key_if_found p.tag11.signature (first_or_none ours) o
found_among ours p own o (Ok pairs) is e =
    let same : own_pair_among ours own pairs ≡ o = option_is (own_pair_among ours own pairs) o e in
    ap (key_if_found p.tag11.signature (first_or_none ours)) (one_more ours None p pairs ∙ ap (λ (k : Option Pair). own_pair_among ours k pairs) (sym is) ∙ same)
found_among ours p own o (Err cause) is e = absurd cc

pub found_is : (ours : List (List ℕ)) (octets : List ℕ) (f : Pair × ℕ) (own o : Option Pair) (rest : List ℕ) → HasFirst ours octets f own rest
    → own_pair_behind ours own (pairs_from (SET_OFFSET + f.1) rest) ≡ ok o → key_at ours octets ≡ key_if_found f.0.tag11.signature (first_or_none ours) o
found_is ours octets f own o rest first e = others_of ours octets f own rest first ∙ found_among ours f.0 own o (pairs_from (SET_OFFSET + f.1) rest) first.keeps e
