-- Reading the pairs of a set one behind another, as a loop does.
use Rattle.std.proofs.Common.{◌≡◌, ℕ, ◌+◌, Bool, true, false, cond, List, [], ◌∷◌, drop, Option, Some, None, Result, Ok, Err, refl, sym, ap, ◌∙◌}
use Rattle.std.specs.List.{find}
use Rattle.std.specs.Prelude.{⊤}
use Rattle.octet_model.specs.Octets.{AreOctets}
use Rattle.packet_model.specs.declared.cause.BadCause.{BadCause}
use Rattle.packet_model.specs.declared.packet.Pair.{Pair}
use Rattle.answer_model.specs.Answer.{◌>>=◌, FailsAs}
use Rattle.packet_model.specs.PacketSet.{begins_pair, pair_at, pairs_from, is_among}
use Rattle.packet_model.proofs.Sets.{ok}
use Rattle.packet_model.proofs.PairsInARow as steps
use Rattle.packet_model.specs.declared.error.MetadataError.{MetadataError}
use Rattle.packet_model.specs.declared.error.MetadataError.TheVariants as errors
use Rattle.packet_model.specs.MetadataError.{cause_of}
use Rattle.packet_set.specs.OwnPair.{own_pair_with, own_pair_among, own_pair_behind}

found_or : (ours : List (List ℕ)) (p : Pair) (pairs : List Pair) (b : Bool) → is_among p.tag11.signature ours ≡ b
    → cond b (Some p) (find (λ q. is_among q.tag11.signature ours) pairs) ≡ own_pair_among ours (cond b (Some p) None) pairs
found_or ours p pairs true e = refl
found_or ours p pairs false e = refl

pub one_more : (ours : List (List ℕ)) (own : Option Pair) (p : Pair) (pairs : List Pair) → own_pair_among ours own (p ∷ pairs) ≡ own_pair_among ours (own_pair_with ours own p) pairs
one_more ours None p pairs = found_or ours p pairs (is_among p.tag11.signature ours) refl
one_more ours (Some q) p pairs = refl

-- behind one more pair the rest of the set gives the same
pub behind_one : (ours : List (List ℕ)) (own : Option Pair) (p : Pair) (read : Result (List Pair) BadCause) → own_pair_behind ours own (read >>= λ ps. Ok (p ∷ ps)) ≡ own_pair_behind ours (own_pair_with ours own p) read
behind_one ours own p (Ok pairs) = ap (λ (o : Option Pair). Ok o) (one_more ours own p pairs)
behind_one ours own p (Err cause) = refl

pub goes_on : (ours : List (List ℕ)) (own next : Option Pair) (offset used : ℕ) (octets : List ℕ) (p : Pair) (total : Result (Option Pair) BadCause) → AreOctets octets
    → begins_pair octets ≡ true → pair_at offset octets ≡ ok (p, used) → next ≡ own_pair_with ours own p
    → own_pair_behind ours own (pairs_from offset octets) ≡ total → own_pair_behind ours next (pairs_from (offset + used) (drop used octets)) ≡ total
goes_on ours own next offset used octets p total fits b e is so_far =
    ap (λ (o : Option Pair). own_pair_behind ours o (pairs_from (offset + used) (drop used octets))) is
    ∙ sym (behind_one ours own p (pairs_from (offset + used) (drop used octets)))
    ∙ ap (own_pair_behind ours own) (sym (steps.goes_on offset octets (p, used) fits b e)) ∙ so_far

pub stops : (e : MetadataError) (Taken : Type 0) (ours : List (List ℕ)) (own : Option Pair) (offset : ℕ) (octets : List ℕ) (total : Result (Option Pair) BadCause) → begins_pair octets ≡ true → FailsAs (cause_of e) Taken (pair_at offset octets)
    → own_pair_behind ours own (pairs_from offset octets) ≡ total → FailsAs (cause_of e) ⊤ total
stops errors.Memory Taken ours own offset octets total b h so_far = tt
stops (errors.Bad cause) Taken ours own offset octets total b h so_far = sym so_far ∙ ap (own_pair_behind ours own) (steps.stops offset octets cause b h)

pub is_done : (ours : List (List ℕ)) (own : Option Pair) (offset : ℕ) (octets : List ℕ) (total : Result (Option Pair) BadCause) → begins_pair octets ≡ false
    → own_pair_behind ours own (pairs_from offset octets) ≡ total → total ≡ ok (own_pair_among ours own [])
is_done ours own offset octets total b so_far = sym so_far ∙ ap (own_pair_behind ours own) (steps.ends offset octets b)

pub kept_alone : (ours : List (List ℕ)) (own : Option Pair) → own_pair_among ours own [] ≡ own
kept_alone ours None = refl
kept_alone ours (Some p) = refl
