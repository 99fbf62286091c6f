-- The key of a ring that has one.
use Rattle.std.proofs.Common.{◌≡◌, ℕ, Bool, true, false, List, [], ◌∷◌, Option, Some, Result, Ok, refl, sym, ap, subst, ◌∙◌}
use Rattle.std.specs.Prelude.{IsOkAnd, IsSomeAnd, ◌||◌}
use Rattle.std.specs.Str.{bytes_eq}
use Rattle.key_model.specs.SignedKey.{SignedKey, signatures, keys, key_with}
use Rattle.packet_model.specs.declared.cause.BadCause.{BadCause}
use Rattle.packet_model.specs.PacketSet.{WrappedKey, key_at}
use Rattle.packet_model.specs.FileKey.{IsFileKey}
use Rattle.packet_model.proofs.Headers.{key_is_ours}
use Rattle.packet_model.proofs.Sets.{ok}
use Rattle.packet_set.specs.declared.key_search.Found.{Found}
use Rattle.packet_set.specs.Found.{IsFound}

the_one : (x : SignedKey) (s k signature : List ℕ) → x.signature ≡ s → x.key ≡ k → bytes_eq s signature ≡ true → key_with signature (x ∷ []) ≡ Some k
the_one x s k signature is_s is_k same = rw (is_s, same) (ap (λ (key : List ℕ). Some key) is_k)

one_key : (ring : List SignedKey) (s k signature : List ℕ) → signatures ring ≡ s ∷ [] → keys ring ≡ k ∷ [] → bytes_eq s signature ≡ true → key_with signature ring ≡ Some k
one_key [] s k signature of_s of_k same = absurd cc
one_key (x ∷ []) s k signature of_s of_k same = the_one x s k signature (cc) (cc) same
one_key (x ∷ y ∷ rest) s k signature of_s of_k same = absurd cc

or_false : (b : Bool) → (b || false) ≡ true → b ≡ true
or_false true e = refl
or_false false e = e

pub is_found : (ring : List SignedKey) (s k octets : List ℕ) (key : WrappedKey) (found : Found) → signatures ring ≡ s ∷ [] → keys ring ≡ k ∷ [] → key_at (s ∷ []) octets ≡ ok key
    → found.signature ≡ key.signature → IsFileKey k key.wrapped found.fek → IsOkAnd (key_at (signatures ring) octets) (IsFound ring found)
is_found ring s k octets key found of_s of_k read signature wraps =
    let given : key_at (signatures ring) octets ≡ ok key = ap (λ (ours : List (List ℕ)). key_at ours octets) of_s ∙ read in
    let own : bytes_eq s key.signature ≡ true = or_false (bytes_eq s key.signature) (key_is_ours (s ∷ []) octets key read) in
    let unwraps = subst (λ (o : Option (List ℕ)). IsSomeAnd o (λ kek. IsFileKey kek key.wrapped found.fek)) (sym (one_key ring s k key.signature of_s of_k own)) wraps in
    subst (λ (r : Result WrappedKey BadCause). IsOkAnd r (IsFound ring found)) (sym given) (record { signature = signature; fek = unwraps })
