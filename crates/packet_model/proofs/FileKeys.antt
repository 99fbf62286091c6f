-- A wrapped key is that of one file key, and a file key is wrapped in one way.
use Rattle.std.proofs.Common.{◌≡◌, ℕ, ◌%◌, List, length, take, Option, Some, None, ap, sym, ◌∙◌, arith}
use Rattle.std.specs.Prelude.{IsSomeAnd}
use Rattle.octet_model.specs.Octets.{AreOctets}
use Rattle.cipher_model.specs.Blocks.{block_at}
use Rattle.cipher_model.specs.Aes.{encrypted}
use Rattle.cipher_model.proofs.PlainTexts.{ecb-only}
use Rattle.cipher_model.proofs.Texts.{same_text}
use Rattle.key_model.specs.SignedKey.{SignedKey, key_with}
use Rattle.packet_model.specs.PacketSet.{WrappedKey}
use Rattle.packet_model.specs.FileKey.{IsFileKey, Unwraps}

-- a wrapped key has at most one file key
pub one_key : (kek wrapped k l : List ℕ) → AreOctets k → AreOctets l → IsFileKey kek wrapped k → IsFileKey kek wrapped l → k ≡ l
one_key kek wrapped k l hk hl a b = ecb-only (take (length wrapped) kek) wrapped k l hk hl a b

-- a file key is wrapped in at most one way
pub one_wrapping : (kek v w key : List ℕ) → IsFileKey kek v key → IsFileKey kek w key → v ≡ w
one_wrapping kek v w key a b =
    let long : length v ≡ length w = a.same_length.long ∙ sym b.same_length.long in
    let whole : length v % 16 ≡ 0 = ap (λ (n : ℕ). n % 16) a.same_length.long ∙ a.same_length.whole in
    same_text v w long whole (λ i h.
    a.blocks i (omega (arith, a.same_length.long))
    ∙ ap (λ (n : ℕ). encrypted (take n kek) (block_at key i)) long
    ∙ sym (b.blocks i (omega (arith, a.same_length.long))))

unwraps_one : (found : Option (List ℕ)) (wrapped k l : List ℕ) → AreOctets k → AreOctets l → IsSomeAnd found (λ kek. IsFileKey kek wrapped k) → IsSomeAnd found (λ kek. IsFileKey kek wrapped l) → k ≡ l
unwraps_one None wrapped k l hk hl a b = absurd a
unwraps_one (Some kek) wrapped k l hk hl a b = one_key kek wrapped k l hk hl a b

-- under a ring too
pub one_unwrapped : (ring : List SignedKey) (wrapped : WrappedKey) (k l : List ℕ) → AreOctets k → AreOctets l → Unwraps ring wrapped k → Unwraps ring wrapped l → k ≡ l
one_unwrapped ring wrapped k l hk hl a b = unwraps_one (key_with wrapped.signature ring) wrapped.wrapped k l hk hl a b
