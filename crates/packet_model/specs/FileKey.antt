-- The file key that a key-encryption key wraps.
use Rattle.std.specs.Prelude.{ℕ, List, length, take, IsSomeAnd}
use Rattle.cipher_model.specs.Ecb.{IsEcb}
use Rattle.key_model.specs.SignedKey.{SignedKey, key_with}
use Rattle.packet_model.specs.PacketSet.{WrappedKey}

-- wrapped is what ECB (SP 800-38A, 6.1) makes of the file key, under the first octets of the key-encryption key, as many as the file key has
abbrev pub IsFileKey : List ℕ → List ℕ → List ℕ → Type 0
IsFileKey kek wrapped key = IsEcb (take (length wrapped) kek) key wrapped

-- the file key that the ring's key with the signature of a wrapped key wraps so
abbrev pub Unwraps : List SignedKey → WrappedKey → List ℕ → Type 0
Unwraps ring wrapped key = IsSomeAnd (key_with wrapped.signature ring) (λ kek. IsFileKey kek wrapped.wrapped key)
