-- The file key that a set of packets holds for a ring.
use Rattle.std.specs.Prelude.{ℕ, ◌≡◌, List}
use Rattle.key_model.specs.SignedKey.{SignedKey}
use Rattle.packet_model.specs.declared.layout.TheConstants.{AES_128}
use Rattle.packet_model.specs.PacketSet.{WrappedKey}
use Rattle.packet_model.specs.FileKey.{Unwraps}
use Rattle.packet_set.specs.declared.key_search.Found.{Found}

-- this is the file key that the ring's key with this wrapped key's signature wraps so, with that signature
pub record IsFound (ring : List SignedKey) (found : Found) (key : WrappedKey) : Type 0 where
  pub signature : found.signature ≡ key.signature
  pub fek : Unwraps ring key found.fek

-- a wrapped key for AES-128
abbrev pub aes_128_key : List ℕ → List ℕ → WrappedKey
aes_128_key signature wrapped = record { signature = signature; cipher = AES_128; wrapped = wrapped }
