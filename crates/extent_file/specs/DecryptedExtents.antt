-- Extents that are decrypted in place, one after another.
use Rattle.std.specs.Prelude.{ℕ, ◌≡◌, ◌<◌, ◌*◌, List, take, drop}
use Rattle.octet_model.specs.Octets.{AreOctets}
use Rattle.cipher_model.specs.Cbc.{IsCbc}
use Rattle.key_model.specs.ExtentIv.{extent_iv}
use Rattle.packet_model.specs.declared.layout.TheConstants.{EXTENT_SIZE}
use Rattle.packet_model.specs.Metadata.{extent_count}
use Rattle.body_model.specs.Format.{extent_at}
use Rattle.content_model.specs.Content.{ArePlain}

-- of the cipher text the first n extents are now decrypted, each with the IV of its number
pub record IsDecryptedTo (key root cipher now : List ℕ) (n : ℕ) : Type 0 where
  pub done : (j : ℕ) → j < n → IsCbc key (extent_iv root j) (extent_at 0 now j) (extent_at 0 cipher j)
  pub rest : drop (EXTENT_SIZE * n) now ≡ drop (EXTENT_SIZE * n) cipher

-- the first octets, as many as the size, of the plain text of these extents
pub record AreFirstOctets (key extents : List ℕ) (size : ℕ) (octets : List ℕ) : Type 0 where
  pub key_octets : AreOctets key
  pub plain : List ℕ
  pub are_plain : ArePlain key 0 (extent_count size) extents plain
  pub first : octets ≡ take size plain
