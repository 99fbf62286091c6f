-- The IV of an extent is a block.
use Rattle.std.proofs.Common.{ℕ, zero, suc, List, arith}
use Rattle.std.specs.Prelude.{slice_index}
use Rattle.std.specs.Int.{w32, to_le_bytes}
use Rattle.octet_model.specs.Octets.{AreOctets}
use Rattle.md5.specs.Md5.{digest_bytes, md5}
use Rattle.md5.proofs.StandardFacts.{length-md5}
use Rattle.cipher_model.specs.Aes.{IsBlock}
use Rattle.key_model.specs.ExtentIv.{extent_iv}
use Rattle.octet_model.proofs.Octets.{AreOctets-append}

word_octets : (n : ℕ) → AreOctets (to_le_bytes w32 n)
word_octets n = (omega arith, (omega arith, (omega arith, (omega arith, tt))))

digest_octets : (h : List ℕ) (n : ℕ) → AreOctets (digest_bytes h n)
unfolding digest_bytes
digest_octets h zero = tt
digest_octets h (suc n) = AreOctets-append (digest_bytes h n) (to_le_bytes w32 (slice_index h n)) (digest_octets h n) (word_octets (slice_index h n))

md5_octets : (m : List ℕ) → AreOctets (md5 m)
unfolding md5
md5_octets m = digest_octets _ 4

pub IsBlock-extent_iv : (root : List ℕ) (n : ℕ) → IsBlock (extent_iv root n)
IsBlock-extent_iv root n = record { long = length-md5 _; bytes = md5_octets _ }
