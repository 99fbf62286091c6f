-- The worked examples of the standards, as facts about the definitions.
use Rattle.std.specs.Prelude.{◌≡◌, ℕ, zero, suc, ◌/◌, ◌%◌, List, [], ◌∷◌, ◌++◌, ◌-◌, ◌^◌}
use Rattle.cipher_model.specs.Aes.{encrypted, decrypted}
use Rattle.cipher_model.specs.Cbc.{IsCbc}
use Rattle.cipher_model.specs.Ecb.{IsEcb}

-- the n octets of a number, the highest first
abbrev pub octets : ℕ → ℕ → List ℕ
octets zero x = []
octets (suc n) x = octets n (x / 256) ++ x % 256 ∷ []

-- FIPS 197, appendix B
abbrev pub CipherExample : Type 0
CipherExample =
    encrypted (octets 16 0x2b7e151628aed2a6abf7158809cf4f3c) (octets 16 0x3243f6a8885a308d313198a2e0370734)
    ≡ octets 16 0x3925841d02dc09fbdc118597196a0b32

-- the key 00 01 02 .., and the block 00 11 22 .. of FIPS 197, appendix C
abbrev pub counting_key : ℕ → List ℕ
counting_key n = octets n (0x000102030405060708090a0b0c0d0e0f101112131415161718191a1b1c1d1e1f / 256 ^ (32 - n))

abbrev pub sample_block : List ℕ
sample_block = octets 16 0x00112233445566778899aabbccddeeff

-- the cipher makes c of b under the key k, and the inverse cipher b of c
pub record IsEncrypted (k b c : List ℕ) : Type 0 where
  pub forward : encrypted k b ≡ c
  pub back : decrypted k c ≡ b

-- FIPS 197, C.1
abbrev pub Aes128Example : Type 0
Aes128Example = IsEncrypted (counting_key 16) sample_block (octets 16 0x69c4e0d86a7b0430d8cdb78070b4c55a)

-- FIPS 197, C.3
abbrev pub Aes256Example : Type 0
Aes256Example = IsEncrypted (counting_key 32) sample_block (octets 16 0x8ea2b7ca516745bfeafc49904b496089)

-- the key, the plain text and the initial block of SP 800-38A, appendix F.1 and F.2
abbrev pub mode_key : List ℕ
mode_key = octets 16 0x2b7e151628aed2a6abf7158809cf4f3c

abbrev pub mode_text : List ℕ
mode_text = octets 64
    0x6bc1bee22e409f96e93d7e117393172aae2d8a571e03ac9c9eb76fac45af8e5130c81c46a35ce411e5fbc1191a0a52eff69f2445df4f9b17ad2b417be66c3710

-- SP 800-38A, F.1.1
abbrev pub EcbExample : Type 0
EcbExample = IsEcb mode_key mode_text (octets 64
    0x3ad77bb40d7a3660a89ecaf32466ef97f5d3d58503b9699de785895a96fdbaaf43b1cd7f598ece23881b00e3ed0306887b0c785e27e8ad3f8223207104725dd4)

-- SP 800-38A, F.2.1
abbrev pub CbcExample : Type 0
CbcExample = IsCbc mode_key (counting_key 16) mode_text (octets 64
    0x7649abac8119b246cee98e9b12e9197d5086cb9b507219ee95db113a917678b273bed6b8e3c1743b7116e69e222295163ff1caa1681fac09120eca307586e1a7)
