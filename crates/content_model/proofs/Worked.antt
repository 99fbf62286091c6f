-- Worked values of plain texts, file keys and new metadata.
use Rattle.std.proofs.Common.{◌≡◌, ◌+◌, ◌<◌, ltb, ℕ, zero, suc, List, [], ◌∷◌, ◌++◌, replicate, true, refl, sym, ap, ◌∙◌, arith}
use Rattle.std.specs.List.{list_all}
use Rattle.std.proofs.lemmas.Bool.{ltb-true, and_parts}
use Rattle.std.specs.Fmt.{digits}
use Rattle.md5.specs.Md5.{block_words, md5}
use Rattle.md5.specs.Md5 as md5_steps
use Rattle.rand_core.specs.Steps.{u32_at}
use Rattle.rand_chacha.specs.Block.{quarter_round, column_round, diagonal_round, double_rounds, block_word}
use Rattle.octet_model.specs.Octets.{AreOctets}
use Rattle.cipher_model.specs.Aes.{IsBlock, encrypted, rounds, schedule}
use Rattle.cipher_model.specs.Field.{product_of_bits, power_of_bits, sub_byte}
use Rattle.cipher_model.specs.Cbc.{IsCbc}
use Rattle.cipher_model.specs.Examples.{octets, counting_key, sample_block, mode_key, mode_text}
use Rattle.cipher_model.proofs.WorkedExamples.{aes_128_example, cbc_example}
use Rattle.key_model.specs.ExtentIv.{root_iv, extent_iv}
use Rattle.key_model.specs.FileKey.{file_key, file_mark, aes128_words}
use Rattle.lower_model.specs.declared.meta_place.MetaPlace.{MetaPlace}
use Rattle.lower_model.specs.declared.meta_place.MetaPlace.TheVariants.{Header, Attribute}
use Rattle.packet_model.specs.Metadata.{new_metadata}
use Rattle.content_model.specs.Extents.{cbc_decrypted, plain_extent, wrapped_key, unwrapped_key}
use Rattle.content_model.specs.Ecryptfs.{EcryptfsMount, new_opened, header_for, place_flag}
use Rattle.content_model.proofs.Extents.{cbc_decrypted_is, plain_extent_is}

-- octets, by a test that computes
fits : (xs : List ℕ) → list_all (λ c. ltb c 256) xs ≡ true → AreOctets xs
fits [] h = tt
fits (x ∷ xs) h =
    let parts = and_parts (ltb x 256) (list_all (λ c. ltb c 256) xs) h in
    (ltb-true x 256 parts.0, fits xs parts.1)

-- SP 800-38A, F.2.2
abbrev mode_cipher : List ℕ
mode_cipher = octets 64
    0x7649abac8119b246cee98e9b12e9197d5086cb9b507219ee95db113a917678b273bed6b8e3c1743b7116e69e222295163ff1caa1681fac09120eca307586e1a7

decrypted_text : cbc_decrypted mode_key (counting_key 16) mode_cipher ≡ mode_text
decrypted_text =
    let iv : IsBlock (counting_key 16) = record { long = refl; bytes = fits (counting_key 16) refl } in
    sym (cbc_decrypted_is mode_key (counting_key 16) mode_text mode_cipher iv (fits mode_cipher refl) (fits mode_text refl) cbc_example)

two : (P : ℕ → Type 0) → P 0 → P 1 → (i : ℕ) → i < 2 → P i
two P p0 p1 zero h = p0
two P p0 p1 (suc zero) h = p1
two P p0 p1 (suc (suc i)) h = absurd (omega arith)

-- what OpenSSL decrypts two blocks of zeros to, the first ones of extent 0
abbrev plain_zeros : List ℕ
plain_zeros = octets 32 0xaa09815129c2c9d15e03a3f9fdfc7c3f753b94b73d274d8a35223597cf5caf0a

zeros_encrypted : IsCbc sample_block (extent_iv (root_iv sample_block) 0) plain_zeros (octets 32 0)
unfolding product_of_bits power_of_bits sub_byte rounds schedule encrypted md5 block_words md5_steps.rounds md5_steps.compress md5_steps.hash_after md5_steps.digest_bytes digits
zeros_encrypted = record { same_length = record { whole = refl; long = refl }; blocks = two _ refl refl }

zeros_decrypted : plain_extent sample_block 0 (octets 32 0) ≡ plain_zeros
zeros_decrypted = plain_extent_is sample_block 0 plain_zeros (octets 32 0) (fits (octets 32 0) refl) (fits plain_zeros refl) zeros_encrypted

-- and the octets 00 01 .. 1f, the first ones of extent 12
abbrev plain_counted : List ℕ
plain_counted = octets 32 0x3e4bbcc383e9ee0bea382abbba50f042451257c53eb907f8ca0f0fb92aef1dde

counted_encrypted : IsCbc sample_block (extent_iv (root_iv sample_block) 12) plain_counted (counting_key 32)
unfolding product_of_bits power_of_bits sub_byte rounds schedule encrypted md5 block_words md5_steps.rounds md5_steps.compress md5_steps.hash_after md5_steps.digest_bytes digits
counted_encrypted = record { same_length = record { whole = refl; long = refl }; blocks = two _ refl refl }

counted_decrypted : plain_extent sample_block 12 (counting_key 32) ≡ plain_counted
counted_decrypted = plain_extent_is sample_block 12 plain_counted (counting_key 32) (fits (counting_key 32) refl) (fits plain_counted refl) counted_encrypted

-- FIPS 197, C.1: the key-encryption key begins 00 01 .. 0f, and the file key is 00 11 .. ff
key_wrapped : wrapped_key (counting_key 32) sample_block ≡ octets 16 0x69c4e0d86a7b0430d8cdb78070b4c55a
key_wrapped = aes_128_example.forward

key_unwrapped : unwrapped_key (counting_key 32) (octets 16 0x69c4e0d86a7b0430d8cdb78070b4c55a) ≡ sample_block
key_unwrapped = aes_128_example.back

-- ---- new metadata as another implementation writes it, of node 1 under the random octets 00 01 .. 1f

abbrev kek : List ℕ
kek = counting_key 32

abbrev mount : MetaPlace → EcryptfsMount
mount place = record {
  key = record { signature = octets 8 0x0102030405060708; key = kek };
  salt = octets 8 0x0011223344556677;
  random = kek;
  names_coded = true;
  meta_place = place;
}

abbrev key : List ℕ
key = octets 16 0x2fa4f10250808e89a25231e50fdf6ee0

key_drawn : file_key kek 1 aes128_words ≡ key
unfolding file_key u32_at quarter_round column_round diagonal_round double_rounds block_word
key_drawn = refl

mark_drawn : file_mark kek 1 aes128_words ≡ 0x215fc671
unfolding u32_at quarter_round column_round diagonal_round double_rounds block_word
mark_drawn = refl

abbrev wrapped : List ℕ
wrapped = octets 16 0xfae210faf5886d9097d6b258f404f1d5

drawn_wrapped : wrapped_key kek key ≡ wrapped
unfolding product_of_bits power_of_bits sub_byte rounds schedule encrypted
drawn_wrapped = refl

header_is : (place : MetaPlace) → header_for (mount place) 1 ≡ record {
  size = 0;
  mark = 0x215fc671;
  flags = 2 + place_flag place + 8;
  salt = octets 8 0x0011223344556677;
  key = record { signature = octets 8 0x0102030405060708; cipher = 7; wrapped = wrapped };
}
header_is place =
    let w : wrapped_key kek (file_key kek 1 aes128_words) ≡ wrapped = ap (λ (k : List ℕ). wrapped_key kek k) key_drawn ∙ drawn_wrapped in
    λ t. record {
      size = 0;
      mark = mark_drawn t;
      flags = 2 + place_flag place + 8;
      salt = octets 8 0x0011223344556677;
      key = record { signature = octets 8 0x0102030405060708; cipher = 7; wrapped = w t };
    }

-- with the flags 0x2, 0x4 and 0x8
attribute_written : (new_opened (mount Attribute) 1).metadata ≡ octets 81
    0x0000000000000000215fc6711dde71840300000e0000100000028c1d04070301001122334455667760fae210faf5886d9097d6b258f404f1d5ed1662085f434f4e534f4c45000000000102030405060708
attribute_written = ap (new_metadata Attribute) (header_is Attribute)

-- with the flags 0x2 and 0x8
header_written : (new_opened (mount Header) 1).metadata ≡ octets 81
    0x0000000000000000215fc6711dde71840300000a0000100000028c1d04070301001122334455667760fae210faf5886d9097d6b258f404f1d5ed1662085f434f4e534f4c45000000000102030405060708
    ++ replicate 8111 0
header_written = ap (new_metadata Header) (header_is Header)
