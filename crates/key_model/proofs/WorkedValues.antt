-- Values that another implementation computed, so that a wrong step of a definition does not check. A
-- literal of 128 bits is written as its 16 octets, the highest first.
use Rattle.std.proofs.Common.{◌≡◌, ℕ, List, ◌++◌, codes, replicate, refl}
use Rattle.std.specs.Int.{w64, w128, to_be_bytes}
use Rattle.std.specs.Fmt.{digits}
use Rattle.md5.specs.Md5.{block_words, md5}
use Rattle.md5.specs.Md5 as md5_steps
use Rattle.sha2.specs.Sha512.{first_words, schedule, sha512}
use Rattle.sha2.specs.Sha512 as sha512_steps
use Rattle.rand_core.specs.Steps.{u32_at}
use Rattle.rand_chacha.specs.Block.{quarter_round, column_round, diagonal_round, double_rounds, block_word}
use Rattle.key_model.specs.PassphraseKey.{iterated_sha512}
use Rattle.key_model.specs.FileKey.{file_key, file_mark, aes128_words}
use Rattle.key_model.specs.ExtentIv.{root_iv, extent_iv}

abbrev octets16 : ℕ → List ℕ
octets16 n = to_be_bytes w128 n

-- two rounds over the salt 00 11 .. 77 and the passphrase `test`
iterated_sha512-two : iterated_sha512 2 (to_be_bytes w64 0x0011223344556677 ++ codes "test")
    ≡ octets16 0x67fa087004093cee5aee02d80f288aee ++ octets16 0x6ade286c21e11dcc38a4584e96d38286
    ++ octets16 0x42fbad525f5eddb0db373bb425617a59 ++ octets16 0xf66540c539c4383e230e1c82a78308e7
unfolding iterated_sha512 first_words schedule sha512 sha512_steps.rounds sha512_steps.compress sha512_steps.hash_after sha512_steps.digest_bytes
iterated_sha512-two = refl

-- the random octets are zeros
file_key-first_node : file_key (replicate 32 0) 0 aes128_words ≡ octets16 0x76b8e0ada0f13d90405d6ae55386bd28
unfolding file_key u32_at quarter_round column_round diagonal_round double_rounds block_word
file_key-first_node = refl

file_mark-first_node : file_mark (replicate 32 0) 0 aes128_words ≡ 0xb819d2bd
unfolding u32_at quarter_round column_round diagonal_round double_rounds block_word
file_mark-first_node = refl

file_key-last_node : file_key (replicate 32 0) 4095 aes128_words ≡ octets16 0x05ce8cf53d7b26e26eb73849176f5a4b
unfolding file_key u32_at quarter_round column_round diagonal_round double_rounds block_word
file_key-last_node = refl

-- the random octets are 00 01 .. 1f
abbrev counted_octets : List ℕ
counted_octets =
    octets16 0x000102030405060708090a0b0c0d0e0f ++ octets16 0x101112131415161718191a1b1c1d1e1f

file_key-counted : file_key counted_octets 1 aes128_words ≡ octets16 0x2fa4f10250808e89a25231e50fdf6ee0
unfolding file_key u32_at quarter_round column_round diagonal_round double_rounds block_word
file_key-counted = refl

file_key-eight_words : file_key counted_octets 1 8
    ≡ octets16 0x2fa4f10250808e89a25231e50fdf6ee0 ++ octets16 0x71c65f21ef9eee784c3f2d89061ae895
unfolding file_key u32_at quarter_round column_round diagonal_round double_rounds block_word
file_key-eight_words = refl

file_mark-eight_words : file_mark counted_octets 1 8 ≡ 0x59deeb1e
unfolding u32_at quarter_round column_round diagonal_round double_rounds block_word
file_mark-eight_words = refl

-- the file key is 00 01 .. 0f
root_iv-counted : root_iv (octets16 0x000102030405060708090a0b0c0d0e0f)
    ≡ octets16 0x1ac1ef01e96caf1be0d329331a4fc2a8
unfolding md5 block_words md5_steps.rounds md5_steps.compress md5_steps.hash_after md5_steps.digest_bytes
root_iv-counted = refl

root_iv-long_key : root_iv counted_octets ≡ octets16 0xb4ffcb23737cec315a4a4d1aa2a620ce
unfolding md5 block_words md5_steps.rounds md5_steps.compress md5_steps.hash_after md5_steps.digest_bytes
root_iv-long_key = refl

extent_iv-first : extent_iv (octets16 0x1ac1ef01e96caf1be0d329331a4fc2a8) 0
    ≡ octets16 0xcd096e1db464e9b4c91e51419090606b
unfolding md5 block_words md5_steps.rounds md5_steps.compress md5_steps.hash_after md5_steps.digest_bytes digits
extent_iv-first = refl

extent_iv-two_digits : extent_iv (octets16 0x1ac1ef01e96caf1be0d329331a4fc2a8) 12
    ≡ octets16 0xd2cdd65b6fc4ad63f6b3f45e5eb614dd
unfolding md5 block_words md5_steps.rounds md5_steps.compress md5_steps.hash_after md5_steps.digest_bytes digits
extent_iv-two_digits = refl

extent_iv-fifteen_digits : extent_iv (octets16 0x1ac1ef01e96caf1be0d329331a4fc2a8) 999999999999999
    ≡ octets16 0xd02b11fe773a55f3351a66c9e47a8ea1
unfolding md5 block_words md5_steps.rounds md5_steps.compress md5_steps.hash_after md5_steps.digest_bytes digits
extent_iv-fifteen_digits = refl
