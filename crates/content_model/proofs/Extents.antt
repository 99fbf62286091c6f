-- An extent's plain text as a function stands in the relation of CBC, and alone; and so does the file key in that of ECB.
use Rattle.std.proofs.Common.{◌≡◌, ℕ, zero, suc, ◌/◌, ◌%◌, ◌<◌, List, length, take, sym, ap, subst, ◌∙◌, arith}
use Rattle.std.proofs.lemmas.List.{take_all}
use Rattle.octet_model.specs.Octets.{AreOctets}
use Rattle.cipher_model.specs.Aes.{IsBlock, encrypted, decrypted, xor_blocks}
use Rattle.cipher_model.specs.Blocks.{block_at, block_count}
use Rattle.cipher_model.specs.Cbc.{IsCbc, previous}
use Rattle.cipher_model.specs.Ecb.{IsEcb}
use Rattle.cipher_model.proofs.InverseCipher.{IsBlock-add_round_key, IsBlock-decrypted, add-add, decrypted-encrypted, encrypted-decrypted}
use Rattle.cipher_model.proofs.Texts.{IsBlock-block_at, same_text, length-text_of, block_at-text_of, AreOctets-text_of}
use Rattle.cipher_model.proofs.PlainTexts.{cbc-only}
use Rattle.key_model.specs.ExtentIv.{root_iv, extent_iv}
use Rattle.packet_model.specs.FileKey.{IsFileKey}
use Rattle.content_model.specs.Extents.{plain_block, cbc_decrypted, plain_extent, wrapped_key, unwrapped_key}
use Rattle.content_model.proofs.IvBlocks.{IsBlock-extent_iv}

-- ---- CBC

IsBlock-previous : (iv cs : List ℕ) (i : ℕ) → IsBlock iv → AreOctets cs → i < block_count cs → IsBlock (previous iv cs i)
IsBlock-previous iv cs zero first octets h = first
IsBlock-previous iv cs (suc i) first octets h = IsBlock-block_at cs i octets (omega arith)

IsBlock-plain_block : (k iv cs : List ℕ) (i : ℕ) → IsBlock iv → AreOctets cs → i < block_count cs → IsBlock (plain_block k iv cs i)
IsBlock-plain_block k iv cs i first octets h =
    IsBlock-add_round_key (decrypted k (block_at cs i)) (previous iv cs i) (IsBlock-decrypted k (block_at cs i) (IsBlock-block_at cs i octets h)) (IsBlock-previous iv cs i first octets h)

pub length-cbc_decrypted : (k iv cs : List ℕ) → length cs % 16 ≡ 0 → length (cbc_decrypted k iv cs) ≡ length cs
length-cbc_decrypted k iv cs whole = omega (arith, length-text_of (plain_block k iv cs) (block_count cs))

pub AreOctets-cbc_decrypted : (k iv cs : List ℕ) → IsBlock iv → AreOctets cs → AreOctets (cbc_decrypted k iv cs)
AreOctets-cbc_decrypted k iv cs first octets = AreOctets-text_of (plain_block k iv cs) (block_count cs) (λ i h. (IsBlock-plain_block k iv cs i first octets h).bytes)

encrypted_again : (k iv cs : List ℕ) (i : ℕ) → IsBlock iv → AreOctets cs → i < block_count cs
    → block_at cs i ≡ encrypted k (xor_blocks (block_at (cbc_decrypted k iv cs) i) (previous iv cs i))
encrypted_again k iv cs i first octets h =
    let block : IsBlock (block_at cs i) = IsBlock-block_at cs i octets h in
    let back : block_at (cbc_decrypted k iv cs) i ≡ plain_block k iv cs i =
    block_at-text_of (plain_block k iv cs) (block_count cs) i h (IsBlock-plain_block k iv cs i first octets h).long in
    sym (ap (λ (b : List ℕ). encrypted k b)
    (ap (λ (b : List ℕ). xor_blocks b (previous iv cs i)) back ∙ add-add (decrypted k (block_at cs i)) (previous iv cs i) (IsBlock-decrypted k (block_at cs i) block))
    ∙ encrypted-decrypted k (block_at cs i) block)

pub IsCbc-cbc_decrypted : (k iv cs : List ℕ) → IsBlock iv → AreOctets cs → length cs % 16 ≡ 0 → IsCbc k iv (cbc_decrypted k iv cs) cs
IsCbc-cbc_decrypted k iv cs first octets whole =
    let long : length (cbc_decrypted k iv cs) ≡ length cs = length-cbc_decrypted k iv cs whole in
    record {
      same_length = record { whole = omega arith; long = sym long };
      blocks = λ i h. encrypted_again k iv cs i first octets (omega arith);
    }

-- the plain text is that of the function
pub cbc_decrypted_is : (k iv ps cs : List ℕ) → IsBlock iv → AreOctets cs → AreOctets ps → IsCbc k iv ps cs → ps ≡ cbc_decrypted k iv cs
cbc_decrypted_is k iv ps cs first hc hp is =
    let whole : length cs % 16 ≡ 0 = omega (arith, is.same_length.long, is.same_length.whole) in
    cbc-only k iv cs ps (cbc_decrypted k iv cs) first hc hp (AreOctets-cbc_decrypted k iv cs first hc) is (IsCbc-cbc_decrypted k iv cs first hc whole)

same_blocks : (k iv ps cs ds : List ℕ) (i : ℕ) → IsCbc k iv ps cs → IsCbc k iv ps ds → i < block_count ps → block_at cs i ≡ block_at ds i
same_blocks k iv ps cs ds zero a b h = a.blocks 0 h ∙ sym (b.blocks 0 h)
same_blocks k iv ps cs ds (suc i) a b h =
    a.blocks (suc i) h ∙ ap (λ (p : List ℕ). encrypted k (xor_blocks (block_at ps (suc i)) p)) (same_blocks k iv ps cs ds i a b (omega arith)) ∙ sym (b.blocks (suc i) h)

-- a plain text has one cipher text
pub one_cipher : (k iv ps cs ds : List ℕ) → IsCbc k iv ps cs → IsCbc k iv ps ds → cs ≡ ds
one_cipher k iv ps cs ds a b =
    let long : length cs ≡ length ds = a.same_length.long ∙ sym b.same_length.long in
    let whole : length cs % 16 ≡ 0 = omega (arith, a.same_length.long, a.same_length.whole) in
    same_text cs ds long whole (λ i h. same_blocks k iv ps cs ds i a b (omega (arith, a.same_length.long)))

-- ---- ECB of one block

block_whole : (xs : List ℕ) → length xs ≡ 16 → block_at xs 0 ≡ xs
block_whole xs long = take_all 16 xs (omega arith)

first_block : (n i : ℕ) → n ≡ 16 → i < n / 16 → 0 ≡ i
first_block n i is h = omega arith

IsEcb-one : (k w b : List ℕ) → length w ≡ 16 → IsBlock b → w ≡ encrypted k b → IsEcb k b w
IsEcb-one k w b long block is = record {
  same_length = record { whole = omega (arith, block.long); long = omega (arith, block.long) };
  blocks = λ i h. subst (λ (j : ℕ). block_at w j ≡ encrypted k (block_at b j)) (first_block (length b) i block.long h)
      (block_whole w long ∙ is ∙ ap (λ (x : List ℕ). encrypted k x) (sym (block_whole b block.long)));
}

encrypted_is : (k w b : List ℕ) → length w ≡ 16 → IsEcb k b w → w ≡ encrypted k b
encrypted_is k w b long is =
    let same : length b ≡ 16 = omega (arith, is.same_length.long) in
    let block : block_at w 0 ≡ encrypted k (block_at b 0) = is.blocks 0 (omega arith) in
    sym (block_whole w long) ∙ block ∙ ap (λ (x : List ℕ). encrypted k x) (block_whole b same)

-- a file key is what its wrapped key is unwrapped to
pub unwrapped_is : (kek w key : List ℕ) → length w ≡ 16 → AreOctets key → IsFileKey kek w key → key ≡ unwrapped_key kek w
unwrapped_is kek w key long octets is =
    let under : IsEcb (take 16 kek) key w = subst (λ (n : ℕ). IsEcb (take n kek) key w) long is in
    let block : IsBlock key = record { long = omega (arith, under.same_length.long); bytes = octets } in
    sym (decrypted-encrypted (take 16 kek) key block) ∙ ap (λ (x : List ℕ). decrypted (take 16 kek) x) (sym (encrypted_is (take 16 kek) w key long under))

pub unwraps : (kek w : List ℕ) → IsBlock w → IsFileKey kek w (unwrapped_key kek w)
unwraps kek w block =
    subst (λ (n : ℕ). IsEcb (take n kek) (unwrapped_key kek w) w) (sym block.long)
    (IsEcb-one (take 16 kek) w (unwrapped_key kek w) block.long (IsBlock-decrypted (take 16 kek) w block) (sym (encrypted-decrypted (take 16 kek) w block)))

-- a file key is wrapped so
pub wrapped_is : (kek w key : List ℕ) → length w ≡ 16 → IsFileKey kek w key → w ≡ wrapped_key kek key
wrapped_is kek w key long is = encrypted_is (take 16 kek) w key long (subst (λ (n : ℕ). IsEcb (take n kek) key w) long is)

pub unwrapped-wrapped : (kek key : List ℕ) → IsBlock key → unwrapped_key kek (wrapped_key kek key) ≡ key
unwrapped-wrapped kek key block = decrypted-encrypted (take 16 kek) key block

-- ---- extents

pub plain_extent_is : (key : List ℕ) (n : ℕ) (plain extent : List ℕ) → AreOctets extent → AreOctets plain → IsCbc key (extent_iv (root_iv key) n) plain extent → plain_extent key n extent ≡ plain
unfolding plain_extent
plain_extent_is key n plain extent octets fits is = sym (cbc_decrypted_is key (extent_iv (root_iv key) n) plain extent (IsBlock-extent_iv (root_iv key) n) octets fits is)

pub IsCbc-plain_extent : (key : List ℕ) (n : ℕ) (extent : List ℕ) → AreOctets extent → length extent % 16 ≡ 0 → IsCbc key (extent_iv (root_iv key) n) (plain_extent key n extent) extent
unfolding plain_extent
IsCbc-plain_extent key n extent octets whole = IsCbc-cbc_decrypted key (extent_iv (root_iv key) n) extent (IsBlock-extent_iv (root_iv key) n) octets whole

pub AreOctets-plain_extent : (key : List ℕ) (n : ℕ) (extent : List ℕ) → AreOctets extent → AreOctets (plain_extent key n extent)
unfolding plain_extent
AreOctets-plain_extent key n extent octets = AreOctets-cbc_decrypted key (extent_iv (root_iv key) n) extent (IsBlock-extent_iv (root_iv key) n) octets

pub length-plain_extent : (key : List ℕ) (n : ℕ) (extent : List ℕ) → length extent % 16 ≡ 0 → length (plain_extent key n extent) ≡ length extent
unfolding plain_extent
length-plain_extent key n extent whole = length-cbc_decrypted key (extent_iv (root_iv key) n) extent whole

-- an extent is that of one plain text
pub one_extent : (key : List ℕ) (n : ℕ) (a b : List ℕ) → AreOctets a → AreOctets b → length a % 16 ≡ 0 → length b % 16 ≡ 0 → plain_extent key n a ≡ plain_extent key n b → a ≡ b
one_extent key n a b ha hb wa wb e =
    one_cipher key (extent_iv (root_iv key) n) (plain_extent key n a) a b (IsCbc-plain_extent key n a ha wa)
    (subst (λ (p : List ℕ). IsCbc key (extent_iv (root_iv key) n) p b) (sym e) (IsCbc-plain_extent key n b hb wb))
