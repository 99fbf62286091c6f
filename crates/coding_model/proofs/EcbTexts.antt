-- A text of whole blocks that is encrypted and decrypted is the text again, and the other way round.
use Rattle.std.proofs.Common.{◌≡◌, ℕ, ◌*◌, ◌/◌, ◌%◌, ◌<◌, List, length, ap, sym, ◌∙◌, arith}
use Rattle.octet_model.specs.Octets.{AreOctets}
use Rattle.cipher_model.specs.Aes.{IsBlock, encrypted, decrypted}
use Rattle.cipher_model.specs.Blocks.{block_at, block_count, text_of}
use Rattle.cipher_model.specs.Ecb.{IsEcb}
use Rattle.cipher_model.proofs.InverseCipher.{IsBlock-encrypted, IsBlock-decrypted, decrypted-encrypted, encrypted-decrypted}
use Rattle.cipher_model.proofs.Texts.{IsBlock-block_at, same_text, length-text_of, block_at-text_of, AreOctets-text_of}
use Rattle.coding_model.specs.CodedName.{ecb_encrypted, ecb_decrypted}

-- ---- a function of blocks on each block of a text

abbrev each_block : (List ℕ → List ℕ) → List ℕ → List ℕ
each_block f xs = text_of (λ i. f (block_at xs i)) (block_count xs)

abbrev KeepsBlocks : (List ℕ → List ℕ) → Type 0
KeepsBlocks f = (b : List ℕ) → IsBlock b → IsBlock (f b)

length-each : (f : List ℕ → List ℕ) (xs : List ℕ) → length xs % 16 ≡ 0 → length (each_block f xs) ≡ length xs
length-each f xs whole = length-text_of (λ i. f (block_at xs i)) (block_count xs) ∙ omega arith

AreOctets-each : (f : List ℕ → List ℕ) (xs : List ℕ) → KeepsBlocks f → AreOctets xs → AreOctets (each_block f xs)
AreOctets-each f xs keeps fits = AreOctets-text_of (λ i. f (block_at xs i)) (block_count xs) (λ i h. (keeps (block_at xs i) (IsBlock-block_at xs i fits h)).bytes)

block_each : (f : List ℕ → List ℕ) (xs : List ℕ) (i : ℕ) → KeepsBlocks f → AreOctets xs → i < block_count xs → block_at (each_block f xs) i ≡ f (block_at xs i)
block_each f xs i keeps fits h = block_at-text_of (λ i. f (block_at xs i)) (block_count xs) i h (keeps (block_at xs i) (IsBlock-block_at xs i fits h)).long

-- a function that undoes another on blocks undoes it on texts
undone : (f g : List ℕ → List ℕ) (xs : List ℕ) → KeepsBlocks f → ((b : List ℕ) → IsBlock b → g (f b) ≡ b) → AreOctets xs → length xs % 16 ≡ 0 → each_block g (each_block f xs) ≡ xs
undone f g xs keeps back fits whole =
    let ys : List ℕ = each_block f xs in
    let same : length ys ≡ length xs = length-each f xs whole in
    let h : ℕ → List ℕ = λ i. g (block_at ys i) in
    let long : length (text_of h (block_count ys)) ≡ 16 * (length ys / 16) = length-text_of h (block_count ys) in
    same_text (text_of h (block_count ys)) xs (omega arith) (omega arith) (λ i lt.
    let within : i < block_count xs = omega arith in
    let below : i < block_count ys = omega arith in
    let is_block : IsBlock (block_at xs i) = IsBlock-block_at xs i fits within in
    let again : h i ≡ block_at xs i = ap (λ (b : List ℕ). g b) (block_each f xs i keeps fits within) ∙ back (block_at xs i) is_block in
    block_at-text_of h (block_count ys) i below (ap (λ (b : List ℕ). length b) again ∙ is_block.long) ∙ again)

-- ---- the two functions of the mode

pub length-ecb : (k ps : List ℕ) → length ps % 16 ≡ 0 → length (ecb_encrypted k ps) ≡ length ps
length-ecb k ps whole = length-each (encrypted k) ps whole

pub AreOctets-ecb : (k ps : List ℕ) → AreOctets ps → AreOctets (ecb_encrypted k ps)
AreOctets-ecb k ps fits = AreOctets-each (encrypted k) ps (IsBlock-encrypted k) fits

pub length-ecb_decrypted : (k cs : List ℕ) → length cs % 16 ≡ 0 → length (ecb_decrypted k cs) ≡ length cs
length-ecb_decrypted k cs whole = length-each (decrypted k) cs whole

pub AreOctets-ecb_decrypted : (k cs : List ℕ) → AreOctets cs → AreOctets (ecb_decrypted k cs)
AreOctets-ecb_decrypted k cs fits = AreOctets-each (decrypted k) cs (IsBlock-decrypted k) fits

pub decrypted-encrypted_text : (k ps : List ℕ) → AreOctets ps → length ps % 16 ≡ 0 → ecb_decrypted k (ecb_encrypted k ps) ≡ ps
decrypted-encrypted_text k ps fits whole = undone (encrypted k) (decrypted k) ps (IsBlock-encrypted k) (decrypted-encrypted k) fits whole

pub encrypted-decrypted_text : (k cs : List ℕ) → AreOctets cs → length cs % 16 ≡ 0 → ecb_encrypted k (ecb_decrypted k cs) ≡ cs
encrypted-decrypted_text k cs fits whole = undone (decrypted k) (encrypted k) cs (IsBlock-decrypted k) (encrypted-decrypted k) fits whole

-- ---- they stand in the relation of the mode

same_block : (k ps cs : List ℕ) (i : ℕ) → IsEcb k ps cs → AreOctets ps → i < block_count ps → block_at cs i ≡ block_at (ecb_encrypted k ps) i
same_block k ps cs i is fits h = is.blocks i h ∙ sym (block_each (encrypted k) ps i (IsBlock-encrypted k) fits h)

pub encrypted_is : (k ps cs : List ℕ) → IsEcb k ps cs → AreOctets ps → cs ≡ ecb_encrypted k ps
encrypted_is k ps cs is fits =
    let whole : length ps % 16 ≡ 0 = is.same_length.whole in
    let same : length cs ≡ length ps = is.same_length.long in
    let long : length (ecb_encrypted k ps) ≡ length ps = length-ecb k ps whole in
    same_text cs (ecb_encrypted k ps) (same ∙ sym long) (omega arith) (λ i h. same_block k ps cs i is fits (omega arith))

pub decrypted_is : (k ps cs : List ℕ) → IsEcb k ps cs → AreOctets ps → ps ≡ ecb_decrypted k cs
decrypted_is k ps cs is fits = sym (decrypted-encrypted_text k ps fits is.same_length.whole) ∙ ap (λ (l : List ℕ). ecb_decrypted k l) (sym (encrypted_is k ps cs is fits))
