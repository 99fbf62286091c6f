-- A cipher text has exactly one plain text.
use Rattle.std.proofs.Common.{◌≡◌, ℕ, zero, suc, ◌%◌, ◌<◌, List, length, sym, ap, ◌∙◌, arith}
use Rattle.octet_model.specs.Octets.{AreOctets}
use Rattle.cipher_model.specs.Aes.{IsBlock, encrypted, decrypted, xor_blocks}
use Rattle.cipher_model.specs.Blocks.{block_at, block_count, text_of}
use Rattle.cipher_model.specs.Cbc.{IsCbc, previous}
use Rattle.cipher_model.specs.Ecb.{IsEcb}
use Rattle.cipher_model.specs.Laws.{CbcHasOnePlainText, EcbHasOnePlainText}
use Rattle.cipher_model.proofs.InverseCipher.{IsBlock-add_round_key, IsBlock-decrypted, add-add, decrypted-encrypted, encrypted-decrypted}
use Rattle.cipher_model.proofs.Texts.{IsBlock-block_at, same_text, length-text_of, block_at-text_of, AreOctets-text_of}

-- a cipher text has one block behind it for each of the plain text's
encrypted-only : (k a b : List ℕ) → IsBlock a → IsBlock b → encrypted k a ≡ encrypted k b → a ≡ b
encrypted-only k a b ha hb e = sym (decrypted-encrypted k a ha) ∙ ap (λ (x : List ℕ). decrypted k x) e ∙ decrypted-encrypted k b hb

xor_blocks-only : (a b v : List ℕ) → IsBlock a → IsBlock b → xor_blocks a v ≡ xor_blocks b v → a ≡ b
xor_blocks-only a b v ha hb e = sym (add-add a v ha) ∙ ap (λ (x : List ℕ). xor_blocks x v) e ∙ add-add b v hb

-- ---- CBC

IsBlock-previous : (iv cs : List ℕ) (i : ℕ) → IsBlock iv → AreOctets cs → i < block_count cs → IsBlock (previous iv cs i)
IsBlock-previous iv cs zero first octets h = first
IsBlock-previous iv cs (suc i) first octets h = IsBlock-block_at cs i octets (omega arith)

-- a cipher text has one plain text under CBC
pub cbc-only : (k iv cs ps qs : List ℕ) → IsBlock iv → AreOctets cs → AreOctets ps → AreOctets qs → IsCbc k iv ps cs → IsCbc k iv qs cs → ps ≡ qs
cbc-only k iv cs ps qs first hc hp hq p q =
    let long : length ps ≡ length qs = sym p.same_length.long ∙ q.same_length.long in
    same_text ps qs long p.same_length.whole (λ i h.
    let below : i < block_count qs = omega arith in
    let within : i < block_count cs = omega (arith, p.same_length.long) in
    let v : List ℕ = previous iv cs i in
    let hv : IsBlock v = IsBlock-previous iv cs i first hc within in
    let a : IsBlock (block_at ps i) = IsBlock-block_at ps i hp h in
    let b : IsBlock (block_at qs i) = IsBlock-block_at qs i hq below in
    xor_blocks-only (block_at ps i) (block_at qs i) v a b
    (encrypted-only k (xor_blocks (block_at ps i) v) (xor_blocks (block_at qs i) v) (IsBlock-add_round_key (block_at ps i) v a hv) (IsBlock-add_round_key (block_at qs i) v b hv)
    (sym (p.blocks i h) ∙ q.blocks i below)))

pub cbc_has_one : CbcHasOnePlainText
cbc_has_one k iv cs first octets whole =
    let n : ℕ = block_count cs in
    let f : ℕ → List ℕ = λ i. xor_blocks (decrypted k (block_at cs i)) (previous iv cs i) in
    let plain : List ℕ = text_of f n in
    let back : (i : ℕ) → i < n → IsBlock (decrypted k (block_at cs i)) = λ i h. IsBlock-decrypted k (block_at cs i) (IsBlock-block_at cs i octets h) in
    let block : (i : ℕ) → i < n → IsBlock (f i) = λ i h.
    IsBlock-add_round_key (decrypted k (block_at cs i)) (previous iv cs i) (back i h) (IsBlock-previous iv cs i first octets h) in
    let long : length plain ≡ length cs = omega (arith, length-text_of f n) in
    let bytes : AreOctets plain = AreOctets-text_of f n (λ i h. (block i h).bytes) in
    let is : IsCbc k iv plain cs = record {
      same_length = record { whole = ap (λ (m : ℕ). m % 16) long ∙ whole; long = sym long };
      blocks = λ i h.
          let below : i < n = omega arith in
          sym (ap (λ (b : List ℕ). encrypted k b)
          (ap (λ (b : List ℕ). xor_blocks b (previous iv cs i)) (block_at-text_of f n i below (block i below).long)
          ∙ add-add (decrypted k (block_at cs i)) (previous iv cs i) (back i below))
          ∙ encrypted-decrypted k (block_at cs i) (IsBlock-block_at cs i octets below));
    } in
    record { text = plain; octets = bytes; holds = is; only = λ other hb h. cbc-only k iv cs other plain first octets hb bytes h is }

-- ---- ECB

-- a cipher text has one plain text under ECB
pub ecb-only : (k cs ps qs : List ℕ) → AreOctets ps → AreOctets qs → IsEcb k ps cs → IsEcb k qs cs → ps ≡ qs
ecb-only k cs ps qs hp hq p q =
    let long : length ps ≡ length qs = sym p.same_length.long ∙ q.same_length.long in
    same_text ps qs long p.same_length.whole (λ i h.
    let below : i < block_count qs = omega arith in
    encrypted-only k (block_at ps i) (block_at qs i) (IsBlock-block_at ps i hp h) (IsBlock-block_at qs i hq below) (sym (p.blocks i h) ∙ q.blocks i below))

pub ecb_has_one : EcbHasOnePlainText
ecb_has_one k cs octets whole =
    let n : ℕ = block_count cs in
    let f : ℕ → List ℕ = λ i. decrypted k (block_at cs i) in
    let plain : List ℕ = text_of f n in
    let block : (i : ℕ) → i < n → IsBlock (f i) = λ i h. IsBlock-decrypted k (block_at cs i) (IsBlock-block_at cs i octets h) in
    let long : length plain ≡ length cs = omega (arith, length-text_of f n) in
    let bytes : AreOctets plain = AreOctets-text_of f n (λ i h. (block i h).bytes) in
    let is : IsEcb k plain cs = record {
      same_length = record { whole = ap (λ (m : ℕ). m % 16) long ∙ whole; long = sym long };
      blocks = λ i h.
          let below : i < n = omega arith in
          sym (ap (λ (b : List ℕ). encrypted k b) (block_at-text_of f n i below (block i below).long)
          ∙ encrypted-decrypted k (block_at cs i) (IsBlock-block_at cs i octets below));
    } in
    record { text = plain; octets = bytes; holds = is; only = λ other hb h. ecb-only k cs other plain hb bytes h is }
