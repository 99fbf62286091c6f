-- A chain of blocks, one after another.
use Rattle.std.proofs.Common.{◌≡◌, ℕ, zero, suc, ◌+◌, ◌*◌, ◌/◌, ◌%◌, ◌<◌, ◌≤◌, List, length, drop, refl, sym, ap, ◌∙◌, inl, inr, subst, arith}
use Rattle.std.proofs.lemmas.Bool.{cases_lt}
use Rattle.cipher_model.specs.Aes.{IsBlock, decrypted, encrypted, xor_blocks}
use Rattle.cipher_model.specs.Blocks.{block_at}
use Rattle.cipher_model.specs.Cbc.{IsCbc, previous}
use Rattle.cipher_model.proofs.InverseCipher.{IsBlock-decrypted, add-add, encrypted-decrypted}
use Rattle.cbc_mode.specs.BlocksInPlace.{PutsBlock, IsDecryptedTo}
use Rattle.cbc_mode.proofs.BlockSteps.{block_at-rest, rest_later, rest_more, done_none, done_more}

-- ---- encryption: ps is the text as it was, and now has its first i blocks encrypted, the last of them last

pub record IsEncryptedTo (k iv ps now last : List ℕ) (i : ℕ) : Type 0 where
  pub done : (j : ℕ) → j < i → block_at now j ≡ encrypted k (xor_blocks (block_at ps j) (previous iv now j))
  pub rest : drop (16 * i) now ≡ drop (16 * i) ps
  pub last_is : last ≡ previous iv now i

pub encrypted_none : (k iv ps : List ℕ) → IsEncryptedTo k iv ps ps iv 0
encrypted_none k iv ps = record { done = λ j lt. absurd (omega arith); rest = refl; last_is = refl }

-- the block before block j stays the same where a later one is put
previous_same : (iv old new b : List ℕ) (i j : ℕ) → PutsBlock old new i b → j ≤ i → previous iv new j ≡ previous iv old j
previous_same iv old new b i zero p le = refl
previous_same iv old new b i (suc j) p le = p.below j (omega arith)

previous_more : (iv new : List ℕ) (i : ℕ) → previous iv new (i + 1) ≡ block_at new i
previous_more iv new i = let p : i + 1 ≡ suc i = omega arith in ap (λ (n : ℕ). previous iv new n) p

pub encrypted_more : (k iv ps old new last b : List ℕ) (i : ℕ) → IsEncryptedTo k iv ps old last i → PutsBlock old new i b
    → b ≡ encrypted k (xor_blocks (block_at old i) last) → IsEncryptedTo k iv ps new b (i + 1)
encrypted_more k iv ps old new last b i a p e = record {
  done = λ j lt. elim (cases_lt j i) [
    | inl less ↦ p.below j less ∙ a.done j less
        ∙ ap (λ (v : List ℕ). encrypted k (xor_blocks (block_at ps j) v)) (sym (previous_same iv old new b i j p (omega arith)))
    | inr more ↦
        let is : i ≡ j = omega arith in
        subst (λ (n : ℕ). block_at new n ≡ encrypted k (xor_blocks (block_at ps n) (previous iv new n))) is
        (p.at ∙ e ∙ (λ t. encrypted k (xor_blocks (block_at-rest old ps i a.rest t) ((a.last_is ∙ sym (previous_same iv old new b i i p (omega arith))) t))))
  ];
  rest = rest_more ps old new b i a.rest p;
  last_is = sym p.at ∙ sym (previous_more iv new i);
}

pub encrypted_all : (k iv ps now last : List ℕ) (i : ℕ) → length ps % 16 ≡ 0 → length now ≡ length ps → i ≡ length ps / 16 → IsEncryptedTo k iv ps now last i
    → IsCbc k iv ps now
encrypted_all k iv ps now last i whole long all a = record { same_length = record { whole = whole; long = long }; blocks = λ j lt. a.done j (omega arith) }

-- ---- decryption

pub decrypted_none : (k iv cs : List ℕ) → IsDecryptedTo k iv cs cs iv 0
decrypted_none k iv cs = record { blocks = done_none (λ j b. block_at cs j ≡ encrypted k (xor_blocks b (previous iv cs j))) cs; last_is = refl }

-- block j, read before the blocks from i on were written, is that of the cipher text
pub read_later : (k iv cs old last c : List ℕ) (i j : ℕ) → i ≤ j → IsDecryptedTo k iv cs old last i → c ≡ block_at old j → c ≡ block_at cs j
read_later k iv cs old last c i j le a e = e ∙ block_at-rest old cs j (rest_later old cs i j le a.blocks.rest)

-- block i becomes p, which encrypts to the cipher text's block c, added to the block before it
pub decrypted_more : (k iv cs old new last c p : List ℕ) (i j : ℕ) → IsDecryptedTo k iv cs old last i → PutsBlock old new i (xor_blocks p last)
    → c ≡ block_at cs i → IsBlock p → encrypted k p ≡ c → j ≡ i + 1 → IsDecryptedTo k iv cs new c j
decrypted_more k iv cs old new last c p i j a puts read block cipher next =
    let R : ℕ → List ℕ → Type 0 = λ j b. block_at cs j ≡ encrypted k (xor_blocks b (previous iv cs j)) in
    let here : R i (xor_blocks p last) =
    sym read ∙ sym cipher ∙ ap (λ (b : List ℕ). encrypted k b) (sym (add-add p last block))
    ∙ ap (λ (v : List ℕ). encrypted k (xor_blocks (xor_blocks p last) v)) a.last_is in
    subst (λ (n : ℕ). IsDecryptedTo k iv cs new c n) (sym next) record {
      blocks = done_more R cs old new (xor_blocks p last) i a.blocks puts here;
      last_is = read ∙ sym (previous_more iv cs i);
    }

-- the same with the inverse cipher
pub decrypted_more_by : (k iv cs old new last c p : List ℕ) (i j : ℕ) → IsDecryptedTo k iv cs old last i → PutsBlock old new i (xor_blocks p last)
    → c ≡ block_at cs i → IsBlock c → p ≡ decrypted k c → j ≡ i + 1 → IsDecryptedTo k iv cs new c j
decrypted_more_by k iv cs old new last c p i j a puts read block plain next =
    decrypted_more k iv cs old new last c p i j a puts read (subst IsBlock (sym plain) (IsBlock-decrypted k c block))
    (ap (λ (b : List ℕ). encrypted k b) plain ∙ encrypted-decrypted k c block) next

pub decrypted_all : (k iv cs now last : List ℕ) (i : ℕ) → length cs % 16 ≡ 0 → length now ≡ length cs → i ≡ length cs / 16 → IsDecryptedTo k iv cs now last i
    → IsCbc k iv now cs
decrypted_all k iv cs now last i whole long all a =
    record { same_length = record { whole = ap (λ (n : ℕ). n % 16) long ∙ whole; long = sym long }; blocks = λ j lt. a.blocks.done j (omega arith) }
