use Rattle.std.proofs.Common.{◌≡◌, List, ℕ, refl, ap, sym, subst, ◌∙◌}
use Rattle.cipher_model.specs.Aes.{IsBlock, bytes_at, decrypted, decrypted_with, encrypted}
use Rattle.cipher_model.proofs.BlockNumbers.{IsBlock-octets, octets-from}
use Rattle.cipher_model.proofs.States.{IsBlock-from_each}
use Rattle.cipher_model.proofs.InverseCipher.{decrypted-16, decrypted-encrypted, encrypted-decrypted}
use Rattle.aes_block.proofs.round_keys.RoundKeys.decrypt.Goals as goal

is_block : (c : goal.After-to_le_bytes) → IsBlock c.args.block.now
is_block c = IsBlock-from_each c.args.block.now c.told-block c.fits-block

is_decrypted : (c : goal.After-to_le_bytes) → c.to_le_bytes.result ≡ decrypted c.args.self.now c.args.block.now
is_decrypted c =
    c.to_le_bytes.ensures ∙ c.decrypted_number-plain.ensures
    ∙ (λ i. decrypted_with 10 (c.self.invariant.scheduled i) (octets-from c.args.block.now c.from_le_bytes-cipher.result (is_block c) c.from_le_bytes-cipher.ensures i))
    ∙ sym (decrypted-16 (bytes_at c.self.inside.words 0) c.args.block.now refl) ∙ ap (λ (k : List ℕ). decrypted k c.args.block.now) c.self.view_is

pub returns-clause-value : goal.returns-clause-value
returns-clause-value c = is_decrypted c

pub returns-clause-whole : goal.returns-clause-whole
returns-clause-whole c = subst IsBlock (sym c.to_le_bytes.ensures) (IsBlock-octets c.decrypted_number-plain.result)

pub returns-clause-undone : goal.returns-clause-undone
returns-clause-undone c =
    ap (λ (b : List ℕ). encrypted c.args.self.now b) (is_decrypted c)
    ∙ encrypted-decrypted c.args.self.now c.args.block.now (is_block c)

pub returns-clause-undoes : goal.returns-clause-undoes
returns-clause-undoes c b block e =
    is_decrypted c ∙ ap (λ (b : List ℕ). decrypted c.args.self.now b) e ∙ decrypted-encrypted c.args.self.now b block
