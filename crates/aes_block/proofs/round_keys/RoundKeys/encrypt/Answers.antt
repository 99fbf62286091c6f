use Rattle.std.proofs.Common.{◌≡◌, List, ℕ, ap, sym, subst, ◌∙◌}
use Rattle.cipher_model.specs.Aes.{IsBlock, decrypted, encrypted}
use Rattle.cipher_model.proofs.BlockNumbers.{IsBlock-octets, octets-from}
use Rattle.cipher_model.proofs.States.{IsBlock-from_each}
use Rattle.cipher_model.proofs.InverseCipher.{decrypted-encrypted}
use Rattle.aes_block.proofs.round_keys.RoundKeys.encrypt.Goals as goal

is_block : (c : goal.After-to_le_bytes) → IsBlock c.args.block.now
is_block c = IsBlock-from_each c.args.block.now c.told-block c.fits-block

is_encrypted : (c : goal.After-to_le_bytes) → c.to_le_bytes.result ≡ encrypted c.args.self.now c.args.block.now
is_encrypted c =
    c.to_le_bytes.ensures ∙ c.encrypt_number-cipher.ensures
    ∙ ap (λ (b : List ℕ). encrypted c.args.self.now b) (octets-from c.args.block.now c.from_le_bytes.result (is_block c) c.from_le_bytes.ensures)

pub returns-clause-value : goal.returns-clause-value
returns-clause-value c = is_encrypted c

pub returns-clause-whole : goal.returns-clause-whole
returns-clause-whole c = subst IsBlock (sym c.to_le_bytes.ensures) (IsBlock-octets c.encrypt_number-cipher.result)

pub returns-clause-undone : goal.returns-clause-undone
returns-clause-undone c =
    ap (λ (b : List ℕ). decrypted c.args.self.now b) (is_encrypted c)
    ∙ decrypted-encrypted c.args.self.now c.args.block.now (is_block c)
