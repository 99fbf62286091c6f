use Rattle.std.proofs.Common.{◌≡◌, ◌/◌, List, ℕ, length, ap, sym, subst, ◌∙◌, arith}
use Rattle.std.specs.Int.{w128, to_le_bytes}
use Rattle.cipher_model.specs.Aes.{encrypted, xor_blocks}
use Rattle.cipher_model.specs.Blocks.{block_at}
use Rattle.cipher_model.proofs.States.{IsBlock-from_each}
use Rattle.cipher_model.proofs.BlockNumbers.{octets-from, octets-xor}
use Rattle.cbc_mode.specs.BlocksInPlace.{PutsBlock}
use Rattle.cbc_mode.proofs.CbcSteps.{IsEncryptedTo, encrypted_none, encrypted_more, encrypted_all}
use Rattle.cbc_mode.proofs.cbc.cbc_encrypt.Goals as goal

pub chain-init : goal.chain-init
chain-init c =
    let first : to_le_bytes w128 c.from_le_bytes-last.result ≡ c.args.iv.now =
    octets-from c.args.iv.now c.from_le_bytes-last.result (IsBlock-from_each c.args.iv.now c.told-iv c.fits-iv) c.from_le_bytes-last.ensures in
    subst (λ (b : List ℕ). IsEncryptedTo c.args.keys.now c.args.iv.now c.args.octets.now c.args.octets.now b 0) (sym first)
    (encrypted_none c.args.keys.now c.args.iv.now c.args.octets.now)

pub chain-preserved : goal.chain-preserved
chain-preserved c =
    let old : List ℕ = c.chain.octets in
    let i : ℕ = c.chain.i in
    let plain : ℕ = c.from_le_bytes-plain.result in
    let last : ℕ = c.chain.last in
    let read : to_le_bytes w128 plain ≡ block_at old i =
    octets-from c.block_at.result plain c.block_at.ensures.block c.from_le_bytes-plain.ensures ∙ c.block_at.ensures.value in
    let cipher : to_le_bytes w128 c.encrypt_number-encrypted.result ≡ encrypted c.args.keys.now (xor_blocks (block_at old i) (to_le_bytes w128 last)) =
    c.encrypt_number-encrypted.ensures ∙ ap (λ (b : List ℕ). encrypted c.args.keys.now b)
    (octets-xor plain last ∙ ap (λ (b : List ℕ). xor_blocks b (to_le_bytes w128 last)) read) in
    encrypted_more c.args.keys.now c.args.iv.now c.args.octets.now old c.put_block.new.octets (to_le_bytes w128 last)
    (to_le_bytes w128 c.encrypt_number-encrypted.result) i c.chain.invariant
    (subst (λ (b : List ℕ). PutsBlock old c.put_block.new.octets i b) c.to_le_bytes.ensures c.put_block.ensures) cipher

pub returns : goal.returns
returns c =
    let end : c.chain.i ≡ length c.args.octets.now / 16 = omega arith in
    encrypted_all c.args.keys.now c.args.iv.now c.args.octets.now c.chain.octets (to_le_bytes w128 c.chain.last) c.chain.i c.requires c.chain.auto.octets end c.chain.invariant
