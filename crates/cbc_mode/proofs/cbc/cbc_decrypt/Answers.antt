use Rattle.std.proofs.Common.{◌≡◌, ◌+◌, ◌/◌, List, ℕ, length, subst, refl, ◌∙◌, arith}
use Rattle.cipher_model.specs.Aes.{xor_blocks}
use Rattle.cbc_mode.specs.BlocksInPlace.{PutsBlock}
use Rattle.cbc_mode.proofs.BlockSteps.{block_at-rest}
use Rattle.cbc_mode.proofs.CbcSteps.{decrypted_more, decrypted_all}
use Rattle.cbc_mode.proofs.cbc.cbc_decrypt.Goals as goal

pub chain-preserved : goal.chain-preserved
chain-preserved c =
    let cs : List ℕ = c.args.octets.now in
    let old : List ℕ = c.chain.octets in
    let i : ℕ = c.chain.i in
    let puts : PutsBlock old c.put_block.new.octets i (xor_blocks c.decrypt.new.block c.chain.last) =
    subst (λ (b : List ℕ). PutsBlock old c.put_block.new.octets i b) c.sum_of.ensures c.put_block.ensures in
    decrypted_more c.args.keys.now c.args.iv.now cs old c.put_block.new.octets c.chain.last c.block_at-cipher.result c.decrypt.new.block i (i + 1) c.chain.invariant puts
    (c.block_at-cipher.ensures.value ∙ block_at-rest old cs i c.chain.invariant.blocks.rest) c.decrypt.ensures.whole c.decrypt.ensures.undone refl

pub returns : goal.returns
returns c =
    let long : length c.chain.octets ≡ length c.args.octets.now = omega arith in
    let end : c.chain.i ≡ length c.args.octets.now / 16 = omega arith in
    decrypted_all c.args.keys.now c.args.iv.now c.args.octets.now c.chain.octets c.chain.last c.chain.i c.requires long end c.chain.invariant
