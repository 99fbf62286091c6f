use Rattle.std.proofs.Common.{◌≡◌, List, ℕ, ap, ◌∙◌, arith}
use Rattle.cipher_model.specs.Aes.{encrypted}
use Rattle.cipher_model.specs.Blocks.{block_at}
use Rattle.cbc_mode.proofs.BlockSteps.{block_at-rest, done_none, done_more}
use Rattle.cbc_mode.proofs.ecb.ecb_encrypt.Goals as goal

pub each-init : goal.each-init
each-init c = done_none (λ j b. b ≡ encrypted c.args.keys.now (block_at c.args.octets.now j)) c.args.octets.now

pub each-preserved : goal.each-preserved
each-preserved c =
    let start : List ℕ = c.args.octets.now in
    let old : List ℕ = c.each.octets in
    let i : ℕ = c.each.i in
    done_more (λ j b. b ≡ encrypted c.args.keys.now (block_at start j)) start old c.put_block.new.octets c.encrypt.new.block i c.each.invariant c.put_block.ensures
    (c.encrypt.ensures.value ∙ ap (λ (b : List ℕ). encrypted c.args.keys.now b) (c.block_at-block.ensures.value ∙ block_at-rest old start i c.each.invariant.rest))

pub returns : goal.returns
returns c = record {
  same_length = record { whole = c.requires; long = c.each.auto.octets };
  blocks = λ j lt. c.each.invariant.done j (omega arith);
}
