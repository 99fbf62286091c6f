use Rattle.std.proofs.Common.{◌≡◌, ◌%◌, List, ℕ, ap, sym, ◌∙◌, arith}
use Rattle.cipher_model.specs.Aes.{encrypted}
use Rattle.cipher_model.specs.Blocks.{block_at}
use Rattle.cbc_mode.proofs.BlockSteps.{block_at-rest, done_none, done_more}
use Rattle.cbc_mode.proofs.ecb.ecb_decrypt.Goals as goal

pub each-init : goal.each-init
each-init c = done_none (λ j b. block_at c.args.octets.now j ≡ encrypted c.args.keys.now b) c.args.octets.now

pub each-preserved : goal.each-preserved
each-preserved c =
    let start : List ℕ = c.args.octets.now in
    let old : List ℕ = c.each.octets in
    let i : ℕ = c.each.i in
    done_more (λ j b. block_at start j ≡ encrypted c.args.keys.now b) start old c.put_block.new.octets c.decrypt.new.block i c.each.invariant c.put_block.ensures
    (sym (c.decrypt.ensures.undone ∙ c.block_at-block.ensures.value ∙ block_at-rest old start i c.each.invariant.rest))

pub returns : goal.returns
returns c = record {
  same_length = record { whole = ap (λ (n : ℕ). n % 16) c.each.auto.octets ∙ c.requires; long = sym c.each.auto.octets };
  blocks = λ j lt. c.each.invariant.done j (omega arith);
}
