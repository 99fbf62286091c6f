use Rattle.std.proofs.Common.{◌≡◌, ℕ, List, refl, sym, subst, ◌∙◌, arith}
use Rattle.std.proofs.lemmas.List.{length-set}
use Rattle.aes_planes.specs.Planes.{AreRoundKeys, first_block}
use Rattle.aes_planes.proofs.Rows.{keys_more, keys_none, first_block_at}
use Rattle.cipher_model.specs.Aes.{round_key}
use Rattle.aes_planes.proofs.plane_keys.PlaneKeys.new.Goals as goal

pub keys-init : goal.keys-init
keys-init c = record {
  so_far = keys_none c.repeated_block-first.result (λ r. round_key c.args.keys.now r) (λ m hm. c.repeated_block-first.ensures m hm ∙ c.round_key.ensures.value);
  long = refl;
}

pub keys-preserved : goal.keys-preserved
keys-preserved c = record {
  so_far = keys_more c.keys.rounds c.repeated_block.result (λ r. round_key c.args.keys.now r) c.keys.r (omega (arith, c.keys.invariant.long)) c.keys.invariant.so_far
      (λ m hm. c.repeated_block.ensures m hm ∙ c.round_key-in-keys.ensures.value);
  long = length-set c.keys.rounds c.keys.r c.repeated_block.result ∙ c.keys.invariant.long;
}

pub returns : goal.returns
returns c = first_block_at c.keys.rounds (λ r. round_key c.args.keys.now r) c.keys.r c.keys.invariant.long (omega arith) c.keys.invariant.so_far ∙ c.round_key.ensures.first

pub invariant_of-result : goal.invariant_of-result
invariant_of-result c =
    let first : first_block c.keys.rounds ≡ c.args.keys.now =
    first_block_at c.keys.rounds (λ r. round_key c.args.keys.now r) c.keys.r c.keys.invariant.long (omega arith) c.keys.invariant.so_far ∙ c.round_key.ensures.first in
    let P : List ℕ → Type 0 = λ k. AreRoundKeys k c.keys.rounds in
    subst P (sym first) (λ r h d m hm. c.keys.invariant.so_far r (omega arith) d m hm)
