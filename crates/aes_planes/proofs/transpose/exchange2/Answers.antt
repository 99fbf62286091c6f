use Rattle.std.proofs.Common.{◌≡◌, ◌∙◌, arith}
use Rattle.aes_planes.specs.Planes.{bit_of, first_exchanged, second_exchanged}
use Rattle.aes_planes.proofs.Lanes.{bit_of-lt, below_eight, stays, off, takes, gives}
use Rattle.aes_planes.proofs.transpose.exchange2.Goals as goal

pub returns : goal.returns
returns c i m hi hm =
    below_eight (λ m. (bit_of c.xor-x.result i m ≡ first_exchanged 2 c.args.a c.args.b i m) × (bit_of c.xor-y.result i m ≡ second_exchanged 2 c.args.a c.args.b i m)) (
      stays _ _ _ (c.xor-x.ensures i 0) (c.left.ensures i 0 hi (omega arith)),
      takes _ _ _ _ _ _ (bit_of-lt _ i 2) (bit_of-lt _ i 0) (c.right.ensures i 0 hi) (c.xor-d.ensures i 0) (c.with_mask-t.ensures i 0 hi) (c.xor-y.ensures i 0),
    ) (
      stays _ _ _ (c.xor-x.ensures i 1) (c.left.ensures i 1 hi (omega arith)),
      takes _ _ _ _ _ _ (bit_of-lt _ i 3) (bit_of-lt _ i 1) (c.right.ensures i 1 hi) (c.xor-d.ensures i 1) (c.with_mask-t.ensures i 1 hi) (c.xor-y.ensures i 1),
    ) (
      gives _ _ _ _ _ _ (bit_of-lt _ i 2) (bit_of-lt _ i 0) (c.right.ensures i 0 hi) (c.xor-d.ensures i 0) (c.left.ensures i 2 hi (omega arith) ∙ c.with_mask-t.ensures i 0 hi) (c.xor-x.ensures i 2),
      stays _ _ _ (c.xor-y.ensures i 2) (off _ _ (c.with_mask-t.ensures i 2 hi)),
    ) (
      gives _ _ _ _ _ _ (bit_of-lt _ i 3) (bit_of-lt _ i 1) (c.right.ensures i 1 hi) (c.xor-d.ensures i 1) (c.left.ensures i 3 hi (omega arith) ∙ c.with_mask-t.ensures i 1 hi) (c.xor-x.ensures i 3),
      stays _ _ _ (c.xor-y.ensures i 3) (off _ _ (c.with_mask-t.ensures i 3 hi)),
    ) (
      stays _ _ _ (c.xor-x.ensures i 4) (c.left.ensures i 4 hi (omega arith) ∙ off _ _ (c.with_mask-t.ensures i 2 hi)),
      takes _ _ _ _ _ _ (bit_of-lt _ i 6) (bit_of-lt _ i 4) (c.right.ensures i 4 hi) (c.xor-d.ensures i 4) (c.with_mask-t.ensures i 4 hi) (c.xor-y.ensures i 4),
    ) (
      stays _ _ _ (c.xor-x.ensures i 5) (c.left.ensures i 5 hi (omega arith) ∙ off _ _ (c.with_mask-t.ensures i 3 hi)),
      takes _ _ _ _ _ _ (bit_of-lt _ i 7) (bit_of-lt _ i 5) (c.right.ensures i 5 hi) (c.xor-d.ensures i 5) (c.with_mask-t.ensures i 5 hi) (c.xor-y.ensures i 5),
    ) (
      gives _ _ _ _ _ _ (bit_of-lt _ i 6) (bit_of-lt _ i 4) (c.right.ensures i 4 hi) (c.xor-d.ensures i 4) (c.left.ensures i 6 hi (omega arith) ∙ c.with_mask-t.ensures i 4 hi) (c.xor-x.ensures i 6),
      stays _ _ _ (c.xor-y.ensures i 6) (off _ _ (c.with_mask-t.ensures i 6 hi)),
    ) (
      gives _ _ _ _ _ _ (bit_of-lt _ i 7) (bit_of-lt _ i 5) (c.right.ensures i 5 hi) (c.xor-d.ensures i 5) (c.left.ensures i 7 hi (omega arith) ∙ c.with_mask-t.ensures i 5 hi) (c.xor-x.ensures i 7),
      stays _ _ _ (c.xor-y.ensures i 7) (off _ _ (c.with_mask-t.ensures i 7 hi)),
    )
    m hm
