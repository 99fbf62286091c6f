use Rattle.std.proofs.Common.{◌∙◌, bit_xor}
use Rattle.aes_planes.specs.Planes.{from_bits, byte_in, lane}
use Rattle.aes_planes.proofs.Bits.{from_bits-xor}
use Rattle.cipher_model.proofs.States.{each_byte_same}
use Rattle.aes_planes.proofs.Lanes.{bit_of-lt}
use Rattle.aes_planes.proofs.steps.add.Goals as goal

pub returns : goal.returns
returns c m =
    let q = c.args.q in
    let k = c.args.k in
    each_byte_same _ (λ i. bit_xor (byte_in q (lane i) m) (byte_in k (lane i) m)) (λ i h.
    (λ t. from_bits (c.xor.ensures (lane i) m t) (c.xor-2.ensures (lane i) m t) (c.xor-3.ensures (lane i) m t) (c.xor-4.ensures (lane i) m t) (c.xor-5.ensures (lane i) m t) (c.xor-6.ensures (lane i) m t) (c.xor-7.ensures (lane i) m t) (c.xor-8.ensures (lane i) m t))
    ∙ from_bits-xor _ _ _ _ _ _ _ _ _ _ _ _ _ _ _ _ (bit_of-lt q.p0 (lane i) m) (bit_of-lt q.p1 (lane i) m) (bit_of-lt q.p2 (lane i) m) (bit_of-lt q.p3 (lane i) m) (bit_of-lt q.p4 (lane i) m) (bit_of-lt q.p5 (lane i) m) (bit_of-lt q.p6 (lane i) m) (bit_of-lt q.p7 (lane i) m)
    (bit_of-lt k.p0 (lane i) m) (bit_of-lt k.p1 (lane i) m) (bit_of-lt k.p2 (lane i) m) (bit_of-lt k.p3 (lane i) m) (bit_of-lt k.p4 (lane i) m) (bit_of-lt k.p5 (lane i) m) (bit_of-lt k.p6 (lane i) m) (bit_of-lt k.p7 (lane i) m))
