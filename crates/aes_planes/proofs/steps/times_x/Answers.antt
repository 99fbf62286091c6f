use Rattle.std.proofs.Common.{ℕ, List, [], ◌∷◌}
use Rattle.aes_planes.specs.Planes.{bit_of, byte_in, lane}
use Rattle.cipher_model.specs.Field.{times_x}
use Rattle.aes_planes.proofs.TimesX.{times_x_at}
use Rattle.cipher_model.proofs.States.{each_byte_same}
use Rattle.aes_planes.proofs.Lanes.{bit_of-lt}
use Rattle.aes_planes.proofs.steps.times_x.Goals as goal

pub returns : goal.returns
returns c m =
    let q = c.args.q in
    each_byte_same _ (λ i. times_x (byte_in q (lane i) m)) (λ i h.
    let b : List ℕ → ℕ = λ p. bit_of p (lane i) m in
    times_x_at (b q.p0) (b q.p1) (b q.p2) (b q.p3) (b q.p4) (b q.p5) (b q.p6) (b q.p7) (b c.xor-u1.result ∷ b c.xor-u3.result ∷ b c.xor-u4.result ∷ [])
    (bit_of-lt q.p0 (lane i) m) (bit_of-lt q.p1 (lane i) m) (bit_of-lt q.p2 (lane i) m) (bit_of-lt q.p3 (lane i) m) (bit_of-lt q.p4 (lane i) m) (bit_of-lt q.p5 (lane i) m) (bit_of-lt q.p6 (lane i) m) (bit_of-lt q.p7 (lane i) m)
    (c.xor-u1.ensures (lane i) m, (c.xor-u3.ensures (lane i) m, (c.xor-u4.ensures (lane i) m, tt))))
