use Rattle.cipher_model.specs.Aes.{IsBlock}
use Rattle.aes_planes.specs.Planes.{plane}
use Rattle.aes_planes.proofs.Lanes.{below_eight}
use Rattle.aes_planes.proofs.planes.as_blocks.Goals as goal

pub returns-clause-blocks : goal.returns-clause-blocks
returns-clause-blocks c m hm =
    below_eight (λ m. IsBlock (plane (record { p0 = c.as_block-r0.result; p1 = c.as_block-r1.result; p2 = c.as_block-r2.result; p3 = c.as_block-r3.result; p4 = c.as_block-r4.result; p5 = c.as_block-r5.result; p6 = c.as_block-r6.result; p7 = c.as_block-r7.result }) m))
    c.as_block-r0.ensures.block c.as_block-r1.ensures.block c.as_block-r2.ensures.block c.as_block-r3.ensures.block
    c.as_block-r4.ensures.block c.as_block-r5.ensures.block c.as_block-r6.ensures.block c.as_block-r7.ensures.block m hm
