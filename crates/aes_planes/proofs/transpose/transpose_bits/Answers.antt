use Rattle.std.proofs.Common.{ℕ, ◌<◌, subst, ap, ◌∙◌}
use Rattle.cipher_model.specs.Aes.{IsBlock}
use Rattle.aes_planes.specs.Planes.{block_in, plane}
use Rattle.aes_planes.specs.declared.planes.Planes.{Planes}
use Rattle.aes_planes.proofs.States.{from_planes, to_planes}
use Rattle.aes_planes.proofs.transpose.transpose_bits.Goals as goal

pub returns-clause-to_planes : goal.returns-clause-to_planes
returns-clause-to_planes c m hm =
    ap (λ (x : Planes). block_in x m) c.as_blocks.ensures.value
    ∙ to_planes c.args.q c.as_blocks-blocks.result c.exchange_bits-bits.result c.as_blocks-blocks.ensures.value c.as_blocks-blocks.ensures.blocks c.exchange_bits-bits.ensures m hm

pub returns-clause-from_planes : goal.returns-clause-from_planes
returns-clause-from_planes c m hm =
    let blocks : (m : ℕ) → m < 8 → IsBlock (plane c.exchange_bits-bits.result m) =
    λ m h. subst (λ (x : Planes). IsBlock (plane x m)) c.as_blocks.ensures.value (c.as_blocks.ensures.blocks m h) in
    ap (λ (x : Planes). plane x m) c.as_blocks.ensures.value
    ∙ from_planes c.args.q c.as_blocks-blocks.result c.exchange_bits-bits.result c.as_blocks-blocks.ensures.value blocks c.exchange_bits-bits.ensures m hm
