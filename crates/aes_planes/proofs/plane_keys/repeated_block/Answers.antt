use Rattle.std.proofs.Common.{◌≡◌, ℕ, List, refl, sym, ap, ◌∙◌}
use Rattle.aes_planes.specs.Planes.{by_rows, plane}
use Rattle.aes_planes.proofs.Lanes.{below_eight}
use Rattle.aes_planes.proofs.States.{rows_back}
use Rattle.aes_planes.proofs.plane_keys.repeated_block.Goals as goal

pub returns : goal.returns
returns c m hm =
    let k : List ℕ = c.as_block-k.result in
    let is : k ≡ c.args.block = c.as_block-k.ensures.value in
    let each : plane (record { p0 = k; p1 = k; p2 = k; p3 = k; p4 = k; p5 = k; p6 = k; p7 = k }) m ≡ k =
    below_eight (λ m. plane (record { p0 = k; p1 = k; p2 = k; p3 = k; p4 = k; p5 = k; p6 = k; p7 = k }) m ≡ k) refl refl refl refl refl refl refl refl m hm in
    c.transpose_bits.ensures.to_planes m hm ∙ ap by_rows (c.all_rows_of.ensures m hm ∙ ap by_rows each)
    ∙ sym (rows_back k c.as_block-k.ensures.block) ∙ is
