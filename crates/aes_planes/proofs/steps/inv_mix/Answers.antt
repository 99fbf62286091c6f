use Rattle.aes_planes.specs.Planes.{block_in}
use Rattle.aes_planes.proofs.States.{inv_mix_steps, block_in-lt}
use Rattle.aes_planes.proofs.steps.inv_mix.Goals as goal

pub returns : goal.returns
returns c m =
    inv_mix_steps (block_in c.args.q m) (block_in c.down_two.result m) (block_in c.add-d.result m) (block_in c.times_x.result m)
    (block_in c.times_x-2.result m) (block_in c.add.result m) (block_in c.mix.result m) (block_in-lt c.args.q m)
    (c.down_two.ensures m) (c.add-d.ensures m) (c.times_x.ensures m) (c.times_x-2.ensures m) (c.add.ensures m) (c.mix.ensures m)
