use Rattle.aes_planes.specs.Planes.{block_in}
use Rattle.aes_planes.proofs.States.{mix_steps, block_in-lt}
use Rattle.aes_planes.proofs.steps.mix.Goals as goal

pub returns : goal.returns
returns c m =
    mix_steps (block_in c.args.q m) (block_in c.down_one-r.result m) (block_in c.add-a.result m) (block_in c.times_x.result m)
    (block_in c.add.result m) (block_in c.down_two.result m) (block_in c.add-2.result m) (block_in-lt c.args.q m)
    (c.down_one-r.ensures m) (c.add-a.ensures m) (c.times_x.ensures m) (c.add.ensures m) (c.down_two.ensures m) (c.add-2.ensures m)
