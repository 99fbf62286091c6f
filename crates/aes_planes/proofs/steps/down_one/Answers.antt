use Rattle.aes_planes.proofs.States.{block_of}
use Rattle.aes_planes.proofs.steps.down_one.Goals as goal

pub returns : goal.returns
returns c m = λ t. block_of (c.down_one_lanes.ensures t) (c.down_one_lanes-2.ensures t) (c.down_one_lanes-3.ensures t) (c.down_one_lanes-4.ensures t) (c.down_one_lanes-5.ensures t) (c.down_one_lanes-6.ensures t) (c.down_one_lanes-7.ensures t) (c.down_one_lanes-8.ensures t) m
