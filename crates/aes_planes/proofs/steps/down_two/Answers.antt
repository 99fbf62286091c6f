use Rattle.aes_planes.proofs.States.{block_of}
use Rattle.aes_planes.proofs.steps.down_two.Goals as goal

pub returns : goal.returns
returns c m = λ t. block_of (c.down_two_lanes.ensures t) (c.down_two_lanes-2.ensures t) (c.down_two_lanes-3.ensures t) (c.down_two_lanes-4.ensures t) (c.down_two_lanes-5.ensures t) (c.down_two_lanes-6.ensures t) (c.down_two_lanes-7.ensures t) (c.down_two_lanes-8.ensures t) m
