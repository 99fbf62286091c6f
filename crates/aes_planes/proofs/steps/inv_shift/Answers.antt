use Rattle.aes_planes.proofs.States.{block_of}
use Rattle.aes_planes.proofs.steps.inv_shift.Goals as goal

pub returns : goal.returns
returns c m = λ t. block_of (c.inv_shift_lanes.ensures t) (c.inv_shift_lanes-2.ensures t) (c.inv_shift_lanes-3.ensures t) (c.inv_shift_lanes-4.ensures t) (c.inv_shift_lanes-5.ensures t) (c.inv_shift_lanes-6.ensures t) (c.inv_shift_lanes-7.ensures t) (c.inv_shift_lanes-8.ensures t) m
