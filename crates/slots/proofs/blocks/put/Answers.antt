-- `slots::blocks::put` meets its contract.
use Rattle.slots.specs.Blocks.{put}
use Rattle.slots.proofs.blocks.put.Goals as goal

pub returns : goal.returns
unfolding put
returns c = cc
