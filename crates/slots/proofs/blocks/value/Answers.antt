-- `slots::blocks::value` meets its contract.
use Rattle.slots.specs.Blocks.{value_at}
use Rattle.slots.proofs.blocks.value.Goals as goal

pub returns : goal.returns
unfolding value_at
returns c = cc
