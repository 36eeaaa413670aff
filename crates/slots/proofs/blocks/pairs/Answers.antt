-- `slots::blocks::pairs` meets its contract: both columns of a block have room for as many words as a plan may have.
use native.Mathlib.Omega.{arith}
use Rattle.columns.proofs.Limits.{pair_limit}
use Rattle.slots.proofs.blocks.pairs.Goals as goal

pub part-requires : goal.part-requires
part-requires c = omega (arith, pair_limit)

pub part-requires-2 : goal.part-requires-2
part-requires-2 c = omega (arith, pair_limit)
