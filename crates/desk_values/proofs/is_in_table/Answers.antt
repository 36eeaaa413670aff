-- `desk_values::is_in_table` meets its contract.
use native.Mathlib.Omega.{arith}
use Rattle.std.proofs.lemmas.Grind.{common_steps}
use Rattle.higman.specs.Limits.{max_pairs}
use Rattle.operations.specs.Plans.{in_table}
use Rattle.desk_values.proofs.is_in_table.Goals as goal

pub returns-then-are_zeros : goal.returns-then-are_zeros
unfolding in_table max_pairs
returns-then-are_zeros c = grind (arith, common_steps)

pub returns-else-are_zeros : goal.returns-else-are_zeros
unfolding in_table max_pairs
returns-else-are_zeros c = grind (arith, common_steps)
