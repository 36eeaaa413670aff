-- `desk_values::is_desk` meets its contract.
use native.Mathlib.Omega.{arith}
use Rattle.std.proofs.lemmas.Grind.{common_steps}
use Rattle.desk_values.specs.Values.{is_desk_value}
use Rattle.desk_values.proofs.is_desk.Goals as goal

pub returns-then-not-is_opened : goal.returns-then-not-is_opened
unfolding is_desk_value
returns-then-not-is_opened c = grind (arith, common_steps)

pub returns-then-are_tidy : goal.returns-then-are_tidy
unfolding is_desk_value
returns-then-are_tidy c = grind (arith, common_steps)

pub returns-else-are_tidy : goal.returns-else-are_tidy
unfolding is_desk_value
returns-else-are_tidy c = grind (arith, common_steps)
