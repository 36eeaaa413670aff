-- `desks::is_control` meets its contract.
use native.Mathlib.Omega.{arith}
use Rattle.std.proofs.lemmas.Grind.{common_steps}
use Rattle.desks.proofs.Parts.{control_parts}
use Rattle.desks.proofs.is_control.Goals as goal

pub returns-then-are_counts : goal.returns-then-are_counts
returns-then-are_counts c = let parts = control_parts c.args.control (omega arith) (omega arith) in grind (arith, common_steps, parts)

pub returns-else-are_counts : goal.returns-else-are_counts
returns-else-are_counts c = let parts = control_parts c.args.control (omega arith) (omega arith) in grind (arith, common_steps, parts)
