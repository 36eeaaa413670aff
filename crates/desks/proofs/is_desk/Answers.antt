-- `desks::is_desk` meets its contract.
use native.Mathlib.Omega.{arith}
use Rattle.std.proofs.lemmas.Grind.{common_steps}
use Rattle.higman.proofs.Tests.{T_of}
use Rattle.columns.proofs.Limits.{pair_limit}
use Rattle.desks.specs.Tested.{holds_test}
use Rattle.desks.proofs.Exact.{few_tested}
use Rattle.desks.proofs.is_desk.Goals as goal

pub is_open_plan-requires-clause-draft_block_bound : goal.is_open_plan-requires-clause-draft_block_bound
is_open_plan-requires-clause-draft_block_bound c = grind (arith, common_steps, pair_limit)

pub sum-requires : goal.sum-requires
sum-requires c = few_tested c.args.desk.head c.args.desk.columns (T_of (grind (arith, common_steps)))

pub returns-then-are_slots : goal.returns-then-are_slots
unfolding holds_test
returns-then-are_slots c = grind (arith, common_steps, pair_limit)

pub returns-else-are_slots : goal.returns-else-are_slots
unfolding holds_test
returns-else-are_slots c = grind (arith, common_steps, pair_limit)
