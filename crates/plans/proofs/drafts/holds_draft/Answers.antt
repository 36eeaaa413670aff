-- `plans::drafts::holds_draft` meets its contract: each check decides where those before it pass.
use Rattle.std.proofs.Common.{arith}
use Rattle.std.proofs.lemmas.Grind.{common_steps}
use Rattle.higman.specs.Limits.{max_pairs}
use Rattle.plans.proofs.DraftChecks.{checked}
use Rattle.plans.proofs.drafts.holds_draft.Goals as goal

pub returns-then-is_column : goal.returns-then-is_column
unfolding max_pairs
returns-then-is_column c = let e = checked c.args.p.now (omega arith) in grind (arith, common_steps)

pub returns-else-is_column : goal.returns-else-is_column
unfolding max_pairs
returns-else-is_column c = let e = checked c.args.p.now (omega arith) in grind (arith, common_steps)
