-- `slots::fresh_control` meets its contract.
use borrow.Author.Rules.{rules}
use Rattle.higman.specs.Limits.{slot_count}
use Rattle.desk.specs.Limits.{station_count, max_right}
use Rattle.slots.proofs.fresh_control.Goals as goal

pub returns : goal.returns
unfolding slot_count station_count max_right
returns c = search rules
