-- `slots::is_full` meets its contract.
use mathlib.Core.Path.{ap}
use lib.Dec.{leb}
use Rattle.desk.specs.Limits.{max_changes}
use Rattle.slots.proofs.is_full.Goals as goal

pub returns : goal.returns
unfolding max_changes
returns c = ap (leb max_changes) c.count.ensures
