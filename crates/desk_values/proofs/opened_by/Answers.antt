-- `desk_values::opened_by` meets its contract: an open plan is meant for one of the slots.
use mathlib.Core.Path.{sym, ap}
use native.Mathlib.Omega.{arith}
use Rattle.slots.proofs.Held.{slots_eight}
use Rattle.changing.proofs.Drafts.{open_draft}
use Rattle.desk_values.specs.Values.{opened_by}
use Rattle.desk_values.proofs.Blocks.{draft_closed, draft_opened}
use Rattle.desk_values.proofs.opened_by.Goals as goal

pub returns-in-None : goal.returns-in-None
returns-in-None c = let a = c.args in sym (ap opened_by (draft_closed a.head a.columns.now c.requires c.in-None.is))

pub returns-in-Some : goal.returns-in-Some
returns-in-Some c = let a = c.args in sym (ap opened_by (draft_opened a.head a.columns.now c.requires c.in-Some.slot c.in-Some.is))

pub overflow_add-result : goal.overflow_add-result
overflow_add-result c =
    let draft = open_draft c.args.head c.args.columns.now c.requires c.in-Some.slot c.in-Some.is in
    record { fits = omega (arith, slots_eight, draft.slot_named) }
