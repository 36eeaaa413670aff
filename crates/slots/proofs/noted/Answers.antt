-- `slots::noted` meets its contract: the count of the named station is below the limit, so that one more fits.
use borrow.Author.Tests.{leb-false}
use native.Mathlib.Omega.{arith}
use Rattle.desk.specs.Limits.{max_changes}
use Rattle.desk.specs.Desk.{count_in}
use Rattle.slots.specs.Desks.{control_of}
use Rattle.slots.proofs.noted.Goals as goal

pub overflow_add-next : goal.overflow_add-next
unfolding max_changes
overflow_add-next c = record { fits = omega (arith, leb-false max_changes (count_in (control_of c.args.control)) c.requires.room) }
