-- `slots::rights::with` meets its contract: the row is packed from the last slot on.
use mathlib.Core.Path.{◌≡◌}
use lib.ListN.{set, drop}
use Rattle.slots.specs.Rights.{row_of, packed_row}
use Rattle.slots.proofs.rights.with.Given as goal

abbrev pub invariant-loop-i : goal.invariant-loop-i
invariant-loop-i l = l.next ≡ packed_row (drop l.i (set (row_of l.row) l.slot l.right))
