-- `tables::routing::copy` meets its contract. The invariant: the first i bytes are copied, and the rest is as it was.
use Prim.Native.Nat.{◌≤◌}
use mathlib.Core.Path.{◌≡◌}
use lib.ListN.{length}
use lib.Seq.{paste}
use Rattle.tables.proofs.routing.copy.Given as goal

abbrev pub invariant-loop-i : goal.invariant-loop-i
invariant-loop-i l = (l.i ≤ length l.tail) × (l.out ≡ paste l.initial.out 0 l.tail l.i) × (length l.out ≡ length l.initial.out)
