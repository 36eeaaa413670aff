-- `desk_core::feeding::feed` meets its contract. The invariant: the input up to the place was fed, and the rest is left to the definition.
-- The measure is what is left of it.
use Prim.Native.Nat.{◌-◌}
use lib.ListN.{length}
use Rattle.desk_core.proofs.Feeds.{Turn}
use Rattle.desk_core.proofs.feeding.feed.Given as goal

abbrev pub invariant-loop-at : goal.invariant-loop-at
invariant-loop-at l =
    Turn l.fn.state l.input l.initial.out
    (record { head = l.head; columns = l.columns; line = l.line; begun = l.begun; overlong = l.overlong })
    l.at l.out l.used

abbrev pub decreases-loop-at : goal.decreases-loop-at
decreases-loop-at l = length l.input - l.at
