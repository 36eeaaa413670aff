-- `plandesk::answer`: the piece up to the place was fed, and the replies to that were written. What is left of it falls because there is
-- room for the longest reply whenever `feed` is called.
use Rattle.std.proofs.Common.{◌≡◌, length, ◌-◌}
use Rattle.plandesk.proofs.Pieces.{FedUpTo}
use Rattle.plandesk.proofs.answer.Given as goal

abbrev pub invariant-loop-at : goal.invariant-loop-at
invariant-loop-at g l =
    FedUpTo l.initial.s l.piece (g.W.Write.contents l.initial.to) (g.W.Write.contents l.to) l.at l.s × (length l.out ≡ length l.initial.out)

abbrev pub decreases-loop-at : goal.decreases-loop-at
decreases-loop-at g l = length l.piece - l.at
