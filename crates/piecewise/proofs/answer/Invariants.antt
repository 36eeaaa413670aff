-- `piecewise::answer`: a state, and no more of the piece was taken than it has.
use Rattle.std.proofs.Common.{length, ◌≤◌}
use Rattle.desk_core.specs.Feeding.{HoldsState}
use Rattle.piecewise.proofs.answer.Given as goal

abbrev pub invariant-loop : goal.invariant-loop
invariant-loop g l = HoldsState l.s × (l.at ≤ length l.piece)
