-- `piecewise::read_all`: a state, and a piece that the buffer holds.
use Rattle.std.proofs.Common.{◌≤◌}
use Rattle.desk_core.specs.Feeding.{HoldsState}
use Rattle.piecewise.proofs.read_all.Given as goal

abbrev pub invariant-loop : goal.invariant-loop
invariant-loop g l = HoldsState l.state × (l.size ≤ 65536)
