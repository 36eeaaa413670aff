-- `asking::survey` meets its contract. The loop's invariant: the lines of so many slots are written, in the order that they were arranged
-- in.
use Rattle.asking.proofs.Surveyed.{Surveyed}
use Rattle.asking.proofs.survey.Given as goal

abbrev pub invariant-loop-slot : goal.invariant-loop-slot
invariant-loop-slot l = Surveyed l.head l.initial.out l.out l.used l.slot-index
