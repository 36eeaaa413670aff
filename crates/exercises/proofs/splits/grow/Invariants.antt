-- `exercises::splits::grow`: after so many splits the column holds the words that the definition has then, they fit, and the last draw is
-- the one that made them.
use Rattle.words.specs.Bytes.{shape_of}
use Rattle.exercises.proofs.Turns.{Growing}
use Rattle.exercises.proofs.splits.grow.Given as goal

abbrev pub invariant-loop : goal.invariant-loop
invariant-loop l = Growing (shape_of l.shape) l.draw l.column l.count l.last l.counter
