-- `operations::comparing::same_pairs` meets its contract. The invariant: the tables are the same where the pairs from i on are.
use mathlib.Core.Path.{◌≡◌}
use Rattle.operations.proofs.SamePairs.{same_from}
use Rattle.operations.proofs.comparing.same_pairs.Given as goal

abbrev pub invariant-loop-i : goal.invariant-loop-i
invariant-loop-i l =
    same_from l.a.from.now l.a.to.now l.b.from.now l.b.to.now 0 ≡ same_from l.a.from.now l.a.to.now l.b.from.now l.b.to.now l.i
