-- `operations::following::repeat` meets its contract. The invariant: the power reached is that of the turns so far.
use mathlib.Core.Path.{◌≡◌}
use mathlib.Core.Bool.{true}
use Rattle.operations.specs.Plans.{is_plan}
use Rattle.operations.proofs.Raised.{Reached}
use Rattle.operations.proofs.following.repeat.Given as goal

abbrev pub invariant-loop : goal.invariant-loop
invariant-loop l = (h : is_plan l.a ≡ true) × Reached l.a h l.power l.counter
