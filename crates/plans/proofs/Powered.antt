-- What I and K answer: 15, and then what is made of the plan; for K, 12 and the repetition.
use Prim.Native.Nat.{◌≤◌, ◌<◌}
use mathlib.Core.Path.{◌≡◌, sym, ◌∙◌}
use mathlib.Core.Bool.{true, false}
use borrow.Author.Tests.{le-leb, lt-leb}
use lib.IntN.{ℤ, nat_abs}
use Rattle.higman.specs.Limits.{max_power}
use Rattle.std.proofs.Common.{Err}
use Rattle.higman.specs.Answers.{raised, powered, inverted, repeatable}
use Rattle.operations.specs.declared.Plan.{Plan}
use Rattle.operations.specs.declared.refusals.Refusal.TheVariants.{InvalidValue, PowerOutside}
use Rattle.operations.specs.Plans.{shape_of, plan_of, is_plan}
use Rattle.operations.specs.Answers.{making, repeated}
use Rattle.operations.proofs.Powered.{outside_answered, power_within}
use Rattle.plans.specs.Answers.{inverting, raising}

module _ (a : Plan) where
  pub inverting_no_plan : is_plan a ≡ false → Err InvalidValue ≡ inverting a
  unfolding inverting
  inverting_no_plan h = sym (rw (h, inverting))

  pub raising_no_plan : (k : ℤ) → is_plan a ≡ false → Err InvalidValue ≡ raising a k
  unfolding raising
  raising_no_plan k h = sym (rw (h, raising))

  module _ (h : is_plan a ≡ true) where
    pub inverting_plan : inverting a ≡ making (inverted (plan_of a))
    unfolding inverting
    inverting_plan = rw (h, inverting)

    pub raising_plan : (k : ℤ) → raising a k ≡ making (powered (plan_of a) k)
    unfolding raising
    raising_plan k = rw (h, raising)

    pub raising_outside : (k : ℤ) → max_power < nat_abs k → Err PowerOutside ≡ raising a k
    raising_outside k l = outside_answered a k (lt-leb (nat_abs k) max_power l) ∙ sym (raising_plan k)

    pub raising_within : (k : ℤ) → nat_abs k ≤ max_power
        → raising a k ≡ repeated (raised (shape_of a) (repeatable (plan_of a) k) (nat_abs k)) (shape_of a)
    raising_within k l = raising_plan k ∙ power_within a k (le-leb (nat_abs k) max_power l)
