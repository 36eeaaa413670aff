-- What the calls answer, case by case: 15 where a value is no plan, and then what is made of plans.
use mathlib.Core.Path.{◌≡◌, sym, subst}
use mathlib.Core.Bool.{true, false}
use Rattle.std.proofs.Common.{Ok, Err}
use Rattle.higman.specs.Tables.{same_table}
use Rattle.higman.specs.Answers.{same_shape, same}
use Rattle.higman.proofs.Answers.{same_shape_refl}
use Rattle.operations.specs.declared.Plan.{Plan}
use Rattle.operations.specs.declared.refusals.Refusal.TheVariants.{InvalidValue, ShapesDiffer}
use Rattle.operations.specs.Plans.{shape_of, rows_of, plan_of, is_plan}
use Rattle.operations.specs.Answers.{composing, likeness}
use Rattle.plans.specs.Answers.{following, alike}

module _ (a b : Plan) where
  pub first_no_plan : is_plan a ≡ false → Err InvalidValue ≡ following a b
  unfolding following
  first_no_plan h = sym (rw (h, following))

  pub second_no_plan : is_plan a ≡ true → is_plan b ≡ false → Err InvalidValue ≡ following a b
  unfolding following
  second_no_plan h k = sym (rw (h, k, following))

  pub both_plans : is_plan a ≡ true → is_plan b ≡ true → composing a b ≡ following a b
  unfolding following
  both_plans h k = sym (rw (h, k, following))

  pub first_not_alike : is_plan a ≡ false → Err InvalidValue ≡ alike a b
  unfolding alike
  first_not_alike h = sym (rw (h, alike))

  pub second_not_alike : is_plan a ≡ true → is_plan b ≡ false → Err InvalidValue ≡ alike a b
  unfolding alike
  second_not_alike h k = sym (rw (h, k, alike))

  pub both_compared : is_plan a ≡ true → is_plan b ≡ true → likeness (same (plan_of a) (plan_of b)) ≡ alike a b
  unfolding alike
  both_compared h k = sym (rw (h, k, alike))

  pub not_compared : same_shape (shape_of a) (shape_of b) ≡ false → Err ShapesDiffer ≡ likeness (same (plan_of a) (plan_of b))
  unfolding same
  not_compared h = sym (rw (h, same))

  pub rows_compared : shape_of a ≡ shape_of b → Ok (same_table (rows_of a) (rows_of b)) ≡ likeness (same (plan_of a) (plan_of b))
  unfolding same
  rows_compared e = sym (rw (subst (λ u. same_shape (shape_of a) u ≡ true) e (same_shape_refl (shape_of a)), same))
