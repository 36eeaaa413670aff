-- What a power is answered with, case by case: 12, and then the repetition of the plan or, below zero, of its inverse.
use Prim.Native.Nat.{suc}
use mathlib.Core.Path.{◌≡◌, refl, sym, ◌∙◌, ap}
use mathlib.Core.Bool.{true, false}
use mathlib.Core.Option.{Option, none, some}
use native.Mathlib.Omega.{arith}
use lib.Dec.{ltb→lt}
use lib.IntN.{ℤ, pos, negsuc, nat_abs}
use lib.Signed.{◌<ℤ◌, ◌≤ℤ◌}
use Rattle.higman.specs.Words.{Shape}
use Rattle.higman.specs.Tables.{Table}
use Rattle.higman.specs.Normal.{inverse}
use Rattle.higman.specs.Limits.{Kept, power_in_range, Plan as PlanOf}
use Rattle.higman.specs.Answers as Of
use Rattle.higman.specs.Answers.{raised, powered, inverted, repeatable}
use Rattle.higman.proofs.Group.{inverse_member}
use Rattle.higman.proofs.KeptPlans.{arity_of_range, member_of_kept, kept_of_member}
use Rattle.higman.proofs.Demand3.{inverse_granted}
use Rattle.operations.specs.declared.Plan.{Plan}
use Rattle.std.specs.Prelude.{Ok, Err}
use Rattle.operations.specs.declared.refusals.Refusal.TheVariants.{PowerOutside}
use Rattle.operations.specs.Plans.{shape_of, rows_of, plan_of, is_plan, packed}
use Rattle.operations.specs.Answers.{making, repeated, repeating}
use Rattle.operations.proofs.KeptValues.{kept}
use Rattle.operations.proofs.Repacked.{holds, packed_is_plan}

abbrev answer_of : Shape → Option Table → Of.Answer
answer_of s o = elim o [ some t ↦ Of.Granted (record { shape = s; rows = t }) | none ↦ Of.Refused Of.LimitBroken ]

repeated_is : (o : Option Table) (s : Shape) → repeated o s ≡ making (answer_of s o)
repeated_is none s = refl
repeated_is (some t) s = refl

outside : (a : PlanOf) (k : ℤ) → power_in_range k ≡ false → powered a k ≡ Of.Refused Of.PowerOutside
unfolding powered
outside a k h = rw (h, powered)

within : (a : PlanOf) (k : ℤ) → power_in_range k ≡ true
    → powered a k ≡ answer_of a.shape (raised a.shape (repeatable a k) (nat_abs k))
unfolding powered
within a k h = rw (h, powered)

module _ (a : Plan) where
  pub outside_answered : (k : ℤ) → power_in_range k ≡ false → Err PowerOutside ≡ making (powered (plan_of a) k)
  outside_answered k h = sym (ap making (outside (plan_of a) k h))

  pub power_within : (k : ℤ) → power_in_range k ≡ true
      → making (powered (plan_of a) k) ≡ repeated (raised (shape_of a) (repeatable (plan_of a) k) (nat_abs k)) (shape_of a)
  power_within k l =
      ap making (within (plan_of a) k l)
      ∙ sym (repeated_is (raised (shape_of a) (repeatable (plan_of a) k) (nat_abs k)) (shape_of a))

  pub power_forward : (k : ℤ) → pos 0 ≤ℤ k → power_in_range k ≡ true → repeating (plan_of a) (nat_abs k) ≡ making (powered (plan_of a) k)
  power_forward (pos n) t l = sym (power_within (pos n) l)
  power_forward (negsuc n) t l = absurd t.le

  module _ (h : is_plan a ≡ true) where
    abbrev back : PlanOf
    back = record { shape = shape_of a; rows = inverse (shape_of a) (rows_of a) }

    back_kept : Kept back
    back_kept =
        let K = kept a h in
        let n = arity_of_range (shape_of a) K.in_range in
        let E = (member_of_kept (plan_of a) K).element in
        kept_of_member back K.in_range (inverse_granted (shape_of a) n (rows_of a) E K.within)
        (inverse_member (shape_of a) n (rows_of a) E)

    module _ (m : Plan) (e : Ok m ≡ making (inverted (plan_of a))) where
      held : m ≡ packed back
      unfolding inverted
      held = cc

      pub inverse_plan : is_plan m ≡ true
      inverse_plan = ap is_plan held ∙ packed_is_plan back back_kept

      pub power_back : (k : ℤ) → k <ℤ pos 0 → power_in_range k ≡ true
          → repeating (plan_of m) (nat_abs k) ≡ making (powered (plan_of a) k)
      power_back (pos n) t l = absurd (omega (arith, ltb→lt n 0 t.lt))
      power_back (negsuc n) t l =
          ap (λ q. repeating q (suc n)) (ap plan_of held ∙ holds back back_kept) ∙ sym (power_within (negsuc n) l)
