-- The plan in a slot that a record reads: "9, a or b empty", and otherwise a kept plan.
use Rattle.std.specs.Prelude.{ℕ, ◌≡◌, true, Result, Ok, Err}
use Rattle.desk.specs.Desk.{Desk}
use Rattle.desk.specs.Replies.{pass, plan_in}
use Rattle.operations.specs.declared.Plan.{Plan}
use Rattle.operations.specs.Plans.{plan_of, is_plan}
use Rattle.slots.specs.declared.Refused.{Refused}
use Rattle.slots.specs.Refused.{outcome_of}

-- the slot holds the plan of a value
pub record HeldPlan (d : Desk) (a : ℕ) (v : Plan) : Type 0 where
  pub there : plan_in d a ≡ pass (plan_of v)
  pub is_plan_fact : is_plan v ≡ true

abbrev pub ReadOf : Desk → ℕ → Result Plan Refused → Type 0
ReadOf d a (Ok v) = HeldPlan d a v
ReadOf d a (Err f) = plan_in d a ≡ outcome_of (Err f)
