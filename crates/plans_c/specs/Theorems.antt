-- The answers that a C program gets, case by case in the figures of document 01 ("When each operation says no"): 0 for a job done, and a
-- refusal's own number with nothing beside it. What is answered is said by plans' CallsExact.antt.
use Rattle.std.specs.Prelude.{ℕ, ◌≡◌, Bool, false, List, length, Ok, Err}
use Rattle.operations.specs.declared.Plan.{Plan}
use Rattle.operations.specs.declared.Fault.TheVariants.{InFrom, InTo}
use Rattle.operations.specs.declared.Reason.TheVariants.{Overlap, Gap}
use Rattle.operations.specs.declared.refusals.Refusal.{Refusal}
use Rattle.operations.specs.declared.Route.TheVariants as Route
use Rattle.operations.specs.Refusals.{number_of}
use Rattle.operations.specs.Plans.{blank}
use Rattle.plans.specs.declared.Rejection.{Rejection}
use Rattle.plans.specs.declared.Rejection.TheVariants.{NotADraft}
use Rattle.plans.specs.Answers.{faulty}
use Rattle.plans_c.specs.Numbers.{verdict_of, kept_of, made_of, compared_of, matched_of, routed_of, listed_of}

-- `plans_verdict`: 6 and 7 with the letter of the column, F is 70 and T is 84; and `plans_keep`, the same beside the plan
pub record VerdictsInC : Type 0 where
  pub accepted : verdict_of (Ok tt) ≡ record { number = 0; column = 0 }
  pub no_draft : verdict_of (Err NotADraft) ≡ record { number = 15; column = 0 }
  pub from_overlap : verdict_of (faulty (InFrom Overlap)) ≡ record { number = 6; column = 70 }
  pub from_gap : verdict_of (faulty (InFrom Gap)) ≡ record { number = 7; column = 70 }
  pub to_overlap : verdict_of (faulty (InTo Overlap)) ≡ record { number = 6; column = 84 }
  pub to_gap : verdict_of (faulty (InTo Gap)) ≡ record { number = 7; column = 84 }
  pub kept : (p : Plan) → kept_of (Ok p) ≡ record { number = (verdict_of (Ok tt)).number; column = (verdict_of (Ok tt)).column; plan = p }
  -- "what a call that refuses hands back" is the blank plan
  pub not_kept : (r : Rejection)
      → kept_of (Err r) ≡ record { number = (verdict_of (Err r)).number; column = (verdict_of (Err r)).column; plan = blank }

-- the other calls: a plan, whether two are alike, the match, the bytes that were written
pub record AnswersInC : Type 0 where
  pub verdicts : VerdictsInC
  pub made : (p : Plan) → made_of (Ok p) ≡ record { number = 0; plan = p }
  pub not_made : (r : Refusal) → made_of (Err r) ≡ record { number = number_of r; plan = blank }
  pub compared : (b : Bool) → compared_of (Ok b) ≡ record { number = 0; alike = b }
  pub not_compared : (r : Refusal) → compared_of (Err r) ≡ record { number = number_of r; alike = false }
  pub matched : (tail : List ℕ) (k : ℕ) → matched_of tail k ≡ record { tail = length tail; place = k }
  pub routed : (n k : ℕ) → routed_of (Route.Image (record { length = n; place = k })) ≡ record { number = 0; length = n; place = k }
  pub too_short : routed_of Route.TooShort ≡ record { number = 13; length = 0; place = 0 }
  pub not_routed : (r : Refusal) → routed_of (Route.Refused r) ≡ record { number = number_of r; length = 0; place = 0 }
  pub listed : (k : ℕ) → listed_of (Ok k) ≡ record { number = 0; length = k }
  pub not_listed : (r : Refusal) → listed_of (Err r) ≡ record { number = number_of r; length = 0 }
