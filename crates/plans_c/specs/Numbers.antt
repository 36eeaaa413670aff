-- The answers of the crate `plans` as a C program has them: the number of a refusal, or 0, and beside it what was answered, or nothing: the
-- blank plan, false or 0. A caller in C believes it; `AnswersInC` has each case in figures. Read Theorems.antt next.
use Rattle.std.specs.Prelude.{ℕ, ◌≡◌, refl, Bool, true, false, List, [], ◌∷◌, length, Result, Ok, Err}
use Rattle.operations.specs.declared.Plan.{Plan}
use Rattle.operations.specs.declared.Fault.TheVariants.{InTo}
use Rattle.operations.specs.declared.Reason.TheVariants.{Gap}
use Rattle.operations.specs.declared.Route.{Route}
use Rattle.operations.specs.declared.Route.TheVariants.{Image, TooShort}
use Rattle.operations.specs.declared.refusals.Refusal.{Refusal}
use Rattle.operations.specs.declared.refusals.Refusal.TheVariants.{ShapesDiffer}
use Rattle.operations.specs.Refusals.{number_of}
use Rattle.operations.specs.Plans.{blank}
use Rattle.operations.specs.Routing.{routing_number, routing_length, routing_place}
use Rattle.plans.specs.declared.Rejection.{Rejection}
use Rattle.plans.specs.declared.Rejection.TheVariants.{Faulty}
use Rattle.plans.specs.Answers.{faulty, rejection_number, rejection_column, judgement_number, judgement_column}
use Rattle.plans_c.specs.declared.Verdict.{Verdict}
use Rattle.plans_c.specs.declared.Kept.{Kept}
use Rattle.plans_c.specs.declared.Made.{Made}
use Rattle.plans_c.specs.declared.Compared.{Compared}
use Rattle.plans_c.specs.declared.Written.{Written}
use Rattle.plans_c.specs.declared.Matched.{Matched}
use Rattle.plans_c.specs.declared.Routed.{Routed}

abbrev pub verdict_of : Result (Unit {0}) Rejection → Verdict
verdict_of j = record { number = judgement_number j; column = judgement_column j }

abbrev pub kept_of : Result Plan Rejection → Kept
kept_of (Ok p) = record { number = 0; column = 0; plan = p }
kept_of (Err r) = record { number = rejection_number r; column = rejection_column r; plan = blank }

abbrev pub made_of : Result Plan Refusal → Made
made_of (Ok p) = record { number = 0; plan = p }
made_of (Err r) = record { number = number_of r; plan = blank }

abbrev pub compared_of : Result Bool Refusal → Compared
compared_of (Ok b) = record { number = 0; alike = b }
compared_of (Err r) = record { number = number_of r; alike = false }

-- the tail that is left of a code, by its length, and the place
abbrev pub matched_of : List ℕ → ℕ → Matched
matched_of tail place = record { tail = length tail; place = place }

abbrev pub routed_of : Route → Routed
routed_of r = record { number = routing_number r; length = routing_length r; place = routing_place r }

abbrev pub listed_of : Result ℕ Refusal → Written
listed_of (Ok n) = record { number = 0; length = n }
listed_of (Err r) = record { number = number_of r; length = 0 }

-- a gap in the to column, as a verdict and beside a plan
verdict_of_example : verdict_of (faulty (InTo Gap)) ≡ record { number = 7; column = 84 }
verdict_of_example = refl

kept_of_example : kept_of (Err (Faulty (InTo Gap))) ≡ record { number = 7; column = 84; plan = blank }
kept_of_example = refl

made_of_example : (p : Plan) → made_of (Ok p) ≡ record { number = 0; plan = p }
made_of_example p = refl

compared_of_example : (compared_of (Ok true) ≡ record { number = 0; alike = true })
    × (compared_of (Err ShapesDiffer) ≡ record { number = 10; alike = false })
compared_of_example = (refl, refl)

-- a tail of one digit behind the second from-word
matched_of_example : matched_of (50 ∷ []) 2 ≡ record { tail = 1; place = 2 }
matched_of_example = refl

-- an image of four digits by the second pair, a code that is too short, and a listing of 16 bytes
routed_of_example : (routed_of (Image (record { length = 4; place = 2 })) ≡ record { number = 0; length = 4; place = 2 })
    × (routed_of TooShort ≡ record { number = 13; length = 0; place = 0 })
routed_of_example = (refl, refl)

listed_of_example : listed_of (Ok 16) ≡ record { number = 0; length = 16 }
listed_of_example = refl
