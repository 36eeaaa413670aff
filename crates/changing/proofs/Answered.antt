-- What an answer about plans comes to where its plan is kept: a refusal with its number, or the plan of the value that was made.
use mathlib.Core.Path.{◌≡◌, refl, sym, ◌∙◌, ap}
use mathlib.Core.Bool.{true}
use mathlib.Core.Option.{none}
use Rattle.std.specs.Prelude.{Ok, Err}
use Rattle.higman.specs.Words.{Shape}
use Rattle.higman.specs.Tables.{Table}
use Rattle.higman.specs.Normal.{keep}
use Rattle.higman.specs.Limits.{Plan as PlanOf, Kept}
use Rattle.higman.specs.Answers as Of
use Rattle.desk.specs.Replies.{refuse, of_answer, of_verdict}
use Rattle.operations.specs.declared.Plan.{Plan}
use Rattle.operations.specs.declared.refusals.Refusal.{Refusal}
use Rattle.operations.specs.Refusals.{number_of, refusal, refusal_numbered}
use Rattle.operations.specs.Plans.{plan_of, is_plan, packed}
use Rattle.operations.proofs.Repacked.{holds, packed_is_plan}
use Rattle.operations.specs.declared.Reason.TheVariants.{Overlap, Gap}
use Rattle.operations.specs.declared.Fault.{Fault}
use Rattle.operations.specs.declared.Fault.TheVariants.{InFrom, InTo}
use Rattle.operations.specs.Answers.{making}
use Rattle.operations.specs.Closing.{verdict_of, closed_by, closing}
use Rattle.slots.specs.Refused.{refused_in, outcome_of}

pub not_made : (answer : Of.Answer) (r : Refusal) → Err r ≡ making answer → of_answer answer ≡ refuse (number_of r) none
not_made (Of.Granted p) r e = cc
not_made (Of.Refused x) r e = let same : r ≡ refusal x = cc in ap (λ n. refuse n none) (sym (ap number_of same ∙ refusal_numbered x))

-- a plan that was made, which is a kept one
pub record Made (answer : Of.Answer) (v : Plan) : Type 0 where
  pub granted : answer ≡ Of.Granted (plan_of v)
  pub is_plan_fact : is_plan v ≡ true

pub made : (answer : Of.Answer) → ((p : PlanOf) → answer ≡ Of.Granted p → Kept p) → (v : Plan) → Ok v ≡ making answer → Made answer v
made (Of.Granted p) k v e =
    let same : v ≡ packed p = cc in
    record {
      granted = ap Of.Granted (sym (ap plan_of same ∙ holds p (k p refl)));
      is_plan_fact = ap is_plan same ∙ packed_is_plan p (k p refl);
    }
made (Of.Refused x) k v e = cc

-- what closing comes to
module _ (s : Shape) (t : Table) where
  pub not_closed : (f : Fault) → Err f ≡ closing s t → of_verdict (Of.verdict s t) ≡ outcome_of (Err (refused_in f))
  unfolding closing
  not_closed f e = by (Of.verdict s t) e
    where
      by : (v : Of.Verdict) → Err f ≡ closed_by s t (verdict_of v) → of_verdict v ≡ outcome_of (Err (refused_in f))
      by Of.Accepted e = cc
      by (Of.InFrom Of.Overlap) e = let same : f ≡ InFrom Overlap = cc in ap (λ f. outcome_of (Err (refused_in f))) (sym same)
      by (Of.InFrom Of.Gap) e = let same : f ≡ InFrom Gap = cc in ap (λ f. outcome_of (Err (refused_in f))) (sym same)
      by (Of.InTo Of.Overlap) e = let same : f ≡ InTo Overlap = cc in ap (λ f. outcome_of (Err (refused_in f))) (sym same)
      by (Of.InTo Of.Gap) e = let same : f ≡ InTo Gap = cc in ap (λ f. outcome_of (Err (refused_in f))) (sym same)

  pub closed : (v : Plan) → Ok v ≡ closing s t → (Of.verdict s t ≡ Of.Accepted) × (v ≡ packed (record { shape = s; rows = keep s t }))
  unfolding closing
  closed v e = by (Of.verdict s t) e
    where
      by : (w : Of.Verdict) → Ok v ≡ closed_by s t (verdict_of w) → (w ≡ Of.Accepted) × (v ≡ packed (record { shape = s; rows = keep s t }))
      by Of.Accepted e = (refl, cc)
      by (Of.InFrom x) e = cc
      by (Of.InTo x) e = cc
