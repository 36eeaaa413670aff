-- X on a desk: what it keeps and replies, and that both are fixed by its fields. With it what all records that keep an answer share.
use Prim.Native.Nat.{ℕ, ◌<◌}
use mathlib.Core.Path.{◌≡◌, refl, sym, ◌∙◌, ap, subst}
use mathlib.Core.Bool.{false}
use mathlib.Core.List.Memᴰ
use mathlib.Core.Option.{some}
use lib.Dec.{T, leb}
use borrow.Author.Tests.{lt-leb, le-leb}
use Rattle.higman.specs.Words.{Shape, given}
use Rattle.higman.specs.Limits.{Plan, slot_count, shape_in_range}
use Rattle.higman.specs.Answers.{Answer, Granted, Refused}
use Rattle.higman.specs.Exercises.{exercised, exercise_plan, exercise}
use Rattle.higman.specs.Listing.{slot_number}
use Rattle.higman.specs.Refusals.{shape_outside}
use Rattle.higman.proofs.KeptPlans.{in_range, arity_of_range}
use Rattle.higman.proofs.Statements.{normal_form_lem}
use Rattle.higman.proofs.Exercises.{exercise_cases, exercises_exact}
use Rattle.desk.specs.Limits.{max_changes}
use Rattle.desk.specs.Desk.{Desk, count_of, held, IsDesk, changed, with_draft, own_right}
use Rattle.desk.specs.Records.{E, X, writing, kind}
use Rattle.desk.specs.Replies.{pass, Effect, is_open, at_limit, of_answer, keep_in, job, operation}
use Rattle.desk.specs.Conditions.{conditions, first_of, refusal_of}
use Rattle.desk.specs.Demands.{Ready, with_exercise, ExerciseKept, ExercisesFixed}
use Rattle.desk.proofs.Outcomes.{Passes, stops, passes, passes_then, passed, test_held, passes_operation}
use Rattle.desk.proofs.Stays.{slot_of_record}
use Rattle.desk.proofs.OpenPlans.{close_pass}
use Rattle.desk.proofs.Replies.{desk_parts}
use Rattle.desk.proofs.Conditions.{first_condition}

-- what an answer about plans passes on
pub answer_granted : (a : Answer) → Passes (λ p. a ≡ Granted p) (of_answer a)
answer_granted (Granted p) = passes refl
answer_granted (Refused r) = stops

-- what is kept in a slot is there afterwards
pub kept_there : (d : Desk) (i : ℕ) (e : Effect) (p : Plan) → IsDesk d → i < slot_count → e ≡ keep_in d i p → held e.0 i ≡ some p
kept_there d i e p h l f = subst (λ z. held z.0 i ≡ some p) (sym f) (desk_parts.changed_here d i (some p) h.eight l)

-- X where it is done
record Exercised (d : Desk) (a : ℕ) (s : Shape) (k seed : ℕ) (e : Effect) : Type 0 where
  in_range : T (shape_in_range s)
  granted : exercise s k seed ≡ Granted (exercise_plan s k seed)
  effect : e ≡ keep_in d (slot_number a) (exercise_plan s k seed)
  slot : slot_number a < slot_count
  room : at_limit d ≡ false

exercise_steps : (d : Desk) (a : ℕ) (s : Shape) (k seed : ℕ)
    → Passes (Exercised d a s k seed) (operation d (X a s.arity s.roots k seed))
unfolding job kind
exercise_steps d a s k seed =
    passes_operation d (X a s.arity s.roots k seed) (λ t. passes_then (test_held shape_outside (shape_in_range s)) (λ _ y. passes_then
    (answer_granted (exercise s k seed))
    (λ p g.
    let (_, _, u) = exercise_cases s k seed p g in
    passes
    (record {
      in_range = y;
      granted = g ∙ ap Granted u;
      effect = ap (keep_in d (slot_number a)) u;
      slot = slot_of_record d (X a s.arity s.roots k seed) t (writing a) (Memᴰ.head refl);
      room = t.room;
    }))))

-- E on the same pairs: it accepts them, keeps the same plan and counts the same change, whatever was open
as_typed : (d : Desk) (a : ℕ) (s : Shape) (k seed : ℕ) (e : Effect) → Exercised d a s k seed e → operation (with_exercise d a s k seed) E ≡ pass e
unfolding with_draft changed
as_typed d a s k seed e x =
    let accepted = exercises_exact.accepted s (arity_of_range s x.in_range) (in_range s x.in_range).roots_low k seed in
    close_pass (with_exercise d a s k seed) _ refl accepted x.room ∙ ap pass (sym x.effect)

pub exercises : (d : Desk) (a : ℕ) (s : Shape) (k seed : ℕ) (e : Effect) → IsDesk d → operation d (X a s.arity s.roots k seed) ≡ pass e
    → ExerciseKept d a s k seed e
exercises d a s k seed e h o =
    let x = passed (exercise_steps d a s k seed) e o in
    let ways = arity_of_range s x.in_range in
    let bases = exercises_exact.bases s ways (in_range s x.in_range).roots_low k seed in
    record {
      plan = record {
        effect = x.effect;
        there = kept_there d (slot_number a) e (exercise_plan s k seed) h x.slot x.effect;
        kept = exercises_exact.kept s x.in_range k seed (exercise_plan s k seed) x.granted;
      };
      acts = normal_form_lem.acts s ways (exercised s k seed) bases;
      as_typed = as_typed d a s k seed e x;
    }

same_reply : (d c : Desk) (a n r s seed : ℕ) (e f : Effect) → operation d (X a n r s seed) ≡ pass e → operation c (X a n r s seed) ≡ pass f
    → e.1 ≡ f.1
same_reply d c a n r s seed e f o q =
    let x = passed (exercise_steps d a (record { arity = n; roots = r }) s seed) e o in
    let y = passed (exercise_steps c a (record { arity = n; roots = r }) s seed) f q in
    ap (λ z. z.1) x.effect ∙ sym (ap (λ z. z.1) y.effect)

same_plan : (d c : Desk) (a n r s seed : ℕ) (e f : Effect) → IsDesk d → IsDesk c → operation d (X a n r s seed) ≡ pass e
    → operation c (X a n r s seed) ≡ pass f → held e.0 (slot_number a) ≡ held f.0 (slot_number a)
same_plan d c a n r s seed e f D C o q =
    let shape : Shape = record { arity = n; roots = r } in
    (exercises d a shape s seed e D o).plan.there ∙ sym (exercises c a shape s seed f C q).plan.there

-- two desks that are ready have the same conditions of X: of a desk these ask only whether a plan is open, whether the slot may be written
-- and whether the count is at its limit
ready_conditions : (d c : Desk) (a n r s seed : ℕ) → Ready d a → Ready c a → conditions d (X a n r s seed) ≡ conditions c (X a n r s seed)
unfolding conditions
ready_conditions d c a n r s seed R Q =
    let begun : is_open d ≡ is_open c = ap given (R.none_open ∙ sym Q.none_open) in
    let may : leb 2 (own_right d (slot_number a)) ≡ leb 2 (own_right c (slot_number a)) =
    le-leb 2 (own_right d (slot_number a)) R.right ∙ sym (le-leb 2 (own_right c (slot_number a)) Q.right) in
    let full : at_limit d ≡ at_limit c = lt-leb max_changes (count_of d) R.room ∙ sym (lt-leb max_changes (count_of c) Q.room) in
    cc

same_refusal : (d c : Desk) (a n r s seed : ℕ) → IsDesk d → IsDesk c → Ready d a → Ready c a
    → refusal_of (operation d (X a n r s seed)) ≡ refusal_of (operation c (X a n r s seed))
same_refusal d c a n r s seed D C R Q =
    first_condition d D (X a n r s seed)
    ∙ ap first_of (ready_conditions d c a n r s seed R Q)
    ∙ sym (first_condition c C (X a n r s seed))

pub exercises_fixed : ExercisesFixed
exercises_fixed = record { same_reply = same_reply; same_plan = same_plan; same_refusal = same_refusal }
