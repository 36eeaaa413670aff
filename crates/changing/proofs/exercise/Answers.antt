-- `changing::exercise` meets its contract: the tests in the request's order, and then what the numbers make is kept.
use mathlib.Core.Path.{◌≡◌, refl, sym, ◌∙◌, ap}
use mathlib.Core.Bool.{true}
use mathlib.Core.List.Memᴰ
use mathlib.Core.List.{[], ◌∷◌}
use Rattle.std.specs.Prelude.{Err}
use Rattle.higman.specs.Limits.{shape_in_range}
use Rattle.higman.specs.Exercises as Of
use Rattle.higman.specs.Listing.{is_slot}
use Rattle.higman.proofs.Tests.{T_of}
use Rattle.higman.proofs.Exercises.{exercises_exact}
use Rattle.words.specs.Bytes.{shape_of}
use Rattle.desk.specs.Records.{X, kind, writing}
use Rattle.desk.specs.Replies.{pass, admission}
use Rattle.operations.specs.declared.refusals.Refusal.TheVariants.{ShapeOutside}
use Rattle.slots.specs.Works.{work_of}
use Rattle.slots.specs.Desks.{desk_of}
use Rattle.slots.specs.Refused.{refused_for}
use Rattle.slots.proofs.Steps.{admitted_named, returned, refused_by, refused_job}
use Rattle.changing.proofs.Answered.{Made, made, not_made}
use Rattle.changing.proofs.Kept.{keepable, to_keep}
use Rattle.changing.proofs.Operands.{exercise_outside, exercise_refused, exercise_keeps}
use Rattle.changing.proofs.exercise.Goals.{In_ok-admission, Else-not-is_in_range, In_ok-plan}
use Rattle.changing.proofs.exercise.Goals as goal

-- the record is admitted, and so the byte names a slot
admitted : (c : In_ok-admission)
    → let a = c.args in admission (desk_of a.head.now a.columns.now) (X a.slot a.shape.arity a.shape.roots a.splits a.seed) ≡ pass tt
unfolding kind
admitted c = let a = c.args in c.in_ok-admission.ensures (X a.slot a.shape.arity a.shape.roots a.splits a.seed) true a.columns.now refl

named : (c : In_ok-admission) → is_slot c.args.slot ≡ true
unfolding kind
named c = admitted_named _ _ (admitted c) (writing c.args.slot) (Memᴰ.head refl)

pub returns-in_err-admission-clause-done : goal.returns-in_err-admission-clause-done
unfolding kind
returns-in_err-admission-clause-done c = λ out.
    let a = c.args in
    refused_by a.head.now a.columns.now c.requires (X a.slot a.shape.arity a.shape.roots a.splits a.seed) out [] (a.slot ∷ []) true refl _
    c.in_err-admission.ensures _ (ap (work_of _) (returned _ _ c.from_residual.ensures.1))

pub returns-then-not-is_in_range-clause-done : goal.returns-then-not-is_in_range-clause-done
returns-then-not-is_in_range-clause-done c = λ out.
    let a = c.args in
    refused_job a.head.now a.columns.now c.requires (X a.slot a.shape.arity a.shape.roots a.splits a.seed) out
    (admitted (goal.at.returns-then-not-is_in_range-clause-done c).In_ok-admission) (refused_for ShapeOutside)
    (exercise_outside _ a.slot (shape_of a.shape) a.splits a.seed (sym c.is_in_range.ensures ∙ c.if-not-is_in_range.true)) _
    (ap Err c.into.ensures)

in_range : (c : Else-not-is_in_range) → shape_in_range (shape_of c.args.shape) ≡ true
in_range c = sym c.is_in_range.ensures ∙ c.if-not-is_in_range.false

pub returns-in_err-plan-clause-done : goal.returns-in_err-plan-clause-done
returns-in_err-plan-clause-done c = λ out.
    let a = c.args in
    let at = goal.at.returns-in_err-plan-clause-done c in
    let s = shape_of a.shape in
    refused_job a.head.now a.columns.now c.requires (X a.slot a.shape.arity a.shape.roots a.splits a.seed) out (admitted at.In_ok-admission) _
    (exercise_refused _ a.slot s a.splits a.seed (in_range at.Else-not-is_in_range)
    (not_made (Of.exercise s a.splits a.seed) _ c.in_err-plan.ensures)) _ (ap (work_of _) (returned _ _ c.from_residual-in_err-plan.ensures.1))

pub slot_number-requires : goal.slot_number-requires
slot_number-requires c = named (goal.at.slot_number-requires c).In_ok-admission

-- what is kept
exercised : (c : In_ok-plan) → Made (Of.exercise (shape_of c.args.shape) c.args.splits c.args.seed) c.in_ok-plan.plan
exercised c =
    let a = c.args in
    let s = shape_of a.shape in
    let range = T_of (sym c.is_in_range.ensures ∙ c.if-not-is_in_range.false) in
    made (Of.exercise s a.splits a.seed) (λ p g. exercises_exact.kept s range a.splits a.seed p g) _ c.in_ok-plan.ensures

pub keep-requires : goal.keep-requires
keep-requires c =
    let at = goal.at.keep-requires c in
    keepable c.args.slot _ c.slot_number.ensures _ c.args.head.now c.args.columns.now c.requires (named at.In_ok-admission)
    (exercised at.In_ok-plan).is_plan_fact

pub returns-clause-done : goal.returns-clause-done
unfolding kind
returns-clause-done c =
    let a = c.args in
    let at = goal.at.returns-clause-done c in
    let r = X a.slot a.shape.arity a.shape.roots a.splits a.seed in
    c.keep.ensures.done r
    (to_keep a.slot _ c.slot_number.ensures _ _ r (admitted at.In_ok-admission) refl
    (exercise_keeps _ a.slot (shape_of a.shape) a.splits a.seed (in_range at.Else-not-is_in_range) _ (exercised at.In_ok-plan).granted))
