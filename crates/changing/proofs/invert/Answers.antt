-- `changing::invert` meets its contract: the tests in the paper's order, and then what the plan gives is kept.
use mathlib.Core.Path.{◌≡◌, refl, ap}
use mathlib.Core.Bool.{true}
use mathlib.Core.List.Memᴰ
use mathlib.Core.List.{[], ◌∷◌}
use Rattle.higman.specs.Answers.{inverted}
use Rattle.higman.specs.Listing.{is_slot}
use Rattle.higman.proofs.Demand3.{demand3}
use Rattle.desk.specs.Records.{I, kind, reading, writing}
use Rattle.desk.specs.Replies.{pass, admission}
use Rattle.operations.specs.Plans.{plan_of}
use Rattle.slots.specs.Works.{work_of}
use Rattle.slots.specs.Desks.{desk_of}
use Rattle.slots.proofs.Steps.{admitted_named, returned, refused_by, refused_job}
use Rattle.changing.proofs.Answered.{Made, made}
use Rattle.changing.proofs.Kept.{is_kept_plan, keepable, to_keep}
use Rattle.changing.proofs.Operands.{invert_none, invert_keeps}
use Rattle.changing.proofs.invert.Goals.{In_ok-admission, After-inverse}
use Rattle.changing.proofs.invert.Goals as goal

-- the record is admitted, and so the two bytes name slots
admitted : (c : In_ok-admission) → admission (desk_of c.args.head.now c.args.columns.now) (I c.args.a c.args.c) ≡ pass tt
unfolding kind
admitted c = let a = c.args in c.in_ok-admission.ensures (I a.a a.c) true a.columns.now refl

a_named : (c : In_ok-admission) → is_slot c.args.a ≡ true
unfolding kind
a_named c = admitted_named _ _ (admitted c) (reading c.args.a) (Memᴰ.head refl)

c_named : (c : In_ok-admission) → is_slot c.args.c ≡ true
unfolding kind
c_named c = admitted_named _ _ (admitted c) (writing c.args.c) (Memᴰ.tail (Memᴰ.head refl))

pub returns-in_err-admission-clause-done : goal.returns-in_err-admission-clause-done
unfolding kind
returns-in_err-admission-clause-done c = λ out.
    let a = c.args in
    refused_by a.head.now a.columns.now c.requires (I a.a a.c) out (a.a ∷ []) (a.c ∷ []) true refl _ c.in_err-admission.ensures _
    (ap (work_of _) (returned _ _ c.from_residual.ensures.1))

pub operand-requires-clause-a_value : goal.operand-requires-clause-a_value
operand-requires-clause-a_value c = a_named c

pub returns-in_err-plan-clause-done : goal.returns-in_err-plan-clause-done
returns-in_err-plan-clause-done c = λ out.
    let a = c.args in
    refused_job a.head.now a.columns.now c.requires (I a.a a.c) out (admitted (goal.at.returns-in_err-plan-clause-done c).In_ok-admission) _
    (invert_none _ a.a a.c c.in_err-plan.ensures) _ (ap (work_of _) (returned _ _ c.from_residual-in_err-plan.ensures.1))

pub slot_number-requires : goal.slot_number-requires
slot_number-requires c = c_named (goal.at.slot_number-requires c).In_ok-admission

-- what is kept
inverse : (c : After-inverse) → Made (inverted (plan_of c.in_ok-plan.plan)) c.inverse.result
inverse c =
    made (inverted (plan_of c.in_ok-plan.plan))
    (λ r g. demand3.inverted_kept _ r (is_kept_plan c.in_ok-plan.plan c.in_ok-plan.ensures.is_plan_fact) g) _ c.inverse.ensures

pub keep-requires : goal.keep-requires
keep-requires c =
    let at = goal.at.keep-requires c in
    keepable c.args.c _ c.slot_number.ensures _ c.args.head.now c.args.columns.now c.requires (c_named at.In_ok-admission)
    (inverse at.After-inverse).is_plan_fact

pub returns-clause-done : goal.returns-clause-done
unfolding kind
returns-clause-done c =
    let a = c.args in
    let at = goal.at.returns-clause-done c in
    c.keep.ensures.done (I a.a a.c)
    (to_keep a.c _ c.slot_number.ensures _ _ (I a.a a.c) (admitted at.In_ok-admission) refl
    (invert_keeps _ a.a a.c _ _ c.in_ok-plan.ensures.there (inverse at.After-inverse).granted))
