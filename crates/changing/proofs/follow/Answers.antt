-- `changing::follow` meets its contract: the tests in the paper's order, and then what the two plans give is kept.
use mathlib.Core.Path.{◌≡◌, refl, ap}
use mathlib.Core.Bool.{true}
use mathlib.Core.List.Memᴰ
use mathlib.Core.List.{[], ◌∷◌}
use Rattle.higman.specs.Answers.{followed}
use Rattle.higman.specs.Listing.{is_slot}
use Rattle.higman.proofs.Demand3.{demand3}
use Rattle.desk.specs.Records.{F, kind, reading, writing}
use Rattle.desk.specs.Replies.{pass, admission}
use Rattle.operations.specs.Plans.{plan_of}
use Rattle.slots.specs.Works.{work_of}
use Rattle.slots.specs.Desks.{desk_of}
use Rattle.slots.proofs.Steps.{admitted_named, returned, refused_by, refused_job}
use Rattle.changing.proofs.Answered.{Made, made, not_made}
use Rattle.changing.proofs.Kept.{is_kept_plan, keepable, to_keep}
use Rattle.changing.proofs.Operands.{follow_first, follow_second, follow_refused, follow_keeps}
use Rattle.changing.proofs.follow.Goals.{In_ok-admission, In_ok-plan}
use Rattle.changing.proofs.follow.Goals as goal

-- the record is admitted, and so the three bytes name slots
admitted : (c : In_ok-admission) → admission (desk_of c.args.head.now c.args.columns.now) (F c.args.a c.args.b c.args.c) ≡ pass tt
unfolding kind
admitted c = let a = c.args in c.in_ok-admission.ensures (F a.a a.b a.c) true a.columns.now refl

a_named : (c : In_ok-admission) → is_slot c.args.a ≡ true
unfolding kind
a_named c = admitted_named _ _ (admitted c) (reading c.args.a) (Memᴰ.head refl)

b_named : (c : In_ok-admission) → is_slot c.args.b ≡ true
unfolding kind
b_named c = admitted_named _ _ (admitted c) (reading c.args.b) (Memᴰ.tail (Memᴰ.head refl))

c_named : (c : In_ok-admission) → is_slot c.args.c ≡ true
unfolding kind
c_named c = admitted_named _ _ (admitted c) (writing c.args.c) (Memᴰ.tail (Memᴰ.tail (Memᴰ.head refl)))

pub returns-in_err-admission-clause-done : goal.returns-in_err-admission-clause-done
unfolding kind
returns-in_err-admission-clause-done c = λ out.
    let a = c.args in
    refused_by a.head.now a.columns.now c.requires (F a.a a.b a.c) out (a.a ∷ a.b ∷ []) (a.c ∷ []) true refl _ c.in_err-admission.ensures _
    (ap (work_of _) (returned _ _ c.from_residual.ensures.1))

pub operand-requires-clause-a_value : goal.operand-requires-clause-a_value
operand-requires-clause-a_value c = a_named c

pub returns-in_err-first-clause-done : goal.returns-in_err-first-clause-done
returns-in_err-first-clause-done c = λ out.
    let a = c.args in
    refused_job a.head.now a.columns.now c.requires (F a.a a.b a.c) out (admitted (goal.at.returns-in_err-first-clause-done c).In_ok-admission) _
    (follow_first _ a.a a.b a.c c.in_err-first.ensures) _ (ap (work_of _) (returned _ _ c.from_residual-in_err-first.ensures.1))

pub operand-requires-2-clause-a_value : goal.operand-requires-2-clause-a_value
operand-requires-2-clause-a_value c = b_named (goal.at.operand-requires-2-clause-a_value c).In_ok-admission

pub returns-in_err-second-clause-done : goal.returns-in_err-second-clause-done
returns-in_err-second-clause-done c = λ out.
    let a = c.args in
    refused_job a.head.now a.columns.now c.requires (F a.a a.b a.c) out (admitted (goal.at.returns-in_err-second-clause-done c).In_ok-admission) _
    (follow_second _ a.a a.b a.c _ c.in_ok-first.ensures.there c.in_err-second.ensures) _
    (ap (work_of _) (returned _ _ c.from_residual-in_err-second.ensures.1))

pub returns-in_err-plan-clause-done : goal.returns-in_err-plan-clause-done
returns-in_err-plan-clause-done c = λ out.
    let a = c.args in
    refused_job a.head.now a.columns.now c.requires (F a.a a.b a.c) out (admitted (goal.at.returns-in_err-plan-clause-done c).In_ok-admission) _
    (follow_refused _ a.a a.b a.c _ c.in_ok-first.ensures.there _ c.in_ok-second.ensures.there
    (not_made (followed (plan_of c.in_ok-first.first) (plan_of c.in_ok-second.second)) _ c.in_err-plan.ensures)) _
    (ap (work_of _) (returned _ _ c.from_residual-in_err-plan.ensures.1))

pub slot_number-requires : goal.slot_number-requires
slot_number-requires c = c_named (goal.at.slot_number-requires c).In_ok-admission

-- what is kept
composed : (c : In_ok-plan) → Made (followed (plan_of c.in_ok-first.first) (plan_of c.in_ok-second.second)) c.in_ok-plan.plan
composed c =
    let first = is_kept_plan c.in_ok-first.first c.in_ok-first.ensures.is_plan_fact in
    let second = is_kept_plan c.in_ok-second.second c.in_ok-second.ensures.is_plan_fact in
    made (followed (plan_of c.in_ok-first.first) (plan_of c.in_ok-second.second)) (λ r g. demand3.followed_kept _ _ r first second g) _
    c.in_ok-plan.ensures

pub keep-requires : goal.keep-requires
keep-requires c =
    let at = goal.at.keep-requires c in
    keepable c.args.c _ c.slot_number.ensures _ c.args.head.now c.args.columns.now c.requires (c_named at.In_ok-admission)
    (composed at.In_ok-plan).is_plan_fact

pub returns-clause-done : goal.returns-clause-done
unfolding kind
returns-clause-done c =
    let a = c.args in
    let at = goal.at.returns-clause-done c in
    c.keep.ensures.done (F a.a a.b a.c)
    (to_keep a.c _ c.slot_number.ensures _ _ (F a.a a.b a.c) (admitted at.In_ok-admission) refl
    (follow_keeps _ a.a a.b a.c _ c.in_ok-first.ensures.there _ c.in_ok-second.ensures.there _ (composed at.In_ok-plan).granted))
