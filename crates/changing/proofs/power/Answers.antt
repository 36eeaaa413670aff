-- `changing::power` meets its contract: the tests in the paper's order, and then what the plan gives is kept.
use mathlib.Core.Path.{◌≡◌, refl, sym, ◌∙◌, ap}
use mathlib.Core.Bool.{true}
use mathlib.Core.List.Memᴰ
use mathlib.Core.List.{[], ◌∷◌}
use mir.Syntax.{w32}
use Rattle.std.specs.Prelude.{Err}
use Rattle.higman.specs.Limits.{power_in_range}
use Rattle.higman.specs.Answers.{powered}
use Rattle.higman.specs.Listing.{is_slot}
use Rattle.higman.proofs.Demand3.{demand3}
use Rattle.desk.specs.Records.{K, kind, reading, writing}
use Rattle.desk.specs.Replies.{pass, admission}
use Rattle.operations.specs.Plans.{plan_of}
use Rattle.operations.specs.declared.refusals.Refusal.TheVariants.{PowerOutside}
use Rattle.operations.specs.Answers.{making}
use Rattle.operations.proofs.Signs.{read_is}
use Rattle.slots.specs.Works.{work_of}
use Rattle.slots.specs.Refused.{refused_for}
use Rattle.slots.specs.Desks.{desk_of}
use Rattle.slots.proofs.Steps.{admitted_named, returned, refused_by, refused_job}
use Rattle.changing.proofs.Answered.{Made, made, not_made}
use Rattle.changing.proofs.Kept.{is_kept_plan, keepable, to_keep}
use Rattle.changing.proofs.Operands.{power_beyond, power_none, power_refused, power_keeps}
use Rattle.changing.proofs.power.Goals.{In_ok-admission, Else-not-is_power, In_ok-raised}
use Rattle.changing.proofs.power.Goals as goal

-- the record is admitted, and so the two bytes name slots
admitted : (c : In_ok-admission) → admission (desk_of c.args.head.now c.args.columns.now) (K c.args.a c.args.k c.args.c) ≡ pass tt
unfolding kind
admitted c = let a = c.args in c.in_ok-admission.ensures (K a.a a.k a.c) true a.columns.now refl

a_named : (c : In_ok-admission) → is_slot c.args.a ≡ true
unfolding kind
a_named c = admitted_named _ _ (admitted c) (reading c.args.a) (Memᴰ.head refl)

c_named : (c : In_ok-admission) → is_slot c.args.c ≡ true
unfolding kind
c_named c = admitted_named _ _ (admitted c) (writing c.args.c) (Memᴰ.tail (Memᴰ.head refl))

pub returns-in_err-admission-clause-done : goal.returns-in_err-admission-clause-done
unfolding kind
returns-in_err-admission-clause-done c = λ out.
    let a = c.args in
    refused_by a.head.now a.columns.now c.requires (K a.a a.k a.c) out (a.a ∷ []) (a.c ∷ []) true refl _ c.in_err-admission.ensures _
    (ap (work_of _) (returned _ _ c.from_residual.ensures.1))

-- the number is one that plans are raised to, or not; the machine reads it back as it is
pub returns-then-not-is_power-clause-done : goal.returns-then-not-is_power-clause-done
returns-then-not-is_power-clause-done c = λ out.
    let a = c.args in
    let outside = sym (c.is_power.ensures ∙ ap power_in_range (read_is w32 a.k c.ranges.k)) ∙ c.if-not-is_power.true in
    refused_job a.head.now a.columns.now c.requires (K a.a a.k a.c) out (admitted (goal.at.returns-then-not-is_power-clause-done c).In_ok-admission)
    (refused_for PowerOutside) (power_beyond _ a.a a.k a.c outside) _ (ap Err c.into.ensures)

in_range : (c : Else-not-is_power) → power_in_range c.args.k ≡ true
in_range c = sym (c.is_power.ensures ∙ ap power_in_range (read_is w32 c.args.k c.ranges.k)) ∙ c.if-not-is_power.false

pub operand-requires-clause-a_value : goal.operand-requires-clause-a_value
operand-requires-clause-a_value c = a_named (goal.at.operand-requires-clause-a_value c).In_ok-admission

pub returns-in_err-plan-clause-done : goal.returns-in_err-plan-clause-done
returns-in_err-plan-clause-done c = λ out.
    let a = c.args in
    let at = goal.at.returns-in_err-plan-clause-done c in
    refused_job a.head.now a.columns.now c.requires (K a.a a.k a.c) out (admitted at.In_ok-admission) _
    (power_none _ a.a a.k a.c (in_range at.Else-not-is_power) c.in_err-plan.ensures) _ (ap (work_of _) (returned _ _ c.from_residual-in_err-plan.ensures.1))

pub returns-in_err-raised-clause-done : goal.returns-in_err-raised-clause-done
returns-in_err-raised-clause-done c = λ out.
    let a = c.args in
    let at = goal.at.returns-in_err-raised-clause-done c in
    let p = plan_of c.in_ok-plan.plan in
    let same = ap (λ k. making (powered p k)) (read_is w32 a.k c.ranges.k) in
    refused_job a.head.now a.columns.now c.requires (K a.a a.k a.c) out (admitted at.In_ok-admission) _
    (power_refused _ a.a a.k a.c (in_range at.Else-not-is_power) p c.in_ok-plan.ensures.there
    (not_made (powered p a.k) _ (c.in_err-raised.ensures ∙ same))) _ (ap (work_of _) (returned _ _ c.from_residual-in_err-raised.ensures.1))

pub slot_number-requires : goal.slot_number-requires
slot_number-requires c = c_named (goal.at.slot_number-requires c).In_ok-admission

-- what is kept
raised : (c : In_ok-raised) → Made (powered (plan_of c.in_ok-plan.plan) c.args.k) c.in_ok-raised.raised
raised c =
    let p = plan_of c.in_ok-plan.plan in
    let same = ap (λ k. making (powered p k)) (read_is w32 c.args.k c.ranges.k) in
    made (powered p c.args.k) (λ r g. demand3.powered_kept _ r _ (is_kept_plan c.in_ok-plan.plan c.in_ok-plan.ensures.is_plan_fact) g) _
    (c.in_ok-raised.ensures ∙ same)

pub keep-requires : goal.keep-requires
keep-requires c =
    let at = goal.at.keep-requires c in
    keepable c.args.c _ c.slot_number.ensures _ c.args.head.now c.args.columns.now c.requires (c_named at.In_ok-admission)
    (raised at.In_ok-raised).is_plan_fact

pub returns-clause-done : goal.returns-clause-done
unfolding kind
returns-clause-done c =
    let a = c.args in
    let at = goal.at.returns-clause-done c in
    c.keep.ensures.done (K a.a a.k a.c)
    (to_keep a.c _ c.slot_number.ensures _ _ (K a.a a.k a.c) (admitted at.In_ok-admission) refl
    (power_keeps _ a.a a.k a.c (in_range at.Else-not-is_power) _ c.in_ok-plan.ensures.there _ (raised at.In_ok-raised).granted))
