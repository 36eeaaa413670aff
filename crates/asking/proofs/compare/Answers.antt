-- `asking::compare` meets its contract: both bytes are judged before either slot is looked into.
use mathlib.Core.Path.{◌≡◌, refl, sym, ◌∙◌, ap}
use mathlib.Core.Bool.{true, false}
use mathlib.Core.List.Memᴰ
use mathlib.Core.List.{[], ◌∷◌}
use Rattle.higman.specs.Answers.{same}
use Rattle.higman.specs.Listing.{is_slot}
use Rattle.desk.specs.Records.{S, kind, reading}
use Rattle.desk.specs.Replies.{bit, ok_number, pass}
use Rattle.operations.specs.Plans.{lent_plan}
use Rattle.slots.specs.declared.Reply.TheVariants.{Number}
use Rattle.slots.specs.Desks.{desk_of}
use Rattle.slots.proofs.Steps.{admitted_named, returned, tells_by, tells_job}
use Rattle.asking.proofs.Answered.{Asks, asks_by, answered}
use Rattle.asking.proofs.Jobs.{compare_none, compare_second_none, compare_done, likeness_refused, likeness_alike, bit_of}
use Rattle.asking.proofs.compare.Goals.{In_ok-admission}
use Rattle.asking.proofs.compare.Goals as goal

-- the record is admitted, and so both bytes name slots
asks : (c : In_ok-admission) → let a = c.args in Asks a.head.now a.columns.now (S a.a a.b)
unfolding kind
asks c = let a = c.args in asks_by a.head.now a.columns.now (S a.a a.b) (a.a ∷ a.b ∷ []) refl c.in_ok-admission.ensures

a_named : (c : In_ok-admission) → is_slot c.args.a ≡ true
unfolding kind
a_named c = admitted_named _ _ (asks c).admitted (reading c.args.a) (Memᴰ.head refl)

b_named : (c : In_ok-admission) → is_slot c.args.b ≡ true
unfolding kind
b_named c = admitted_named _ _ (asks c).admitted (reading c.args.b) (Memᴰ.tail (Memᴰ.head refl))

pub returns-in_err-admission : goal.returns-in_err-admission
unfolding kind
returns-in_err-admission c = λ out.
    let a = c.args in
    tells_by a.head.now a.columns.now (S a.a a.b) out (a.a ∷ a.b ∷ []) [] false refl _ c.in_err-admission.ensures _ (returned _ _ c.from_residual.ensures.1)

pub plan_in-requires-clause-named : goal.plan_in-requires-clause-named
plan_in-requires-clause-named c = a_named c

pub returns-in_err-first : goal.returns-in_err-first
returns-in_err-first c = λ out.
    let a = c.args in
    tells_job a.head.now a.columns.now (S a.a a.b) out (asks (goal.at.returns-in_err-first c).In_ok-admission).admitted _
    (compare_none _ a.a c.in_err-first.ensures a.b) _ (returned _ _ c.from_residual-in_err-first.ensures.1)

pub plan_in-requires-2-clause-named : goal.plan_in-requires-2-clause-named
plan_in-requires-2-clause-named c = b_named (goal.at.plan_in-requires-2-clause-named c).In_ok-admission

pub returns-in_err-second : goal.returns-in_err-second
returns-in_err-second c = λ out.
    let a = c.args in
    tells_job a.head.now a.columns.now (S a.a a.b) out (asks (goal.at.returns-in_err-second c).In_ok-admission).admitted _
    (compare_second_none _ a.a _ c.in_ok-first.ensures a.b c.in_err-second.ensures) _ (returned _ _ c.from_residual-in_err-second.ensures.1)

pub returns-in_err-alike : goal.returns-in_err-alike
returns-in_err-alike c = λ out.
    let a = c.args in
    let d = desk_of a.head.now a.columns.now in
    tells_job a.head.now a.columns.now (S a.a a.b) out (asks (goal.at.returns-in_err-alike c).In_ok-admission).admitted _
    (compare_done d a.a _ c.in_ok-first.ensures a.b _ c.in_ok-second.ensures
    ∙ likeness_refused d (same (lent_plan c.in_ok-first.first) (lent_plan c.in_ok-second.second)) _ (sym c.in_err-alike.ensures)) _
    (returned _ _ c.from_residual-in_err-alike.ensures.1)

pub returns : goal.returns
returns c = λ out.
    let a = c.args in
    let d = desk_of a.head.now a.columns.now in
    let b = c.in_ok-alike.alike in
    answered a.head.now a.columns.now (S a.a a.b) out (asks (goal.at.returns c).In_ok-admission) (ok_number (bit b))
    (compare_done d a.a _ c.in_ok-first.ensures a.b _ c.in_ok-second.ensures
    ∙ likeness_alike d (same (lent_plan c.in_ok-first.first) (lent_plan c.in_ok-second.second)) b (sym c.in_ok-alike.ensures))
    _ (ap (λ n. pass (Number n)) (bit_of b)) out refl
