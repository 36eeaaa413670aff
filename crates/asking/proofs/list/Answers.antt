-- `asking::list` meets its contract.
use Prim.Native.Nat.{◌≤◌}
use mathlib.Core.Path.{◌≡◌, refl, ◌∙◌, ap}
use mathlib.Core.Bool.{true, false}
use mathlib.Core.List.Memᴰ
use mathlib.Core.List.{[], ◌∷◌}
use native.Mathlib.Omega.{arith}
use lib.ListN.{length}
use Rattle.std.specs.Prelude.{Ok}
use Rattle.higman.specs.Listing.{is_slot, listing}
use Rattle.desk.specs.Records.{L, kind, reading}
use Rattle.desk.specs.Replies.{lists, pass}
use Rattle.desk.specs.Bytes.{reply_bytes}
use Rattle.operations.specs.Plans.{lent_plan}
use Rattle.operations.proofs.KeptValues.{lent_kept}
use Rattle.replies.proofs.Sizes.{listing_fits}
use Rattle.slots.specs.declared.Reply.TheVariants.{Written}
use Rattle.slots.specs.Desks.{desk_of}
use Rattle.slots.proofs.Steps.{admitted_named, returned, tells_by, tells_job}
use Rattle.asking.proofs.Answered.{Asks, asks_by, answered}
use Rattle.asking.proofs.Jobs.{list_none, list_done, listing_told, listing_written}
use Rattle.asking.proofs.list.Goals.{In_ok-admission, In_ok-plan}
use Rattle.asking.proofs.list.Goals as goal

-- the record is admitted, and so the byte names a slot
asks : (c : In_ok-admission) → let a = c.args in Asks a.head.now a.columns.now (L a.a)
unfolding kind
asks c = let a = c.args in asks_by a.head.now a.columns.now (L a.a) (a.a ∷ []) refl c.in_ok-admission.ensures

a_named : (c : In_ok-admission) → is_slot c.args.a ≡ true
unfolding kind
a_named c = admitted_named _ _ (asks c).admitted (reading c.args.a) (Memᴰ.head refl)

-- the listing has room
room : (c : In_ok-plan) → length (listing c.args.a (lent_plan c.in_ok-plan.plan)) ≤ length c.args.out.now
room c = omega (arith, c.requires.room, listing_fits c.args.a (lent_plan c.in_ok-plan.plan) (lent_kept c.in_ok-plan.plan))

pub returns-in_err-admission : goal.returns-in_err-admission
unfolding kind
returns-in_err-admission c =
    let a = c.args in
    tells_by a.head.now a.columns.now (L a.a) a.out.now (a.a ∷ []) [] false refl _ c.in_err-admission.ensures _ (returned _ _ c.from_residual.ensures.1)

pub plan_in-requires-clause-named : goal.plan_in-requires-clause-named
plan_in-requires-clause-named c = a_named c

pub returns-in_err-plan : goal.returns-in_err-plan
returns-in_err-plan c =
    let a = c.args in
    tells_job a.head.now a.columns.now (L a.a) a.out.now (asks (goal.at.returns-in_err-plan c).In_ok-admission).admitted _
    (list_none _ a.a c.in_err-plan.ensures) _ (returned _ _ c.from_residual-in_err-plan.ensures.1)

-- so that all of it is written
pub returns-in_err-used : goal.returns-in_err-used
returns-in_err-used c =
    let a = c.args in
    let at = goal.at.returns-in_err-used c in
    let p = lent_plan c.in_ok-plan.plan in
    let told = listing_told a.a (a_named at.In_ok-admission) p a.out.now (room at.In_ok-plan) in
    absurd (cc (told, c.in_err-used.ensures.value))

pub returns : goal.returns
unfolding reply_bytes
returns c =
    let a = c.args in
    let at = goal.at.returns c in
    let p = lent_plan c.in_ok-plan.plan in
    let named = a_named at.In_ok-admission in
    let used = c.in_ok-used.used in
    let told : Ok used ≡ Ok (length (listing a.a p)) = c.in_ok-used.ensures.value ∙ listing_told a.a named p a.out.now (room at.In_ok-plan) in
    answered a.head.now a.columns.now (L a.a) a.out.now (asks at.In_ok-admission) (lists a.a p)
    (list_done (desk_of a.head.now a.columns.now) a.a p c.in_ok-plan.ensures) (Written used) (ap (λ n. pass (Written n)) (cc told)) _
    (c.in_ok-used.ensures.out_after ∙ listing_written a.a named p a.out.now (room at.In_ok-plan))
