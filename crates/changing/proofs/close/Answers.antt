-- `changing::close` meets its contract: the open plan is judged, and what is kept of it goes into its slot.
use mathlib.Core.Path.{◌≡◌, refl, sym, ◌∙◌, ap, subst}
use mathlib.Core.Bool.{true}
use native.Mathlib.Omega.{arith}
use Rattle.std.specs.Prelude.{Err, Some, None, is_some}
use Rattle.desk.specs.Records.{E, kind}
use Rattle.desk.specs.Replies.{pass, admission, keep_in}
use Rattle.operations.specs.declared.Plan.{Plan}
use Rattle.operations.specs.declared.refusals.Refusal.TheVariants.{WrongState}
use Rattle.operations.specs.Plans.{shape_of, rows_of}
use Rattle.operations.specs.Closing.{closing, DraftColumns}
use Rattle.slots.specs.Works.{work_of}
use Rattle.slots.specs.Blocks.{value_at}
use Rattle.slots.specs.Desks.{draft_block, draft_in, desk_of}
use Rattle.slots.specs.Refused.{refused_for}
use Rattle.slots.proofs.Held.{draft_open}
use Rattle.slots.proofs.Steps.{no_plan_open, plan_open, returned, refused_with, refused_admission, refused_job}
use Rattle.changing.proofs.Answered.{not_closed, closed}
use Rattle.changing.proofs.Drafts.{open_draft, draft_columns, closed_is, closed_is_plan}
use Rattle.changing.proofs.Operands.{close_refused, close_keeps}
use Rattle.changing.proofs.close.Goals.{In_ok-slot, After-value-draft, In_ok-plan}
use Rattle.changing.proofs.close.Goals as goal

pub returns-in_err-slot-clause-done : goal.returns-in_err-slot-clause-done
unfolding kind
returns-in_err-slot-clause-done c = λ out.
    let a = c.args in
    let none : a.head.now.draft ≡ None = grind arith in
    refused_admission a.head.now a.columns.now c.requires E out (refused_for WrongState)
    (no_plan_open a.head.now a.columns.now E true refl (ap is_some none)) _
    (ap (work_of _) (returned _ _ c.from_residual.ensures.1 ∙ ap Err (refused_with a.head.now.draft _ WrongState c.in_err-slot.ensures.value)))

-- the slot of the open plan
opened : (c : In_ok-slot) → c.args.head.now.draft ≡ Some c.in_ok-slot.slot
opened c = grind arith

admitted : (c : In_ok-slot) → admission (desk_of c.args.head.now c.args.columns.now) E ≡ pass tt
unfolding kind
admitted c = plan_open c.args.head.now c.args.columns.now E true refl (ap is_some (opened c))

pub close-requires : goal.close-requires
close-requires c =
    subst DraftColumns (sym c.value-draft.ensures)
    (draft_columns c.args.head.now c.args.columns.now c.requires _ (opened (goal.at.close-requires c).In_ok-slot))

-- what closing is asked of
read : (c : After-value-draft) → let v = value_at c.args.head.now c.args.columns.now draft_block in
    closing (shape_of c.value-draft.result) (rows_of c.value-draft.result) ≡ closing (shape_of v) (rows_of v)
read c = ap (λ (x : Plan). closing (shape_of x) (rows_of x)) c.value-draft.ensures

pub returns-in_err-plan-clause-done : goal.returns-in_err-plan-clause-done
returns-in_err-plan-clause-done c = λ out.
    let a = c.args in
    let at = goal.at.returns-in_err-plan-clause-done c in
    let v = value_at a.head.now a.columns.now draft_block in
    refused_job a.head.now a.columns.now c.requires E out (admitted at.In_ok-slot) _
    (close_refused _ _ (draft_open a.head.now a.columns.now _ (opened at.In_ok-slot))
    (not_closed (shape_of v) (rows_of v) _ (c.in_err-plan.ensures ∙ read at.After-value-draft))) _
    (ap (work_of _) (returned _ _ c.from_residual-in_err-plan.ensures.1))

pub keep-requires : goal.keep-requires
keep-requires c =
    let a = c.args in
    let at = goal.at.keep-requires c in
    let v = value_at a.head.now a.columns.now draft_block in
    let is_open = opened at.In_ok-slot in
    let (accepted, packs) = closed (shape_of v) (rows_of v) c.in_ok-plan.plan (c.in_ok-plan.ensures ∙ read at.After-value-draft) in
    record {
      holds = c.requires;
      slot = (open_draft a.head.now a.columns.now c.requires c.in_ok-slot.slot is_open).slot_named;
      is_plan_fact = closed_is_plan a.head.now a.columns.now c.requires c.in_ok-slot.slot is_open accepted c.in_ok-plan.plan packs;
    }

pub returns-clause-done : goal.returns-clause-done
unfolding kind
returns-clause-done c =
    let a = c.args in
    let at = goal.at.returns-clause-done c in
    let v = value_at a.head.now a.columns.now draft_block in
    let d = desk_of a.head.now a.columns.now in
    let slot = c.in_ok-slot.slot in
    let is_open = opened at.In_ok-slot in
    let (accepted, packs) = closed (shape_of v) (rows_of v) c.in_ok-plan.plan (c.in_ok-plan.ensures ∙ read at.After-value-draft) in
    let plan = closed_is a.head.now a.columns.now c.requires slot is_open accepted c.in_ok-plan.plan packs in
    c.keep.ensures.done E
    (record {
      admitted = admitted at.In_ok-slot;
      changes = refl;
      keeps =
          close_keeps d (draft_in slot v) (draft_open a.head.now a.columns.now slot is_open) accepted
          ∙ ap (λ p. pass (keep_in d slot p)) plan;
    })
