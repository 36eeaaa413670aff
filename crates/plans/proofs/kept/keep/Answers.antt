-- `plans::kept::keep` meets its contract: of no draft nothing is kept, and a draft is closed.
use mathlib.Core.Path.{◌≡◌, sym, ◌∙◌}
use mathlib.Core.Bool.{true}
use Rattle.std.proofs.Common.{Err}
use Rattle.operations.specs.Plans.{is_draft}
use Rattle.operations.proofs.Sizes.{columns_even}
use Rattle.operations.proofs.Exits.{returned}
use Rattle.plans.specs.declared.Rejection.TheVariants.{NotADraft, Faulty}
use Rattle.plans.proofs.DraftChecks.{judged_none, draft_closes}
use Rattle.plans.proofs.Accepted.{keeping_by, keeping_closed}
use Rattle.plans.proofs.kept.keep.Goals.{Else-not-holds_draft}
use Rattle.plans.proofs.kept.keep.Goals as goal

-- what the test says once it has passed
passed : (c : Else-not-holds_draft) → is_draft c.args.draft ≡ true
passed c = sym c.holds_draft.ensures.value ∙ c.if-not-holds_draft.false

pub returns-then-not-holds_draft : goal.returns-then-not-holds_draft
returns-then-not-holds_draft c =
    keeping_by c.args.draft (Err NotADraft) (sym (judged_none c.args.draft (sym c.holds_draft.ensures.value ∙ c.if-not-holds_draft.true)))

pub close-requires : goal.close-requires
close-requires c =
    draft_closes c.args.draft (columns_even c.args.draft _ c.well_formed.0) (passed (goal.at.close-requires c).Else-not-holds_draft)

pub returns-in_err-close : goal.returns-in_err-close
returns-in_err-close c =
    let f = c.in_err-close.field-0.0 in
    returned c.from_residual.result (Faulty f) c.from_residual.ensures.1
    ∙ keeping_closed c.args.draft (Err f) (passed (goal.at.returns-in_err-close c).Else-not-holds_draft) c.in_err-close.ensures

pub returns : goal.returns
returns c = keeping_closed c.args.draft _ (passed (goal.at.returns c).Else-not-holds_draft) c.in_ok-close.ensures
