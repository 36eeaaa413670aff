-- `plans::drafts::judge` meets its contract: no draft is NotADraft, and of a draft the columns are judged.
use mathlib.Core.Path.{◌≡◌, sym, ◌∙◌}
use mathlib.Core.Bool.{true}
use Rattle.std.proofs.Common.{Ok, Err}
use Rattle.operations.specs.Plans.{is_draft}
use Rattle.operations.proofs.Exits.{returned}
use Rattle.plans.specs.declared.Rejection.TheVariants.{Faulty}
use Rattle.plans.proofs.DraftChecks.{judged_none, judged_as, draft_closes}
use Rattle.plans.proofs.drafts.judge.Goals.{Else-not-holds_draft}
use Rattle.plans.proofs.drafts.judge.Goals as goal

-- what the test says once it has passed
passed : (c : Else-not-holds_draft) → is_draft c.args.draft.now ≡ true
passed c = sym c.holds_draft.ensures.value ∙ c.if-not-holds_draft.false

pub returns-then-not-holds_draft : goal.returns-then-not-holds_draft
returns-then-not-holds_draft c = sym (judged_none c.args.draft.now (sym c.holds_draft.ensures.value ∙ c.if-not-holds_draft.true))

pub judge-requires : goal.judge-requires
judge-requires c = draft_closes c.args.draft.now (c.holds_draft.ensures.even c.if-not-holds_draft.false) (passed c)

pub returns-in_err-judge : goal.returns-in_err-judge
returns-in_err-judge c =
    let f = c.in_err-judge.field-0.0 in
    returned c.from_residual.result (Faulty f) c.from_residual.ensures.1
    ∙ judged_as c.args.draft.now (Err f) (passed (goal.at.returns-in_err-judge c).Else-not-holds_draft) c.in_err-judge.ensures

pub returns : goal.returns
returns c = judged_as c.args.draft.now (Ok tt) (passed (goal.at.returns c).Else-not-holds_draft) c.in_ok-judge.ensures
