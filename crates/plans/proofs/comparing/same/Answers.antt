-- `plans::comparing::same` meets its contract: 15 for either, and then what is found of the columns that two plans lend.
use mathlib.Core.Path.{◌∙◌, ap}
use Rattle.std.proofs.Common.{Err}
use Rattle.operations.proofs.Exits.{returned}
use mathlib.Core.Path.{ap₂}
use Rattle.higman.specs.Answers.{same}
use Rattle.operations.specs.Answers.{likeness}
use Rattle.plans.proofs.Answered.{first_not_alike, second_not_alike, both_compared}
use Rattle.plans.proofs.comparing.same.Goals as goal

pub returns-in_err-first : goal.returns-in_err-first
returns-in_err-first c =
    let (refused, e) = c.in_err-first.ensures in
    returned c.from_residual.result c.in_err-first.field-0.0 c.from_residual.ensures.1 ∙ ap Err e ∙ first_not_alike c.args.a c.args.b refused

pub returns-in_err-second : goal.returns-in_err-second
returns-in_err-second c =
    let (refused, e) = c.in_err-second.ensures in
    returned c.from_residual-in_err-second.result c.in_err-second.field-0.0 c.from_residual-in_err-second.ensures.1
    ∙ ap Err e
    ∙ second_not_alike c.args.a c.args.b c.in_ok-first.ensures.0 refused

pub returns : goal.returns
returns c =
    let (p, e) = c.in_ok-first.ensures in
    let (q, f) = c.in_ok-second.ensures in
    c.same.ensures ∙ ap₂ (λ a b. likeness (same a b)) e f ∙ both_compared c.args.a c.args.b p q
