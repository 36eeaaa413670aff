-- `plans::following::follow` meets its contract: 15 for either, and then what is made of plans.
use mathlib.Core.Path.{◌∙◌, ap}
use Rattle.std.proofs.Common.{Err}
use Rattle.operations.proofs.Exits.{returned}
use Rattle.plans.proofs.Answered.{first_no_plan, second_no_plan, both_plans}
use Rattle.plans.proofs.following.follow.Goals as goal

pub returns-in_err-check : goal.returns-in_err-check
returns-in_err-check c =
    let (refused, e) = c.in_err-check.ensures in
    returned c.from_residual.result c.in_err-check.field-0.0 c.from_residual.ensures.1 ∙ ap Err e ∙ first_no_plan c.args.a c.args.b refused

pub returns-in_err-check-2 : goal.returns-in_err-check-2
returns-in_err-check-2 c =
    let (refused, e) = c.in_err-check-2.ensures in
    returned c.from_residual-in_err-check-2.result c.in_err-check-2.field-0.0 c.from_residual-in_err-check-2.ensures.1
    ∙ ap Err e
    ∙ second_no_plan c.args.a c.args.b c.in_ok-check.ensures refused

pub returns : goal.returns
returns c = c.compose.ensures ∙ both_plans c.args.a c.args.b c.in_ok-check.ensures c.in_ok-check-2.ensures
