-- `plans::following::inverse` meets its contract: 15, and then the inverse of a plan.
use mathlib.Core.Path.{◌∙◌, ap, sym}
use Rattle.std.proofs.Common.{Err}
use Rattle.operations.proofs.Exits.{returned}
use Rattle.plans.proofs.Powered.{inverting_no_plan, inverting_plan}
use Rattle.plans.proofs.following.inverse.Goals as goal

pub returns-in_err-check : goal.returns-in_err-check
returns-in_err-check c =
    let (refused, e) = c.in_err-check.ensures in
    returned c.from_residual.result c.in_err-check.field-0.0 c.from_residual.ensures.1 ∙ ap Err e ∙ inverting_no_plan c.args.a refused

pub returns : goal.returns
returns c = c.inverse.ensures ∙ sym (inverting_plan c.args.a c.in_ok-check.ensures)
