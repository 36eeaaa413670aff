-- `plans::following::power` meets its contract: 15, and then a power of a plan. The number that the call reads back from 32
-- bits is the one that was passed.
use mathlib.Core.Path.{◌∙◌, ap, sym}
use Rattle.std.proofs.Common.{Err}
use Rattle.operations.proofs.Exits.{returned}
use mir.Syntax.{w32}
use mir.ValLaws.{to_z-of_z}
use Rattle.higman.specs.Answers.{powered}
use Rattle.operations.specs.Plans.{plan_of}
use Rattle.operations.specs.Answers.{making}
use Rattle.plans.proofs.Powered.{raising_no_plan, raising_plan}
use Rattle.plans.proofs.following.power.Goals as goal

pub returns-in_err-check : goal.returns-in_err-check
returns-in_err-check c =
    let (refused, e) = c.in_err-check.ensures in
    returned c.from_residual.result c.in_err-check.field-0.0 c.from_residual.ensures.1 ∙ ap Err e ∙ raising_no_plan c.args.a c.args.k refused

pub returns : goal.returns
returns c =
    c.power.ensures
    ∙ ap (λ k. making (powered (plan_of c.args.a) k)) (to_z-of_z w32 c.args.k c.ranges.k)
    ∙ sym (raising_plan c.args.a c.in_ok-check.ensures c.args.k)
