-- `operations::following::power` meets its contract: 12, and then the repetition of the plan or of its inverse.
use Rattle.std.proofs.Common.{ap, sym, ◌∙◌, subst, ℤ, pos, ◌<ℤ◌, ◌≤ℤ◌}
use Rattle.std.specs.Prelude.{nat_abs}
use mir.Syntax.{w32}
use Rattle.higman.specs.Limits.{power_in_range}
use Rattle.operations.specs.Plans.{plan_of}
use Rattle.operations.specs.Answers.{repeating}
use Rattle.operations.proofs.Signs.{read_is, is_less, is_not_less}
use Rattle.operations.proofs.Powered.{outside_answered, power_forward, inverse_plan, power_back}
use Rattle.operations.proofs.following.power.Goals as goal

pub returns-then-not-is_power : goal.returns-then-not-is_power
returns-then-not-is_power c =
    let number = ap power_in_range (read_is w32 c.args.k c.ranges.k) in
    outside_answered c.args.a c.args.k (sym (c.is_power.ensures ∙ number) ∙ c.if-not-is_power.true)

pub repeat-requires : goal.repeat-requires
repeat-requires c = inverse_plan c.args.a c.requires c.inverse-back.result c.inverse-back.ensures

pub returns-then-k-lt0 : goal.returns-then-k-lt0
returns-then-k-lt0 c =
    let number = read_is w32 c.args.k c.ranges.k in
    let size = c.unsigned_abs-size.ensures.value ∙ ap nat_abs number in
    let below = subst (λ (z : ℤ). z <ℤ pos 0) number (is_less c.if-k-lt0.true) in
    let small = sym (c.is_power.ensures ∙ ap power_in_range number) ∙ c.if-not-is_power.false in
    c.repeat.ensures ∙ ap (repeating (plan_of c.inverse-back.result)) size
    ∙ power_back c.args.a c.requires c.inverse-back.result c.inverse-back.ensures c.args.k below small

pub returns-else-k-lt0 : goal.returns-else-k-lt0
returns-else-k-lt0 c =
    let number = read_is w32 c.args.k c.ranges.k in
    let size = c.unsigned_abs-size.ensures.value ∙ ap nat_abs number in
    let above = subst (λ (z : ℤ). pos 0 ≤ℤ z) number (is_not_less c.if-k-lt0.false) in
    let small = sym (c.is_power.ensures ∙ ap power_in_range number) ∙ c.if-not-is_power.false in
    c.repeat-else-k-lt0.ensures ∙ ap (repeating (plan_of c.args.a)) size ∙ power_forward c.args.a c.args.k above small
