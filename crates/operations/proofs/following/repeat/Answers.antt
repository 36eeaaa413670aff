-- `operations::following::repeat` meets its contract. The invariant: the power reached is that of the turns so far.
use Rattle.std.proofs.Common.{◌≡◌, ◌∙◌, ap, arith}
use Rattle.higman.specs.Answers.{identity_plan}
use Rattle.operations.specs.Plans.{plan_of, packed}
use Rattle.operations.specs.Answers.{repeating}
use Rattle.operations.proofs.Exits.{returned}
use Rattle.operations.proofs.KeptValues.{kept}
use Rattle.operations.proofs.Raised.{reached_none, reached_plan, reached_shape, reached_next, stopped, reached_all}
use Rattle.operations.proofs.following.repeat.Goals as goal

pub identity-power-requires : goal.identity-power-requires
identity-power-requires c = rw c.shape.ensures ((kept c.args.a c.requires).in_range)

pub loop-init : goal.loop-init
loop-init c =
    let e = c.identity-power.ensures ∙ ap (λ s. packed (identity_plan s)) c.shape.ensures in
    (c.requires, reached_none c.args.a c.requires c.identity-power.result e)

pub composed-requires : goal.composed-requires
composed-requires c =
    let (h, r) = c.loop.invariant in
    (reached_plan c.args.a h c.loop.power c.loop.counter r, h, reached_shape c.args.a h c.loop.power c.loop.counter r)

pub returns-in_err-power : goal.returns-in_err-power
returns-in_err-power c =
    let (h, r) = c.loop.invariant in
    let x = c.in_err-power.field-0.0 in
    returned _ x c.from_residual.ensures.1
    ∙ stopped c.args.a h c.loop.power c.loop.counter r c.composed.result c.composed.ensures x c.in_err-power.was c.args.n c.loop-test.true

pub loop-preserved : goal.loop-preserved
loop-preserved c =
    let (h, r) = c.loop.invariant in
    (h, reached_next c.args.a h c.loop.power c.loop.counter r c.composed.result c.composed.ensures _ c.in_ok-power.was)

pub returns : goal.returns
returns c =
    let (h, r) = c.loop.invariant in
    let done : c.loop.counter ≡ c.args.n = omega arith in
    reached_all c.args.a h c.loop.power c.loop.counter r ∙ ap (repeating (plan_of c.args.a)) done
