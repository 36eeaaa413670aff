-- `plans::routing::route` meets its contract: 15 leaves the buffer as it came, and otherwise the code is routed by the columns that a
-- plan lends.
use mathlib.Core.Path.{◌∙◌}
use lib.ListN.{length}
use Rattle.plans.proofs.Codes.{routing_no_plan, lent_route, lent_buffer}
use Rattle.plans.proofs.routing.route.Goals as goal

pub returns-in_default : goal.returns-in_default
returns-in_default c =
    let (value, out_after) = routing_no_plan c.args.p c.args.code.now c.args.out.now c.in_default.ensures.0 in
    record { value = value; out_after = out_after }

pub returns : goal.returns
returns c =
    let (p, e) = c.in-Ok.ensures in
    let a = c.args in
    record {
      value = c.route.ensures.value ∙ lent_route a.p a.code.now p c.in-Ok.plan e (length a.out.now);
      out_after = c.route.ensures.out_after ∙ lent_buffer a.p a.code.now p c.in-Ok.plan e a.out.now;
    }
