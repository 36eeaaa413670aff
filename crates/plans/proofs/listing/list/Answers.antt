-- `plans::listing::list` meets its contract: 15 leaves the buffer as it came, and otherwise the columns that a plan lends are listed.
use mathlib.Core.Path.{◌∙◌, ap}
use Rattle.std.proofs.Common.{Err}
use Rattle.operations.proofs.Exits.{returned}
use lib.ListN.{length}
use Rattle.operations.specs.Listing.{listing_for, listed_for}
use Rattle.plans.proofs.Lists.{listing_no_plan, listing_is, buffer_is}
use Rattle.plans.proofs.listing.list.Goals as goal

pub returns-in_err-plan : goal.returns-in_err-plan
returns-in_err-plan c =
    let (refused, e) = c.in_err-plan.ensures in
    let a = c.args in
    let (value, out_after) = listing_no_plan a.p a.slot a.out.now refused in
    record {
      value = returned c.from_residual.result c.in_err-plan.field-0.0 c.from_residual.ensures.1 ∙ ap Err e ∙ value;
      out_after = out_after;
    }

pub returns : goal.returns
returns c =
    let (p, e) = c.in_ok-plan.ensures in
    let a = c.args in
    record {
      value = c.list.ensures.value ∙ ap (λ q. listing_for a.slot q (length a.out.now)) e ∙ listing_is a.p a.slot a.out.now p;
      out_after = c.list.ensures.out_after ∙ ap (λ q. listed_for a.slot q a.out.now) e ∙ buffer_is a.p a.slot a.out.now p;
    }
