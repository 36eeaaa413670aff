-- `operations::listing::list` meets its contract: 8 and 14 leave the buffer as it came, and otherwise the listing has room in it.
use Rattle.std.proofs.Common.{sym, ◌∙◌, arith}
use Rattle.higman.proofs.KeptPlans.{in_range}
use Rattle.operations.specs.Plans.{lent_plan}
use Rattle.operations.proofs.KeptValues.{lent_kept, lent_few}
use Rattle.operations.proofs.Lists.{list_no_slot, list_no_room, list_written}
use Rattle.operations.proofs.listing.list.Goals as goal

pub returns-then-not-is_slot : goal.returns-then-not-is_slot
returns-then-not-is_slot c =
    let a = c.args in
    let no_slot = sym c.is_slot.ensures ∙ c.if-not-is_slot.true in
    let (value, out_after) = list_no_slot (lent_plan a.plan) a.slot a.out.now no_slot in
    record { value = value; out_after = out_after }

pub listing_length-requires : goal.listing_length-requires
listing_length-requires c = (c.args.plan.paired, lent_few c.args.plan)

pub returns-then-out-listing_length : goal.returns-then-out-listing_length
returns-then-out-listing_length c =
    let a = c.args in
    let counted = c.listing_length.ensures a.slot (lent_plan a.plan).shape in
    let slot = sym c.is_slot.ensures ∙ c.if-not-is_slot.false in
    let (value, out_after) = list_no_room (lent_plan a.plan) a.slot a.out.now slot (omega (arith, counted)) in
    record { value = value; out_after = out_after }

pub list_into-requires : goal.list_into-requires
list_into-requires c =
    let a = c.args in
    let range = in_range (lent_plan a.plan).shape (lent_kept a.plan).in_range in
    let counted = c.listing_length.ensures a.slot (lent_plan a.plan).shape in
    (range.arity_high, range.roots_high, a.plan.paired, omega (arith, counted))

pub returns : goal.returns
returns c =
    let a = c.args in
    let counted = c.listing_length.ensures a.slot (lent_plan a.plan).shape in
    let slot = sym c.is_slot.ensures ∙ c.if-not-is_slot.false in
    let (value, out_after) = list_written (lent_plan a.plan) a.slot a.out.now slot (omega (arith, counted))
    c.list_into.result c.list_into.new.out c.list_into.ensures in
    record { value = value; out_after = out_after }
