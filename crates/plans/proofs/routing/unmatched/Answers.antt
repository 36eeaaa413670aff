-- `plans::routing::unmatched` meets its contract: the whole code where 15 applies, and otherwise what is left by the from-words that a
-- plan lends.
use mathlib.Core.Path.{refl, ◌∙◌, ap, sym}
use lib.ListN.{drop}
use Rattle.tables.specs.Routing.{further, at_place}
use Rattle.operations.proofs.Codes.{whole_code}
use Rattle.plans.specs.Routing.{matched}
use Rattle.plans.proofs.Codes.{matched_no_plan, place_no_plan, matched_plan, place_plan}
use Rattle.plans.proofs.routing.unmatched.Goals as goal

pub returns-in_default : goal.returns-in_default
returns-in_default c =
    let a = c.args in
    let (refused, e) = c.in_default.ensures in
    let (tail, place) = whole_code (matched a.p a.code.now) a.code.now a.code.ref_ptr (matched_no_plan a.p a.code.now refused) in
    record { tail = tail; tail_ref_ptr = place; place = sym (ap at_place (place_no_plan a.p a.code.now refused)) }

pub unmatched-requires : goal.unmatched-requires
unmatched-requires c = (c.in-Ok.plan, refl, refl)

pub returns : goal.returns
returns c =
    let a = c.args in
    let (p, e) = c.in-Ok.ensures in
    let found = matched_plan a.p a.code.now p c.in-Ok.plan e in
    record {
      tail = c.unmatched.ensures.tail ∙ ap (λ n. drop n a.code.now) found;
      tail_ref_ptr = c.unmatched.ensures.tail_ref_ptr ∙ ap (λ n. further n a.code.ref_ptr) found;
      place = c.unmatched.ensures.place ∙ ap at_place (place_plan a.p a.code.now p c.in-Ok.plan e);
    }
