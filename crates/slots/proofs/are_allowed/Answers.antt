-- `slots::are_allowed` meets its contract.
use mathlib.Core.Path.{◌≡◌, sym}
use mathlib.Core.Bool.{true, false}
use Rattle.std.proofs.Common.{rules, tests}
use Rattle.std.proofs.lemmas.Iterator.{cases_from_all, YieldsList-from_slice}
use Rattle.std.proofs.lemmas.Iterator.Adapters.{serves_from_places}
use Rattle.higman.specs.Listing.{is_slot}
use Rattle.slots.specs.Desks.{allowed_in, has_right}
use Rattle.slots.proofs.Chains.{all_told}
use Rattle.slots.proofs.Rows.{first_allowed, named_at}
use Rattle.slots.proofs.Steps.{slot_below}
use Rattle.slots.proofs.are_allowed.Goals as goal

pub returns-then-control-eq0 : goal.returns-then-control-eq0
returns-then-control-eq0 c = sym (first_allowed c.args.control c.if-control-eq0.true c.args.needed c.requires.fits c.args.names.now)

-- each name that is looked at is one of a slot
pub all-requires-clause-callable : goal.all-requires-clause-callable
all-requires-clause-callable c =
    let names = c.args.names.now in
    serves_from_places (YieldsList-from_slice names cc) (λ x q k. search rules)
    (λ x k h e. let named : is_slot x.now ≡ true = rw e (named_at names k x.now h c.requires.named) in search (rules, slot_below))

pub returns : goal.returns
unfolding allowed_in
returns c =
    let a = c.args in
    let f = has_right a.control a.needed in
    all_told f a.names.now c.all.result
    (cases_from_all _ _ _ (λ x. f x ≡ true) (λ x. f x ≡ false) c.all.ensures.ran (YieldsList-from_slice a.names.now cc)
    (λ x q k. search (rules, tests)) (λ x q k. search (rules, tests)))
