-- `slots::are_slots` meets its contract.
use mathlib.Core.Path.{◌≡◌}
use mathlib.Core.Bool.{true, false}
use Rattle.std.proofs.Common.{rules, tests}
use Rattle.std.proofs.lemmas.Iterator.{cases_from_all, YieldsList-from_slice}
use Rattle.higman.specs.Listing.{is_slot}
use Rattle.slots.proofs.Chains.{all_told}
use Rattle.slots.proofs.are_slots.Goals as goal

pub returns : goal.returns
returns c =
    let names = c.args.names.now in
    all_told is_slot names c.all.result
    (cases_from_all _ _ _ (λ x. is_slot x ≡ true) (λ x. is_slot x ≡ false) c.all.ensures.ran (YieldsList-from_slice names cc)
    (λ x q k. search (rules, tests)) (λ x q k. search (rules, tests)))
