-- `desks::are_rights` meets its contract.
use mathlib.Core.Path.{◌∙◌}
use borrow.Author.Tests.{tests}
use Rattle.std.proofs.Common.{rules}
use Rattle.std.proofs.lemmas.Iterator.{YieldsList-from_slice}
use Rattle.std.proofs.lemmas.Iterator.Search.{all_from_yields_List}
use Rattle.desks.specs.Tested.{row_test}
use Rattle.desks.proofs.Chains.{all_same}
use Rattle.desks.proofs.are_rights.Goals as goal

pub returns : goal.returns
returns c =
    let l = c.args.rows in
    all_from_yields_List row_test _ _ _ c.all.ensures.ran (YieldsList-from_slice l (cc)) (λ x b q k. search (rules, tests)) ∙ all_same row_test l
