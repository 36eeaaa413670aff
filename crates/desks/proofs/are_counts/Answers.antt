-- `desks::are_counts` meets its contract.
use mathlib.Core.Path.{◌∙◌}
use lib.Dec.{leb}
use borrow.Author.Tests.{tests}
use Rattle.std.proofs.Common.{rules}
use Rattle.std.proofs.lemmas.Iterator.{YieldsList-from_slice}
use Rattle.std.proofs.lemmas.Iterator.Search.{all_from_yields_List}
use Rattle.desk.specs.Limits.{max_changes}
use Rattle.desks.proofs.Chains.{all_same}
use Rattle.desks.proofs.are_counts.Goals as goal

pub returns : goal.returns
unfolding max_changes
returns c =
    let l = c.args.changes in
    all_from_yields_List (λ n. leb n max_changes) _ _ _ c.all.ensures.ran (YieldsList-from_slice l (cc)) (λ x b q k. search (rules, tests))
    ∙ all_same (λ n. leb n max_changes) l
