-- `desk_values::are_tidy` meets its contract.
use mathlib.Core.Path.{◌∙◌}
use native.Mathlib.Omega.{arith}
use lib.ListN.{take}
use borrow.Author.Tests.{tests}
use Rattle.std.proofs.Common.{rules}
use Rattle.std.proofs.lemmas.Iterator.{YieldsList-from_slice}
use Rattle.std.proofs.lemmas.Iterator.Search.{all_from_yields_List}
use Rattle.higman.specs.Limits.{slot_count}
use Rattle.slots.specs.Blocks.{no_size}
use Rattle.desks.proofs.Chains.{all_same, all_front}
use Rattle.desk_values.specs.Values.{size_test}
use Rattle.desk_values.proofs.are_tidy.Goals as goal

pub returns : goal.returns
unfolding slot_count
returns c =
    let l = take 8 c.args.sizes in
    all_from_yields_List size_test _ _ _ c.all.ensures.ran (YieldsList-from_slice l (cc)) (λ x b q k. search (rules, tests))
    ∙ all_same size_test l ∙ all_front size_test c.args.sizes no_size 8 (omega arith)
