-- `desks::are_slots` meets its contract.
use Prim.Native.Nat.{ℕ}
use mathlib.Core.Path.{◌∙◌}
use mathlib.Core.Bool.{Bool}
use native.Mathlib.Omega.{arith}
use borrow.Author.Tests.{tests}
use Rattle.std.proofs.Common.{rules}
use Rattle.std.proofs.lemmas.Iterator.{YieldsList-from_range}
use Rattle.std.proofs.lemmas.Iterator.Search.{all_from_yields_List}
use Rattle.higman.specs.Limits.{slot_count}
use Rattle.slots.specs.Blocks.{value_at}
use Rattle.desks.specs.Tested.{slot_test}
use Rattle.desks.proofs.Chains.{all_counted}
use Rattle.desks.proofs.are_slots.Goals as goal

pub returns : goal.returns
unfolding slot_count
returns c =
    let f : ℕ → Bool = λ i. slot_test (value_at c.args.head c.args.columns.now i) in
    all_from_yields_List f _ _ _ c.all.ensures.ran (YieldsList-from_range 0 8 8 (cc) (omega arith)) (λ x b q k. search (rules, tests))
    ∙ all_counted f 8
