-- `tables::joinable::has_join` meets its contract: pairs join exactly if those from some place on do, and fewer than n pairs do not join.
use mathlib.Core.Path.{refl, ◌∙◌}
use native.Mathlib.Omega.{arith}
use borrow.Author.Rules.{rules}
use lib.ListN.{drop}
use Rattle.std.proofs.lemmas.Iterator.{YieldsList-from_range}
use Rattle.std.proofs.lemmas.Iterator.Search.{any_from_yields_List}
use Rattle.columns.specs.Packed.{table}
use Rattle.tables.specs.Joining.{joins_first}
use Rattle.tables.proofs.Joining.{found_somewhere}
use Rattle.tables.proofs.joinable.has_join.Goals as goal

pub returns : goal.returns
returns c =
    let a = c.args in
    any_from_yields_List (λ k. joins_first a.arity (table (drop k a.pairs.from.now) (drop k a.pairs.to.now))) _ _ _ c.any.ensures.ran
    (YieldsList-from_range 0 _ c.saturating_sub-places.result refl (omega arith)) (λ x b q k. search rules)
    ∙ found_somewhere a.arity a.pairs.from.now a.pairs.to.now c.requires.0 a.pairs.paired 0 c.saturating_sub-places.result (omega arith)
