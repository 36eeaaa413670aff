-- `tables::normal::is_normal` meets its contract: a from column that is not in order decides, and where it is in order the joins do.
use mathlib.Core.Path.{sym, ◌∙◌, ap}
use mathlib.Core.Bool.{not}
use Rattle.columns.specs.Packed.{words_of}
use Rattle.columns.proofs.WordOrder.{sorted_is_ordered}
use Rattle.tables.proofs.Joining.{normal_unordered, normal_ordered}
use Rattle.tables.proofs.normal.is_normal.Goals as goal

pub returns-else-is_sorted : goal.returns-else-is_sorted
returns-else-is_sorted c =
    let a = c.args in
    let order = sym (c.is_sorted.ensures ∙ sorted_is_ordered (words_of a.from.now) c.requires.3) in
    c.if-is_sorted.false ∙ sym (normal_unordered a.arity a.from.now a.to.now c.requires.2 (order ∙ c.if-is_sorted.false))

pub returns-then-is_sorted : goal.returns-then-is_sorted
returns-then-is_sorted c =
    let a = c.args in
    let order = sym (c.is_sorted.ensures ∙ sorted_is_ordered (words_of a.from.now) c.requires.3) in
    ap not c.has_join.ensures ∙ sym (normal_ordered a.arity a.from.now a.to.now c.requires.2 (order ∙ c.if-is_sorted.true))
