-- `tables::joinable::joins_at` meets its contract: in each of the four ways out before the parts are compared the first pair is not a
-- first part, or has no word of at least a belt above it.
use mathlib.Core.Path.{sym, ◌∙◌}
use native.Mathlib.Omega.{arith}
use Rattle.tables.proofs.Joining.{from_digit, to_digit, from_belt, to_belt, by_parts}
use Rattle.tables.proofs.joinable.joins_at.Goals as goal

pub returns-then-last-ne1 : goal.returns-then-last-ne1
returns-then-last-ne1 c =
    let a = c.args in
    sym (from_digit a.arity c.requires.0 a.pairs.from.now a.pairs.to.now a.at (omega arith) (omega (arith, a.pairs.paired))
    (λ e. c.if-last-ne1.true (c.last.ensures ∙ e)))

pub returns-then-last-ne1-2 : goal.returns-then-last-ne1-2
returns-then-last-ne1-2 c =
    let a = c.args in
    sym (to_digit a.arity c.requires.0 a.pairs.from.now a.pairs.to.now a.at (omega arith) (omega (arith, a.pairs.paired))
    (λ e. c.if-last-ne1-2.true (c.last-2.ensures ∙ e)))

pub returns-then-w-eq0 : goal.returns-then-w-eq0
returns-then-w-eq0 c =
    let a = c.args in
    sym (from_belt a.arity c.requires.0 a.pairs.from.now a.pairs.to.now a.at (omega arith) (omega (arith, a.pairs.paired))
    c.parent-w.result c.parent-v.result c.parent-w.ensures c.parent-v.ensures c.if-w-eq0.true)

pub returns-then-v-eq0 : goal.returns-then-v-eq0
returns-then-v-eq0 c =
    let a = c.args in
    sym (to_belt a.arity c.requires.0 a.pairs.from.now a.pairs.to.now a.at (omega arith) (omega (arith, a.pairs.paired))
    c.parent-w.result c.parent-v.result c.parent-w.ensures c.parent-v.ensures c.if-v-eq0.true)

pub returns : goal.returns
returns c =
    let a = c.args in
    c.are_parts.ensures
    ∙ by_parts a.arity c.requires.0 a.pairs.from.now a.pairs.to.now a.at (omega arith) (omega (arith, a.pairs.paired))
    c.parent-w.result c.parent-v.result c.parent-w.ensures c.parent-v.ensures c.if-w-eq0.false c.if-v-eq0.false
