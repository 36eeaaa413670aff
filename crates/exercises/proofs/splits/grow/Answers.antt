-- `exercises::splits::grow` meets its contract: a turn of its loop is one split, as Turns.antt says, if there is room for it.
use Prim.Native.Nat.{◌%◌, ◌≤◌, ◌<◌}
use mathlib.Core.Path.{◌≡◌, refl, sym, ◌∙◌, ap, subst}
use borrow.Author.Rules.{rules}
use native.Mathlib.Omega.{arith}
use lib.ListN.{length, take, length-map}
use mathlib.Core.List.{[], ◌∷◌}
use Rattle.higman.specs.Words.{digits}
use Rattle.higman.specs.Limits.{max_digits}
use Rattle.higman.specs.Exercises.{drawn, grown}
use Rattle.higman.proofs.Expansions.{length_count}
use Rattle.higman.proofs.KeptPlans.{in_range}
use Rattle.words.specs.Bytes.{shape_of}
use Rattle.words.proofs.Limit.{limit}
use Rattle.columns.specs.Packed.{words_of}
use Rattle.columns.specs.Columns.{word_at}
use Rattle.columns.proofs.Limits.{pair_limit}
use Rattle.exercises.proofs.Growing.{belts_fit, fitting}
use Rattle.exercises.proofs.Turns.{Growing, Turn, turn, seed_now, outgrown_now, grown_on}
use Rattle.exercises.proofs.splits.grow.Goals.{After-next-last}
use Rattle.exercises.proofs.splits.grow.Goals as goal

-- what is known of the turn, once its draw is made
turned : (c : After-next-last) → Turn (shape_of c.args.shape) c.loop.count
turned c =
    turn (shape_of c.args.shape) c.requires.in_range c.args.draw c.loop.column c.loop.count c.loop.last c.loop.counter c.loop.invariant
    c.args.splits c.loop-test.true (omega (arith, pair_limit, c.requires.room))

pub root_words-column-requires : goal.root_words-column-requires
root_words-column-requires c = (in_range (shape_of c.args.shape) c.requires.in_range).roots_high

pub loop-init : goal.loop-init
unfolding grown drawn
loop-init c =
    let a = c.args in
    record {
      counted = sym (length-map (digits a.shape.roots) (λ i. i ∷ []) ∙ length_count 1 a.shape.roots);
      draws = refl;
      holds = c.root_words-column.ensures;
      short = belts_fit (shape_of a.shape) a.draw;
    }

pub next-last-requires : goal.next-last-requires
next-last-requires c =
    let l = c.loop in
    seed_now (shape_of c.args.shape) c.requires.in_range c.args.draw l.column l.count l.last l.counter l.invariant c.requires.seed

pub nonzero_rem-place : goal.nonzero_rem-place
nonzero_rem-place c = (turned c).some_word

pub offset_bounds-column-place : goal.offset_bounds-column-place
offset_bounds-column-place c = let t = turned c in let inside = t.inside c.next-last.result in search rules

pub bounds-column-place : goal.bounds-column-place
bounds-column-place c = let t = turned c in let inside = t.inside c.next-last.result in omega arith

pub returns-then-length : goal.returns-then-length
returns-then-length c =
    let l = c.loop in
    let long : max_digits ≤ length (word_at l.column (c.next-last.result % l.count)) = omega (arith, limit, c.length.ensures) in
    let judged =
    outgrown_now (shape_of c.args.shape) c.requires.in_range c.args.draw l.column l.count l.last l.counter l.invariant
    c.next-last.result c.next-last.ensures long c.args.splits c.loop-test.true in
    (refl, judged)

pub split-column-requires : goal.split-column-requires
split-column-requires c =
    let t = turned (goal.at.split-column-requires c).After-next-last in
    record {
      listed = t.inside c.next-last.result;
      shorter = omega (arith, limit, c.length.ensures);
      some_parts = t.some_ways;
      digits = t.few_ways;
      room = omega (arith, pair_limit);
    }

pub overflow_sub-count : goal.overflow_sub-count
overflow_sub-count c = (turned (goal.at.overflow_sub-count c).After-next-last).some_ways

pub overflow_add-count : goal.overflow_add-count
overflow_add-count c = let t = turned (goal.at.overflow_add-count c).After-next-last in search rules

pub loop-preserved : goal.loop-preserved
loop-preserved c =
    let l = c.loop in
    let shorter : length (word_at l.column (c.next-last.result % l.count)) < max_digits = omega (arith, limit, c.length.ensures) in
    grown_on (shape_of c.args.shape) c.requires.in_range c.args.draw l.column l.count l.last l.counter l.invariant
    c.next-last.result c.next-last.ensures shorter c.split-column.result c.split-column.ensures

pub returns : goal.returns
returns c =
    let l = c.loop in
    let s = shape_of c.args.shape in
    let all_done : l.counter ≡ c.args.splits = omega arith in
    let g = subst (Growing s c.args.draw l.column l.count l.last) all_done l.invariant in
    record {
      short = fitting (grown s c.args.draw c.args.splits) g.short;
      column = ap (λ n. words_of (take n l.column)) (sym g.counted) ∙ g.holds;
      draws = g.draws;
    }
