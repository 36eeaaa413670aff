-- The proof of the cycle of `covered_block` and `covered_ways`: what the walk over a block and over its parts answers.
use Rattle.std.proofs.Common.{◌≡◌, refl, ◌+◌, ◌-◌, ◌≤◌, ◌<◌, ℕ, Bool, List, length, get_or, Bor, sym, ◌∙◌, ap, subst, arith}
use Rattle.std.proofs.lemmas.Grind.{common_steps}
use Rattle.std.specs.Prelude.{Some}
use Rattle.std.specs.Slice.{IsItemAt}
use Rattle.higman.specs.Words.{child}
use Rattle.higman.specs.Bases.{covered}
use Rattle.words.specs.Packed.{unpack}
use Rattle.columns.specs.Packed.{words_of}
use Rattle.columns.specs.Columns.{Walked}
use Rattle.columns.proofs.Covered.{covered_listed, covered_parts, all_done, all_stop, all_pass}
use Rattle.columns.proofs.Walks.{at_first, at_later, past_listed, past_parts}
use Rattle.columns.proofs.Walks.{uncovered_behind, listed_here, listed_nowhere}
use Rattle.columns.proofs.+covered_block_covered_ways.Goals as goal

-- the test of a part
abbrev part : ℕ → List ℕ → ℕ → ℕ → ℕ → Bool
part arity column left w j = covered arity (words_of column) (left - 1) (child (unpack w) j)

-- the number at a place that `get` found
found : (column : List ℕ) (k : ℕ) (x : Bor ℕ) → IsItemAt column k (Some x) → (k < length column) × (get_or column k 0 ≡ x.now)
found column k x h = grind (arith, common_steps, h)

pub covered_block-returns-in_err-word : goal.covered_block-returns-in_err-word
covered_block-returns-in_err-word t c =
    let a = c.args in
    let past : length a.column.now ≤ a.at = grind (arith, common_steps, c.in_err-word.ensures.lookup) in
    rw c.from_residual.ensures (uncovered_behind a.column.now (unpack a.w) a.at a.arity a.left c.requires.walkable.1 c.requires.in_bounds.2 past)

pub covered_block-returns-then-word-w : goal.covered_block-returns-then-word-w
covered_block-returns-then-word-w t c =
    let a = c.args in
    let (within, same) = found a.column.now a.at c.in_ok-word.field-0 c.in_ok-word.ensures.lookup in
    let may = c.requires.walkable.0 in
    let here = listed_here a.arity a.column.now may a.w a.at within (same ∙ c.if-word-w.true) in (
      covered_listed a.arity (words_of a.column.now) a.left (unpack a.w) here,
      past_listed a.arity a.column.now may (unpack a.w) a.at c.requires.in_bounds.2 within (ap unpack (same ∙ c.if-word-w.true)),
    )

pub covered_block-returns-then-left-eq0 : goal.covered_block-returns-then-left-eq0
covered_block-returns-then-left-eq0 t c =
    let a = c.args in
    let (within, same) = found a.column.now a.at c.in_ok-word.field-0 c.in_ok-word.ensures.lookup in
    let none = listed_nowhere a.arity a.column.now c.requires.walkable.0 a.w a.at c.requires.in_bounds.2 within (λ e. c.if-word-w.false (sym same ∙ e)) in
    ap (λ d. covered a.arity (words_of a.column.now) d (unpack a.w)) c.if-left-eq0.true ∙ none

pub covered_block-covered_ways-requires : goal.covered_block-covered_ways-requires
covered_block-covered_ways-requires t c =
    let a = c.args in
    let (may, low, high) = c.requires.walkable in
    let (long, fits, at) = c.requires.in_bounds in
    let (within, same) = found a.column.now a.at c.in_ok-word.field-0 c.in_ok-word.ensures.lookup in
    let none = listed_nowhere a.arity a.column.now may a.w a.at at within (λ e. c.if-word-w.false (sym same ∙ e)) in
    let first = at_first a.arity a.column.now may (unpack a.w) a.at long at in
    let below : 1 ≤ a.left = omega (arith, c.if-left-eq0.false) in
    (omega arith, ((may, low, high, none), (below, long, fits, first)))

pub covered_block-returns : goal.covered_block-returns
covered_block-returns t c =
    let a = c.args in
    let (within, same) = found a.column.now a.at c.in_ok-word.field-0 c.in_ok-word.ensures.lookup in
    let none = listed_nowhere a.arity a.column.now c.requires.walkable.0 a.w a.at c.requires.in_bounds.2 within (λ e. c.if-word-w.false (sym same ∙ e)) in
    let parts = covered_parts a.arity (words_of a.column.now) a.left (unpack a.w) none c.if-left-eq0.false in
    subst (λ b. Walked a.column.now (unpack a.w) b c.covered_ways.result) (sym parts) c.covered_ways.ensures

pub covered_ways-loop-way-init : goal.covered_ways-loop-way-init
covered_ways-loop-way-init t c =
    let (below, long, fits, first) = c.requires.in_bounds in
    record { left_over = refl; here = first }

pub covered_ways-returns-in_err-next : goal.covered_ways-returns-in_err-next
covered_ways-returns-in_err-next t c =
    let a = c.args in
    let missed = rw c.child.ensures at c.in_err-next.ensures in
    let stop = all_stop (part a.arity a.column.now a.left a.w) c.loop-way.way a.arity (omega arith) missed in
    rw c.from_residual.ensures (c.loop-way.invariant.left_over ∙ stop)

pub covered_ways-loop-way-preserved : goal.covered_ways-loop-way-preserved
covered_ways-loop-way-preserved t c =
    let a = c.args in
    let way = c.loop-way.way in
    let passed = rw c.child.ensures at c.in_ok-next.ensures in
    record {
      left_over = c.loop-way.invariant.left_over ∙ all_pass (part a.arity a.column.now a.left a.w) way a.arity (omega arith) passed.0;
      here = at_later a.column.now (unpack a.w) c.in_ok-next.next way passed.1;
    }

pub covered_ways-returns-in_ok-next : goal.covered_ways-returns-in_ok-next
covered_ways-returns-in_ok-next t c =
    let a = c.args in
    let (may, low, high, none) = c.requires.walkable in
    let (below, long, fits, first) = c.requires.in_bounds in
    let way = c.loop-way.way in
    let passed = rw c.child.ensures at c.in_ok-next.ensures in
    let pass = all_pass (part a.arity a.column.now a.left a.w) way a.arity (omega arith) passed.0 in
    let done = all_done (part a.arity a.column.now a.left a.w) (way + 1) a.arity (omega arith) in
    let later = at_later a.column.now (unpack a.w) c.in_ok-next.next way passed.1 in (
      c.loop-way.invariant.left_over ∙ pass ∙ done,
      past_parts a.arity a.column.now may (unpack a.w) c.in_ok-next.next (way + 1) long (omega arith) none later,
    )
