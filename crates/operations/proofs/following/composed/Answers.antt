-- `operations::following::composed` meets its contract. The pairs before reduction are at most twice as many as a plan has, so they have
-- room; the laws of Composed.antt say what F answers by what is found.
use Rattle.std.proofs.Common.{◌≡◌, ◌≤◌, true, Ok, sym, ◌∙◌, ap, ap₂, arith, length}
use mathlib.Core.Path.{subst}
use lib.ListN.{replicate, length-take}
use Rattle.higman.specs.Tables.{Table}
use Rattle.higman.specs.Normal.{keep}
use Rattle.higman.specs.Bases.{all}
use Rattle.higman.specs.Limits.{Plan, Kept, pair_fits}
use Rattle.higman.specs.Answers.{followed}
use Rattle.tables.specs.Spread.{spread}
use Rattle.tables.specs.Spreading.{Extended}
use Rattle.tables.specs.Reduction.{Reducible}
use Rattle.columns.specs.Packed.{rows}
use Rattle.columns.proofs.Rows.{rows_length}
use Rattle.columns.proofs.Limits.{pair_limit}
use Rattle.operations.specs.Plans.{lent_plan}
use Rattle.operations.specs.Answers.{making, composing}
use Rattle.operations.proofs.KeptValues.{lent_kept, lent_pairs, lent_plain, lent_operand}
use Rattle.operations.proofs.Composed.{pairs_before, reducible, too_long, too_many, within_limits}
use Rattle.operations.proofs.following.composed.Goals.{After-lent-second, After-spread_plans, In-Some, After-reduce-pairs}
use Rattle.operations.proofs.following.composed.Goals as goal

-- the two plans, and their pairs before reduction
abbrev first : After-lent-second → Plan
first l = lent_plan l.lent-first.result

abbrev second : After-lent-second → Plan
second l = lent_plan l.lent-second.result

one_shape : (l : After-lent-second) → (first l).shape ≡ (second l).shape
one_shape l = ap (λ (p : Plan). p.shape) l.lent-first.ensures ∙ l.requires.2 ∙ sym (ap (λ (p : Plan). p.shape) l.lent-second.ensures)

abbrev wide : After-lent-second → Table
wide l = spread (first l).rows (second l).rows

room : (l : After-lent-second) → length (wide l) ≤ 256
room l =
    let few = pairs_before (first l) (second l) (lent_kept l.lent-first.result) (lent_kept l.lent-second.result) (one_shape l) in
    omega (arith, pair_limit, few, lent_pairs l.lent-first.result, lent_pairs l.lent-second.result)

-- what F answers
answered : (l : After-lent-second) → making (followed (first l) (second l)) ≡ composing l.args.a.now l.args.b.now
answered l = ap₂ (λ p q. making (followed p q)) l.lent-first.ensures l.lent-second.ensures

-- where the pairs were written
abbrev called_before : After-spread_plans → After-lent-second
called_before p = p.before.before.before.before.before.before.before

abbrev called : In-Some → After-lent-second
called c = called_before c.before.before.before

-- what was written before reduction
known : (c : In-Some)
    → (all pair_fits (wide (called c)) ≡ true)
    × Extended (wide (called c)) 0 (replicate 256 0) (replicate 256 0) c.spread_plans.new.froms c.spread_plans.new.tos c.in-Some.n
known c = c.in-Some.ensures

few : (c : In-Some) → c.in-Some.n ≤ 256
few c = omega (arith, (known c).1.rows, room (called c))

from_written : (c : In-Some) → c.in-Some.n ≤ length c.spread_plans.new.froms
from_written c = omega (arith, few c, c.spread_plans.auto.froms)

to_written : (c : In-Some) → c.in-Some.n ≤ length c.spread_plans.new.tos
to_written c = omega (arith, few c, c.spread_plans.auto.tos)

-- the reduced pairs
abbrev told : After-reduce-pairs → In-Some
told r = r.before.before.before.before.before.before

abbrev result : After-reduce-pairs → Table
result r = rows r.reduce-pairs.result r.reduce-pairs.new.out_from r.reduce-pairs.new.out_to

reduced : (r : After-reduce-pairs) → result r ≡ keep (first (called (told r))).shape (wide (called (told r)))
reduced r = r.reduce-pairs.ensures.keeps ∙ ap (keep (first (called (told r))).shape) (known (told r)).1.pairs

out_room : (r : After-reduce-pairs)
    → (r.reduce-pairs.result ≤ length r.reduce-pairs.new.out_from) × (r.reduce-pairs.result ≤ length r.reduce-pairs.new.out_to)
out_room r =
    let c = told r in
    let n = length-take c.in-Some.n c.spread_plans.new.froms in
    let h = r.reduce-pairs.ensures.within in
    (omega (arith, few c, r.reduce-pairs.auto.out_from), omega (arith, few c, r.reduce-pairs.auto.out_to))

counted : (r : After-reduce-pairs) → length (result r) ≡ r.reduce-pairs.result
counted r = rows_length r.reduce-pairs.result r.reduce-pairs.new.out_from r.reduce-pairs.new.out_to (out_room r).0 (out_room r).1

module _ (l : After-lent-second) where
  A : Kept (first l)
  A = lent_kept l.lent-first.result

  B : Kept (second l)
  B = lent_kept l.lent-second.result

pub spread_plans-requires : goal.spread_plans-requires
spread_plans-requires c =
    let h = room c.before.before.before.before.before.before in
    record {
      plain = lent_plain c.lent-first.result;
      operand = lent_operand c.lent-second.result;
      room = (omega (arith, h), omega (arith, h));
    }

pub returns-in_default : goal.returns-in_default
returns-in_default c =
    let l = called_before c.before.before.before in
    sym (ap making (too_long (first l) (second l) (A l) (B l) (one_shape l) c.in_default.ensures)) ∙ answered l

pub slice_bounds-froms-end : goal.slice_bounds-froms-end
slice_bounds-froms-end c = from_written c

pub slice_bounds-reduce-end : goal.slice_bounds-reduce-end
slice_bounds-reduce-end c = simp length-take (omega (arith, from_written c.before))

pub slice_bounds-tos-end : goal.slice_bounds-tos-end
slice_bounds-tos-end c = to_written c.before

pub slice_bounds-reduce-end-2 : goal.slice_bounds-reduce-end-2
slice_bounds-reduce-end-2 c = simp length-take (omega (arith, to_written c.before.before))

pub reduce-pairs-requires : goal.reduce-pairs-requires
reduce-pairs-requires c =
    let k = c.before.before.before.before.before in
    let l = called k in
    let f = from_written k in
    let t = to_written k in
    let n = few k in (
      simp length-take (omega arith),
      simp length-take (omega arith),
      simp length-take (omega arith),
      (A l).in_range,
      subst (Reducible (first l).shape) (sym (known k).1.pairs) (reducible (first l) (second l) (A l) (B l) (one_shape l)),
    )

pub returns-then-pairs-gt-MAX_PAIRS : goal.returns-then-pairs-gt-MAX_PAIRS
returns-then-pairs-gt-MAX_PAIRS c =
    let r = c.before.before.before in
    let l = called (told r) in
    sym (ap making (too_many (first l) (second l) (A l) (B l) (one_shape l) (result r) (reduced r)
    (omega (arith, counted r, pair_limit, c.if-pairs-gt-MAX_PAIRS.true)))) ∙ answered l

pub slice_bounds-out_from-end : goal.slice_bounds-out_from-end
slice_bounds-out_from-end c = omega (arith, c.reduce-pairs.auto.out_from)

pub slice_bounds-out_to-end : goal.slice_bounds-out_to-end
slice_bounds-out_to-end c = omega (arith, c.reduce-pairs.auto.out_to)

pub filled-requires : goal.filled-requires
filled-requires c =
    let from = c.reduce-pairs.auto.out_from in
    let to = c.reduce-pairs.auto.out_to in
    (simp length-take (omega (arith, pair_limit)), simp length-take (omega arith))

pub returns : goal.returns
returns c =
    let r = c.before.before.before.before.before.before.before in
    let l = called (told r) in
    ap Ok c.filled.ensures
    ∙ sym (ap making (within_limits (first l) (second l) (A l) (B l) (one_shape l) (result r) (reduced r) (known (told r)).0
    (omega (arith, counted r, pair_limit, c.if-pairs-gt-MAX_PAIRS.false))))
    ∙ answered l
