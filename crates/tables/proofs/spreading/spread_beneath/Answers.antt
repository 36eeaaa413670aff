-- `tables::spreading::spread_beneath` meets its contract: each turn writes the pair of its place, and outside the run there is none
-- beneath v.
use Prim.Native.Nat.{ℕ, ◌+◌, ◌<◌}
use mathlib.Core.Path.{◌≡◌, sym, ◌∙◌, ap}
use mathlib.Core.List.{List, [], ◌∷◌, ◌++◌, append-nil}
use mathlib.Core.Option.{some}
use native.Mathlib.Omega.{arith}
use lib.ListN.{length, get_or}
use Rattle.higman.specs.Words.{after}
use Rattle.higman.specs.Tables.{Table}
use Rattle.higman.proofs.Prefixes.{begins_of_proper}
use Rattle.words.specs.Packed.{unpack}
use Rattle.words.proofs.Packing.{unpack_zero}
use Rattle.columns.specs.Packed.{table}
use Rattle.columns.specs.Columns.{word_at}
use Rattle.tables.specs.Spread.{beneath}
use Rattle.tables.specs.Spreading.{pair}
use Rattle.tables.proofs.Lookup.{packed_at, packed_zero, packed_tail}
use Rattle.tables.proofs.Beneath.{none_before, none_behind, beneath_skip, beneath_stop, beneath_take}
use Rattle.tables.proofs.Extending.{Lot, filling_start, filling_end, filling_broken, filling_step}
use Rattle.tables.proofs.spreading.spread_beneath.Invariants.{left}
use Rattle.tables.proofs.spreading.spread_beneath.Goals as goal

-- the pair that a turn writes, x being what stands behind v in the word of the place i
module _ (u v : ℕ) (from to : List ℕ) (i x : ℕ) where
  abbrev own : Table
  own = pair (unpack u ++ unpack x) (word_at to i ++ unpack 0) ∷ []

  turn : i < length from → i < length to → after (unpack v) (word_at from i) ≡ some (unpack x)
      → Lot (left u v from to i) own (left u v from to (i + 1))
  turn h k e =
      let w = word_at to i in
      let whole : w ≡ w ++ unpack 0 = sym (ap (λ y. w ++ y) unpack_zero ∙ append-nil w) in
      record {
        split =
            beneath_take (unpack u) (unpack v) from to i (unpack x) h k e
            ∙ ap (λ y. pair (unpack u ++ unpack x) y ∷ left u v from to (i + 1)) whole;
      }

pub loop-i-init : goal.loop-i-init
loop-i-init c =
    let a = c.args in
    let x = c.extending-run.ensures in
    filling_start
    (beneath (unpack a.u) (unpack a.v) (table a.b.from.now a.b.to.now))
    (left a.u a.v a.b.from.now a.b.to.now c.extending-run.result.start)
    a.n a.froms.now a.tos.now
    (beneath_skip (unpack a.u) (unpack a.v) c.extending-run.result.start a.b.from.now a.b.to.now c.requires.operand.plain.long
    (none_before a.b.from.now a.v c.extending-run.result.start c.extending-run.result.end x c.requires.unbegun)
    (omega (arith, x.forward, x.within)))

pub tail-tail-requires : goal.tail-tail-requires
tail-tail-requires c =
    let a = c.args in
    let i = c.loop-i.i in
    let longer = c.extending-run.ensures.inside i (omega arith) (omega arith) in (
      packed_at a.b.from.now c.requires.operand.plain.from_packed i (omega arith),
      begins_of_proper (unpack a.v) (word_at a.b.from.now i) longer,
    )

pub put-requires-clause-t : goal.put-requires-clause-t
put-requires-clause-t c =
    let a = c.args in
    let i = c.loop-i.i in
    let packed = packed_at a.b.from.now c.requires.operand.plain.from_packed i (omega arith) in (
      c.requires.t.0,
      (
        packed_tail (unpack a.v) (get_or a.b.from.now i 0) c.tail-tail.result packed c.tail-tail.ensures,
        (packed_at a.b.to.now c.requires.operand.plain.to_packed i (omega (arith, c.requires.operand.plain.long)), packed_zero),
      ),
    )

pub returns-in_err-rows : goal.returns-in_err-rows
returns-in_err-rows c =
    let a = c.args in
    let i = c.loop-i.i in
    let here =
    turn a.u a.v a.b.from.now a.b.to.now i c.tail-tail.result
    (omega arith) (omega (arith, c.requires.operand.plain.long)) c.tail-tail.ensures in
    rw c.from_residual.ensures (filling_broken c.loop-i.invariant here c.in_err-rows.ensures)

pub loop-i-preserved : goal.loop-i-preserved
loop-i-preserved c =
    let a = c.args in
    let i = c.loop-i.i in
    let here =
    turn a.u a.v a.b.from.now a.b.to.now i c.tail-tail.result
    (omega arith) (omega (arith, c.requires.operand.plain.long)) c.tail-tail.ensures in
    filling_step c.loop-i.invariant here c.in_ok-rows.ensures c.put.auto.froms c.put.auto.tos

pub returns : goal.returns
returns c =
    let a = c.args in
    filling_end c.loop-i.invariant
    (beneath_stop (unpack a.u) (unpack a.v) a.b.from.now a.b.to.now c.loop-i.i
    (λ k h l. none_behind a.b.from.now a.v c.extending-run.result.start c.extending-run.result.end c.extending-run.ensures
    c.requires.unbegun k (omega arith) l))
