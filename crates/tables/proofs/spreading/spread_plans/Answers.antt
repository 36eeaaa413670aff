-- `tables::spreading::spread_plans` meets its contract: each turn writes the pairs that its pair of a gives.
use Prim.Native.Nat.{ℕ, ◌+◌, ◌<◌}
use mathlib.Core.Path.{◌≡◌, sym, ◌∙◌, ap, ap₂}
use mathlib.Core.List.{List, ◌++◌}
use lib.ListN.{length, get_or, length-append}
use Rattle.std.proofs.lemmas.Slice.Zip.{zip_turn}
use Rattle.higman.specs.Tables.{Table}
use Rattle.words.specs.Packed.{unpack}
use Rattle.columns.specs.Packed.{table}
use Rattle.tables.specs.Spread.{spread_pair, spread}
use Rattle.tables.specs.Spreading.{pair}
use Rattle.tables.proofs.Lookup.{table_left, packed_at}
use Rattle.tables.proofs.Extending.{Lot, filling_broken, filling_step}
use Rattle.tables.proofs.spreading.spread_plans.Invariants.{left}
use Rattle.tables.proofs.spreading.spread_plans.Goals as goal

-- the pairs that a turn writes, and those that are then left
turn : (from to : List ℕ) (b : Table) (i u v : ℕ) → i < length from → i < length to → u ≡ get_or from i 0 → v ≡ get_or to i 0
    → Lot (left from to b i) (spread_pair b (pair (unpack u) (unpack v))) (left from to b (i + 1))
turn from to b i u v h k e f =
    record {
      split =
          ap (λ t. spread t b) (table_left from to i h k)
          ∙ ap₂ (λ x y. spread_pair b (pair (unpack x) (unpack y)) ++ left from to b (i + 1)) (sym e) (sym f);
    }

pub spread_pair-requires-clause-t : goal.spread_pair-requires-clause-t
spread_pair-requires-clause-t c =
    let a = c.args in
    let (h, k, e, e') =
    zip_turn a.a_from.now a.a_to.now c.loop-u.yielded _ _ c.next.new.self _ (cc) (cc) c.loop-u.yielded_by _
    c.in-Some.is c.next.ensures.steps in
    rw (e 0, e' 0) (packed_at a.a_from.now c.requires.plain.from_packed _ h, packed_at a.a_to.now c.requires.plain.to_packed _ k)

pub returns-in_err-rows : goal.returns-in_err-rows
returns-in_err-rows c =
    let a = c.args in
    let (h, k, e, e') =
    zip_turn a.a_from.now a.a_to.now c.loop-u.yielded _ _ c.next.new.self _ (cc) (cc) c.loop-u.yielded_by _
    c.in-Some.is c.next.ensures.steps in
    let here = turn a.a_from.now a.a_to.now (table a.b_from.now a.b_to.now) (length c.loop-u.yielded) _ _ h k (e 0) (e' 0) in
    rw c.from_residual.ensures (filling_broken c.loop-u.invariant here c.in_err-rows.ensures)

pub loop-u-preserved : goal.loop-u-preserved
loop-u-preserved c =
    let a = c.args in
    let (h, k, e, e') =
    zip_turn a.a_from.now a.a_to.now c.loop-u.yielded _ _ c.next.new.self _ (cc) (cc) c.loop-u.yielded_by _
    c.in-Some.is c.next.ensures.steps in
    let here = turn a.a_from.now a.a_to.now (table a.b_from.now a.b_to.now) (length c.loop-u.yielded) _ _ h k (e 0) (e' 0) in
    rw length-append (filling_step c.loop-u.invariant here c.in_ok-rows.ensures c.spread_pair.auto.froms c.spread_pair.auto.tos)
