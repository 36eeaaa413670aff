-- `tables::spreading::spread_plans` meets its contract. The invariant: the pairs of "a then b" are those written so far and those that
-- the pairs of a that are left give.
use Prim.Native.Nat.{ℕ}
use mathlib.Core.List.{List}
use lib.ListN.{length, drop}
use Rattle.higman.specs.Tables.{Table}
use Rattle.columns.specs.Packed.{table}
use Rattle.tables.specs.Spread.{spread}
use Rattle.tables.proofs.Extending.{Filling}
use Rattle.tables.proofs.spreading.spread_plans.Given as goal

-- what the pairs of a from a place on give
abbrev pub left : List ℕ → List ℕ → Table → ℕ → Table
left from to b i = spread (table (drop i from) (drop i to)) b

abbrev pub invariant-loop-u : goal.invariant-loop-u
invariant-loop-u l =
    Filling (spread (table l.a_from l.a_to) (table l.b_from l.b_to)) (left l.a_from l.a_to (table l.b_from l.b_to) (length l.yielded)) 0
    l.initial.froms l.initial.tos l.froms l.tos l.rows
