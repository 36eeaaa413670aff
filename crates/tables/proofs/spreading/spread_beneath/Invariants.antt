-- `tables::spreading::spread_beneath` meets its contract. The invariant: the pairs beneath the word are those written so far and those
-- of the places from i on.
use Prim.Native.Nat.{ℕ}
use mathlib.Core.List.{List}
use lib.ListN.{drop}
use Rattle.higman.specs.Tables.{Table}
use Rattle.words.specs.Packed.{unpack}
use Rattle.columns.specs.Packed.{table}
use Rattle.tables.specs.Spread.{beneath}
use Rattle.tables.proofs.Extending.{Filling}
use Rattle.tables.proofs.spreading.spread_beneath.Given as goal

-- what is left of the pairs at a place
abbrev pub left : ℕ → ℕ → List ℕ → List ℕ → ℕ → Table
left u v from to i = beneath (unpack u) (unpack v) (table (drop i from) (drop i to))

abbrev pub invariant-loop-i : goal.invariant-loop-i
invariant-loop-i l =
    Filling (beneath (unpack l.u) (unpack l.v) (table l.b.from.now l.b.to.now)) (left l.u l.v l.b.from.now l.b.to.now l.i) l.n
    l.initial.froms l.initial.tos l.froms l.tos l.rows
