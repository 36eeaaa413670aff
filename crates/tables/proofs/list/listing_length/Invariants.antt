-- `tables::list::listing_length` meets its contract. The invariant: the sum and the records that are left make up the listing, and the
-- sum is small, since no record is longer than its marks and two whole words.
use Prim.Native.Nat.{ℕ, ◌+◌, ◌*◌, ◌≤◌}
use mathlib.Core.Path.{◌≡◌}
use mathlib.Core.List.{List}
use lib.ListN.{length, drop}
use Rattle.tables.specs.Lines.{pair_lines}
use Rattle.tables.proofs.list.listing_length.Given as goal

pub record Measuring (from to : List ℕ) (sum row : ℕ) : Type 0 where
  pub sized : sum + length (pair_lines (drop row from) (drop row to)) ≡ 10 + length (pair_lines from to)
  pub within : row ≤ length from
  pub small : sum ≤ 10 + 36 * row

abbrev pub invariant-loop-f : goal.invariant-loop-f
invariant-loop-f l = Measuring l.from l.to l.sum (length l.yielded)
