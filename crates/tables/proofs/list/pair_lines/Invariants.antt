-- `tables::list::pair_lines` meets its contract. The invariant: the M records of the pairs looked at are written, and those of the others
-- are left.
use Prim.Native.Nat.{ℕ}
use mathlib.Core.List.{List}
use lib.ListN.{length, drop}
use Rattle.tables.specs.Lines.{pair_lines}
use Rattle.tables.proofs.Records.{LinesWritten}
use Rattle.tables.proofs.list.pair_lines.Given as goal

-- the M records from a place of the columns on
abbrev pub lines_from : List ℕ → List ℕ → ℕ → List ℕ
lines_from from to i = pair_lines (drop i from) (drop i to)

abbrev pub invariant-loop-from : goal.invariant-loop-from
invariant-loop-from l =
    LinesWritten (lines_from l.pairs.from.now l.pairs.to.now) (length l.pairs.from.now) l.initial.out l.at l.out l.next (length l.yielded)
