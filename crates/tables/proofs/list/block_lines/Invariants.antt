-- `tables::list::block_lines` meets its contract. The invariant: the lines of the pairs looked at are written, each with its place, and
-- those of the others are left.
use Prim.Native.Nat.{ℕ, ◌+◌}
use mathlib.Core.List.{List}
use lib.ListN.{length, drop}
use Rattle.tables.specs.Lines.{block_lines}
use Rattle.tables.proofs.Records.{LinesWritten}
use Rattle.tables.proofs.list.block_lines.Given as goal

-- the lines from the i-th pair on
abbrev pub lines_from : ℕ → List ℕ → List ℕ → ℕ → List ℕ
lines_from first from to i = block_lines (first + i) (drop i from) (drop i to)

abbrev pub invariant-loop-i : goal.invariant-loop-i
invariant-loop-i l = LinesWritten (lines_from l.first l.from l.to) (length l.from) l.initial.out l.at l.out l.next l.i
