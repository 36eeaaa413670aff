-- `tables::list::block_lines` meets its contract: each turn writes the line of its pair, the first of those that are left.
use Prim.Native.Nat.{ℕ, ◌+◌, ◌≤◌, ◌<◌}
use mathlib.Core.Path.{◌≡◌, refl, ap}
use mathlib.Core.List.{List, ◌++◌}
use native.Mathlib.Omega.{arith}
use lib.ListN.{length, get_or}
use Rattle.higman.specs.Limits.{max_pairs}
use Rattle.tables.specs.Lines.{placed, block_line, block_lines, BlockFits}
use Rattle.tables.proofs.Records.{block_step, line_room, line_written}
use Rattle.tables.proofs.list.block_lines.Invariants.{lines_from}
use Rattle.tables.proofs.list.block_lines.Goals as goal

from_start : (first : ℕ) (from to : List ℕ) → lines_from first from to 0 ≡ block_lines first from to
from_start first from to = ap (λ k. block_lines k from to) (omega arith)

-- places are small
pub overflow_add-first : goal.overflow_add-first
unfolding max_pairs
overflow_add-first c = omega (arith, c.requires.places)

pub overflow_cast-first : goal.overflow_cast-first
unfolding max_pairs
overflow_cast-first c = omega (arith, c.requires.places)

-- the line of the i-th pair, the room for all lines, and that the line is the first of those that are left
abbrev line_here : ℕ → List ℕ → List ℕ → ℕ → List ℕ
line_here first from to i = block_line (placed (first + i) (get_or from i 0) (get_or to i 0))

room : {first : ℕ} {from to : List ℕ} {at size : ℕ} → BlockFits first from to at size
    → at + length (lines_from first from to 0) ≤ size
room {first} {from} {to} f = omega (arith, f.room, ap length (from_start first from to))

step : {first : ℕ} {from to : List ℕ} {at size : ℕ} (i : ℕ) → BlockFits first from to at size → i < length from
    → lines_from first from to i ≡ line_here first from to i ++ lines_from first from to (i + 1)
step {first} {from} {to} i f h = block_step from to i h f.paired refl refl (first + i) (first + (i + 1)) (omega arith)

pub block_line-next-requires : goal.block_line-next-requires
block_line-next-requires c =
    let a = c.args in
    let from = a.from.now in
    let to = a.to.now in
    let i = c.loop-i.i in
    line_room (lines_from a.first from to) (length from) a.out.now a.at c.loop-i.invariant (line_here a.first from to i)
    (room c.requires) (step i c.requires (omega arith))

pub loop-i-preserved : goal.loop-i-preserved
loop-i-preserved c =
    let a = c.args in
    let from = a.from.now in
    let to = a.to.now in
    let i = c.loop-i.i in
    line_written (lines_from a.first from to) (length from) a.out.now a.at c.loop-i.invariant (line_here a.first from to i)
    (room c.requires) (step i c.requires (omega arith)) _ refl (omega arith) (omega arith) c.block_line-next.ensures
