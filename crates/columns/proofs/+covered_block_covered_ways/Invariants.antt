-- The measures of the cycle: a block calls for its ways, which call for their blocks at one way less below. It counts two for each way
-- left below the block. The loop over the ways: all are covered exactly if those from the present one on are, and the words before the
-- cursor stand before the block of the present way.
use Prim.Native.Nat.{◌*◌, ◌+◌, ◌-◌}
use mathlib.Core.Path.{◌≡◌}
use Rattle.higman.specs.Words.{child}
use Rattle.words.specs.Packed.{unpack}
use Rattle.columns.specs.Packed.{words_of}
use Rattle.columns.specs.Columns.{AtBlock, covered_from}
use Rattle.columns.proofs.+covered_block_covered_ways.Given as goal

abbrev pub decreases-covered_block : goal.decreases-covered_block
decreases-covered_block l = 2 * l.left + 1

abbrev pub decreases-covered_ways : goal.decreases-covered_ways
decreases-covered_ways l = 2 * l.left

abbrev pub invariant-covered_ways-loop-way : goal.invariant-covered_ways-loop-way
invariant-covered_ways-loop-way l =
    record {
      left_over : covered_from l.arity (words_of l.column) (l.left - 1) (unpack l.w) 1
          ≡ covered_from l.arity (words_of l.column) (l.left - 1) (unpack l.w) l.way;
      here : AtBlock l.column (child (unpack l.w) l.way) l.next;
    }
