-- The measures of the cycle, two for each way left below the block, and one more for its parts; and the invariant of the loop over them.
use Prim.Native.Nat.{◌+◌, ◌*◌}
use Rattle.words.specs.Packed.{unpack}
use Rattle.tables.specs.Reduction.{state}
use Rattle.tables.proofs.Steps.{Reducing}
use Rattle.tables.proofs.reduce.+reduce_block_reduce_ways.Given as goal

abbrev pub decreases-reduce_block : goal.decreases-reduce_block
decreases-reduce_block l = l.left * 2

abbrev pub decreases-reduce_ways : goal.decreases-reduce_ways
decreases-reduce_ways l = l.left * 2 + 1

abbrev pub invariant-reduce_ways-loop-i : goal.invariant-reduce_ways-loop-i
invariant-reduce_ways-loop-i l =
    Reducing l.arity l.left (unpack l.w) l.last l.i
    (state l.pairs.from.now l.pairs.to.now l.initial.out_from l.initial.out_to l.initial.next.read l.initial.next.write)
    (state l.pairs.from.now l.pairs.to.now l.out_from l.out_to l.next.read l.next.write)
