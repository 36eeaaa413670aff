-- `replies::held` meets its contract: the slot, the fields of n, r and the pairs, and the line end are one run. At the bounds that it asks
-- for, n and r have one digit and the pairs at most three, so each has room.
use native.Mathlib.Omega.{arith}
use Rattle.higman.specs.Limits.{max_pairs}
use Rattle.words.proofs.Runs.{wrote_then}
use Rattle.replies.proofs.Lines.{decimal_size, place_size}
use Rattle.replies.proofs.held.Goals as goal

pub overflow_cast-pairs : goal.overflow_cast-pairs
unfolding max_pairs
overflow_cast-pairs c = omega arith

pub put_decimal-end_at-requires : goal.put_decimal-end_at-requires
put_decimal-end_at-requires c =
    let n = decimal_size 0 c.args.shape.arity (omega arith) in
    let r = decimal_size 0 c.args.shape.roots (omega arith) in
    omega (arith, place_size c.args.pairs c.requires.pairs_granted)

pub put-requires : goal.put-requires
put-requires c =
    let n = decimal_size 0 c.args.shape.arity (omega arith) in
    let r = decimal_size 0 c.args.shape.roots (omega arith) in
    omega (arith, place_size c.args.pairs c.requires.pairs_granted)

pub returns : goal.returns
returns c =
    let n = decimal_size 0 c.args.shape.arity (omega arith) in
    let r = decimal_size 0 c.args.shape.roots (omega arith) in
    let numbers = wrote_then (omega arith) c.put_decimal-pairs_at.ensures c.put_decimal-end_at.ensures in
    let fields = wrote_then (omega arith) c.put_decimal-roots_at.ensures numbers in
    wrote_then (omega arith) c.put-arity_at.ensures (wrote_then (omega arith) fields c.put.ensures)
