-- `replies::no` meets its contract: `no`, the number's field and the line end are one run. A byte has at most three digits, so each has
-- room.
use native.Mathlib.Omega.{arith}
use Rattle.words.proofs.Runs.{wrote_then}
use Rattle.replies.proofs.Lines.{byte_size}
use Rattle.replies.proofs.no.Goals as goal

pub put_decimal-end_at-requires : goal.put_decimal-end_at-requires
put_decimal-end_at-requires c = omega (arith, byte_size c.args.number c.ranges.number)

pub put-requires : goal.put-requires
put-requires c = omega (arith, byte_size c.args.number c.ranges.number)

pub returns : goal.returns
returns c =
    let digits = byte_size c.args.number c.ranges.number in
    wrote_then (omega arith) c.put_two-number_at.ensures (wrote_then (omega arith) c.put_decimal-end_at.ensures c.put.ensures)
