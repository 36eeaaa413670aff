-- `replies::no_column` meets its contract: `no`, the fields of the number and the letter, and the line end are one run. A byte has at most
-- three digits, so each has room.
use native.Mathlib.Omega.{arith}
use Rattle.words.proofs.Runs.{wrote_then}
use Rattle.replies.proofs.Lines.{byte_size}
use Rattle.replies.proofs.no_column.Goals as goal

pub put_decimal-letter_at-requires : goal.put_decimal-letter_at-requires
put_decimal-letter_at-requires c = omega (arith, byte_size c.args.number c.ranges.number)

pub put_field-end_at-requires : goal.put_field-end_at-requires
put_field-end_at-requires c = omega (arith, byte_size c.args.number c.ranges.number)

pub put-requires : goal.put-requires
put-requires c = omega (arith, byte_size c.args.number c.ranges.number)

pub returns : goal.returns
returns c =
    let digits = byte_size c.args.number c.ranges.number in
    let fields = wrote_then (omega arith) c.put_decimal-letter_at.ensures c.put_field-end_at.ensures in
    wrote_then (omega arith) c.put_two-number_at.ensures (wrote_then (omega arith) fields c.put.ensures)
