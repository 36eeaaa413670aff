-- `replies::ok_number` meets its contract: `ok`, the number's field and the line end are one run.
use native.Mathlib.Omega.{arith}
use Rattle.words.proofs.Runs.{wrote_then}
use Rattle.replies.proofs.ok_number.Goals as goal

pub returns : goal.returns
returns c = wrote_then (omega arith) c.put_two-number_at.ensures (wrote_then (omega arith) c.put_decimal-end_at.ensures c.put.ensures)
