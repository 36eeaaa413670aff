-- `replies::ok` meets its contract: `ok` and the line end are one run.
use native.Mathlib.Omega.{arith}
use Rattle.words.proofs.Runs.{wrote_then}
use Rattle.replies.proofs.ok.Goals as goal

pub returns : goal.returns
returns c =
    wrote_then (omega arith) c.put_two-end_at.ensures c.put.ensures
