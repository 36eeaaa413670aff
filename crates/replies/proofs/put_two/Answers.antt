-- `replies::put_two` meets its contract: two bytes are one run. `.put` and `.put2` are what the two calls say, each four records behind
-- the next.
use native.Mathlib.Omega.{arith}
use Rattle.words.proofs.Runs.{wrote_then}
use Rattle.replies.proofs.put_two.Goals as goal

pub returns : goal.returns
returns c =
    wrote_then (omega arith) c.put-second_at.ensures c.put.ensures
