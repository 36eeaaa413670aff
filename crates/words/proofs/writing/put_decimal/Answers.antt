-- `words::writing::put_decimal` meets its contract: the tab and the number are one run.
use native.Mathlib.Omega.{arith}
use Rattle.words.proofs.Runs.{wrote_then}
use Rattle.words.proofs.writing.put_decimal.Goals as goal

pub returns : goal.returns
returns c = wrote_then (omega arith) c.put-number_at.ensures c.put_number.ensures
