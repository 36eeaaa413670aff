-- `words::writing::put_field` meets its contract: the tab and the byte are one run.
use native.Mathlib.Omega.{arith}
use Rattle.words.proofs.Runs.{wrote_then}
use Rattle.words.proofs.writing.put_field.Goals as goal

pub returns : goal.returns
returns c = wrote_then (omega arith) c.put-field_at.ensures c.put.ensures
