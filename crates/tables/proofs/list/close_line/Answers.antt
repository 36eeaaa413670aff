-- `tables::list::close_line` meets its contract: the letter and the line end are one run.
use native.Mathlib.Omega.{arith}
use Rattle.words.proofs.Runs.{wrote_then}
use Rattle.tables.proofs.list.close_line.Goals as goal

pub returns : goal.returns
returns c = wrote_then (omega arith) c.put-end_at.ensures c.put.ensures
