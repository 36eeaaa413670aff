-- `tables::list::pair_line` meets its contract: the fields and the line end are one run.
use native.Mathlib.Omega.{arith}
use Rattle.columns.specs.Packed.{pair_of}
use Rattle.words.proofs.Runs.{wrote_then}
use Rattle.tables.proofs.Records.{pair_size}
use Rattle.tables.proofs.list.pair_line.Goals as goal

pub returns : goal.returns
returns c =
    let size = pair_size (pair_of c.args.from c.args.to) in
    wrote_then (omega arith) c.pair_fields-end_at.ensures c.put.ensures
