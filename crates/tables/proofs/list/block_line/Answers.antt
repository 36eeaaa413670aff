-- `tables::list::block_line` meets its contract: the fields of the pair, the place and the line end are one run.
use native.Mathlib.Omega.{arith}
use Rattle.words.proofs.Runs.{wrote_then}
use Rattle.tables.specs.Lines.{placed}
use Rattle.tables.proofs.Records.{fields_size, block_size}
use Rattle.tables.proofs.list.block_line.Goals as goal

pub returns : goal.returns
returns c =
    let a = c.args in
    let l = placed a.place a.from a.to in
    let first = fields_size 66 l.pair in
    let whole = block_size l in
    wrote_then (omega arith) c.pair_fields-place_at.ensures (wrote_then (omega arith) c.put_decimal-end_at.ensures c.put.ensures)
