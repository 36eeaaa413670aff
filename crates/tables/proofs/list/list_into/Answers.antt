-- `tables::list::list_into` meets its contract: the P record, the M records and the E record are one run, the listing. That each has
-- room follows from the length of the whole listing, `listing_size`.
use native.Mathlib.Omega.{arith}
use Rattle.words.specs.Bytes.{shape_of}
use Rattle.columns.specs.Packed.{table}
use Rattle.words.proofs.Runs.{wrote_then}
use Rattle.tables.proofs.Records.{listing_size}
use Rattle.tables.proofs.list.list_into.Goals as goal

pub returns : goal.returns
returns c =
    let a = c.args in
    let size = listing_size a.slot (shape_of a.shape) (table a.from.now a.to.now) in
    wrote_then
    (omega arith)
    c.open_line-pairs_at.ensures
    (wrote_then (omega arith) c.pair_lines-close_at.ensures c.close_line.ensures)
