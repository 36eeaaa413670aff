-- `tables::list::pair_lines` meets its contract: each turn writes the M record of its pair, the first of those that are left.
use native.Mathlib.Omega.{arith}
use lib.ListN.{length, length-append}
use Rattle.std.proofs.lemmas.Slice.Zip.{zip_turn}
use Rattle.higman.specs.Listing.{pair_record}
use Rattle.columns.specs.Packed.{pair_of}
use Rattle.tables.proofs.Records.{lines_step, line_room, line_written}
use Rattle.tables.proofs.list.pair_lines.Invariants.{lines_from}
use Rattle.tables.proofs.list.pair_lines.Goals as goal

pub pair_line-next-requires : goal.pair_line-next-requires
pair_line-next-requires c =
    let a = c.args in
    let from = a.pairs.from.now in
    let to = a.pairs.to.now in
    let i = length c.loop-from.yielded in
    let (h, k, e, e') =
    zip_turn from to c.loop-from.yielded _ _ c.next.new.self _ (cc) (cc) c.loop-from.yielded_by _
    c.in-Some.is c.next.ensures.steps in
    line_room (lines_from from to) (length from) a.out.now a.at c.loop-from.invariant
    (pair_record (pair_of c.in-Some.field-0-0.now c.in-Some.field-0-1.now))
    (omega arith) (lines_step from to i h (omega arith) (e 0) (e' 0))

pub loop-from-preserved : goal.loop-from-preserved
loop-from-preserved c =
    let a = c.args in
    let from = a.pairs.from.now in
    let to = a.pairs.to.now in
    let i = length c.loop-from.yielded in
    let (h, k, e, e') =
    zip_turn from to c.loop-from.yielded _ _ c.next.new.self _ (cc) (cc) c.loop-from.yielded_by _
    c.in-Some.is c.next.ensures.steps in
    line_written (lines_from from to) (length from) a.out.now a.at c.loop-from.invariant
    (pair_record (pair_of c.in-Some.field-0-0.now c.in-Some.field-0-1.now))
    (omega arith) (lines_step from to i h (omega arith) (e 0) (e' 0))
    _ (length-append c.loop-from.yielded _) h (omega arith) c.pair_line-next.ensures
