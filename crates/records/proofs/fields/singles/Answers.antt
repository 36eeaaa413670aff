-- `records::fields::singles` meets its contract, by what `SinglesSoFar` says at the start, at each field and at the end.
use Rattle.std.proofs.Common.{◌≡◌, ◌<◌, arith, sym, length}
use Rattle.std.proofs.lemmas.Grind.{common_steps}
use Rattle.records.proofs.fields.SoFar.{so_far_begins, so_far_stops, so_far_goes_on, so_far_ends, so_far_left}
use Rattle.records.proofs.fields.singles.Goals as goal

pub loop-byte-init : goal.loop-byte-init
loop-byte-init g c = so_far_begins g.row.N c.args.fields.now

pub returns-in_err-b : goal.returns-in_err-b
returns-in_err-b g c = let none =
    so_far_stops c.loop-byte.invariant c.loop-byte-test.true c.in_err-b.ensures in cc (none, c.from_residual.ensures)

pub loop-byte-preserved : goal.loop-byte-preserved
loop-byte-preserved g c = so_far_goes_on c.loop-byte.invariant c.loop-byte-test.true c.in_ok-b.b c.in_ok-b.others.now c.in_ok-b.ensures

pub returns-then-is_empty : goal.returns-then-is_empty
returns-then-is_empty g c =
    let none_left : length c.loop-byte.rest.now ≡ 0 = grind (arith, common_steps) in
    so_far_ends c.loop-byte.invariant c.loop-byte-test.false none_left

pub returns-else-is_empty : goal.returns-else-is_empty
returns-else-is_empty g c =
    let some_left : 0 < length c.loop-byte.rest.now = grind (arith, common_steps) in
    sym (so_far_left c.loop-byte.invariant c.loop-byte-test.false some_left)
