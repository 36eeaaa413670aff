-- `tables::list::listing_length` meets its contract: each turn adds the length of a record that is left.
use Prim.Native.Nat.{◌^◌, ◌≤◌, ◌<◌}
use native.Mathlib.Omega.{arith}
use lib.ListN.{length, length-append}
use Rattle.std.proofs.lemmas.Slice.Zip.{zip_turn}
use Rattle.higman.specs.Limits.{max_pairs}
use Rattle.tables.proofs.Records.{pair_small, lines_size}
use Rattle.tables.proofs.list.listing_length.Goals as goal

-- the record of one pair is small
small_record : (c : goal.After-pair_length-sum) → c.pair_length-sum.result ≤ 36
small_record c =
    let i = length c.loop-f.yielded in
    let (h, k, e, e') =
    zip_turn c.args.from.now c.args.to.now c.loop-f.yielded _ _ c.next.new.self _ (cc) (cc) c.loop-f.yielded_by _
    c.in-Some.is c.next.ensures.steps in
    let x : c.in-Some.field-0-0.now < 2 ^ 64 = omega (arith, e 0, c.type_inv.from i) in
    let y : c.in-Some.field-0-1.now < 2 ^ 64 = omega (arith, e' 0, c.type_inv.to i) in
    omega (arith, pair_small c.in-Some.field-0-0.now c.in-Some.field-0-1.now x y)

pub overflow_add-sum : goal.overflow_add-sum
unfolding max_pairs
overflow_add-sum c = omega (arith, small_record c)

pub loop-f-preserved : goal.loop-f-preserved
loop-f-preserved c =
    let (h, k, e, e') =
    zip_turn c.args.from.now c.args.to.now c.loop-f.yielded _ _ c.next.new.self _ (cc) (cc) c.loop-f.yielded_by _
    c.in-Some.is c.next.ensures.steps in
    let rest = lines_size c.args.from.now c.args.to.now (length c.loop-f.yielded) h (omega arith) (e 0) (e' 0) in
    let small = small_record c in
    rw length-append record { sized = omega arith; within = omega arith; small = omega arith }
