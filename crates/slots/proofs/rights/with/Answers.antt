-- `slots::rights::with` meets its contract: the row is packed from the last slot on, and what is packed of it has 16 bits.
use Prim.Native.Nat.{◌-◌}
use mathlib.Core.Path.{◌≡◌, ◌∙◌, ap}
use native.Mathlib.Omega.{arith}
use lib.ListN.{set, drop}
use Rattle.slots.specs.Rights.{row_of, packed_row}
use Rattle.slots.proofs.Held.{slots_eight}
use Rattle.slots.proofs.Rows.{packed_start, packed_next, packed_fits}
use Rattle.slots.proofs.rights.with.Goals as goal

pub loop-i-init : goal.loop-i-init
loop-i-init c = let a = c.args in packed_start a.row a.slot a.right c.requires.fits

pub overflow_mul-next : goal.overflow_mul-next
overflow_mul-next c =
    let a = c.args in
    let step = packed_next a.row a.slot a.right c.requires.fits c.loop-i.i c.loop-i-test.true c.loop-i.auto.i in
    record { fits = omega (arith, step, packed_fits a.row a.slot a.right c.requires.fits (c.loop-i.i - 1), c.loop-i.invariant) }

pub after-requires : goal.after-requires
after-requires c = omega (arith, slots_eight)

pub overflow_add-next : goal.overflow_add-next
overflow_add-next c =
    let a = c.args in
    let step = packed_next a.row a.slot a.right c.requires.fits c.loop-i.i c.loop-i-test.true c.loop-i.auto.i in
    let few = packed_fits a.row a.slot a.right c.requires.fits (c.loop-i.i - 1) in
    record { fits = omega (arith, step, few, c.loop-i.invariant, c.after.ensures) }

pub loop-i-preserved : goal.loop-i-preserved
loop-i-preserved c =
    let a = c.args in
    let step = packed_next a.row a.slot a.right c.requires.fits c.loop-i.i c.loop-i-test.true c.loop-i.auto.i in
    omega (arith, step, c.loop-i.invariant, c.after.ensures)

pub returns : goal.returns
returns c =
    let a = c.args in
    let done : c.loop-i.i ≡ 0 = omega (arith, c.loop-i-test.false) in
    c.loop-i.invariant ∙ ap (λ k. packed_row (drop k (set (row_of a.row) a.slot a.right))) done
