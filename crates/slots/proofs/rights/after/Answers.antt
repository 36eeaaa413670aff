-- `slots::rights::after` meets its contract: the right that was given on its slot, and the others as they were.
use mathlib.Core.Path.{◌≡◌, sym, ◌∙◌, subst}
use native.Mathlib.Omega.{arith}
use lib.ListN.{get_or, set}
use lib.Seq.{get_or-set_same, get_or-set_other}
use Rattle.slots.specs.Rights.{row_of}
use Rattle.slots.proofs.Rows.{row_length, right_in_row}
use Rattle.slots.proofs.rights.after.Goals as goal

pub returns-then-i-slot : goal.returns-then-i-slot
returns-then-i-slot c =
    let a = c.args in
    let l = row_of a.row in
    let same : a.i ≡ a.slot = c.if-i-slot.true in
    sym (subst (λ i. get_or (set l a.slot a.right) i 0 ≡ a.right) (sym same)
    (get_or-set_same l a.slot a.right 0 (omega (arith, same, c.requires, row_length a.row))))

pub returns : goal.returns
returns c =
    let a = c.args in
    c.at.ensures
    ∙ sym (get_or-set_other (row_of a.row) a.slot a.i a.right 0 c.if-i-slot.false
    ∙ right_in_row a.row a.i c.requires)
