-- `changing::fill` meets its contract.
use mathlib.Core.Path.{◌≡◌, sym, ◌∙◌, ap}
use mathlib.Core.Bool.{false}
use lib.ListN.{set}
use Rattle.std.specs.Prelude.{Ok, Err, None}
use Rattle.slots.specs.declared.Control.{Control}
use Rattle.slots.specs.declared.Head.{Head}
use Rattle.slots.specs.Blocks.{size_of, filled_head}
use Rattle.slots.specs.Desks.{full_in}
use Rattle.slots.proofs.Held.{control_held, slot_inside}
use Rattle.slots.proofs.Sums.{countable}
use Rattle.changing.proofs.Filling.{filled_none, columns_same, filled_one, columns_put}
use Rattle.changing.proofs.fill.Goals.{Else-is_full}
use Rattle.changing.proofs.fill.Goals as goal

pub is_full-requires : goal.is_full-requires
is_full-requires c = control_held c.args.head.now c.args.columns.now c.requires.holds

-- there is room for one more change
room : (c : Else-is_full) → full_in c.args.head.now.control ≡ false
room c = sym c.is_full.ensures ∙ c.if-is_full.false

pub put-requires : goal.put-requires
put-requires c = slot_inside c.args.head.now c.args.columns.now c.requires.holds c.args.i c.requires.slot

pub noted-head-requires : goal.noted-head-requires
noted-head-requires c =
    let a = c.args in
    countable a.head.now a.columns.now c.requires.holds (room (goal.at.noted-head-requires c).Else-is_full) a.i c.requires.slot a.plan.pairs
    c.requires.few

pub returns-clause-value : goal.returns-clause-value
unfolding filled_head
returns-clause-value c =
    let a = c.args in
    let sizes = set a.head.now.sizes a.i (size_of a.plan) in
    let next : Control → Head = λ k. record { sizes = sizes; draft = None; control = k } in
    ap (λ k. Ok (next k)) c.noted-head.ensures
    ∙ sym (filled_one a.head.now a.columns.now a.i a.plan (room (goal.at.returns-clause-value c).Else-is_full))

pub returns-clause-columns_after : goal.returns-clause-columns_after
returns-clause-columns_after c =
    let a = c.args in
    c.put.ensures ∙ sym (columns_put a.head.now a.columns.now a.i a.plan (room (goal.at.returns-clause-columns_after c).Else-is_full))

pub returns-then-is_full-clause-value : goal.returns-then-is_full-clause-value
returns-then-is_full-clause-value c =
    let a = c.args in
    ap Err c.into.ensures ∙ sym (filled_none a.head.now a.columns.now a.i a.plan (sym c.is_full.ensures ∙ c.if-is_full.true))

pub returns-then-is_full-clause-columns_after : goal.returns-then-is_full-clause-columns_after
returns-then-is_full-clause-columns_after c =
    let a = c.args in
    sym (columns_same a.head.now a.columns.now a.i a.plan (sym c.is_full.ensures ∙ c.if-is_full.true))
