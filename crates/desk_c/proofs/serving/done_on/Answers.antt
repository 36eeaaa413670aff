-- `desk_c::serving::done_on` meets its contract: what the work of a record leaves is packed, and its reply told.
use mathlib.Core.Path.{sym, ◌∙◌, ap, subst}
use Rattle.slots.specs.declared.Head.{Head}
use Rattle.slots.specs.Desks.{desk_of, HoldsDesk}
use Rattle.lines.proofs.Settled.{holds_dropped}
use Rattle.desk_values.specs.Values.{packed_desk}
use Rattle.desk_c.proofs.Jobs.{plain_done, plain_refused}
use Rattle.desk_c.proofs.serving.done_on.Goals as goal

pub packed-requires : goal.packed-requires
packed-requires c = (c.in-Ok.ensures.done c.perform.new.columns).holds

pub packed-requires-in-Err : goal.packed-requires-in-Err
packed-requires-in-Err c =
    subst (λ (h : Head). HoldsDesk h c.perform.new.columns) (sym c.dropped.ensures)
    (holds_dropped c.args.head c.perform.new.columns (c.in-Err.ensures.done c.perform.new.columns).holds)

pub returns-in-Ok : goal.returns-in-Ok
returns-in-Ok c =
    let a = c.args in
    plain_done a.head a.columns c.requires a.job c.perform.new.columns c.packed.result (record { head = c.perform.new.head; reply = c.in-Ok.reply }) c.in-Ok.ensures.done c.packed.ensures
    c.value.result c.value.ensures

pub returns-in-Err : goal.returns-in-Err
returns-in-Err c =
    let a = c.args in
    let columns = c.perform.new.columns in
    plain_refused a.head a.columns c.requires a.job columns c.packed-in-Err.result c.in-Err.refused c.in-Err.ensures.done
    (c.packed-in-Err.ensures ∙ ap (λ (h : Head). packed_desk (desk_of h columns)) c.dropped.ensures) c.into.result c.into.ensures
