-- `desk_core::feeding::last_line` meets its contract.
use mathlib.Core.Path.{sym, ◌∙◌, ap, subst}
use Rattle.desk.specs.Desk.{dropped}
use Rattle.slots.specs.Desks.{desk_of, HoldsDesk}
use Rattle.lines.proofs.Settled.{dropped_is, holds_dropped}
use Rattle.desk_core.proofs.feeding.last_line.Goals as goal

pub returns : goal.returns
returns c =
    let answered = c.end_line-s.ensures in
    let columns = c.end_line-s.new.columns in
    record {
      holds = subst (λ h. HoldsDesk h columns) (sym c.dropped.ensures) (holds_dropped c.end_line-s.result.head columns answered.holds);
      desk = ap (λ h. desk_of h columns) c.dropped.ensures ∙ dropped_is c.end_line-s.result.head columns ∙ ap dropped answered.desk;
      wrote = answered.wrote;
    }
