-- `desk_core::feeding::end_line` meets its contract: a line that is too long is refused, as every line of more bytes is.
use mathlib.Core.Path.{sym, subst}
use Rattle.slots.specs.Desks.{desk_of}
use Rattle.lines.specs.Lines.{Answered}
use Rattle.lines.proofs.Settled.{answered_refused}
use Rattle.desk.proofs.Session.{long_line}
use Rattle.desk_core.proofs.Grown.{long_done, long_effect}
use Rattle.desk_core.proofs.feeding.end_line.Goals as goal

pub write_refusal-requires : goal.write_refusal-requires
write_refusal-requires c = c.requires.room

pub returns-then-overlong : goal.returns-then-overlong
returns-then-overlong c =
    let a = c.args in
    let d = desk_of a.head a.columns.now in
    subst (λ e. Answered e a.out.now (record { head = c.dropped.result; used = c.write_refusal.result }) a.columns.now c.write_refusal.new.out)
    (sym (long_effect a.head a.columns.now a.line.now a.overlong c.if-overlong.true))
    (answered_refused d long_line a.out.now a.columns.now a.out.now c.write_refusal.new.out c.write_refusal.result a.head c.into.result
    (long_done a.head a.columns.now c.requires.holds a.out.now _ c.into.ensures) c.write_refusal.ensures _ c.dropped.ensures)
