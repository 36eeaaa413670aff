-- `lines::answer` meets its contract.
use mathlib.Core.Path.{subst}
use Rattle.desk.specs.Replies.{line_operation}
use Rattle.slots.specs.Works.{work_of, DoneBy}
use Rattle.lines.proofs.Settled.{answered_done, answered_refused}
use Rattle.lines.proofs.answer.Goals as goal

pub returns-in-Ok : goal.returns-in-Ok
returns-in-Ok c = λ d line out₀ columns' k.
    let a = c.args in
    answered_done d line out₀ columns' a.out.now _ _ a.head.now (record { head = a.head.now; reply = c.in-Ok.reply })
    (subst (λ p. DoneBy d (line_operation d line) out₀ a.head.now (work_of a.head.now p) columns' a.out.now) c.in-Ok.is k)
    c.write_reply.ensures

pub returns-in-Err : goal.returns-in-Err
returns-in-Err c = λ d line out₀ columns' k.
    let a = c.args in
    answered_refused d line out₀ columns' a.out.now _ _ a.head.now c.in-Err.refused
    (subst (λ p. DoneBy d (line_operation d line) out₀ a.head.now (work_of a.head.now p) columns' a.out.now) c.in-Err.is k)
    c.write_refusal.ensures _ c.dropped.ensures
