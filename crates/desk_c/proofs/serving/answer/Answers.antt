-- `desk_c::serving::answer` meets its contract: a line's work is done, and told.
use mathlib.Core.Path.{sym, ap, subst}
use Rattle.std.specs.Prelude.{Result}
use Rattle.slots.specs.declared.Refused.{Refused}
use Rattle.slots.specs.Desks.{desk_of}
use Rattle.slots.proofs.Steps.{returned}
use Rattle.lines.specs.declared.Stepped.{Stepped}
use Rattle.desk.specs.Replies.{line_operation}
use Rattle.desk_c.specs.Settling.{NotReplied, stepped, RepliedTo}
use Rattle.desk_c.proofs.Lent.{line_refused, line_short, line_replied}
use Rattle.desk_c.proofs.serving.answer.Goals as goal

pub returns-in_err-reply : goal.returns-in_err-reply
returns-in_err-reply c =
    let a = c.args in
    let d = desk_of a.head.now a.columns.now in
    let f = c.in_err-reply.field-0.0 in
    subst (λ (r : Result Stepped Refused). RepliedTo (line_operation d a.line.now) a.room a.out.now r c.work.new.columns c.work.new.out)
    (sym (ap (stepped _) (returned _ f c.from_residual.ensures.1))) (line_refused d a.line.now a.out.now _ _ a.head.now a.room f c.in_err-reply.ensures.done)

pub returns-then-room-used : goal.returns-then-room-used
returns-then-room-used c =
    let a = c.args in
    let d = desk_of a.head.now a.columns.now in
    subst (λ (f : Refused). NotReplied (line_operation d a.line.now) a.room f) (sym c.into.ensures)
    (line_short d a.line.now a.out.now _ _ a.head.now a.room _ c.in_ok-reply.ensures.done c.write_reply-used.result _ c.write_reply-used.ensures
    c.if-room-used.true)

pub returns : goal.returns
returns c =
    let a = c.args in
    let d = desk_of a.head.now a.columns.now in
    line_replied d a.line.now a.out.now _ _ a.head.now a.room _ c.in_ok-reply.ensures.done c.write_reply-used.result _ c.write_reply-used.ensures
    c.if-room-used.false
