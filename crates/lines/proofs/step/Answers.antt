-- `lines::step` meets its contract.
use Rattle.desk.specs.Replies.{line_operation}
use Rattle.slots.specs.Desks.{desk_of}
use Rattle.lines.proofs.Settled.{done_left}
use Rattle.lines.proofs.step.Goals as goal

pub returns : goal.returns
returns c =
    let a = c.args in
    let d = desk_of a.head a.columns.now in
    let w = c.work-reply in
    c.answer-used.ensures d a.line.now a.out.now w.new.columns
    (done_left d (line_operation d a.line.now) a.out.now a.head w.new.head w.result w.new.columns w.new.out w.ensures.kept w.ensures.done)
