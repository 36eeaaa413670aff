-- `desk_core::feeding::whole_line` meets its contract: a line that lies whole in the input is what its empty beginning has grown to.
use mathlib.Core.Path.{◌≡◌, sym, ◌∙◌, ap, subst}
use mathlib.Core.List.{[]}
use lib.ListN.{take}
use Rattle.desk.specs.Replies.{respond_line}
use Rattle.desk.specs.Session.{effect_of}
use Rattle.slots.specs.Desks.{desk_of}
use Rattle.lines.specs.Lines.{Answered}
use Rattle.desk_core.specs.Feeding.{grown_at, grown_line}
use Rattle.desk_core.proofs.Grown.{grown_whole}
use Rattle.desk_core.proofs.feeding.whole_line.Goals as goal

pub returns-then-not-overlong-clause-line_answered : goal.returns-then-not-overlong-clause-line_answered
returns-then-not-overlong-clause-line_answered c =
    let a = c.args in
    let line = a.line.now in
    let part = a.part.now in
    let fresh : effect_of (grown_at a.head a.columns.now (grown_line (take a.begun line) a.overlong part)) ≡ respond_line (desk_of a.head a.columns.now) part =
    ap (λ n. effect_of (grown_at a.head a.columns.now (grown_line (take n line) a.overlong part))) c.if-begun-eq0.true
    ∙ ap (λ o. effect_of (grown_at a.head a.columns.now (grown_line [] o part))) c.if-not-overlong.true
    ∙ grown_whole (desk_of a.head a.columns.now) part in
    subst (λ x. Answered x a.out.now c.step.result c.step.new.columns c.step.new.out) (sym fresh) c.step.ensures
