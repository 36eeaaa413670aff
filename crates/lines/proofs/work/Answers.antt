-- `lines::work` meets its contract: what is read of a line means the record that the definitions read.
use mathlib.Core.Path.{sym, ◌∙◌, ap}
use Rattle.std.specs.Prelude.{Err}
use Rattle.operations.specs.declared.refusals.Refusal.TheVariants as The
use Rattle.slots.specs.Works.{work_of}
use Rattle.slots.proofs.Steps.{returned, refused_with}
use Rattle.lines.proofs.Performed.{no_line, line_worked, line_bounds}
use Rattle.lines.proofs.work.Goals as goal

pub returns-in_err-record-clause-done : goal.returns-in_err-record-clause-done
returns-in_err-record-clause-done c =
    let a = c.args in
    no_line a.head.now a.columns.now a.line.now a.out.now _ c.requires.holds (sym c.read.ensures ∙ c.in_err-record.ensures.ok_part)
    (ap (work_of _) (returned _ _ c.from_residual.ensures.1 ∙ ap Err (refused_with c.read.result _ The.NoRecord c.in_err-record.ensures.value)))

pub perform-requires : goal.perform-requires
perform-requires c =
    record { asked = c.requires; bounds = line_bounds c.args.line.now _ (sym c.read.ensures ∙ c.in_ok-record.ensures.ok_part) }

pub returns-clause-done : goal.returns-clause-done
returns-clause-done c =
    let a = c.args in
    line_worked a.head.now a.columns.now a.line.now a.out.now _ _ (sym c.read.ensures ∙ c.in_ok-record.ensures.ok_part) _ _ c.perform.ensures.done
