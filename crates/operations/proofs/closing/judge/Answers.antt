-- `operations::closing::judge` meets its contract: the verdict is put together from what is wrong with each column.
use Rattle.std.proofs.Common.{sym, ◌∙◌, arith}
use Rattle.operations.proofs.Exits.{returned}
use Rattle.operations.proofs.Verdicts.{from_asked, to_asked, found_from, found_to, judged_from, judged_to}
use Rattle.operations.proofs.closing.judge.Goals as goal

pub fault_of-requires : goal.fault_of-requires
fault_of-requires c = from_asked c.args.draft.now c.requires c.shape-shape.ensures

pub returns-in_err-map_err : goal.returns-in_err-map_err
returns-in_err-map_err c =
    let p = c.args.draft.now in
    let f = c.in_err-map_err.field-0.0 in
    let e = found_from p c.requires c.shape-shape.ensures c.fault_of.ensures c.map_err.ensures.cases in
    returned _ f c.from_residual.ensures.1 ∙ judged_from p c.requires (omega arith) f (sym c.in_err-map_err.was ∙ e)

pub fault_of-requires-2 : goal.fault_of-requires-2
fault_of-requires-2 c = to_asked c.args.draft.now c.requires c.shape-shape.ensures

pub returns : goal.returns
returns c =
    let p = c.args.draft.now in
    let e = found_from p c.requires c.shape-shape.ensures c.fault_of.ensures c.map_err.ensures.cases in
    let g = found_to p c.requires c.shape-shape.ensures c.fault_of-2.ensures c.map_err-2.ensures.cases in
    g ∙ judged_to p c.requires (omega arith) (sym c.in_ok-map_err.was ∙ e)
