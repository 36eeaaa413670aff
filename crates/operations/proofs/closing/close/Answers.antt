-- `operations::closing::close` meets its contract. The verdict is put together from what is wrong with each column, as in `judge`; an
-- accepted draft has bases for columns, so its pairs, which are sorted by then, may be reduced.
use Rattle.std.proofs.Common.{sym, ◌∙◌, arith}
use lib.ListN.{length-take}
use Rattle.operations.proofs.Exits.{returned}
use Rattle.operations.proofs.Verdicts.{from_asked, to_asked, found_from, found_to, closed_from, closed_to}
use Rattle.operations.proofs.Closed.{closed_reducible, closed_plan}
use Rattle.operations.proofs.closing.close.Goals as goal

pub fault_in-requires : goal.fault_in-requires
fault_in-requires c =
    let (few, range, words) = from_asked c.args.draft.now c.requires c.shape-shape.ensures in
    (simp length-take (omega arith), range, few, words)

pub returns-in_err-map_err : goal.returns-in_err-map_err
returns-in_err-map_err c =
    let p = c.args.draft.now in
    let f = c.in_err-map_err.field-0.0 in
    let e = found_from p c.requires c.shape-shape.ensures c.fault_in.ensures.found c.map_err.ensures.cases in
    returned _ f c.from_residual.ensures.1 ∙ closed_from p c.requires (omega arith) f (sym c.in_err-map_err.was ∙ e)

pub fault_of-requires : goal.fault_of-requires
fault_of-requires c = to_asked c.args.draft.now c.requires c.shape-shape.ensures

pub returns-in_err-map_err-2 : goal.returns-in_err-map_err-2
returns-in_err-map_err-2 c =
    let p = c.args.draft.now in
    let f = c.in_err-map_err-2.field-0.0 in
    let e = sym c.in_ok-map_err.was ∙ found_from p c.requires c.shape-shape.ensures c.fault_in.ensures.found c.map_err.ensures.cases in
    let g = sym c.in_err-map_err-2.was ∙ found_to p c.requires c.shape-shape.ensures c.fault_of.ensures c.map_err-2.ensures.cases in
    returned _ f c.from_residual-in_err-map_err-2.ensures.1 ∙ closed_to p c.requires (omega arith) f e g

pub keep_sorted-requires : goal.keep_sorted-requires
keep_sorted-requires c =
    let p = c.args.draft.now in
    let e = sym c.in_ok-map_err.was ∙ found_from p c.requires c.shape-shape.ensures c.fault_in.ensures.found c.map_err.ensures.cases in
    let g = sym c.in_ok-map_err-2.was ∙ found_to p c.requires c.shape-shape.ensures c.fault_of.ensures c.map_err-2.ensures.cases in
    closed_reducible p c.requires (omega arith) e g c.fault_in.ensures.sorts c.shape-shape.ensures

pub returns : goal.returns
returns c =
    let p = c.args.draft.now in
    let e = sym c.in_ok-map_err.was ∙ found_from p c.requires c.shape-shape.ensures c.fault_in.ensures.found c.map_err.ensures.cases in
    let g = sym c.in_ok-map_err-2.was ∙ found_to p c.requires c.shape-shape.ensures c.fault_of.ensures c.map_err-2.ensures.cases in
    closed_plan p c.requires (omega arith) e g c.fault_in.ensures.sorts c.shape-shape.ensures c.keep_sorted.ensures
