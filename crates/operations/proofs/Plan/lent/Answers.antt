-- `operations::Plan::lent` meets its contract: the pairs of a kept plan stand within its columns.
use Rattle.std.proofs.Common.{◌≡◌, true, sym, subst}
use Rattle.std.proofs.Common.{arith}
use lib.ListN.{length-take}
use Rattle.higman.specs.Answers.{is_kept}
use Rattle.operations.specs.Plans.{rows_of}
use Rattle.operations.proofs.KeptValues.{pairs_inside, is_kept_plan}
use Rattle.operations.proofs.Plan.lent.Goals as goal

pub invariant_of-result-clause-paired : goal.invariant_of-result-clause-paired
invariant_of-result-clause-paired c =
    let few = pairs_inside c.args.self.now c.requires in
    simp length-take (omega arith)

pub invariant_of-result-clause-kept : goal.invariant_of-result-clause-kept
invariant_of-result-clause-kept c =
    subst (λ s. is_kept (record { shape = s; rows = rows_of c.args.self.now }) ≡ true) (sym c.shape-shape.ensures)
    (is_kept_plan c.args.self.now c.requires)
