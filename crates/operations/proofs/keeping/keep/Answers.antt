-- `operations::keeping::keep` meets its contract: the sorted pairs may be reduced, and what is kept of them is what is kept of the pairs
-- that came.
use Rattle.std.proofs.Common.{arith}
use lib.ListN.{length-take}
use Rattle.operations.proofs.Reordered.{draft_reducible, draft_plan}
use Rattle.operations.proofs.keeping.keep.Goals as goal

pub keep_sorted-requires : goal.keep_sorted-requires
keep_sorted-requires c =
    let (few, range, bases) = c.requires in
    rw c.shape.ensures (draft_reducible c.args.draft few range bases (simp length-take (omega arith)) c.sort.ensures)

pub returns : goal.returns
returns c =
    let (few, range, bases) = c.requires in
    draft_plan c.args.draft few range bases (simp length-take (omega arith)) c.sort.ensures c.shape.ensures c.keep_sorted.ensures
