-- `changing::keep` meets its contract, whatever record asks for it.
use mathlib.Core.Path.{◌≡◌, refl, ap}
use native.Mathlib.Omega.{arith}
use lib.ListN.{length}
use Rattle.higman.specs.Limits.{max_pairs}
use Rattle.columns.proofs.Limits.{pair_limit}
use Rattle.operations.proofs.Sizes.{from_long, to_long}
use Rattle.slots.specs.Works.{work_of}
use Rattle.slots.proofs.Steps.{returned}
use Rattle.changing.proofs.Kept.{kept_few, done_keeping}
use Rattle.changing.proofs.keep.Goals.{Start}
use Rattle.changing.proofs.keep.Goals as goal

pub fill-requires : goal.fill-requires
fill-requires c =
    let r = c.requires in record { holds = r.holds; slot = r.slot; few = kept_few c.args.plan r.is_plan_fact }

pub overflow_cast-result : goal.overflow_cast-result
overflow_cast-result c = record { fits = omega (arith, pair_limit, kept_few c.args.plan c.requires.is_plan_fact) }

-- the columns of a plan that is passed by value are long
from : (c : Start) → length c.args.plan.from ≡ max_pairs
unfolding max_pairs
from c = from_long c.args.plan _ c.well_formed.1.1.1.0

to : (c : Start) → length c.args.plan.to ≡ max_pairs
unfolding max_pairs
to c = to_long c.args.plan _ c.well_formed.1.1.1.0

pub returns-in_err-fill-clause-done : goal.returns-in_err-fill-clause-done
returns-in_err-fill-clause-done c = λ r t out.
    let a = c.args in
    let s = (goal.at.returns-in_err-fill-clause-done c).Start in
    let e = c.in_err-fill.ensures in
    done_keeping a.head.now a.columns.now a.i a.plan c.requires (from s) (to s) r t out _ e.value _ e.columns_after _
    (ap (work_of _) (returned _ _ c.from_residual.ensures.1))

pub returns-clause-done : goal.returns-clause-done
returns-clause-done c = λ r t out.
    let a = c.args in
    let s = (goal.at.returns-clause-done c).Start in
    let e = c.in_ok-fill.ensures in
    done_keeping a.head.now a.columns.now a.i a.plan c.requires (from s) (to s) r t out _ e.value _ e.columns_after _ refl
