-- `operations::following::identity` meets its contract: the first belts are the words of the columns.
use Prim.Native.Nat.{◌≤◌}
use mathlib.Core.Path.{refl, ◌∙◌, ap}
use native.Mathlib.Omega.{arith}
use Rattle.higman.specs.Answers.{identity_plan}
use Rattle.higman.proofs.KeptPlans.{in_range}
use lib.Dec.{T}
use lib.ListN.{length-take}
use Rattle.higman.specs.Limits.{shape_in_range}
use Rattle.words.specs.declared.shapes.Shape.{Shape}
use Rattle.words.specs.Bytes.{shape_of}
use Rattle.operations.specs.Plans.{packed}
use Rattle.columns.proofs.Limits.{pair_limit}
use Rattle.operations.proofs.Identity.{identity_rows}
use Rattle.operations.proofs.following.identity.Goals as goal

few : (s : Shape) → T (shape_in_range (shape_of s)) → s.roots ≤ 9
few s r = (in_range (shape_of s) r).roots_high

pub filled-requires : goal.filled-requires
filled-requires c = let h = few c.args.shape c.requires in (simp length-take (omega (arith, pair_limit)), refl)

pub returns : goal.returns
unfolding identity_plan
returns c =
    let a = c.args.shape in
    c.filled.ensures ∙ ap (λ t. packed (record { shape = shape_of a; rows = t })) (identity_rows a.arity a.roots (few a c.requires))

pub slice_bounds-digits-end : goal.slice_bounds-digits-end
slice_bounds-digits-end c = few c.args.shape c.requires

pub slice_bounds-belts-end : goal.slice_bounds-belts-end
slice_bounds-belts-end c = let h = few c.args.shape c.requires in simp length-take (omega arith)
