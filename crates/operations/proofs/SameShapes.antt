-- Plans of different shapes are not followed: 10.
use mathlib.Core.Path.{◌≡◌, sym}
use mathlib.Core.Bool.{false}
use Rattle.std.specs.Prelude.{Err}
use Rattle.higman.specs.Answers.{same_shape, followed}
use Rattle.operations.specs.declared.Plan.{Plan}
use Rattle.operations.specs.declared.refusals.Refusal.TheVariants.{ShapesDiffer}
use Rattle.operations.specs.Plans.{shape_of}
use Rattle.operations.specs.Answers.{composing}

pub shapes_differ : (a b : Plan) → same_shape (shape_of a) (shape_of b) ≡ false → Err ShapesDiffer ≡ composing a b
unfolding followed
shapes_differ a b h = sym (rw (h, followed))
