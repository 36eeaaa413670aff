-- `operations::following::compose` meets its contract: 10, and then what `composed` answers.
use Rattle.std.proofs.Common.{sym, ◌∙◌, ap₂}
use Rattle.higman.specs.Answers.{same_shape}
use Rattle.std.proofs.lemmas.Bool.{not-true}
use Rattle.operations.proofs.SameShapes.{shapes_differ}
use Rattle.operations.proofs.following.compose.Goals as goal

pub returns-then-ne : goal.returns-then-ne
returns-then-ne c =
    shapes_differ c.args.a c.args.b
    (sym (ap₂ same_shape c.shape.ensures c.shape-2.ensures) ∙ not-true _ (sym c.ne.ensures ∙ c.if-ne.true))
