-- `operations::following::filled` meets its contract: each column is padded.
use Rattle.std.proofs.Common.{◌∙◌, length}
use Rattle.operations.proofs.Filled.{filled_table}
use Rattle.operations.proofs.following.filled.Goals as goal

pub returns : goal.returns
returns c =
    let a = c.args in
    let from = c.padded-from_places.ensures in
    let to = c.padded-to_places.ensures in
    (λ i. record { arity = a.shape.arity; roots = a.shape.roots; pairs = length a.from.now; from = from i; to = to i })
    ∙ filled_table a.shape.arity a.shape.roots a.from.now a.to.now c.requires.1
