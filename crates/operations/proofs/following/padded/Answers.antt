-- `operations::following::padded` meets its contract: zeros stand behind the words that are copied.
use Rattle.std.proofs.Common.{◌∙◌, ap, ◌++◌}
use lib.ListN.{drop, replicate}
use Rattle.operations.proofs.Filled.{filling_is}
use Rattle.operations.proofs.following.padded.Goals as goal

pub returns : goal.returns
returns c =
    ap (λ f. f ++ drop c.args.n (replicate 128 0)) c.copy_from_slice.ensures.after
    ∙ filling_is c.args.n c.args.column.now c.requires.0 c.requires.1
