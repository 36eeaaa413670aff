-- `desks::sum` meets its contract.
use mathlib.Core.Path.{◌≡◌, ◌∙◌}
use native.Mathlib.Omega.{arith}
use Rattle.std.proofs.Common.{rules, take}
use Rattle.std.proofs.iter.runs.Made.{chains}
use Rattle.std.specs.List.{sum_by}
use Rattle.slots.specs.declared.Size.{Size}
use Rattle.desks.proofs.Sums.{sizes_taken, sizes_small}
use Rattle.desks.proofs.sum.Goals as goal

pub sum-requires-clause-fits : goal.sum-requires-clause-fits
sum-requires-clause-fits c = search (rules, chains, sizes_small c.args.head c.requires)

pub returns : goal.returns
returns c =
    let h = c.args.head in
    let chain : c.sum.result ≡ sum_by (λ (s : Size). s.pairs) (take 8 h.sizes) = search (rules, chains) in
    chain ∙ sizes_taken h (omega arith)
