-- `plans::drafts::are_zeros` meets its contract. The invariant: there are zeros alone exactly if none of the numbers so far is another and
-- those that are left are zeros.
use mathlib.Core.Path.{◌≡◌}
use mathlib.Core.Bool.{◌&&◌}
use lib.ListN.{drop}
use Rattle.operations.specs.Plans.{zeros}
use Rattle.plans.proofs.drafts.are_zeros.Given as goal

abbrev pub invariant-loop-word : goal.invariant-loop-word
invariant-loop-word l = zeros l.column ≡ (l.none && zeros (drop l.word-index l.column))
