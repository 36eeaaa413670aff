-- What is done with a record on two desks that are alike to the named station: the job of each, behind what all have in common.
use mathlib.Core.Path.{◌≡◌, ap}
use mathlib.Core.Bool.{◌&&◌}
use mathlib.Core.Option.{none}
use lib.Dec.{leb}
use Rattle.higman.specs.Refusals.{count_full}
use Rattle.desk.specs.Limits.{max_changes}
use Rattle.desk.specs.Desk.{Desk}
use Rattle.desk.specs.Records.{Record}
use Rattle.desk.specs.Records.{is_change}
use Rattle.desk.specs.Replies.{at_limit}
use Rattle.desk.specs.Replies.{operation}
use Rattle.desk.specs.Sights.{hands_over}
use Rattle.desk.proofs.Alike.{Agree, Alike, Same, admission_agrees, agree_then, job_agrees, passes, test_then}

module _ (d c : Desk) (h : Alike d c) where
  pub operation_agrees : (r : Record) → hands_over r ≡ none → Agree Same (operation d r) (operation c r)
  unfolding operation
  operation_agrees r e =
      agree_then (admission_agrees d c h r) (λ _ _ t.
      agree_then (job_agrees d c h r e t) (λ x y q.
      test_then count_full (is_change r && at_limit d) (is_change r && at_limit c) (ap (λ n. is_change r && leb max_changes n) h.count)
      (λ _ _ _. passes q)))
