-- `plandesk::turn` meets its contract.
use Rattle.plandesk.proofs.Pieces.{conversed_start}
use Rattle.plandesk.proofs.turn.Goals as goal

-- nothing was read
pub returns-in-Err-clause-conversed : goal.returns-in-Err-clause-conversed
returns-in-Err-clause-conversed g c = conversed_start _ _ _ _ _ c.requires.holds_state c.in-Err.ensures.none
