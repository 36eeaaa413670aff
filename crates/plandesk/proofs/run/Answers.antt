-- `plandesk::run` meets its contract.
use Rattle.plandesk.proofs.Pieces.{written_front}
use Rattle.plandesk.proofs.Ends.{session_ended, session_cut}
use Rattle.plandesk.proofs.run.Goals as goal

pub returns-in_err-ended-clause-session : goal.returns-in_err-ended-clause-session
returns-in_err-ended-clause-session g c =
    let k = rw c.in_err-ended.was at c.read_all-ended.ensures.conversed in
    session_cut _ _ _ _ _ _ c.fresh.ensures.1 k _ c.from_residual.ensures.0

pub returns-clause-session : goal.returns-clause-session
returns-clause-session g c =
    let k = rw c.in_ok-ended.was at c.read_all-ended.ensures.conversed in
    let end = rw c.in_ok-ended.was at c.read_all-ended.ensures.end in
    let w = c.finish-last.ensures.wrote in
    session_ended _ _ _ _ _ _ _ _ c.fresh.ensures.1 k end _ (written_front _ _ _ _ w.place w.contents) c.write_out.ensures
