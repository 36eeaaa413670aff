-- `plandesk::answer` meets its contract.
use Rattle.std.proofs.Common.{arith, rules, refl}
use Rattle.plandesk.proofs.Pieces.{up_to_start, up_to_next, replied_part, takes_some}
use Rattle.plandesk.proofs.answer.Goals as goal

pub loop-at-init : goal.loop-at-init
loop-at-init g c = (up_to_start _ _ _ c.requires.holds_state, refl)

pub returns-in-Err-clause-replied : goal.returns-in-Err-clause-replied
returns-in-Err-clause-replied g c =
    replied_part _ _ _ _ _ _ c.loop-at.invariant.0 _ _ _ c.feed-fed.ensures _ c.in-Err.ensures

pub loop-at-smaller : goal.loop-at-smaller
loop-at-smaller g c =
    let some = takes_some _ _ _ _ _ _ c.loop-at.invariant.0 _ _ _ c.feed-fed.ensures
    (omega (arith, c.loop-at.invariant.1, c.requires.max_reply_in_bounds)) (omega arith) in
    omega (arith, some)

pub loop-at-preserved : goal.loop-at-preserved
loop-at-preserved g c =
    (up_to_next _ _ _ _ _ _ c.loop-at.invariant.0 _ _ _ c.feed-fed.ensures _ c.in_default.ensures, search rules)
