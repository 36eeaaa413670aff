-- `plandesk::read_all` meets its contract.
use Rattle.std.proofs.Common.{rules, refl}
use Rattle.std.proofs.KnownBytes.{Keeps-refl}
use Rattle.plandesk.proofs.Pieces.{conversed_start, conversed_next, reached_of}
use Rattle.plandesk.proofs.read_all.Goals as goal

pub loop-init : goal.loop-init
loop-init g c = (conversed_start _ _ _ _ _ c.requires.holds_state (Keeps-refl _), refl, refl)

pub returns-in-Err-clause-conversed : goal.returns-in-Err-clause-conversed
returns-in-Err-clause-conversed g c =
    let q = rw c.in-Err.is at c.turn-t.ensures.conversed in
    conversed_next _ _ _ _ _ _ _ _ _ _ c.loop.invariant.0 q

pub returns-in-Ok-eq0-clause-reached_from : goal.returns-in-Ok-eq0-clause-reached_from
returns-in-Ok-eq0-clause-reached_from g c =
    let q = rw c.in-Ok-eq0.is at c.turn-t.ensures.conversed in
    reached_of _ _ _ _ _ _ (conversed_next _ _ _ _ _ _ _ _ _ _ c.loop.invariant.0 q)

pub returns-in-Ok-eq0-clause-conversed : goal.returns-in-Ok-eq0-clause-conversed
returns-in-Ok-eq0-clause-conversed g c =
    let q = rw c.in-Ok-eq0.is at c.turn-t.ensures.conversed in
    conversed_next _ _ _ _ _ _ _ _ _ _ c.loop.invariant.0 q

pub loop-preserved : goal.loop-preserved
loop-preserved g c =
    let q = rw c.in-Ok.is at c.turn-t.ensures.conversed in
    (conversed_next _ _ _ _ _ _ _ _ _ _ c.loop.invariant.0 q, search rules, search rules)
