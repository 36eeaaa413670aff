-- `desk_core::feeding::finish` meets its contract: a line that has begun is answered, whether or not it is too long, and otherwise there is
-- nothing to answer.
use mathlib.Core.Path.{◌≡◌}
use mathlib.Core.Bool.{false}
use borrow.Author.Tests.{not-true, not-false}
use Rattle.desk.specs.Session.{is_idle}
use Rattle.desk_core.specs.Feeding.{state_of}
use Rattle.desk_core.proofs.Ended.{finished_line, finished_idle, ended_overlong, ended_begun}
use Rattle.desk_core.proofs.feeding.finish.Goals.{else-state-eq0-via-then-state-eq0+else-not-state, else-state-eq0-via-else-state-eq0}
use Rattle.desk_core.proofs.feeding.finish.Goals as goal

pub returns-then-not-state : goal.returns-then-not-state
returns-then-not-state c =
    let s = c.args.state in
    finished_idle s c.args.out.now c.requires.state c.dropped.result c.dropped.ensures (not-true s.overlong c.if-not-state.true) c.if-state-eq0.true

pub returns : goal.returns
unfolding state_of
returns c =
    let s = c.args.state in
    let begun : is_idle (state_of s) ≡ false = elim c.else-state-eq0.branch [
      | else-state-eq0-via-then-state-eq0+else-not-state w ↦ ended_overlong s (not-false s.overlong w.if-not-state.false)
      | else-state-eq0-via-else-state-eq0 w ↦ ended_begun s c.requires.state w.if-state-eq0.false
    ] in
    finished_line s c.args.out.now c.last_line.result c.last_line.new.out begun c.last_line.ensures
