-- `slots::right` meets its contract: station 0 has 2, and the others have what is kept for them.
use mathlib.Core.Path.{sym, ◌∙◌, ap}
use Rattle.desk.specs.Limits.{max_right}
use Rattle.desk.specs.Desk.{right_of}
use Rattle.slots.specs.Desks.{control_of}
use Rattle.slots.proofs.Rows.{station_right, not_first}
use Rattle.slots.proofs.right.Goals as goal

pub returns-then-station-eq0 : goal.returns-then-station-eq0
unfolding max_right
returns-then-station-eq0 c =
    let a = c.args in
    sym (ap (λ s. right_of (control_of a.control).rights s a.slot) c.if-station-eq0.true)

pub returns : goal.returns
returns c =
    let a = c.args in
    c.at.ensures
    ∙ station_right a.control c.requires.is_control a.control.station a.slot (not_first a.control.station c.if-station-eq0.false)
    c.requires.is_control.named c.requires.named
