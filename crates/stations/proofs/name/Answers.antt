-- `stations::name` meets its contract.
use mathlib.Core.Path.{refl, sym, ◌∙◌, ap, subst}
use Rattle.std.specs.Prelude.{Err}
use Rattle.desk.specs.Desk.{at_station}
use Rattle.desk.specs.Records.{Z, kind}
use Rattle.desk.specs.Replies.{Effect, ok, job}
use Rattle.operations.specs.declared.refusals.Refusal.TheVariants as The
use Rattle.slots.specs.Desks.{desk_of, HoldsDesk}
use Rattle.slots.specs.Refused.{refused_for}
use Rattle.slots.proofs.Steps.{refused_admission, at_end, done_passed}
use Rattle.stations.proofs.Naming.{with_control, named_desk, holds_named, name_open, name_outside, name_passed}
use Rattle.stations.proofs.name.Goals as goal

pub returns-then-is_some-clause-done : goal.returns-then-is_some-clause-done
returns-then-is_some-clause-done c = λ columns out H.
    let a = c.args in
    refused_admission a.head.now columns H (Z a.station) out (refused_for The.WrongState)
    (name_open a.head.now columns a.station (sym c.is_some.ensures ∙ c.if-is_some.true)) _ (ap Err c.into.ensures)

pub returns-then-station-ge-STATIONS-clause-done : goal.returns-then-station-ge-STATIONS-clause-done
returns-then-station-ge-STATIONS-clause-done c = λ columns out H.
    let a = c.args in
    refused_admission a.head.now columns H (Z a.station) out (refused_for The.StationOutside)
    (name_outside a.head.now columns a.station (sym c.is_some.ensures ∙ c.if-is_some.false) c.if-station-ge-STATIONS.true) _
    (ap Err c.into-then-station-ge-STATIONS.ensures)

pub returns-clause-done : goal.returns-clause-done
unfolding kind job
returns-clause-done c = λ columns out H.
    let a = c.args in
    let h = a.head.now in
    let d = desk_of h columns in
    let next : Effect = (at_station d a.station, ok) in
    let passed = name_passed h columns a.station (sym c.is_some.ensures ∙ c.if-is_some.false) c.if-station-ge-STATIONS.false in
    let step = at_end d (Z a.station) passed next refl refl in
    let head = ap (with_control h) c.named-head.ensures in
    let desk = ap (λ x. desk_of x columns) head ∙ named_desk h columns a.station in
    done_passed h columns H (Z a.station) out next step _ columns out
    (λ k. subst (λ x. HoldsDesk x columns) (sym head) (holds_named h columns a.station H k)) desk refl refl
