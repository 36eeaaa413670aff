-- `stations::grant` meets its contract: each test of G ends it with its refusal, and otherwise the right is given.
use mathlib.Core.Path.{◌≡◌, refl, sym, ◌∙◌, ap, subst}
use Prim.Native.Nat.{◌≤◌, ◌<◌}
use Rattle.std.specs.Prelude.{Err}
use Rattle.higman.specs.Limits.{slot_count}
use Rattle.higman.specs.Listing.{slot_number}
use Rattle.desk.specs.Limits.{station_count, max_right}
use Rattle.desk.specs.Desk.{IsDesk, with_right}
use Rattle.desk.specs.Records.{G, right_number, kind}
use Rattle.desk.specs.Replies.{Effect, ok}
use Rattle.operations.specs.declared.refusals.Refusal.TheVariants as The
use Rattle.slots.specs.Blocks.{given_in}
use Rattle.slots.specs.Desks.{desk_of, HoldsDesk}
use Rattle.slots.specs.Refused.{refused_for}
use Rattle.slots.proofs.Rows.{not_first}
use Rattle.slots.proofs.Steps.{slot_below, refused_admission, refused_job, at_end, done_passed}
use Rattle.stations.proofs.Naming.{with_control}
use Rattle.stations.proofs.Granting.{numbered, no_such_right, as_record, grant_open, grant_station, grant_slot, grant_passed}
use Rattle.stations.proofs.Granting.{from_another, for_first, from_first, given_desk, holds_given}
use Rattle.stations.proofs.grant.Goals.{Else-station-eq0}
use Rattle.stations.proofs.grant.Goals as goal

pub returns-then-right-gt-WRITE-clause-done : goal.returns-then-right-gt-WRITE-clause-done
returns-then-right-gt-WRITE-clause-done c = λ columns out H.
    let a = c.args in
    no_such_right a.head.now columns H a.station a.slot a.right out c.if-right-gt-WRITE.true _ (ap Err c.into.ensures)

pub returns-then-is_some-clause-done : goal.returns-then-is_some-clause-done
returns-then-is_some-clause-done c = λ columns out H.
    let a = c.args in
    let n = numbered a.right c.if-right-gt-WRITE.false in
    as_record a.head.now columns H a.station a.slot a.right out n _
    (refused_admission a.head.now columns H (G a.station a.slot n.right) out (refused_for The.WrongState)
    (grant_open a.head.now columns a.station a.slot n.right (sym c.is_some.ensures ∙ c.if-is_some.true)) _
    (ap Err c.into-then-is_some.ensures))

pub returns-then-station-ge-STATIONS-clause-done : goal.returns-then-station-ge-STATIONS-clause-done
returns-then-station-ge-STATIONS-clause-done c = λ columns out H.
    let a = c.args in
    let n = numbered a.right c.if-right-gt-WRITE.false in
    as_record a.head.now columns H a.station a.slot a.right out n _
    (refused_admission a.head.now columns H (G a.station a.slot n.right) out (refused_for The.StationOutside)
    (grant_station a.head.now columns a.station a.slot n.right (sym c.is_some.ensures ∙ c.if-is_some.false) c.if-station-ge-STATIONS.true) _
    (ap Err c.into-then-station-ge-STATIONS.ensures))

pub returns-then-not-is_slot-clause-done : goal.returns-then-not-is_slot-clause-done
returns-then-not-is_slot-clause-done c = λ columns out H.
    let a = c.args in
    let n = numbered a.right c.if-right-gt-WRITE.false in
    as_record a.head.now columns H a.station a.slot a.right out n _
    (refused_admission a.head.now columns H (G a.station a.slot n.right) out (refused_for The.SlotOutside)
    (grant_slot a.head.now columns a.station a.slot n.right (sym c.is_some.ensures ∙ c.if-is_some.false) c.if-station-ge-STATIONS.false
    (sym c.is_slot.ensures ∙ c.if-not-is_slot.true)) _ (ap Err c.into-then-not-is_slot.ensures))

pub returns-then-head-ne0-clause-done : goal.returns-then-head-ne0-clause-done
returns-then-head-ne0-clause-done c = λ columns out H.
    let a = c.args in
    let n = numbered a.right c.if-right-gt-WRITE.false in
    let passed = grant_passed a.head.now columns a.station a.slot n.right (sym c.is_some.ensures ∙ c.if-is_some.false)
    c.if-station-ge-STATIONS.false (sym c.is_slot.ensures ∙ c.if-not-is_slot.false) in
    as_record a.head.now columns H a.station a.slot a.right out n _
    (refused_job a.head.now columns H (G a.station a.slot n.right) out passed (refused_for The.StationRefused)
    (from_another a.head.now columns a.station a.slot n.right c.if-head-ne0.true) _ (ap Err c.into-then-head-ne0.ensures))

pub returns-then-station-eq0-clause-done : goal.returns-then-station-eq0-clause-done
returns-then-station-eq0-clause-done c = λ columns out H.
    let a = c.args in
    let n = numbered a.right c.if-right-gt-WRITE.false in
    let passed = grant_passed a.head.now columns a.station a.slot n.right (sym c.is_some.ensures ∙ c.if-is_some.false)
    c.if-station-ge-STATIONS.false (sym c.is_slot.ensures ∙ c.if-not-is_slot.false) in
    as_record a.head.now columns H a.station a.slot a.right out n _
    (refused_job a.head.now columns H (G a.station a.slot n.right) out passed (refused_for The.StationRefused)
    (for_first a.head.now columns a.station a.slot n.right c.if-station-eq0.true) _ (ap Err c.into-then-station-eq0.ensures))

-- where a right is given
other : (c : Else-station-eq0) → 1 ≤ c.args.station
other c = not_first c.args.station c.if-station-eq0.false

known : (c : Else-station-eq0) → c.args.station < station_count
unfolding station_count
known c = c.if-station-ge-STATIONS.false

fits : (c : Else-station-eq0) → c.args.right ≤ max_right
unfolding max_right
fits c = c.if-right-gt-WRITE.false

pub given-head-requires : goal.given-head-requires
given-head-requires c =
    let slot = slot_below c.args.slot (sym c.is_slot.ensures ∙ c.if-not-is_slot.false) in
    let b = (goal.at.given-head-requires c).Else-station-eq0 in
    record {
      other = other b;
      known = known b;
      given = record { named = subst (λ i. i < slot_count) (sym c.slot_number-i.ensures) slot; fits = fits b };
    }

pub returns-clause-done : goal.returns-clause-done
unfolding kind
returns-clause-done c = λ columns out H.
    let a = c.args in
    let h = a.head.now in
    let d = desk_of h columns in
    let n = numbered a.right c.if-right-gt-WRITE.false in
    let b = (goal.at.returns-clause-done c).Else-station-eq0 in
    let i = slot_number a.slot in
    let next : Effect = (with_right d a.station i (right_number n.right), ok) in
    let passed = grant_passed h columns a.station a.slot n.right (sym c.is_some.ensures ∙ c.if-is_some.false)
    c.if-station-ge-STATIONS.false (sym c.is_slot.ensures ∙ c.if-not-is_slot.false) in
    let done = from_first h columns a.station a.slot n.right c.if-head-ne0.false c.if-station-eq0.false in
    let step = at_end d (G a.station a.slot n.right) passed next done refl in
    let head = ap (with_control h) (c.given-head.ensures ∙ ap (λ j. given_in h.control a.station j a.right) c.slot_number-i.ensures) in
    let same : with_right d a.station i a.right ≡ next.0 = ap (with_right d a.station i) (sym n.number) in
    let desk = ap (λ x. desk_of x columns) head ∙ given_desk h columns H a.station i a.right (other b) (known b) (fits b) in
    as_record h columns H a.station a.slot a.right out n _
    (done_passed h columns H (G a.station a.slot n.right) out next step _ columns out
    (λ D. subst (λ x. HoldsDesk x columns) (sym head)
    (holds_given h columns H a.station i a.right (other b) (known b) (fits b) (subst IsDesk (sym same) D)))
    (desk ∙ same) refl refl)
