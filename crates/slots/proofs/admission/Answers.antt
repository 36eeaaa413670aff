-- `slots::admission` meets its contract: each test ends it with its refusal.
use mathlib.Core.Path.{sym, ◌∙◌, refl}
use native.Mathlib.Omega.{arith}
use Rattle.desk.specs.Limits.{max_right}
use Rattle.slots.proofs.Held.{control_held}
use Rattle.slots.proofs.Steps.{admission_open, admission_outside, admission_denied, admission_passed}
use Rattle.slots.proofs.admission.Goals.{then-not-are_slots-via-then-not-are_slots}
use Rattle.slots.proofs.admission.Goals.{then-not-are_slots-via-else-not-are_slots+then-not-are_slots-2}
use Rattle.slots.proofs.admission.Goals.{then-not-are_allowed-via-then-not-are_allowed}
use Rattle.slots.proofs.admission.Goals.{then-not-are_allowed-via-else-not-are_allowed+then-not-are_allowed-2}
use Rattle.slots.proofs.admission.Goals as goal

pub returns-then-is_some : goal.returns-then-is_some
returns-then-is_some c =
    let a = c.args in rw c.into.ensures (admission_open a.head.now a.reads.now a.targets.now (sym c.is_some.ensures ∙ c.if-is_some.true))

pub returns-then-not-are_slots : goal.returns-then-not-are_slots
returns-then-not-are_slots c =
    let a = c.args in
    let closed = sym c.is_some.ensures ∙ c.if-is_some.false in
    rw c.into-then-not-are_slots.ensures
    (elim c.then-not-are_slots.branch [
      | then-not-are_slots-via-then-not-are_slots w ↦
          admission_outside a.head.now a.reads.now a.targets.now closed (sym c.are_slots.ensures ∙ w.if-not-are_slots.true) refl refl
      | then-not-are_slots-via-else-not-are_slots+then-not-are_slots-2 w ↦
          admission_outside a.head.now a.reads.now a.targets.now closed (sym c.are_slots.ensures ∙ w.if-not-are_slots.false)
          (sym w.are_slots-else-not-are_slots.ensures ∙ w.if-not-are_slots-2.true) refl
    ])

pub are_allowed-requires : goal.are_allowed-requires
unfolding max_right
are_allowed-requires c =
    let a = c.args in
    record {
      is_control = control_held a.head.now c.requires.0 c.requires.1;
      named = sym c.are_slots.ensures ∙ c.if-not-are_slots.false;
      fits = omega arith;
    }

pub are_allowed-requires-else-not-are_allowed : goal.are_allowed-requires-else-not-are_allowed
unfolding max_right
are_allowed-requires-else-not-are_allowed c =
    let a = c.args in
    record {
      is_control = control_held a.head.now c.requires.0 c.requires.1;
      named = sym c.are_slots-else-not-are_slots.ensures ∙ c.if-not-are_slots-2.false;
      fits = omega arith;
    }

pub returns-then-not-are_allowed : goal.returns-then-not-are_allowed
returns-then-not-are_allowed c =
    let a = c.args in
    let closed = sym c.is_some.ensures ∙ c.if-is_some.false in
    let reads = sym c.are_slots.ensures ∙ c.if-not-are_slots.false in
    let targets = sym c.are_slots-else-not-are_slots.ensures ∙ c.if-not-are_slots-2.false in
    rw c.into-then-not-are_allowed.ensures
    (elim c.then-not-are_allowed.branch [
      | then-not-are_allowed-via-then-not-are_allowed w ↦
          admission_denied a.head.now a.reads.now a.targets.now closed reads targets
          (sym c.are_allowed.ensures ∙ w.if-not-are_allowed.true) refl refl
      | then-not-are_allowed-via-else-not-are_allowed+then-not-are_allowed-2 w ↦
          admission_denied a.head.now a.reads.now a.targets.now closed reads targets
          (sym c.are_allowed.ensures ∙ w.if-not-are_allowed.false)
          (sym w.are_allowed-else-not-are_allowed.ensures ∙ w.if-not-are_allowed-2.true) refl
    ])

pub returns : goal.returns
returns c =
    let a = c.args in
    admission_passed a.head.now a.reads.now a.targets.now (sym c.is_some.ensures ∙ c.if-is_some.false)
    (sym c.are_slots.ensures ∙ c.if-not-are_slots.false) (sym c.are_slots-else-not-are_slots.ensures ∙ c.if-not-are_slots-2.false)
    (sym c.are_allowed.ensures ∙ c.if-not-are_allowed.false)
    (sym c.are_allowed-else-not-are_allowed.ensures ∙ c.if-not-are_allowed-2.false)
