-- `changing::empty` meets its contract.
use Prim.Native.Nat.{ℕ, ◌≤◌, ◌<◌}
use mathlib.Core.Path.{◌≡◌, refl, sym, ◌∙◌, ap, ap₂, subst}
use mathlib.Core.Bool.{true}
use mathlib.Core.List.Memᴰ
use mathlib.Core.List.{[], ◌∷◌}
use native.Mathlib.Omega.{arith}
use Rattle.std.specs.Prelude.{Err}
use Rattle.higman.specs.Limits.{max_pairs, slot_count}
use Rattle.higman.specs.Listing.{is_slot, slot_number}
use Rattle.desk.specs.Records.{C, kind, writing}
use Rattle.operations.specs.declared.Plan.{Plan}
use Rattle.operations.specs.declared.refusals.Refusal.TheVariants.{SlotEmpty}
use Rattle.slots.specs.Works.{work_of}
use Rattle.slots.specs.Blocks.{size_at, value_at}
use Rattle.slots.specs.Desks.{desk_of}
use Rattle.slots.specs.Refused.{refused_for}
use Rattle.slots.proofs.Held.{slots_eight}
use Rattle.slots.proofs.Steps.{admitted_named, slot_below, returned, refused_by, refused_job}
use Rattle.changing.specs.Filling.{filled, filled_columns}
use Rattle.changing.proofs.Emptying.{blank_few, done_emptying}
use Rattle.changing.proofs.Operands.{read_none, empty_none}
use Rattle.changing.proofs.empty.Goals.{In_ok-admission, Else-head-i-eq0}
use Rattle.changing.proofs.empty.Goals as goal

-- the record is admitted, and so the byte names a slot
named : (c : In_ok-admission) → is_slot c.args.a ≡ true
unfolding kind
named c =
    let a = c.args in
    admitted_named (desk_of a.head.now a.columns.now) (C a.a) (c.in_ok-admission.ensures (C a.a) true a.columns.now refl) (writing a.a)
    (Memᴰ.head refl)

pub returns-in_err-admission-clause-done : goal.returns-in_err-admission-clause-done
unfolding kind
returns-in_err-admission-clause-done c = λ out.
    let a = c.args in
    refused_by a.head.now a.columns.now c.requires (C a.a) out [] (a.a ∷ []) true refl _ c.in_err-admission.ensures _
    (ap (work_of _) (returned _ _ c.from_residual.ensures.1))

pub slot_number-i-requires : goal.slot_number-i-requires
slot_number-i-requires c = named c

below : (c : In_ok-admission) (i : ℕ) → i ≡ slot_number c.args.a → i < slot_count
below c i q = subst (λ n. n < slot_count) (sym q) (slot_below c.args.a (named c))

pub bounds-head-i : goal.bounds-head-i
bounds-head-i c =
    omega (arith, slots_eight, below (goal.at.bounds-head-i c).In_ok-admission c.slot_number-i.result c.slot_number-i.ensures)

pub returns-then-head-i-eq0-clause-done : goal.returns-then-head-i-eq0-clause-done
unfolding kind value_at
returns-then-head-i-eq0-clause-done c = λ out.
    let a = c.args in
    let none = ap (λ i. (size_at a.head.now i).pairs) (sym c.slot_number-i.ensures) ∙ c.if-head-i-eq0.true in
    refused_job a.head.now a.columns.now c.requires (C a.a) out (c.in_ok-admission.ensures (C a.a) true a.columns.now refl)
    (refused_for SlotEmpty)
    (empty_none (desk_of a.head.now a.columns.now) a.a
    (read_none a.head.now a.columns.now a.a (named (goal.at.returns-then-head-i-eq0-clause-done c).In_ok-admission) none)) _ (ap Err c.into.ensures)

pub fill-requires : goal.fill-requires
fill-requires c =
    record {
      holds = c.requires;
      slot = below (goal.at.fill-requires c).In_ok-admission c.slot_number-i.result c.slot_number-i.ensures;
      few = subst (λ (p : Plan). p.pairs ≤ max_pairs) (sym c.blank.ensures) blank_few;
    }

-- the slot holds a plan
full : (c : Else-head-i-eq0) → (size_at c.args.head.now (slot_number c.args.a)).pairs ≡ 0 → ⊥
full c q = c.if-head-i-eq0.false (ap (λ i. (size_at c.args.head.now i).pairs) c.slot_number-i.ensures ∙ q)

pub returns-in_err-fill-clause-done : goal.returns-in_err-fill-clause-done
unfolding kind
returns-in_err-fill-clause-done c = λ out.
    let a = c.args in
    let at = goal.at.returns-in_err-fill-clause-done c in
    done_emptying a.head.now a.columns.now c.requires a.a (named at.In_ok-admission) (c.in_ok-admission.ensures (C a.a) true a.columns.now refl)
    (full at.Else-head-i-eq0) out _ (c.in_err-fill.ensures.value ∙ ap₂ (filled a.head.now) c.slot_number-i.ensures c.blank.ensures) _
    (c.in_err-fill.ensures.columns_after ∙ ap₂ (filled_columns a.head.now a.columns.now) c.slot_number-i.ensures c.blank.ensures) _
    (ap (work_of _) (returned _ _ c.from_residual-in_err-fill.ensures.1))

pub returns-clause-done : goal.returns-clause-done
unfolding kind
returns-clause-done c = λ out.
    let a = c.args in
    let at = goal.at.returns-clause-done c in
    done_emptying a.head.now a.columns.now c.requires a.a (named at.In_ok-admission) (c.in_ok-admission.ensures (C a.a) true a.columns.now refl)
    (full at.Else-head-i-eq0) out _ (c.in_ok-fill.ensures.value ∙ ap₂ (filled a.head.now) c.slot_number-i.ensures c.blank.ensures) _
    (c.in_ok-fill.ensures.columns_after ∙ ap₂ (filled_columns a.head.now a.columns.now) c.slot_number-i.ensures c.blank.ensures) _ refl
