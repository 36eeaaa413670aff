-- `changing::operand` meets its contract: what is read of a slot's block is what the slot holds.
use mathlib.Core.Path.{◌≡◌, sym, ◌∙◌, ap, subst}
use Rattle.std.specs.Prelude.{Err}
use Rattle.higman.specs.Listing.{slot_number}
use Rattle.operations.specs.declared.Plan.{Plan}
use Rattle.slots.specs.Blocks.{InColumns, value_at}
use Rattle.slots.specs.Desks.{desk_of}
use Rattle.slots.specs.Refused.{outcome_of}
use Rattle.slots.proofs.Held.{slot_inside}
use Rattle.slots.proofs.Steps.{slot_below}
use Rattle.changing.specs.Operands.{HeldPlan}
use Rattle.changing.proofs.Operands.{read_none, read_plan}
use Rattle.changing.proofs.operand.Goals.{After-value-plan}
use Rattle.changing.proofs.operand.Goals as goal

pub value-plan-requires : goal.value-plan-requires
value-plan-requires c =
    let a = c.args in
    subst (λ i. InColumns i a.columns.now) (sym c.slot_number.ensures)
    (slot_inside a.head.now a.columns.now c.requires.holds_desk (slot_number a.a) (slot_below a.a c.requires.a_value))

-- what was read
value : (c : After-value-plan) → c.value-plan.result ≡ value_at c.args.head.now c.args.columns.now (slot_number c.args.a)
value c = c.value-plan.ensures ∙ ap (value_at c.args.head.now c.args.columns.now) c.slot_number.ensures

pub returns-then-plan-eq0 : goal.returns-then-plan-eq0
returns-then-plan-eq0 c =
    let a = c.args in
    let empty = ap (λ (v : Plan). v.pairs) (sym (value (goal.at.returns-then-plan-eq0 c).After-value-plan)) ∙ c.if-plan-eq0.true in
    read_none a.head.now a.columns.now a.a c.requires.a_value empty ∙ ap (λ f. outcome_of (Err f)) (sym c.into.ensures)

pub returns : goal.returns
returns c =
    let a = c.args in
    let same = value (goal.at.returns c).After-value-plan in
    subst (HeldPlan (desk_of a.head.now a.columns.now) a.a) (sym same)
    (read_plan a.head.now a.columns.now a.a c.requires.a_value c.requires.holds_desk
    (λ e. c.if-plan-eq0.false (ap (λ (v : Plan). v.pairs) same ∙ e)))
