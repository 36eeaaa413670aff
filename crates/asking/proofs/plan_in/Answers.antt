-- `asking::plan_in` meets its contract: the columns that are lent hold the plan of the slot.
use Prim.Native.Nat.{ℕ}
use denote.Ref.{Bor}
use mathlib.Core.Path.{sym, ◌∙◌, ap}
use mathlib.Core.List.{List}
use Rattle.higman.specs.Words.{Shape}
use Rattle.higman.specs.Limits.{Plan}
use Rattle.higman.specs.Answers.{is_kept}
use Rattle.columns.specs.Packed.{table}
use Rattle.desk.specs.Replies.{pass}
use Rattle.asking.proofs.Lent.{in_blocks, block_inside, few, none_there, lent_paired, lent_kept, plan_there}
use Rattle.asking.proofs.plan_in.Goals as goal

pub bounds-head-i : goal.bounds-head-i
bounds-head-i c =
    let a = c.args in
    in_blocks a.head.now a.columns.now c.requires.holds a.slot c.requires.named c.slot_number-i.result c.slot_number-i.ensures

pub returns-then-size-eq0 : goal.returns-then-size-eq0
returns-then-size-eq0 c =
    let a = c.args in
    none_there a.head.now a.columns.now c.requires.holds a.slot c.requires.named c.slot_number-i.result c.slot_number-i.ensures c.if-size-eq0.true

pub pairs-requires-clause-in_columns : goal.pairs-requires-clause-in_columns
pairs-requires-clause-in_columns c =
    let a = c.args in
    block_inside a.head.now a.columns.now c.requires.holds a.slot c.requires.named c.slot_number-i.result c.slot_number-i.ensures

pub pairs-requires-clause-few : goal.pairs-requires-clause-few
pairs-requires-clause-few c =
    let a = c.args in
    few a.head.now a.columns.now c.requires.holds a.slot c.requires.named c.slot_number-i.result c.slot_number-i.ensures

-- the shape that is lent is that of the slot
abbrev with_shape : Bor (List ℕ) × Bor (List ℕ) → Shape → Plan
with_shape l s = record { shape = s; rows = table l.0.now l.1.now }

pub invariant_of-result : goal.invariant_of-result
invariant_of-result c =
    let a = c.args in
    let i = c.slot_number-i.result in
    let from = c.pairs.ensures.from in
    let to = c.pairs.ensures.to in
    record {
      paired = lent_paired a.head.now a.columns.now c.requires.holds a.slot c.requires.named i c.slot_number-i.ensures from to;
      kept = ap (λ s. is_kept (with_shape c.pairs.result s)) c.shape-shape.ensures
          ∙ lent_kept a.head.now a.columns.now c.requires.holds a.slot c.requires.named i c.slot_number-i.ensures from to c.if-size-eq0.false;
    }

pub returns : goal.returns
returns c =
    let a = c.args in
    plan_there a.head.now a.columns.now c.requires.holds a.slot c.requires.named c.slot_number-i.result c.slot_number-i.ensures c.pairs.ensures.from
    c.pairs.ensures.to c.if-size-eq0.false
    ∙ sym (ap (λ s. pass (with_shape c.pairs.result s)) c.shape-shape.ensures)
