-- Emptying a slot that holds a plan: no plan is put into it, and the change is done.
use Prim.Native.Nat.{ℕ, ◌-◌, ◌≤◌}
use mathlib.Core.Path.{◌≡◌, refl, sym, ◌∙◌, ap}
use mathlib.Core.Bool.{true}
use mathlib.Core.List.{List}
use mathlib.Core.Option.{none}
use native.Mathlib.Omega.{arith}
use lib.Dec.{T}
use lib.ListN.{length, length-replicate}
use Rattle.std.specs.Prelude.{Result}
use Rattle.higman.specs.Limits.{max_pairs}
use Rattle.higman.specs.Listing.{is_slot, slot_number}
use Rattle.desk.specs.Desk.{changed}
use Rattle.desk.specs.Records.{C, kind}
use Rattle.desk.specs.Replies.{pass, ok, admission}
use Rattle.operations.specs.Plans.{in_table, blank, plan_of}
use Rattle.slots.specs.declared.Head.{Head}
use Rattle.slots.specs.declared.Refused.{Refused}
use Rattle.slots.specs.declared.Reply.TheVariants.{Ok}
use Rattle.slots.specs.Blocks.{size_at, value_at}
use Rattle.slots.specs.Desks.{held_by, desk_of, HoldsDesk}
use Rattle.slots.specs.Works.{Work, Done}
use Rattle.slots.proofs.Steps.{slot_below}
use Rattle.changing.specs.Filling.{filled, filled_columns}
use Rattle.changing.proofs.Filling.{replying, done_filling}
use Rattle.changing.proofs.Operands.{read_plan, empty_done}

-- no plan, as it stands in a block
blank_from : length blank.from ≡ max_pairs
unfolding blank
blank_from = length-replicate {A = ℕ} (max_pairs - 0) 0 ∙ omega arith

blank_to : length blank.to ≡ max_pairs
unfolding blank
blank_to = length-replicate {A = ℕ} (max_pairs - 0) 0 ∙ omega arith

blank_held : held_by blank ≡ none
unfolding blank
blank_held = refl

blank_table : T (in_table blank)
unfolding blank in_table max_pairs
blank_table = tt

pub blank_few : blank.pairs ≤ max_pairs
unfolding blank
blank_few = omega arith

pub done_emptying : (h : Head) (columns : List ℕ) → HoldsDesk h columns → (a : ℕ) → is_slot a ≡ true
    → admission (desk_of h columns) (C a) ≡ pass tt → ((size_at h (slot_number a)).pairs ≡ 0 → ⊥) → (out : List ℕ) (w : Result Head Refused) → w ≡ filled h (slot_number a) blank
    → (columns' : List ℕ) → columns' ≡ filled_columns h columns (slot_number a) blank → (result : Result Work Refused)
    → result ≡ replying Ok w → Done (C a) h columns out result columns' out
unfolding kind value_at
done_emptying h columns H a named admitted full out w e columns' q result s =
    let d = desk_of h columns in
    let i = slot_number a in
    let empties = empty_done d a (plan_of (value_at h columns i)) (read_plan h columns a named H full).there
    ∙ ap (λ p. pass (changed d i p, ok)) (sym blank_held) in
    done_filling h columns H i (slot_below a named) blank blank_from blank_to blank_table (C a) admitted refl ok empties refl Ok refl
    out w e columns' q result s
