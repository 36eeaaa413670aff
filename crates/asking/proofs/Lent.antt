-- A slot's plan, lent in parts of the columns: the first places of the slot's block hold the plan that is kept there.
use Prim.Native.Nat.{ℕ, ◌≤◌, ◌<◌}
use mathlib.Core.Path.{◌≡◌, sym, ◌∙◌, ap, ap₂}
use mathlib.Core.Bool.{true}
use mathlib.Core.List.{List}
use mathlib.Core.Option.{Option, none, some}
use native.Mathlib.Omega.{arith}
use lib.ListN.{length, take, drop, length-drop}
use lib.Seq.{take-take, length-take-le}
use Rattle.higman.specs.Limits.{Plan, max_pairs, slot_count}
use Rattle.higman.specs.Listing.{is_slot, slot_number}
use Rattle.higman.specs.Answers.{is_kept}
use Rattle.higman.specs.Refusals.{slot_empty}
use Rattle.columns.specs.Packed.{table}
use Rattle.words.specs.Bytes.{shape}
use Rattle.tables.specs.Lines.{plan_of_columns}
use Rattle.desk.specs.Desk.{held}
use Rattle.desk.specs.Replies.{Outcome, refuse, pass, plan_in}
use Rattle.operations.specs.Plans.{plan_of}
use Rattle.operations.proofs.KeptValues.{is_kept_plan}
use Rattle.operations.proofs.Values.{few_in_table}
use Rattle.slots.specs.declared.Head.{Head}
use Rattle.slots.specs.Blocks.{InColumns, size_at, from_place, to_place, value_at}
use Rattle.slots.specs.Desks.{desk_of, HoldsDesk}
use Rattle.columns.proofs.Limits.{pair_limit}
use Rattle.slots.proofs.Held.{slots_eight, slot_empty_lem, slot_full, slot_plan, slot_inside}
use Rattle.slots.proofs.Steps.{slot_below}

-- a slot has no more pairs than places
pub few_pairs : (h : Head) (columns : List ℕ) → HoldsDesk h columns → (i : ℕ) → i < slot_count → (size_at h i).pairs ≤ max_pairs
unfolding value_at
few_pairs h columns H i k = few_in_table (value_at h columns i) (H.in_tables i k)

-- the plan of a slot, by the words at the first places of its columns
pub plan_lent : (h : Head) (columns : List ℕ) → HoldsDesk h columns → (i : ℕ) → i < slot_count → {from to : List ℕ}
    → from ≡ take (size_at h i).pairs (drop (from_place i) columns) → to ≡ take (size_at h i).pairs (drop (to_place i) columns)
    → plan_of (value_at h columns i) ≡ plan_of_columns (size_at h i).arity (size_at h i).roots from to
unfolding value_at
plan_lent h columns H i k f t =
    let z = size_at h i in
    let few = few_pairs h columns H i k in
    ap₂ (λ x y. record { shape = shape z.arity z.roots; rows = table x y })
    (take-take z.pairs max_pairs (drop (from_place i) columns) few ∙ sym f)
    (take-take z.pairs max_pairs (drop (to_place i) columns) few ∙ sym t)

-- a byte that names a slot of a desk, and the slot's number
module _ (h : Head) (columns : List ℕ) (H : HoldsDesk h columns) (slot : ℕ) (named : is_slot slot ≡ true) where
  abbrev looked : Option Plan → Outcome Plan
  looked o = elim o [ none ↦ refuse slot_empty none | some p ↦ pass p ]

  module _ (i : ℕ) (n : i ≡ slot_number slot) where
    below : i < slot_count
    below = omega (arith, slot_below slot named, n)

    pub in_blocks : i < 9
    in_blocks = omega (arith, below, slots_eight)

    pub block_inside : InColumns i columns
    block_inside = slot_inside h columns H i below

    pub few : (size_at h i).pairs ≤ max_pairs
    few = few_pairs h columns H i below

    pub none_there : (size_at h i).pairs ≡ 0 → plan_in (desk_of h columns) slot ≡ refuse slot_empty none
    none_there e = ap looked (ap (held (desk_of h columns)) (sym n) ∙ slot_empty_lem h columns i below e)

    -- the words that hold pairs stand at the first places of a column
    module _ {from to : List ℕ} (f : from ≡ take (size_at h i).pairs (drop (from_place i) columns)) (t : to ≡ take (size_at h i).pairs (drop (to_place i) columns)) where
      lent : plan_of (value_at h columns i) ≡ plan_of_columns (size_at h i).arity (size_at h i).roots from to
      lent = plan_lent h columns H i below f t

      pub lent_paired : length from ≡ length to
      lent_paired =
          let z = size_at h i in
          let from_long = length-take-le z.pairs (drop (from_place i) columns) (omega (arith, length-drop (from_place i) columns, few, pair_limit, in_blocks, H.sized)) in
          let to_long = length-take-le z.pairs (drop (to_place i) columns) (omega (arith, length-drop (to_place i) columns, few, pair_limit, in_blocks, H.sized)) in
          ap length f ∙ from_long ∙ sym to_long ∙ sym (ap length t)

      module _ (full : (size_at h i).pairs ≡ 0 → ⊥) where
        pub lent_kept : is_kept (plan_of_columns (size_at h i).arity (size_at h i).roots from to) ≡ true
        lent_kept = ap is_kept (sym lent) ∙ is_kept_plan (value_at h columns i) (slot_plan h columns H i below full)

        pub plan_there : plan_in (desk_of h columns) slot ≡ pass (plan_of_columns (size_at h i).arity (size_at h i).roots from to)
        plan_there = ap looked (ap (held (desk_of h columns)) (sym n) ∙ slot_full h columns i below full ∙ ap some lent)
