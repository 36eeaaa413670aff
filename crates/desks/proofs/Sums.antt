-- The pairs of all slots by their sizes: added up slot by slot, and the sum over the slots of the desk.
use Prim.Native.Nat.{ℕ, zero, suc, ◌+◌, ◌-◌, ◌*◌, ◌^◌, ◌≤◌, ◌<◌}
use mathlib.Core.Path.{◌≡◌, refl, sym, ◌∙◌, ap, ap₂}
use mathlib.Core.List.{List, map}
use native.Mathlib.Numerals.{add-one}
use native.Mathlib.Omega.{arith}
use lib.Dec.{T}
use lib.ListN.{length, take, drop}
use lib.Seq.{drop-cons}
use Rattle.std.specs.List.{sum_by}
use Rattle.std.proofs.lemmas.List.Sums.{sum_by-cons}
use Rattle.higman.specs.Words.{count}
use Rattle.higman.specs.Limits.{slot_count}
use Rattle.desk.specs.Desk.{pairs_of_slots}
use Rattle.operations.specs.Plans.{in_table}
use Rattle.slots.specs.declared.Size.{Size}
use Rattle.slots.specs.declared.Head.{Head}
use Rattle.columns.proofs.Limits.{pair_limit}
use Rattle.slots.specs.Blocks.{InColumns, columns_size, no_size, size_at, value_at}
use Rattle.slots.specs.Desks.{slot_at, slots_of}
use Rattle.slots.proofs.Held.{slots_eight, block_pairs}
use Rattle.desks.specs.Tested.{FewPairs, sizes_from, sizes_sum}

-- the pairs of the slots that are left, from one of the eight on
module _ (h : Head) (i : ℕ) where
  pub sizes_left : i < 8 → sizes_from h i (8 - i) ≡ (size_at h i).pairs + sizes_from h (i + 1) (8 - (i + 1))
  sizes_left b =
      let one : 8 - i ≡ suc (7 - i) = omega (arith, b) in
      let next : 7 - i ≡ 8 - (i + 1) = omega (arith, b) in
      ap (sizes_from h i) one ∙ ap₂ (λ j n. (size_at h i).pairs + sizes_from h j n) (sym (add-one i)) next

-- the pairs of the slots that are left, and of all slots, as they stand in the list of sizes
abbrev pairs_in : List Size → ℕ
pairs_in l = sum_by (λ (s : Size). s.pairs) l

module _ (h : Head) where
  sizes_listed : (i n : ℕ) → i + n ≤ length h.sizes → pairs_in (take n (drop i h.sizes)) ≡ sizes_from h i n
  sizes_listed i zero b = refl
  sizes_listed i (suc n) b =
      ap (λ l. pairs_in (take (suc n) l)) (drop-cons h.sizes i no_size (omega arith))
      ∙ sum_by-cons (λ (s : Size). s.pairs) (size_at h i) (take n (drop (suc i) h.sizes))
      ∙ ap (λ k. (size_at h i).pairs + k) (sizes_listed (suc i) n (omega arith))

  pub sizes_taken : 8 ≤ length h.sizes → pairs_in (take 8 h.sizes) ≡ sizes_sum h
  unfolding sizes_sum slot_count
  sizes_taken b = sizes_listed 0 8 b

  sizes_below : FewPairs h → (i n : ℕ) → i + n ≤ slot_count → sizes_from h i n ≤ n * 128
  sizes_below few i zero b = omega arith
  sizes_below few i (suc n) b = omega (arith, pair_limit, few i (omega arith), sizes_below few (suc i) n (omega arith))

  pub sizes_small : FewPairs h → 8 ≤ length h.sizes → pairs_in (take 8 h.sizes) < 2 ^ 64
  unfolding sizes_sum slot_count
  sizes_small few b = omega (arith, sizes_taken b, sizes_below few 0 8 (omega arith))

-- what the slots hold has these pairs, where they are in their tables
module _ (h : Head) (columns : List ℕ) (sized : length columns ≡ columns_size)
    (tables : (i : ℕ) → i < slot_count → T (in_table (value_at h columns i))) where
  held_sizes : (i n : ℕ) → i + n ≤ slot_count → pairs_of_slots (map (slot_at h columns) (count i n)) ≡ sizes_from h i n
  held_sizes i zero b = refl
  held_sizes i (suc n) b =
      let below : i < slot_count = omega (arith, b) in
      let inside : InColumns i columns = record { block = omega (arith, below, slots_eight); sized = sized } in
      ap₂ ◌+◌ (block_pairs h columns i inside (tables i below)) (held_sizes (suc i) n (omega (arith, b)))

  pub held_sum : pairs_of_slots (slots_of h columns) ≡ sizes_sum h
  unfolding sizes_sum
  held_sum = held_sizes 0 slot_count (omega arith)
