-- The stored sum of a desk in code (change request E8): the pairs of a slot are part of it, and eight slots have so few that one change
-- more leaves it within 16 bits.
use Prim.Native.Nat.{ℕ, ◌≤◌, ◌<◌}
use mathlib.Core.Path.{◌≡◌}
use mathlib.Core.Bool.{false}
use mathlib.Core.List.{List}
use native.Mathlib.Omega.{arith}
use Rattle.higman.specs.Limits.{max_pairs, slot_count}
use Rattle.desk.proofs.Sums.{pairs_at_lem, few_held}
use Rattle.columns.proofs.Limits.{pair_limit}
use Rattle.slots.specs.declared.Head.{Head}
use Rattle.slots.specs.Blocks.{size_at}
use Rattle.slots.specs.Desks.{slots_of, full_in, Countable, desk_of, HoldsDesk}
use Rattle.slots.proofs.Held.{control_held, slot_pairs}

module _ (h : Head) (columns : List ℕ) (H : HoldsDesk h columns) where
  few_stored : h.control.pairs ≤ 1_024
  unfolding desk_of
  few_stored = few_held (desk_of h columns) H.is_desk_lem

  slot_summed : (i : ℕ) → i < slot_count → (size_at h i).pairs ≤ h.control.pairs
  unfolding desk_of
  slot_summed i k = omega (arith, pairs_at_lem (slots_of h columns) i, slot_pairs h columns H i k, H.is_desk_lem.summed)

  -- a change may be counted that puts no more pairs into a slot than it has places
  pub countable : full_in h.control ≡ false → (i : ℕ) → i < slot_count → (kept : ℕ) → kept ≤ max_pairs
      → Countable h.control (size_at h i).pairs kept
  countable room i k kept few =
      record {
        is_control = control_held h columns H;
        room = room;
        held = slot_summed i k;
        fits = omega (arith, few_stored, few, pair_limit);
      }
