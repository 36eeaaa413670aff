-- The sum over the slots (change request E8): what a slot holds is part of it; where one slot is written, what the slot held is taken off
-- and what it holds is put to it; and of a desk it is at most 1,024.
use Prim.Native.Nat.{ℕ, zero, suc, ◌+◌, ◌*◌, ◌≤◌, ◌<◌}
use native.Mathlib.Omega.{arith}
use native.Mathlib.Nat.{not-suc-le-zero, le_of_suc-le-suc, suc-mul}
use mathlib.Core.Path.{◌≡◌, refl}
use mathlib.Core.List.{List, [], ◌∷◌}
use mathlib.Core.Option.{Option, none, some}
use lib.Dec.{leb, leb→le}
use lib.ListN.{length, get_or, set, replicate}
use Rattle.higman.specs.Bases.{all}
use Rattle.higman.specs.Limits.{Plan, Kept, granted, pair_fits, max_pairs, slot_count}
use Rattle.higman.proofs.Tests.{and_left}
use Rattle.desk.specs.Desk.{Desk, pairs_of_slot, pairs_of_slots, IsDesk}

pub no_pairs_lem : (n : ℕ) → pairs_of_slots (replicate n none) ≡ 0
no_pairs_lem zero = refl
no_pairs_lem (suc n) = let rest = no_pairs_lem n in omega (arith, rest)

pub pairs_at_lem : (l : List (Option Plan)) (i : ℕ) → pairs_of_slot (get_or l i none) ≤ pairs_of_slots l
pairs_at_lem [] i = omega arith
pairs_at_lem (x ∷ l) zero = omega arith
pairs_at_lem (x ∷ l) (suc i) = let rest = pairs_at_lem l i in omega (arith, rest)

pub pairs_set : (l : List (Option Plan)) (i : ℕ) (x : Option Plan) → i < length l
    → pairs_of_slots (set l i x) + pairs_of_slot (get_or l i none) ≡ pairs_of_slots l + pairs_of_slot x
pairs_set [] i x h = absurd (not-suc-le-zero h)
pairs_set (y ∷ l) zero x h = omega arith
pairs_set (y ∷ l) (suc i) x h = let rest = pairs_set l i x (le_of_suc-le-suc h) in omega (arith, rest)

pub few_pairs : (p : Plan) → Kept p → length p.rows ≤ max_pairs
unfolding granted
few_pairs p k = leb→le (length p.rows) max_pairs (and_left (leb (length p.rows) max_pairs) (all pair_fits p.rows) k.within)

-- where no plan that is held has more pairs than some number, so many slots have no more than so many times the number
few_summed : (most : ℕ) (l : List (Option Plan)) → ((i : ℕ) (p : Plan) → get_or l i none ≡ some p → length p.rows ≤ most)
    → pairs_of_slots l ≤ length l * most
few_summed most [] k = omega arith
few_summed most (none ∷ l) k = let rest = few_summed most l (λ i. k (suc i)) in omega (arith, rest, suc-mul (length l) most)
few_summed most (some p ∷ l) k =
    let rest = few_summed most l (λ i. k (suc i)) in
    omega (arith, rest, k zero p refl, suc-mul (length l) most)

pub few_held : (d : Desk) → IsDesk d → d.control.pairs ≤ 1_024
unfolding slot_count max_pairs
few_held d D = omega (arith, D.summed, few_summed 128 d.slots (λ i p e. few_pairs p (D.kept i p e)), D.eight)
