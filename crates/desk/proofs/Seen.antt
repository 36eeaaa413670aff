-- What the named station sees of a slot is what the slot holds, where it can read the slot, and otherwise no plan.
use Prim.Native.Nat.{ℕ, zero, suc, ◌+◌, ◌≤◌}
use native.Mathlib.Omega.{arith}
use mathlib.Core.Path.{◌≡◌, refl, sym, ◌∙◌, ap}
use mathlib.Core.Bool.{Bool, true, false}
use mathlib.Core.List.{List, [], ◌∷◌}
use mathlib.Core.Option.{Option, none, some, none-ne-some}
use borrow.Author.Tests.{le-leb, leb-true}
use lib.ListN.{length, get_or}
use Rattle.higman.specs.Limits.{Plan}
use Rattle.desk.specs.Desk.{Desk, own_right, held, readable, seen_from, seen}

abbrev pub shown : Bool → Option Plan → Option Plan
shown b x = elim b [ true ↦ x | false ↦ none ]

seen_from_lem : (d : Desk) (k : ℕ) (l : List (Option Plan)) (i : ℕ) → get_or (seen_from d k l) i none ≡ shown (readable d (k + i)) (get_or l i none)
seen_from_lem d k [] i = nothing (readable d (k + i))
  where
    nothing : (b : Bool) → none ≡ shown b none
    nothing true = refl
    nothing false = refl
seen_from_lem d k (x ∷ l) zero = let here : k ≡ k + 0 = omega arith in ap (λ j. shown (readable d j) x) here
seen_from_lem d k (x ∷ l) (suc i) =
    let next : suc k + i ≡ k + suc i = omega arith in seen_from_lem d (suc k) l i ∙ ap (λ j. shown (readable d j) (get_or l i none)) next

seen_from_length : (d : Desk) (k : ℕ) (l : List (Option Plan)) → length (seen_from d k l) ≡ length l
seen_from_length d k [] = refl
seen_from_length d k (x ∷ l) = ap suc (seen_from_length d (suc k) l)

pub seen_length : (d : Desk) → length (seen d) ≡ length d.slots
unfolding seen
seen_length d = seen_from_length d 0 d.slots

module _ (d : Desk) (i : ℕ) where
  pub seen_at : get_or (seen d) i none ≡ shown (readable d i) (held d i)
  unfolding seen
  seen_at = let first : 0 + i ≡ i = omega arith in seen_from_lem d 0 d.slots i ∙ ap (λ j. shown (readable d j) (held d i)) first

  pub held_of_seen : (p : Plan) → get_or (seen d) i none ≡ some p → (held d i ≡ some p) × (1 ≤ own_right d i)
  held_of_seen p e = by (readable d i) refl (sym seen_at ∙ e)
    where
      by : (b : Bool) → readable d i ≡ b → shown b (held d i) ≡ some p → (held d i ≡ some p) × (1 ≤ own_right d i)
      by true r h = (h, leb-true 1 (own_right d i) r)
      by false r h = absurd (none-ne-some p h)

  pub seen_of_held : (p : Plan) → held d i ≡ some p → 1 ≤ own_right d i → get_or (seen d) i none ≡ some p
  seen_of_held p e r = seen_at ∙ ap (λ b. shown b (held d i)) (le-leb 1 (own_right d i) r) ∙ e
