-- Lists with one place written, and rights (change request E6): the right that is given is there, every other is what it was, and rights stay
-- rights.
use Prim.Native.Nat.{ℕ, zero, suc, ◌-◌, ◌≤◌, ◌<◌, zero-le}
use native.Mathlib.Nat.{le_refl}
use native.Mathlib.Omega.{arith}
use mathlib.Core.Path.{◌≡◌, refl, sym, ◌∙◌, ap}
use mathlib.Core.List.{List, [], ◌∷◌}
use lib.ListN.{length, get_or, set, replicate, length-set, length-replicate}
use Rattle.higman.specs.Limits.{slot_count}
use Rattle.desk.specs.Limits.{station_count, max_right}
use Rattle.desk.specs.Desk.{Rights, fresh_rights, right_of, IsRights, right_given}

-- a list with one place written, and one that has the same at all places
pub set_here : {A : Type 0} (l : List A) (i : ℕ) (x z : A) → i < length l → get_or (set l i x) i z ≡ x
set_here [] i x z h = absurd (omega arith)
set_here (y ∷ l) zero x z h = refl
set_here (y ∷ l) (suc i) x z h = set_here l i x z (omega arith)

pub set_elsewhere : {A : Type 0} (l : List A) (i j : ℕ) (x z : A) → (i ≡ j → ⊥) → get_or (set l i x) j z ≡ get_or l j z
set_elsewhere [] i j x z h = refl
set_elsewhere (y ∷ l) zero zero x z h = absurd (h refl)
set_elsewhere (y ∷ l) zero (suc j) x z h = refl
set_elsewhere (y ∷ l) (suc i) zero x z h = refl
set_elsewhere (y ∷ l) (suc i) (suc j) x z h = set_elsewhere l i j x z (λ e. h (ap suc e))

pub replicated : {A : Type 0} (n i : ℕ) (x : A) → get_or (replicate n x) i x ≡ x
replicated zero i x = refl
replicated (suc n) zero x = refl
replicated (suc n) (suc i) x = replicated n i x

pub repeated_at : {A : Type 0} (n i : ℕ) (x z : A) → i < n → get_or (replicate n x) i z ≡ x
repeated_at zero i x z h = absurd (omega arith)
repeated_at (suc n) zero x z h = refl
repeated_at (suc n) (suc i) x z h = repeated_at n i x z (omega arith)

-- a right that is given to a station: it is the one that was given, and every other is what it was
set_below : (l : List ℕ) (i j x most : ℕ) → get_or l j 0 ≤ most → x ≤ most → get_or (set l i x) j 0 ≤ most
set_below [] i j x most h k = h
set_below (y ∷ l) zero zero x most h k = k
set_below (y ∷ l) zero (suc j) x most h k = h
set_below (y ∷ l) (suc i) zero x most h k = h
set_below (y ∷ l) (suc i) (suc j) x most h k = set_below l i j x most h k

-- the rights of a station in a list of them, with one of them set
abbrev row_set : Rights → ℕ → ℕ → ℕ → Rights
row_set l s i x = set l s (set (get_or l s []) i x)

row_length : (l : Rights) (s t i x : ℕ) → length (get_or (row_set l s i x) t []) ≡ length (get_or l t [])
row_length [] s t i x = refl
row_length (y ∷ l) zero zero i x = length-set y i x
row_length (y ∷ l) zero (suc t) i x = refl
row_length (y ∷ l) (suc s) zero i x = refl
row_length (y ∷ l) (suc s) (suc t) i x = row_length l s t i x

row_below : (l : Rights) (s t i j x : ℕ) → get_or (get_or l t []) j 0 ≤ max_right → x ≤ max_right
    → get_or (get_or (row_set l s i x) t []) j 0 ≤ max_right
row_below [] s t i j x h k = h
row_below (y ∷ l) zero zero i j x h k = set_below y i j x max_right h k
row_below (y ∷ l) zero (suc t) i j x h k = h
row_below (y ∷ l) (suc s) zero i j x h k = h
row_below (y ∷ l) (suc s) (suc t) i j x h k = row_below l s t i j x h k

row_here : (l : Rights) (s i x : ℕ) → s < length l → i < length (get_or l s []) → get_or (get_or (row_set l s i x) s []) i 0 ≡ x
row_here [] s i x h k = absurd (omega arith)
row_here (y ∷ l) zero i x h k = set_here y i x 0 k
row_here (y ∷ l) (suc s) i x h k = row_here l s i x (omega arith) k

row_elsewhere : (l : Rights) (s t i j x : ℕ) → ((t ≡ s) × (j ≡ i) → ⊥) → get_or (get_or (row_set l s i x) t []) j 0 ≡ get_or (get_or l t []) j 0
row_elsewhere [] s t i j x n = refl
row_elsewhere (y ∷ l) zero zero i j x n = set_elsewhere y i j x 0 (λ e. n (refl, sym e))
row_elsewhere (y ∷ l) zero (suc t) i j x n = refl
row_elsewhere (y ∷ l) (suc s) zero i j x n = refl
row_elsewhere (y ∷ l) (suc s) (suc t) i j x n = row_elsewhere l s t i j x (λ (e, f). n (ap suc e, f))

pub given_here : (rights : Rights) → IsRights rights → (s i x : ℕ) → 1 ≤ s → s < station_count → i < slot_count
    → right_of (right_given rights s i x) s i ≡ x
given_here rights h zero i x a b k = absurd (omega arith)
given_here rights h (suc s) i x a b k =
    let below : s < station_count - 1 = omega arith in
    row_here rights s i x (omega (arith, h.each_station)) (omega (arith, h.each_slot s below))

pub given_elsewhere : (rights : Rights) (s i x t j : ℕ) → ((t ≡ s) × (j ≡ i) → ⊥) → right_of (right_given rights s i x) t j
    ≡ right_of rights t j
given_elsewhere rights zero i x t j n = refl
given_elsewhere rights (suc s) i x zero j n = refl
given_elsewhere rights (suc s) i x (suc t) j n = row_elsewhere rights s t i j x (λ (e, f). n (ap suc e, f))

pub given_rights : (rights : Rights) → IsRights rights → (s i x : ℕ) → x ≤ max_right → IsRights (right_given rights s i x)
given_rights rights h zero i x k = h
given_rights rights h (suc s) i x k =
    record {
      each_station = length-set rights s (set (get_or rights s []) i x) ∙ h.each_station;
      each_slot = λ t b. row_length rights s t i x ∙ h.each_slot t b;
      within = within;
    }
  where
    within : (t j : ℕ) → right_of (right_given rights (suc s) i x) t j ≤ max_right
    within zero j = le_refl max_right
    within (suc t) j = row_below rights s t i j x (h.within (suc t) j) k

-- "Everyone starts with 2"
pub fresh_right : (s i : ℕ) → s < station_count → i < slot_count → right_of fresh_rights s i ≡ max_right
fresh_right zero i h k = refl
fresh_right (suc s) i h k = ap (λ l. get_or l i 0) (repeated_at (station_count - 1) s (replicate slot_count max_right) [] (omega arith))
    ∙ repeated_at slot_count i max_right 0 k

pub fresh_rights_lem : IsRights fresh_rights
fresh_rights_lem =
    record {
      each_station = length-replicate (station_count - 1) (replicate slot_count max_right);
      each_slot = λ s h. ap length (repeated_at (station_count - 1) s (replicate slot_count max_right) [] h)
          ∙ length-replicate slot_count max_right;
      within = within;
    }
  where
    repeated_below : (n i : ℕ) → get_or (replicate n max_right) i 0 ≤ max_right
    repeated_below zero i = zero-le
    repeated_below (suc n) zero = le_refl max_right
    repeated_below (suc n) (suc i) = repeated_below n i

    rows_below : (n s i : ℕ) → get_or (get_or (replicate n (replicate slot_count max_right)) s []) i 0 ≤ max_right
    rows_below zero s i = zero-le
    rows_below (suc n) zero i = repeated_below slot_count i
    rows_below (suc n) (suc s) i = rows_below n s i

    within : (s i : ℕ) → right_of fresh_rights s i ≤ max_right
    within zero i = le_refl max_right
    within (suc s) i = rows_below (station_count - 1) s i
