-- A test of each of a list: of what the numbers of a column stand for, and of two lists, one behind the other.
use Prim.Native.Nat.{ℕ}
use mathlib.Core.Path.{◌≡◌, refl, ap}
use mathlib.Core.Bool.{Bool, true, false, ◌&&◌}
use mathlib.Core.List.{List, [], ◌∷◌, ◌++◌, map}
use Rattle.higman.specs.Bases.{all}

-- a test of what the numbers stand for is a test of the numbers
pub check_map : {A : Type 0} (f : A → Bool) (g : ℕ → A) (l : List ℕ) → all f (map g l) ≡ all (λ x. f (g x)) l
check_map f g [] = refl
check_map f g (x ∷ l) = ap (λ r. elim (f (g x)) as (λ _. Bool) [ true ↦ r | false ↦ false ]) (check_map f g l)

-- a test of two lists, one behind the other
pub check_append : {A : Type 0} (f : A → Bool) (l m : List A) → all f (l ++ m) ≡ (all f l && all f m)
check_append f [] m = refl
check_append f (x ∷ l) m = by (f x) (check_append f l m)
  where
    at_first : Bool → Bool → Bool
    at_first b r = elim b [ true ↦ r | false ↦ false ]

    by : (b : Bool) → all f (l ++ m) ≡ (all f l && all f m) → at_first b (all f (l ++ m)) ≡ (at_first b (all f l) && all f m)
    by true e = e
    by false e = refl
