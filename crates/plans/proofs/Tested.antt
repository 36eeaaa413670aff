-- The test of a whole list: std's `all` of an iterator and the definition `all` are one.
use Prim.Native.Nat.{ℕ}
use mathlib.Core.Path.{◌≡◌, refl, ◌∙◌, sym, ap}
use mathlib.Core.Bool.{Bool, true, false, ◌&&◌}
use mathlib.Core.List.{List, [], ◌∷◌, map}
use Rattle.std.specs.List.{list_all}
use Rattle.higman.specs.Bases.{all}
use Rattle.words.proofs.Checks.{check_map}

both : (b r : Bool) → (b && r) ≡ (elim b as (λ _. Bool) [ true ↦ r | false ↦ false ])
both true r = refl
both false r = refl

pub tested : {A : Type 0} (f : A → Bool) (l : List A) → list_all f l ≡ all f l
tested f [] = refl
tested f (x ∷ l) = both (f x) (list_all f l) ∙ ap (λ r. elim (f x) as (λ _. Bool) [ true ↦ r | false ↦ false ]) (tested f l)

-- a test of what the numbers stand for
pub tested_map : {A : Type 0} (f : A → Bool) (g : ℕ → A) (l : List ℕ) → list_all (λ x. f (g x)) l ≡ all f (map g l)
tested_map f g l = tested (λ x. f (g x)) l ∙ sym (check_map f g l)
