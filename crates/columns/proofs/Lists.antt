-- Laws of lists that splits and shuffles lean on: a map and a part of a list, a map and a place that is written, and numbers in a row.
use Prim.Native.Nat.{ℕ, zero, suc, ◌+◌, ◌-◌}
use mathlib.Core.Path.{◌≡◌, refl, sym, ◌∙◌, ap}
use mathlib.Core.List.{List, [], ◌∷◌, ◌++◌, map}
use native.Mathlib.Omega.{arith}
use lib.ListN.{take, drop, set}
use lib.Seq.{take-nil}
use Rattle.higman.specs.Words.{count}

module _ {A B : Type 0} (f : A → B) where
  pub map_take : (n : ℕ) (l : List A) → map f (take n l) ≡ take n (map f l)
  map_take zero l = refl
  map_take (suc n) [] = refl
  map_take (suc n) (x ∷ l) = ap (λ k. f x ∷ k) (map_take n l)

  pub map_drop : (n : ℕ) (l : List A) → map f (drop n l) ≡ drop n (map f l)
  map_drop zero l = refl
  map_drop (suc n) [] = refl
  map_drop (suc n) (x ∷ l) = map_drop n l

  pub map_set : (l : List A) (i : ℕ) (a : A) → map f (set l i a) ≡ set (map f l) i (f a)
  map_set [] i a = refl
  map_set (x ∷ l) zero a = refl
  map_set (x ∷ l) (suc i) a = ap (λ k. f x ∷ k) (map_set l i a)

-- what is left of the first n behind the first k
pub drop_take : {A : Type 0} (k n : ℕ) (l : List A) → drop k (take n l) ≡ take (n - k) (drop k l)
drop_take zero n l = let all : n ≡ n - 0 = omega arith in ap (λ m. take m l) all
drop_take (suc k) zero l = let none : 0 ≡ 0 - suc k = omega arith in ap (λ m. take m (drop (suc k) l)) none
drop_take (suc k) (suc n) [] = sym (take-nil (suc n - suc k))
drop_take (suc k) (suc n) (x ∷ l) = let same : n - k ≡ suc n - suc k = omega arith in drop_take k n l ∙ ap (λ m. take m (drop k l)) same

-- one more number in a row
pub count_next : (a m : ℕ) → count a (suc m) ≡ count a m ++ ((a + m) ∷ [])
count_next a zero = let same : a ≡ a + 0 = omega arith in ap (λ i. i ∷ []) same
count_next a (suc m) =
    let same : suc a + m ≡ a + suc m = omega arith in
    ap (λ l. a ∷ l) (count_next (suc a) m ∙ ap (λ i. count (suc a) m ++ (i ∷ [])) same)
