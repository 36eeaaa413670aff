-- What a chain of iterators gives, in the words of the test: std's `all` is higman's, the numbers of a range are counted, and those of the
-- places of a list give the list.
use Prim.Native.Nat.{ℕ, zero, suc, ◌+◌, ◌≤◌}
use mathlib.Core.Path.{◌≡◌, refl, sym, ◌∙◌, ap}
use mathlib.Core.Bool.{Bool, true, false, ◌&&◌}
use mathlib.Core.List.{List, [], ◌∷◌, ◌++◌, map, append-nil}
use native.Mathlib.Numerals.{add-one}
use native.Mathlib.Omega.{arith}
use lib.ListN.{length, get_or, take, drop, drop_of_length-le}
use lib.Seq.{drop-cons}
use Rattle.std.specs.List.{list_all, range_with_len}
use Rattle.higman.specs.Words.{count}
use Rattle.higman.specs.Bases.{all}

pub all_same : {X : Type 0} (f : X → Bool) (l : List X) → list_all f l ≡ all f l
all_same f [] = refl
all_same f (x ∷ l) = by (f x) (list_all f l) ∙ ap (λ (r : Bool). elim (f x) as (λ _. Bool) [ true ↦ r | false ↦ false ]) (all_same f l)
  where
    by : (b r : Bool) → (b && r) ≡ elim b as (λ _. Bool) [ true ↦ r | false ↦ false ]
    by true r = refl
    by false r = refl

range_counted : (a n : ℕ) → range_with_len a n ≡ count a n
range_counted a zero = refl
range_counted a (suc n) = ap (λ l. a ∷ l) (range_counted (a + 1) n ∙ ap (λ b. count b n) (add-one a))

pub all_counted : (f : ℕ → Bool) (n : ℕ) → list_all f (range_with_len 0 n) ≡ all f (count 0 n)
all_counted f n = all_same f (range_with_len 0 n) ∙ ap (all f) (range_counted 0 n)

pub by_place : {A : Type 0} (l : List A) (z : A) (n a : ℕ) → a + n ≤ length l
    → drop a l ≡ map (λ i. get_or l i z) (count a n) ++ drop (a + n) l
by_place l z zero a h = let none : a ≡ a + 0 = omega arith in ap (λ k. drop k l) none
by_place l z (suc n) a h =
    let next : suc a + n ≡ a + suc n = omega arith in
    drop-cons l a z (omega arith) ∙ ap (λ r. get_or l a z ∷ r) (by_place l z n (suc a) (omega arith)
    ∙ ap (λ k. map (λ i. get_or l i z) (count (suc a) n) ++ drop k l) next)

pub all_places : {A : Type 0} (l : List A) (z : A) (n : ℕ) → length l ≡ n → map (λ i. get_or l i z) (count 0 n) ≡ l
all_places l z n h =
    sym (by_place l z n 0 (omega (arith, h)) ∙ ap (λ r. map (λ i. get_or l i z) (count 0 n) ++ r) (drop_of_length-le l (omega (arith, h)))
    ∙ append-nil (map (λ i. get_or l i z) (count 0 n)))

-- a test of the first elements is one of their places
all_from : {A : Type 0} (f : A → Bool) (l : List A) (z : A) (n a : ℕ) → a + n ≤ length l
    → all f (take n (drop a l)) ≡ all (λ i. f (get_or l i z)) (count a n)
all_from f l z zero a h = refl
all_from f l z (suc n) a h =
    ap (λ k. all f (take (suc n) k)) (drop-cons l a z (omega arith))
    ∙ ap (λ (r : Bool). elim (f (get_or l a z)) as (λ _. Bool) [ true ↦ r | false ↦ false ]) (all_from f l z n (suc a) (omega arith))

pub all_front : {A : Type 0} (f : A → Bool) (l : List A) (z : A) (n : ℕ) → n ≤ length l
    → all f (take n l) ≡ all (λ i. f (get_or l i z)) (count 0 n)
all_front f l z n h = all_from f l z n 0 (omega arith)
