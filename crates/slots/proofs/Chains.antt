-- A test of each number of a list, made by `all` of an iterator over it.
use Prim.Native.Nat.{ℕ, zero, suc, ◌<◌}
use mathlib.Core.Path.{◌≡◌, refl, sym}
use mathlib.Core.Bool.{Bool, true, false}
use mathlib.Core.List.{List, [], ◌∷◌}
use native.Mathlib.Omega.{arith}
use lib.ListN.{length, get_or}
use Rattle.std.specs.Bool.{MatchBool}
use Rattle.std.specs.List.{AllWithin, HoldsAt}
use Rattle.higman.specs.Bases.{all}

module _ (f : ℕ → Bool) where
  each_passes : (l : List ℕ) → ((k : ℕ) → k < length l → f (get_or l k 0) ≡ true) → all f l ≡ true
  each_passes [] h = refl
  each_passes (x ∷ l) h = rw (h zero (omega arith), all) (each_passes l (λ k b. h (suc k) (omega arith)))

  one_fails : (l : List ℕ) (k : ℕ) → k < length l → f (get_or l k 0) ≡ false → all f l ≡ false
  one_fails [] k b e = absurd (omega arith)
  one_fails (x ∷ l) zero b e = rw (e, all) refl
  one_fails (x ∷ l) (suc k) b e = by (f x) (one_fails l k (omega arith) e)
    where
      by : (t : Bool) → all f l ≡ false → elim t as (λ _. Bool) [ true ↦ all f l | false ↦ false ] ≡ false
      by true q = q
      by false q = refl

  -- what `all` answers, by the lemma `cases_from_all` on it
  pub all_told : (l : List ℕ) (r : Bool)
      → MatchBool r (AllWithin (λ x. f x ≡ true) l 0 (length l)) ((k : ℕ) × (k < length l) × HoldsAt (λ x. f x ≡ false) l k)
      → r ≡ all f l
  all_told l true h = sym (each_passes l (λ k b. h k 0 (omega arith) b))
  all_told l false (k, b, h) = sym (one_fails l k b (h 0))
