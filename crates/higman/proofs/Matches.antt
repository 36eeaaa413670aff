-- Laws of `first_match`: the search stops at the first place whose word begins w, and what it gives is made of that place, the thing that
-- stands there and the tail, whatever is made of them. Images and places in columns are instances.
use Prim.Native.Nat.{ℕ, zero, suc, ◌≤◌, ◌<◌}
use mathlib.Core.Path.{◌≡◌, refl, ap}
use mathlib.Core.Logic.{◌⊎◌, inl, inr}
use mathlib.Core.Bool.{true, false}
use mathlib.Core.List.{List, [], ◌∷◌, map}
use mathlib.Core.Option.{Option, none, some}
use native.Mathlib.Omega.{arith}
use lib.ListN.{length, get_or}
use Rattle.higman.specs.Words.{Word, after, given, begins}
use Rattle.higman.specs.Tables.{first_match}
use Rattle.higman.proofs.Tests.{passes, clash}

pub after_none : (p w : Word) → begins p w ≡ false → after p w ≡ none
after_none p w f = by_tail (after p w) f
  where
    by_tail : (o : Option Word) → given o ≡ false → o ≡ none
    by_tail none e = refl
    by_tail (some x) e = absurd (clash refl e)

-- r is the first place of a list whose word begins w, or the length of the list where no word of it does
pub record FirstAt {A : Type 0} (word : A → Word) (default : A) (l : List A) (w : Word) (r : ℕ) : Type 0 where
  pub within : r ≤ length l
  pub earlier : (j : ℕ) → j < r → begins (word (get_or l j default)) w ≡ false
  pub found : r < length l → begins (word (get_or l r default)) w ≡ true

module _ {A : Type 0} (word : A → Word) (default : A) where
  first_later : (x : A) (l : List A) (w : Word) (r : ℕ) → FirstAt word default (x ∷ l) w (suc r) → FirstAt word default l w r
  first_later x l w r f =
      record {
        within = omega (arith, f.within);
        earlier = λ j h. f.earlier (suc j) (omega arith);
        found = λ h. f.found (omega arith);
      }

  -- behind a thing whose word doesn't begin w, the place is one further on
  pub first_behind : (x : A) (l : List A) (w : Word) (r : ℕ) → begins (word x) w ≡ false → FirstAt word default l w r
      → FirstAt word default (x ∷ l) w (suc r)
  first_behind x l w r e f =
      record { within = omega (arith, f.within); earlier = earlier; found = λ h. f.found (omega arith) }
    where
      earlier : (j : ℕ) → j < suc r → begins (word (get_or (x ∷ l) j default)) w ≡ false
      earlier zero h = e
      earlier (suc j) h = f.earlier j (omega arith)

  pub first_place : (l : List A) (w : Word) → (r : ℕ) × FirstAt word default l w r
  first_place [] w =
      (0, record { within = omega arith; earlier = λ j h. absurd (omega arith); found = λ h. absurd (omega arith) })
  first_place (x ∷ l) w = by_first (passes (begins (word x) w)) (first_place l w)
    where
      by_first : (begins (word x) w ≡ true) ⊎ (begins (word x) w ≡ false) → (r : ℕ) × FirstAt word default l w r
          → (r : ℕ) × FirstAt word default (x ∷ l) w r
      by_first (inl t) rest =
          (0, record { within = omega arith; earlier = λ j h. absurd (omega arith); found = λ h. t })
      by_first (inr f) (r, p) = (suc r, first_behind x l w r f p)

  module _ {B : Type 0} where
    pub match_found : (make : ℕ → A → Word → B) (l : List A) (w : Word) (r : ℕ) → FirstAt word default l w r → r < length l
        → (tail : Word) → after (word (get_or l r default)) w ≡ some tail
        → first_match word make l w ≡ some (make r (get_or l r default) tail)
    match_found make [] w r f h tail e = absurd (omega arith)
    match_found make (x ∷ l) w zero f h tail e = rw (e, first_match)
    match_found make (x ∷ l) w (suc r) f h tail e =
        rw (after_none (word x) w (f.earlier 0 (omega arith)), first_match)
        (match_found (λ k. make (suc k)) l w r (first_later x l w r f) (omega arith) tail e)

    pub match_nowhere : (make : ℕ → A → Word → B) (l : List A) (w : Word) (r : ℕ) → FirstAt word default l w r → r ≡ length l
        → first_match word make l w ≡ none
    match_nowhere make [] w r f h = refl
    match_nowhere make (x ∷ l) w zero f h = absurd (omega arith)
    match_nowhere make (x ∷ l) w (suc r) f h =
        rw (after_none (word x) w (f.earlier 0 (omega arith)), first_match)
        (match_nowhere (λ k. make (suc k)) l w r (first_later x l w r f) (omega arith))

-- what is searched may be made of other things: a column of its numbers, the from-words of the pairs
pub match_map : {A B C : Type 0} (word : B → Word) (f : A → B) (make : ℕ → B → Word → C) (l : List A) (w : Word)
    → first_match word make (map f l) w ≡ first_match (λ x. word (f x)) (λ k x tail. make k (f x) tail) l w
match_map word f make [] w = refl
match_map {C = C} word f make (x ∷ l) w =
    ap
    (λ o. elim (after (word (f x)) w) as (λ _. Option C) [ none ↦ o | some tail ↦ some (make 0 (f x) tail) ])
    (match_map word f (λ k. make (suc k)) l w)
