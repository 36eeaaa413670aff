-- Shuffles: an exchange of two words of a column is what `Swapped` says, and a permutation; so a shuffle is made as the relation `Shuffle`
-- says, is a permutation, and keeps the length.
use Prim.Native.Nat.{ℕ, zero, suc, ◌+◌, ◌%◌, ◌≤◌, ◌<◌}
use mathlib.Core.Path.{◌≡◌, refl, ◌∙◌, ap}
use mathlib.Core.Logic.{◌⊎◌, inl, inr}
use mathlib.Core.Bool.{true, false}
use mathlib.Core.List.Permᴰ
use mathlib.Core.List.{List, [], ◌∷◌, Permᴰ}
use native.Mathlib.Nat.{mod-lt}
use native.Mathlib.Omega.{arith}
use lib.Dec.{eqb}
use lib.ListN.{length, get_or, set, length-set}
use lib.Seq.{get_or-set_same, get_or-set_other, lt-length-set}
use borrow.Author.Tests.{eqb-true, eq-eqb}
use Rattle.higman.specs.Words.{Word}
use Rattle.higman.specs.Exercises.{next_draw, exchanged, shuffled, Swapped, Shuffle, no_swap, swap}
use Rattle.higman.proofs.Tests.{passes, clash}

-- an exchange keeps the length
pub exchanged_length : (c : List Word) (i j : ℕ) → length (exchanged c i j) ≡ length c
exchanged_length c i j = simp length-set

pub exchanged_swaps : (c : List Word) (i j : ℕ) → i < length c → j < length c → Swapped i j c (exchanged c i j)
exchanged_swaps c i j h k =
    record {
      long = exchanged_length c i j;
      here = by_place (passes (eqb i j));
      there = there;
      elsewhere = λ m p q. get_or-set_other e j m (get_or c i []) [] q ∙ get_or-set_other c i m (get_or c j []) [] p;
    }
  where
    e : List Word
    e = set c i (get_or c j [])

    there : get_or (exchanged c i j) j [] ≡ get_or c i []
    there = get_or-set_same e j (get_or c i []) [] (lt-length-set c i (get_or c j []) k)

    by_place : (eqb i j ≡ true) ⊎ (eqb i j ≡ false) → get_or (exchanged c i j) i [] ≡ get_or c j []
    by_place (inl p) =
        let same = eqb-true i j p in
        ap (λ m. get_or (exchanged c i j) m []) same ∙ there ∙ ap (λ m. get_or c m []) same
    by_place (inr p) = get_or-set_other e j i (get_or c i []) [] (λ q. clash (eq-eqb i j q) p) ∙ get_or-set_same c i (get_or c j []) [] h

-- a word put in at a place, with the one that it takes the place of in front
set_permutes : (c : List Word) (i : ℕ) (w : Word) → i < length c → Permᴰ (get_or c i [] ∷ set c i w) (w ∷ c)
set_permutes [] i w h = absurd (omega arith)
set_permutes (v ∷ c) zero w h = Permᴰ.swap refl refl
set_permutes (v ∷ c) (suc i) w h =
    Permᴰ.trans
    (Permᴰ.swap refl refl)
    (Permᴰ.trans (Permᴰ.cons refl (set_permutes c i w (omega arith))) (Permᴰ.swap refl refl))

pub exchanged_permutes : (c : List Word) (i j : ℕ) → i < length c → j < length c → Permᴰ (exchanged c i j) c
exchanged_permutes [] i j h k = absurd (omega arith)
exchanged_permutes (v ∷ c) zero zero h k = Permᴰ.refl (v ∷ c)
exchanged_permutes (v ∷ c) zero (suc j) h k = set_permutes c j v (omega arith)
exchanged_permutes (v ∷ c) (suc i) zero h k = set_permutes c i v (omega arith)
exchanged_permutes (v ∷ c) (suc i) (suc j) h k = Permᴰ.cons refl (exchanged_permutes c i j (omega arith) (omega arith))

-- the place that a draw gives to the word at suc i, among those up to it
pub place_below : (draw i : ℕ) → draw % (suc i + 1) ≤ suc i
place_below draw i = let h : draw % (suc i + 1) < suc i + 1 = mod-lt draw (omega arith) in omega arith

pub shuffled_length : (x : ℕ) (c : List Word) (i : ℕ) → length (shuffled x c i) ≡ length c
unfolding shuffled
shuffled_length x c zero = refl
shuffled_length x c (suc i) =
    let j = next_draw x % (suc i + 1) in
    shuffled_length (next_draw x) (exchanged c (suc i) j) i ∙ exchanged_length c (suc i) j

pub shuffled_permutes : (x : ℕ) (c : List Word) (i : ℕ) → i < length c → Permᴰ (shuffled x c i) c
unfolding shuffled
shuffled_permutes x c zero h = Permᴰ.refl c
shuffled_permutes x c (suc i) h =
    let j = next_draw x % (suc i + 1) in
    Permᴰ.trans
    (shuffled_permutes (next_draw x) (exchanged c (suc i) j) i (omega (arith, exchanged_length c (suc i) j)))
    (exchanged_permutes c (suc i) j h (omega (arith, place_below (next_draw x) i)))

pub shuffled_made : (x : ℕ) (c : List Word) (i : ℕ) → i < length c → Shuffle x c i (shuffled x c i)
unfolding shuffled next_draw
shuffled_made x c zero h = no_swap
shuffled_made x c (suc i) h =
    let j = next_draw x % (suc i + 1) in
    swap
    (exchanged_swaps c (suc i) j h (omega (arith, place_below (next_draw x) i)))
    (shuffled_made (next_draw x) (exchanged c (suc i) j) i (omega (arith, exchanged_length c (suc i) j)))
