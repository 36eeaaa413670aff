-- The lines of a block are its pairs, and each keeps the place that it has in the whole table.
use Prim.Native.Nat.{ℕ, suc, ◌+◌}
use native.Mathlib.Omega.{arith}
use mathlib.Core.Path.{◌≡◌, refl, sym, ◌∙◌, ap}
use mathlib.Core.Bool.{Bool, true, false}
use mathlib.Core.Logic.{◌⊎◌, inl, inr}
use mathlib.Core.List.Memᴰ
use mathlib.Core.List.{List, [], ◌∷◌, ◌++◌}
use mathlib.Core.List.{Memᴰ}
use lib.ListN.{length}
use Rattle.higman.specs.Words.{Word, begins_properly}
use Rattle.higman.specs.Tables.{Table}
use Rattle.higman.specs.Fronts.{block}
use Rattle.higman.specs.Places.{Placed, placed_from, extending_in, placed_block, pairs_of, AtPlace}

extending_pairs : (k : ℕ) (t : Table) (w : Word) → pairs_of (extending_in (placed_from k t) w) ≡ block t w
unfolding block
extending_pairs k [] w = refl
extending_pairs k (p ∷ t) w = by_test (begins_properly w p.from) (extending_pairs (suc k) t w)
  where
    by_test : (b : Bool) → pairs_of (extending_in (placed_from (suc k) t) w) ≡ block t w
        → pairs_of (elim b as (λ _. List Placed) [
          | true ↦ record { place = k; pair = p } ∷ extending_in (placed_from (suc k) t) w
          | false ↦ extending_in (placed_from (suc k) t) w
        ])
        ≡ elim b as (λ _. Table) [ true ↦ p ∷ block t w | false ↦ block t w ]
    by_test true e = ap (λ x. p ∷ x) e
    by_test false e = e

extending_among : (ls : List Placed) (w : Word) (l : Placed) → Memᴰ l (extending_in ls w) → Memᴰ l ls
extending_among [] w l m = m
extending_among (n ∷ ls) w l m = by_test (begins_properly w n.pair.from) m (extending_among ls w l)
  where
    first : (l ≡ n) ⊎ Memᴰ l (extending_in ls w) → (Memᴰ l (extending_in ls w) → Memᴰ l ls) → Memᴰ l (n ∷ ls)
    first (inl e) rest = Memᴰ.head e
    first (inr k) rest = Memᴰ.tail (rest k)

    by_test : (b : Bool) → Memᴰ l (elim b as (λ _. List Placed) [ true ↦ n ∷ extending_in ls w | false ↦ extending_in ls w ])
        → (Memᴰ l (extending_in ls w) → Memᴰ l ls) → Memᴰ l (n ∷ ls)
    by_test true k rest = first (Memᴰ.cases_cons k) rest
    by_test false k rest = Memᴰ.tail (rest k)

-- a pair among those placed from k on stands where its place says
abbrev Standing : ℕ → Table → Placed → Type 0
Standing k t l = (before : Table) × (behind : Table) × (t ≡ before ++ l.pair ∷ behind) × (l.place ≡ k + length before)

pub places : (t : Table) (w : Word) (l : Placed) → Memᴰ l (placed_block t w) → AtPlace t l.place l.pair
unfolding placed_block
places t w l m =
    let (before, behind, e, c) = standing 1 t l (extending_among (placed_from 1 t) w l m) in
    record { before = before; behind = behind; parts = e; counted = omega (arith, c) }
  where
    standing : (k : ℕ) (t : Table) (l : Placed) → Memᴰ l (placed_from k t) → Standing k t l
    standing k [] l m = absurd (Memᴰ.not-nil m)
    standing k (p ∷ t) l m = by_first (Memᴰ.cases_cons m) (standing (suc k) t l)
      where
        by_first : (l ≡ record { place = k; pair = p }) ⊎ Memᴰ l (placed_from (suc k) t)
            → (Memᴰ l (placed_from (suc k) t) → Standing (suc k) t l) → Standing k (p ∷ t) l
        by_first (inl e) rest = ([], t, ap (λ n. n.pair ∷ t) (sym e), ap (λ n. n.place) e ∙ omega arith)
        by_first (inr n) rest =
            let (before, behind, e, c) = rest n in (p ∷ before, behind, ap (λ x. p ∷ x) e, omega (arith, c))

pub block_pairs : (t : Table) (w : Word) → pairs_of (placed_block t w) ≡ block t w
unfolding placed_block
block_pairs = extending_pairs 1
