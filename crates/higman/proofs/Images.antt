-- Laws of `image`: a pair of the table decides the image of every word that its from-word begins, and where an image comes from.
-- With words that are apart in the from column, the order of the pairs does not matter.
use Prim.Native.Nat.{ℕ, zero, suc, ◌<◌}
use mathlib.Core.Path.{◌≡◌, refl, sym, ◌∙◌, ap}
use mathlib.Core.Logic.{◌⊎◌, inl, inr}
use mathlib.Core.Bool.{true}
use mathlib.Core.List.Memᴰ
use mathlib.Core.List.{List, [], ◌∷◌, ◌++◌, append-nil, append_assoc}
use mathlib.Core.List.{Memᴰ}
use mathlib.Core.Option.{Option, none, some, none-ne-some, some-injective}
use native.Mathlib.Omega.{arith}
use borrow.Author.Tests.{eq-eqb, ne_eqb}
use Rattle.higman.specs.Words.{Word, count, after, given}
use Rattle.higman.specs.Tables.{Pair, Table, froms, tos, swapped, first_match, image, long_enough}
use Rattle.higman.specs.Normal.{under, gather}
use Rattle.higman.proofs.Tests.{clash, count_bounds}
use Rattle.higman.proofs.Prefixes.{after_append, after_some_lem, comparable}
use Rattle.higman.proofs.Proper.{Apart}

-- which pair an image comes from
pub row_of_image : (t : Table) (w v : Word) → image t w ≡ some v → (p : Pair) × (x : Word) × Memᴰ p t × (w ≡ p.from ++ x) × (v ≡ p.to ++ x)
row_of_image [] w v e = absurd (none-ne-some v e)
row_of_image (p ∷ t) w v e = go (after p.from w) refl e (λ k. row_of_image t w v k)
  where
    go : (o : Option Word) → after p.from w ≡ o → elim o as (λ _. Option Word) [ none ↦ image t w | some x ↦ some (p.to ++ x) ] ≡ some v
        → (image t w ≡ some v → (q : Pair) × (x : Word) × Memᴰ q t × (w ≡ q.from ++ x) × (v ≡ q.to ++ x))
        → (q : Pair) × (x : Word) × Memᴰ q (p ∷ t) × (w ≡ q.from ++ x) × (v ≡ q.to ++ x)
    go none h k rest = let (q, x, m, f, g) = rest k in (q, x, Memᴰ.tail m, f, g)
    go (some x) h k rest = (p, x, Memᴰ.head refl, after_some_lem p.from w x h, sym (some-injective _ _ k))

-- a word that begins no word of the column has no tail there
after_apart : (u w x : Word) → ((y : Word) → (w ≡ u ++ y → ⊥) × (u ≡ w ++ y → ⊥)) → after u (w ++ x) ≡ none
after_apart u w x h = go (after u (w ++ x)) refl
  where
    either : ((z : Word) × (u ≡ w ++ z)) ⊎ ((z : Word) × (w ≡ u ++ z)) → ⊥
    either (inl (z, e)) = (h z).1 e
    either (inr (z, e)) = (h z).0 e

    go : (o : Option Word) → after u (w ++ x) ≡ o → o ≡ none
    go none e = refl
    go (some y) e = absurd (either (comparable w u x y (after_some_lem u (w ++ x) y e)))

pub image_of_row : (t : Table) → Apart (froms t) → (p : Pair) → Memᴰ p t → (x : Word) → image t (p.from ++ x) ≡ some (p.to ++ x)
image_of_row [] a p m x = absurd (Memᴰ.not-nil m)
image_of_row (q ∷ t) a p m x = go (Memᴰ.cases_cons m) (λ k. image_of_row t a.1 p k x)
  where
    here : after q.from (q.from ++ x) ≡ some x → image (q ∷ t) (q.from ++ x) ≡ some (q.to ++ x)
    here e = rw (e, first_match)

    skip : after q.from (p.from ++ x) ≡ none → image t (p.from ++ x) ≡ some (p.to ++ x) → image (q ∷ t) (p.from ++ x) ≡ some (p.to ++ x)
    skip e h = rw (e, first_match) h

    go : (p ≡ q) ⊎ Memᴰ p t → (Memᴰ p t → image t (p.from ++ x) ≡ some (p.to ++ x)) → image (q ∷ t) (p.from ++ x) ≡ some (p.to ++ x)
    go (inl e) rest = rw e (here (after_append q.from x))
    go (inr k) rest = skip (after_apart q.from p.from x (λ y. a.0 p.from (Memᴰ.map (λ r. r.from) k) y)) (rest k)

-- a from-word itself goes to its to-word
pub image_of_from : (t : Table) → Apart (froms t) → (p : Pair) → Memᴰ p t → image t p.from ≡ some p.to
image_of_from t a p m =
    sym (ap (image t) (append-nil p.from)) ∙ image_of_row t a p m [] ∙ ap some (append-nil p.to)

-- no from-word begins a word without an image, so one that is comparable with it is longer
pub longer_of_none : (t : Table) → Apart (froms t) → (w : Word) → image t w ≡ none → (p : Pair) → Memᴰ p t
    → ((z : Word) × (p.from ≡ w ++ z)) ⊎ ((z : Word) × (w ≡ p.from ++ z)) → (i : ℕ) × (x : Word) × (p.from ≡ w ++ i ∷ x)
longer_of_none t a w e p m k = go k
  where
    not_begun : (z : Word) → w ≡ p.from ++ z → ⊥
    not_begun z f = none-ne-some (p.to ++ z) (sym e ∙ ap (image t) f ∙ image_of_row t a p m z)

    go : ((z : Word) × (p.from ≡ w ++ z)) ⊎ ((z : Word) × (w ≡ p.from ++ z)) → (i : ℕ) × (x : Word) × (p.from ≡ w ++ i ∷ x)
    go (inl ([], f)) = absurd (not_begun [] (sym (append-nil w) ∙ sym f ∙ sym (append-nil p.from)))
    go (inl (i ∷ x, f)) = (i, x, f)
    go (inr (z, f)) = absurd (not_begun z f)

-- what a block goes to, its parts follow
pub image_steady : (t : Table) → Apart (froms t) → (w v x : Word) → image t w ≡ some v → image t (w ++ x) ≡ some (v ++ x)
image_steady t a w v x e = let (p, y, m, f, g) = row_of_image t w v e in go p y m f g
  where
    go : (p : Pair) (y : Word) → Memᴰ p t → w ≡ p.from ++ y → v ≡ p.to ++ y → image t (w ++ x) ≡ some (v ++ x)
    go p y m f g = rw (f, g, append_assoc p.from y x, append_assoc p.to y x) (image_of_row t a p m (y ++ x))

-- the pairs of one part of the block see the words of that part, and no others
pub image_under_same : (t : Table) (u : Table) (i : ℕ) (x : Word) → image u (i ∷ x) ≡ none → image (under i t ++ u) (i ∷ x) ≡ image t x
image_under_same [] u i x h = h
image_under_same (p ∷ t) u i x h = rw (eq-eqb i i refl, first_match, after) (ap (λ o. elim (after p.from x) as (λ _. Option Word) [ none ↦ o | some y ↦ some (p.to ++ y) ]) (image_under_same t u i x h))

pub image_under_other : (t : Table) (u : Table) (j i : ℕ) (x : Word) → (j ≡ i → ⊥) → image (under j t ++ u) (i ∷ x) ≡ image u (i ∷ x)
image_under_other [] u j i x h = refl
image_under_other (p ∷ t) u j i x h = rw (ne_eqb j i h, first_match, after) (image_under_other t u j i x h)

image_gather_outside : (a m : ℕ) (g : ℕ → Table) (i : ℕ) (x : Word) → i < a → image (gather (count a m) g) (i ∷ x) ≡ none
image_gather_outside a zero g i x h = refl
image_gather_outside a (suc m) g i x h =
    image_under_other (g a) (gather (count (suc a) m) g) a i x (λ e. omega arith) ∙ image_gather_outside (suc a) m g i x (omega arith)

pub image_gather : (a m : ℕ) (g : ℕ → Table) (i : ℕ) (x : Word) → Memᴰ i (count a m) → image (gather (count a m) g) (i ∷ x) ≡ image (g i) x
image_gather a zero g i x h = absurd (Memᴰ.not-nil h)
image_gather a (suc m) g i x h = go (Memᴰ.cases_cons h) (λ k. image_gather (suc a) m g i x k)
  where
    rest : Table
    rest = gather (count (suc a) m) g

    go : (i ≡ a) ⊎ Memᴰ i (count (suc a) m) → (Memᴰ i (count (suc a) m) → image rest (i ∷ x) ≡ image (g i) x) → image (under a (g a) ++ rest) (i ∷ x) ≡ image (g i) x
    go (inl e) later = rw e (image_under_same (g a) rest a x (image_gather_outside (suc a) m g a x (omega arith)))
    go (inr k) later =
        let b = count_bounds (suc a) m i k in
        image_under_other (g a) rest a i x (λ e. omega arith) ∙ later k

-- a code is long enough exactly where it has an image
module _ {A B C : Type 0} (word : A → Word) where
  -- whether something is found does not depend on what is made of it
  given_match : (f : ℕ → A → Word → B) (g : ℕ → A → Word → C) (l : List A) (w : Word)
      → given (first_match word f l w) ≡ given (first_match word g l w)
  given_match f g [] w = refl
  given_match f g (x ∷ l) w = by_tail (after (word x) w) (given_match (λ k. f (suc k)) (λ k. g (suc k)) l w)
    where
      by_tail : (o : Option Word) → given (first_match word (λ k. f (suc k)) l w) ≡ given (first_match word (λ k. g (suc k)) l w)
          → given {A = B} (elim o as (λ _. Option B) [ none ↦ first_match word (λ k. f (suc k)) l w | some y ↦ some (f 0 x y) ])
          ≡ given {A = C} (elim o as (λ _. Option C) [ none ↦ first_match word (λ k. g (suc k)) l w | some y ↦ some (g 0 x y) ])
      by_tail none e = e
      by_tail (some y) e = refl

long_enough_given : (t : Table) (w : Word) → long_enough t w ≡ given (image t w)
long_enough_given t w = given_match (λ p. p.from) (λ _ p _. p) (λ _ p x. p.to ++ x) t w

pub image_of_long_enough : (t : Table) (w : Word) → long_enough t w ≡ true → (v : Word) × (image t w ≡ some v)
image_of_long_enough t w e = by_image (image t w) refl (sym (long_enough_given t w) ∙ e)
  where
    by_image : (o : Option Word) → image t w ≡ o → given o ≡ true → (v : Word) × (image t w ≡ some v)
    by_image none i g = absurd (clash g refl)
    by_image (some v) i g = (v, i)

pub long_enough_of_image : (t : Table) (w v : Word) → image t w ≡ some v → long_enough t w ≡ true
long_enough_of_image t w v e = long_enough_given t w ∙ ap given e

-- the columns of a table with its columns swapped
pub froms_swapped : (t : Table) → froms (swapped t) ≡ tos t
froms_swapped [] = refl
froms_swapped (p ∷ t) = ap (λ c. p.to ∷ c) (froms_swapped t)

pub tos_swapped : (t : Table) → tos (swapped t) ≡ froms t
tos_swapped [] = refl
tos_swapped (p ∷ t) = ap (λ c. p.from ∷ c) (tos_swapped t)
