-- Ways and codes by their parts: they are told apart by their digits, every word of a shape is spelled by one code, what can be
-- decided at each way can be decided at all, and numbers given at each way have a bound.
use Prim.Native.Nat.{ℕ, zero, suc, max, ◌≤◌}
use mathlib.Core.Path.{◌≡◌, refl, sym, ◌∙◌, ap, ap₂, subst}
use mathlib.Core.Logic.{◌⊎◌, inl, inr}
use mathlib.Core.HLevel.{Discrete, is_prop→PathP}
use mathlib.Core.Bool.{true, false}
use mathlib.Core.List.{List, [], ◌∷◌, ◌++◌, List-discrete, head-eq_of_cons-eq, tail-eq_of_cons-eq, nil≢cons}
use native.Mathlib.Omega.{arith}
use native.Mathlib.Decide.{ℕ_discrete}
use lib.Dec.{T, T_prop}
use lib.ListN.{length, length-map}
use Rattle.higman.specs.Words.{Shape, Word, is_digit}
use Rattle.higman.specs.Algebras.{Way, Code, spell_ways, spell_code}
use Rattle.higman.proofs.Tests.{passes, T_of, clash, so, Digit, Ways, IsWord, digit_of_test, test_of_digit}

pub way_path : {n : ℕ} {i j : Way n} → i.number ≡ j.number → i ≡ j
way_path {n} {i} {j} e =
    λ k. record { number = e k; counts = is_prop→PathP (λ k. T (is_digit n (e k))) (λ k. T_prop (is_digit n (e k))) i.counts j.counts k }

pub way_discrete : (n : ℕ) → Discrete (Way n)
way_discrete n i j = go (ℕ_discrete i.number j.number)
  where
    go : Dec (i.number ≡ j.number) → Dec (i ≡ j)
    go (yes e) = yes (way_path e)
    go (no h) = no (λ e. h (ap (λ (k : Way n). k.number) e))

pub code_path : {s : Shape} {c d : Code s} → c.belt ≡ d.belt → c.ways ≡ d.ways → c ≡ d
code_path p q = λ k. record { belt = p k; ways = q k }

pub code_discrete : (s : Shape) → Discrete (Code s)
code_discrete s c d = go (way_discrete s.roots c.belt d.belt) (List-discrete (way_discrete s.arity) c.ways d.ways)
  where
    go : Dec (c.belt ≡ d.belt) → Dec (c.ways ≡ d.ways) → Dec (c ≡ d)
    go (yes p) (yes q) = yes (code_path p q)
    go (yes p) (no h) = no (λ e. h (ap (λ (b : Code s). b.ways) e))
    go (no h) q = no (λ e. h (ap (λ (b : Code s). b.belt) e))

-- a code with more ways behind it
abbrev pub further : {s : Shape} → Code s → List (Way s.arity) → Code s
further c x = record { belt = c.belt; ways = c.ways ++ x }

pub spell_append : {n : ℕ} (x y : List (Way n)) → spell_ways (x ++ y) ≡ spell_ways x ++ spell_ways y
spell_append [] y = refl
spell_append (i ∷ x) y = ap (λ z. i.number ∷ z) (spell_append x y)

pub spell_further : {s : Shape} (c : Code s) (x : List (Way s.arity)) → spell_code (further c x) ≡ spell_code c ++ spell_ways x
spell_further c x = ap (λ z. c.belt.number ∷ z) (spell_append c.ways x)

spell_ways_injective : {n : ℕ} (x y : List (Way n)) → spell_ways x ≡ spell_ways y → x ≡ y
spell_ways_injective [] [] e = refl
spell_ways_injective [] (j ∷ y) e = absurd (nil≢cons e)
spell_ways_injective (i ∷ x) [] e = absurd (nil≢cons (sym e))
spell_ways_injective (i ∷ x) (j ∷ y) e = ap₂ ◌∷◌ (way_path (head-eq_of_cons-eq e)) (spell_ways_injective x y (tail-eq_of_cons-eq e))

-- a code is its digits
pub spell_injective : {s : Shape} (c d : Code s) → spell_code c ≡ spell_code d → c ≡ d
spell_injective c d e = code_path (way_path (head-eq_of_cons-eq e)) (spell_ways_injective c.ways d.ways (tail-eq_of_cons-eq e))

pub ways_of_spell : {n : ℕ} (x : List (Way n)) → Ways n (spell_ways x)
ways_of_spell [] = tt
ways_of_spell {n} (i ∷ x) = (digit_of_test n i.number i.counts, ways_of_spell x)

pub word_of_code : {s : Shape} (c : Code s) → IsWord s (spell_code c)
word_of_code {s} c = (digit_of_test s.roots c.belt.number c.belt.counts, ways_of_spell c.ways)

pub way_of_digit : (n i : ℕ) → Digit n i → Way n
way_of_digit n i d = record { number = i; counts = test_of_digit n i d }

spelled_ways : (n : ℕ) (x : Word) → Ways n x → (y : List (Way n)) × (spell_ways y ≡ x)
unfolding way_of_digit
spelled_ways n [] h = ([], refl)
spelled_ways n (i ∷ x) h = let (y, e) = spelled_ways n x h.1 in (way_of_digit n i h.0 ∷ y, ap (λ z. i ∷ z) e)

-- every word of the shape is spelled by a code
pub code_of_word : (s : Shape) (w : Word) → IsWord s w → (c : Code s) × (spell_code c ≡ w)
unfolding way_of_digit
code_of_word s [] h = absurd h
code_of_word s (a ∷ x) h =
    let (y, e) = spelled_ways s.arity x h.1 in
    (record { belt = way_of_digit s.roots a h.0; ways = y }, ap (λ z. a ∷ z) e)

pub length_spell : {n : ℕ} (x : List (Way n)) → length (spell_ways x) ≡ length x
length_spell x = length-map x (λ i. i.number)

-- the number of a way is at least 1 and at most n
digit_of_way : {n : ℕ} (i : Way n) → Digit n i.number
digit_of_way {n} i = digit_of_test n i.number i.counts

-- a way of at most suc m is of at most m, or it is the last of these
last_or_less : {n : ℕ} (m : ℕ) (i : Way n) → i.number ≤ suc m → (i.number ≡ suc m) ⊎ (i.number ≤ m)
last_or_less m i h = go (ℕ_discrete i.number (suc m))
  where
    go : Dec (i.number ≡ suc m) → (i.number ≡ suc m) ⊎ (i.number ≤ m)
    go (yes e) = inl e
    go (no k) = inr (omega (arith, k))

-- no way has a number that is no digit
below_gap : {n : ℕ} (m : ℕ) → is_digit n (suc m) ≡ false → (i : Way n) → i.number ≤ suc m → i.number ≤ m
below_gap {n} m e i h = go (last_or_less m i h)
  where
    go : (i.number ≡ suc m) ⊎ (i.number ≤ m) → i.number ≤ m
    go (inl q) = absurd (clash (ap (is_digit n) (sym q) ∙ so (is_digit n i.number) i.counts) e)
    go (inr l) = l

abbrev last_way : {n : ℕ} (m : ℕ) → is_digit n (suc m) ≡ true → Way n
last_way m e = record { number = suc m; counts = T_of e }

module _ (n : ℕ) (P : Way n → Type 0) (d : (i : Way n) → Dec (P i)) where
  decided_below : (m : ℕ) → Dec ((i : Way n) → i.number ≤ m → P i)
  decided_below zero = yes (λ i h. let b = digit_of_way i in absurd (omega arith))
  decided_below (suc m) = step (decided_below m) (passes (is_digit n (suc m)))
    where
      step : Dec ((i : Way n) → i.number ≤ m → P i) → (is_digit n (suc m) ≡ true) ⊎ (is_digit n (suc m) ≡ false)
          → Dec ((i : Way n) → i.number ≤ suc m → P i)
      step (no k) b = no (λ f. k (λ i h. f i (omega arith)))
      step (yes f) (inr e) = yes (λ i h. f i (below_gap m e i h))
      step (yes f) (inl e) = last (d (last_way m e))
        where
          last : Dec (P (last_way m e)) → Dec ((i : Way n) → i.number ≤ suc m → P i)
          last (no k) = no (λ g. k (g (last_way m e) (omega arith)))
          last (yes p) = yes (λ i h. at i (last_or_less m i h))
            where
              at : (i : Way n) → (i.number ≡ suc m) ⊎ (i.number ≤ m) → P i
              at i (inl q) = subst P (way_path (sym q)) p
              at i (inr l) = f i l

  -- what can be decided at each way can be decided at all of them
  pub decided_at_all : Dec ((i : Way n) → P i)
  decided_at_all = go (decided_below n)
    where
      go : Dec ((i : Way n) → i.number ≤ n → P i) → Dec ((i : Way n) → P i)
      go (yes f) = yes (λ i. f i (digit_of_way i).1)
      go (no k) = no (λ f. k (λ i h. f i))

module _ (n : ℕ) (f : Way n → ℕ) where
  bound_below : (m : ℕ) → (b : ℕ) × ((i : Way n) → i.number ≤ m → f i ≤ b)
  bound_below zero = (0, λ i h. let b = digit_of_way i in absurd (omega arith))
  bound_below (suc m) = step (bound_below m) (passes (is_digit n (suc m)))
    where
      step : (b : ℕ) × ((i : Way n) → i.number ≤ m → f i ≤ b) → (is_digit n (suc m) ≡ true) ⊎ (is_digit n (suc m) ≡ false)
          → (b : ℕ) × ((i : Way n) → i.number ≤ suc m → f i ≤ b)
      step (b, g) (inr e) = (b, λ i h. g i (below_gap m e i h))
      step (b, g) (inl e) = (max b (f (last_way m e)), λ i h. at i (last_or_less m i h))
        where
          at : (i : Way n) → (i.number ≡ suc m) ⊎ (i.number ≤ m) → f i ≤ max b (f (last_way m e))
          at i (inl q) = let p : f i ≡ f (last_way m e) = ap f (way_path q) in omega arith
          at i (inr l) = let p = g i l in omega arith

  -- numbers given at each way have a bound
  pub bound_of_ways : (b : ℕ) × ((i : Way n) → f i ≤ b)
  bound_of_ways = let (b, g) = bound_below n in (b, λ i. g i (digit_of_way i).1)
