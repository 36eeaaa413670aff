-- The order by which columns are sorted is total: of two words one may stand before the other. A sorted column whose words do not begin one another is in the order of document 01, `ordered`.
use Prim.Native.Nat.{ℕ, ◌<◌}
use mathlib.Core.Path.{◌≡◌, refl, sym, ◌∙◌, ap}
use mathlib.Core.Logic.{◌⊎◌, inl, inr}
use mathlib.Core.Bool.{true, false, ◌||◌}
use mathlib.Core.List.Memᴰ
use mathlib.Core.List.{List, [], ◌∷◌, Memᴰ}
use native.Mathlib.Omega.{arith}
use lib.Dec.{eqb, ltb}
use borrow.Author.Tests.{ltb-true, ltb-false, eqb-true, eqb-false}
use Rattle.higman.specs.Words.{Word, begins}
use Rattle.higman.specs.Bases.{all, meets, overlap}
use Rattle.higman.specs.Normal.{before, ordered}
use Rattle.higman.proofs.Tests.{passes, so, T_of, clash, and_left, and_right, and_intro, or_cases, or_true_left, or_left_false, or_right_false, all_at, all_of}
use Rattle.higman.proofs.Prefixes.{tail_of_begins}
use Rattle.higman.proofs.Proper.{Apart}
use Rattle.columns.specs.Packed.{in_order, sorted}
use Rattle.columns.proofs.InOrder.{InOrder, in_order_of_test, test_of_in_order, in_order_trans}

-- one number is less than another, equal to it or more
pub three_ways : (a b : ℕ) → (a < b) ⊎ ((a ≡ b) ⊎ (b < a))
three_ways a b = go (passes (ltb a b)) (passes (eqb a b))
  where
    go : (ltb a b ≡ true) ⊎ (ltb a b ≡ false) → (eqb a b ≡ true) ⊎ (eqb a b ≡ false) → (a < b) ⊎ ((a ≡ b) ⊎ (b < a))
    go (inl l) e = inl (ltb-true a b l)
    go (inr l) (inl e) = inr (inl (eqb-true a b e))
    go (inr l) (inr e) = inr (inr (omega (arith, ltb-false a b l, eqb-false a b e)))

pub in_order_either_way : (u v : Word) → InOrder u v ⊎ InOrder v u
in_order_either_way [] v = inl tt
in_order_either_way (a ∷ u) [] = inr tt
in_order_either_way (a ∷ u) (b ∷ v) = go (three_ways a b) (in_order_either_way u v)
  where
    go : (a < b) ⊎ ((a ≡ b) ⊎ (b < a)) → InOrder u v ⊎ InOrder v u → InOrder (a ∷ u) (b ∷ v) ⊎ InOrder (b ∷ v) (a ∷ u)
    go (inl l) rest = inl (inl l)
    go (inr (inl q)) (inl h) = inl (inr (q, h))
    go (inr (inl q)) (inr h) = inr (inr (sym q, h))
    go (inr (inr l)) rest = inr (inl l)

-- two words that are not in order are in order the other way round
pub in_order_total : (u v : Word) → in_order u v ≡ false → in_order v u ≡ true
in_order_total u v e = go (in_order_either_way u v)
  where
    go : InOrder u v ⊎ InOrder v u → in_order v u ≡ true
    go (inl h) = absurd (clash (test_of_in_order u v h) e)
    go (inr h) = test_of_in_order v u h

pub in_order_transitive : (u v w : Word) → in_order u v ≡ true → in_order v w ≡ true → in_order u w ≡ true
in_order_transitive u v w h k =
    test_of_in_order u w (in_order_trans u v w (in_order_of_test u v h) (in_order_of_test v w k))

-- no word of the column begins a later one
abbrev Unbegun : List Word → Type 0
Unbegun [] = Unit {0}
Unbegun (w ∷ c) = ((u : Word) → Memᴰ u c → begins w u ≡ false) × Unbegun c

-- a word in order with a word that it does not begin is before it
before_unbegun : (w u : Word) → in_order w u ≡ true → begins w u ≡ false → before w u ≡ true
before_unbegun w u h none = go (or_cases (before w u) (begins w u) h)
  where
    go : (before w u ≡ true) ⊎ (begins w u ≡ true) → before w u ≡ true
    go (inl p) = p
    go (inr p) = absurd (clash p none)

ordered_of_unbegun : (c : List Word) → sorted c ≡ true → Unbegun c → ordered c ≡ true
ordered_of_unbegun [] h n = refl
ordered_of_unbegun (w ∷ c) h n =
    let firsts = and_left (all (in_order w) c) (sorted c) (T_of h) in
    let rest = and_right (all (in_order w) c) (sorted c) (T_of h) in
    so
    (ordered (w ∷ c))
    (and_intro
    (all (before w) c)
    (ordered c)
    (all_of (before w) c (λ u m. T_of (before_unbegun w u (so (in_order w u) (all_at (in_order w) c firsts u m)) (n.0 u m))))
    (T_of (ordered_of_unbegun c (so (sorted c) rest) n.1)))

begins_none : (w : Word) (c : List Word) → meets w c ≡ false → (u : Word) → Memᴰ u c → begins w u ≡ false
begins_none w [] e u m = absurd (Memᴰ.not-nil m)
begins_none w (v ∷ c) e u m =
    go (Memᴰ.cases_cons m) (λ k. begins_none w c (or_right_false (begins w v || begins v w) (meets w c) e) u k)
  where
    first : begins w v ≡ false
    first = or_left_false (begins w v) (begins v w) (or_left_false (begins w v || begins v w) (meets w c) e)

    go : (u ≡ v) ⊎ Memᴰ u c → (Memᴰ u c → begins w u ≡ false) → begins w u ≡ false
    go (inl q) rest = ap (begins w) q ∙ first
    go (inr k) rest = rest k

unbegun_of_overlap : (c : List Word) → overlap c ≡ false → Unbegun c
unbegun_of_overlap [] e = tt
unbegun_of_overlap (w ∷ c) e =
    (begins_none w c (or_left_false (meets w c) (overlap c) e), unbegun_of_overlap c (or_right_false (meets w c) (overlap c) e))

unbegun_of_apart : (c : List Word) → Apart c → Unbegun c
unbegun_of_apart [] h = tt
unbegun_of_apart (w ∷ c) h = (λ u m. go u m (passes (begins w u)), unbegun_of_apart c h.1)
  where
    go : (u : Word) → Memᴰ u c → (begins w u ≡ true) ⊎ (begins w u ≡ false) → begins w u ≡ false
    go u m (inl p) = let (x, e) = tail_of_begins w u p in absurd ((h.0 u m x).0 e)
    go u m (inr p) = p

-- sorted, and no word begins another: in the order of document 01
pub ordered_of_sorted : (c : List Word) → sorted c ≡ true → overlap c ≡ false → ordered c ≡ true
ordered_of_sorted c h e = ordered_of_unbegun c h (unbegun_of_overlap c e)

pub ordered_of_apart : (c : List Word) → sorted c ≡ true → Apart c → ordered c ≡ true
ordered_of_apart c h a = ordered_of_unbegun c h (unbegun_of_apart c a)

-- the order of document 01 is the order in which columns are sorted
pub sorted_of_ordered : (c : List Word) → ordered c ≡ true → sorted c ≡ true
sorted_of_ordered [] e = refl
sorted_of_ordered (w ∷ c) e =
    let h = T_of e in
    so (sorted (w ∷ c))
    (and_intro (all (in_order w) c) (sorted c)
    (all_of (in_order w) c (λ v m. T_of (or_true_left (before w v) (begins w v) (so (before w v) (all_at (before w) c (and_left (all (before w) c) (ordered c) h) v m)))))
    (T_of (sorted_of_ordered c (so (ordered c) (and_right (all (before w) c) (ordered c) h)))))

-- so where no word begins another the two orders are one test
pub sorted_is_ordered : (c : List Word) → overlap c ≡ false → sorted c ≡ ordered c
sorted_is_ordered c e = go (passes (sorted c)) (passes (ordered c))
  where
    go : (sorted c ≡ true) ⊎ (sorted c ≡ false) → (ordered c ≡ true) ⊎ (ordered c ≡ false) → sorted c ≡ ordered c
    go (inl s) o = s ∙ sym (ordered_of_sorted c s e)
    go (inr s) (inl o) = absurd (clash (sorted_of_ordered c o) s)
    go (inr s) (inr o) = s ∙ sym o
