-- The order of columns as a relation: it is an order, a word is in order with its extensions, and what stands between a word and an
-- extension of it is an extension too. The laws of sorted columns follow from this last one.
use Prim.Native.Nat.{◌<◌}
use mathlib.Core.Path.{◌≡◌, refl, sym, ap₂, subst}
use mathlib.Core.Logic.{◌⊎◌, inl, inr, ⊎_elim}
use mathlib.Core.Bool.{true, ◌&&◌}
use mathlib.Core.List.{[], ◌∷◌, ◌++◌}
use native.Mathlib.Omega.{arith}
use lib.Dec.{eqb, ltb, eqb→eq}
use borrow.Author.Tests.{ltb-true, lt-ltb, eq-eqb}
use Rattle.higman.specs.Words.{Word, after, begins}
use Rattle.higman.specs.Normal.{before}
use Rattle.higman.proofs.Tests.{so, T_of, and_left, and_right, or_cases, or_true_left, or_true_right}
use Rattle.higman.proofs.Prefixes.{tail_of_begins, begins_append}
use Rattle.columns.specs.Packed.{in_order}

-- the first digit that differs is smaller in u, or u has no digit there
abbrev pub InOrder : Word → Word → Type 0
InOrder [] v = Unit {0}
InOrder (a ∷ u) [] = ⊥
InOrder (a ∷ u) (b ∷ v) = (a < b) ⊎ ((a ≡ b) × InOrder u v)

of_before : (u v : Word) → before u v ≡ true → InOrder u v
of_before [] v e = tt
of_before (a ∷ u) [] e = T_of e
of_before (a ∷ u) (b ∷ v) e = go (or_cases (ltb a b) (eqb a b && before u v) e) (λ k. of_before u v k)
  where
    go : (ltb a b ≡ true) ⊎ ((eqb a b && before u v) ≡ true) → (before u v ≡ true → InOrder u v) → InOrder (a ∷ u) (b ∷ v)
    go (inl h) rest = inl (ltb-true a b h)
    go (inr h) rest =
        inr (eqb→eq a b (and_left (eqb a b) (before u v) (T_of h)), rest (so (before u v) (and_right (eqb a b) (before u v) (T_of h))))

in_order_append : (u x : Word) → InOrder u (u ++ x)
in_order_append [] x = tt
in_order_append (a ∷ u) x = inr (refl, in_order_append u x)

pub in_order_of_begins : (u v : Word) → begins u v ≡ true → InOrder u v
in_order_of_begins u v e = let t = tail_of_begins u v e in subst (InOrder u) (sym t.1) (in_order_append u t.0)

pub in_order_of_test : (u v : Word) → in_order u v ≡ true → InOrder u v
in_order_of_test u v e = ⊎_elim (of_before u v) (in_order_of_begins u v) (or_cases (before u v) (begins u v) e)

sides : (u v : Word) → InOrder u v → (before u v ≡ true) ⊎ (begins u v ≡ true)
sides [] v h = inr refl
sides (a ∷ u) [] h = absurd h
sides (a ∷ u) (b ∷ v) h = go h (λ k. sides u v k)
  where
    go : (a < b) ⊎ ((a ≡ b) × InOrder u v) → (InOrder u v → (before u v ≡ true) ⊎ (begins u v ≡ true)) → (before (a ∷ u) (b ∷ v) ≡ true) ⊎ (begins (a ∷ u) (b ∷ v) ≡ true)
    go (inl l) rest = inl (or_true_left (ltb a b) (eqb a b && before u v) (lt-ltb a b l))
    go (inr (e, k)) rest =
        ⊎_elim
        (λ p. inl (or_true_right (ltb a b) (eqb a b && before u v) (rw (eq-eqb a b e) p)))
        (λ p. inr (rw (eq-eqb a b e, after) p))
        (rest k)

pub test_of_in_order : (u v : Word) → InOrder u v → in_order u v ≡ true
test_of_in_order u v h = ⊎_elim (or_true_left (before u v) (begins u v)) (or_true_right (before u v) (begins u v)) (sides u v h)

pub in_order_refl : (u : Word) → InOrder u u
in_order_refl [] = tt
in_order_refl (a ∷ u) = inr (refl, in_order_refl u)

pub in_order_trans : (u v w : Word) → InOrder u v → InOrder v w → InOrder u w
in_order_trans [] v w h k = tt
in_order_trans (a ∷ u) [] w h k = absurd h
in_order_trans (a ∷ u) (b ∷ v) [] h k = absurd k
in_order_trans (a ∷ u) (b ∷ v) (c ∷ w) h k = go h k (λ p q. in_order_trans u v w p q)
  where
    go : (a < b) ⊎ ((a ≡ b) × InOrder u v) → (b < c) ⊎ ((b ≡ c) × InOrder v w) → (InOrder u v → InOrder v w → InOrder u w) → (a < c) ⊎ ((a ≡ c) × InOrder u w)
    go (inl l) (inl r) rest = inl (omega arith)
    go (inl l) (inr (f, q)) rest = inl (omega arith)
    go (inr (e, p)) (inl r) rest = inl (omega arith)
    go (inr (e, p)) (inr (f, q)) rest = inr (omega arith, rest p q)

pub in_order_antisym : (u v : Word) → InOrder u v → InOrder v u → u ≡ v
in_order_antisym [] [] h k = refl
in_order_antisym [] (b ∷ v) h k = absurd k
in_order_antisym (a ∷ u) [] h k = absurd h
in_order_antisym (a ∷ u) (b ∷ v) h k = go h k (λ p q. in_order_antisym u v p q)
  where
    go : (a < b) ⊎ ((a ≡ b) × InOrder u v) → (b < a) ⊎ ((b ≡ a) × InOrder v u) → (InOrder u v → InOrder v u → u ≡ v) → a ∷ u ≡ b ∷ v
    go (inl l) (inl r) rest = absurd (omega arith)
    go (inl l) (inr (f, q)) rest = absurd (omega arith)
    go (inr (e, p)) (inl r) rest = absurd (omega arith)
    go (inr (e, p)) (inr (f, q)) rest = ap₂ ◌∷◌ e (rest p q)

-- what stands between w and an extension of w is an extension of w
between : (w v x : Word) → InOrder w v → InOrder v (w ++ x) → (y : Word) × (v ≡ w ++ y)
between [] v x h k = (v, refl)
between (a ∷ w) [] x h k = absurd h
between (a ∷ w) (b ∷ v) x h k = go h k (λ p q. between w v x p q)
  where
    go : (a < b) ⊎ ((a ≡ b) × InOrder w v) → (b < a) ⊎ ((b ≡ a) × InOrder v (w ++ x)) → (InOrder w v → InOrder v (w ++ x) → (y : Word) × (v ≡ w ++ y)) → (y : Word) × (b ∷ v ≡ a ∷ w ++ y)
    go (inl l) (inl r) rest = absurd (omega arith)
    go (inl l) (inr (f, q)) rest = absurd (omega arith)
    go (inr (e, p)) (inl r) rest = absurd (omega arith)
    go (inr (e, p)) (inr (f, q)) rest = let (y, s) = rest p q in (y, ap₂ ◌∷◌ f s)

pub begins_between : (w v u : Word) → InOrder w v → InOrder v u → begins w u ≡ true → begins w v ≡ true
begins_between w v u h k b =
    let t = tail_of_begins w u b in
    let s = between w v t.0 h (subst (InOrder v) t.1 k) in
    rw s.1 (begins_append w s.0)
