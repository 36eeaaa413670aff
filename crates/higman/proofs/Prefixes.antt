-- Prefixes and tails: `after` undoes an append, two prefixes of one word are comparable, and the parts of words are ways.
use Prim.Native.Nat.{ℕ, zero, suc, ◌≤◌}
use mathlib.Core.Path.{◌≡◌, refl, sym, ap, ap₂, subst}
use mathlib.Core.Logic.{◌⊎◌, inl, inr}
use mathlib.Core.Bool.{Bool, true, false}
use mathlib.Core.List.{[], ◌∷◌, ◌++◌, nil≢cons, head-eq_of_cons-eq, tail-eq_of_cons-eq, append_assoc}
use mathlib.Core.Option.{Option, none, some, none-ne-some, some-injective}
use native.Mathlib.Nat.{le_refl}
use lib.Dec.{eqb}
use lib.ListN.{length, replicate, length-replicate}
use borrow.Author.Tests.{eqb-true, eq-eqb}
use Rattle.higman.specs.Words.{Shape, Word, after, given, begins, begins_properly, child}
use Rattle.higman.proofs.Tests.{clash, Ways, IsWord}

pub after_append : (p x : Word) → after p (p ++ x) ≡ some x
after_append [] x = refl
after_append (a ∷ p) x = rw (eq-eqb a a refl, after) (after_append p x)

pub after_some_lem : (p w x : Word) → after p w ≡ some x → w ≡ p ++ x
after_some_lem [] w x e = some-injective _ _ e
after_some_lem (a ∷ p) [] x e = absurd (none-ne-some x e)
after_some_lem (a ∷ p) (b ∷ w) x e = go (eqb a b) refl e (λ k. after_some_lem p w x k)
  where
    go : (c : Bool) → eqb a b ≡ c → elim c as (λ _. Option Word) [ true ↦ after p w | false ↦ none ] ≡ some x → (after p w ≡ some x → w ≡ p ++ x) → b ∷ w ≡ a ∷ (p ++ x)
    go true h k rest = ap₂ ◌∷◌ (sym (eqb-true a b h)) (rest k)
    go false h k rest = absurd (none-ne-some x k)

-- a word begins its extensions, and no others
pub begins_append : (p x : Word) → begins p (p ++ x) ≡ true
begins_append p x = ap given (after_append p x)

pub tail_of_begins : (p w : Word) → begins p w ≡ true → (x : Word) × (w ≡ p ++ x)
tail_of_begins p w e = go (after p w) refl e
  where
    go : (o : Option Word) → after p w ≡ o → given o ≡ true → (x : Word) × (w ≡ p ++ x)
    go none h k = absurd (clash k refl)
    go (some x) h k = (x, after_some_lem p w x h)

-- of two prefixes of one word, one begins the other
pub comparable : (p q x y : Word) → p ++ x ≡ q ++ y → ((z : Word) × (q ≡ p ++ z)) ⊎ ((z : Word) × (p ≡ q ++ z))
comparable [] q x y e = inl (q, refl)
comparable (a ∷ p) [] x y e = inr (a ∷ p, refl)
comparable (a ∷ p) (b ∷ q) x y e = go (comparable p q x y (tail-eq_of_cons-eq e))
  where
    go : ((z : Word) × (q ≡ p ++ z)) ⊎ ((z : Word) × (p ≡ q ++ z)) → ((z : Word) × (b ∷ q ≡ a ∷ p ++ z)) ⊎ ((z : Word) × (a ∷ p ≡ b ∷ q ++ z))
    go (inl (z, h)) = inl (z, ap₂ ◌∷◌ (sym (head-eq_of_cons-eq e)) h)
    go (inr (z, h)) = inr (z, ap₂ ◌∷◌ (head-eq_of_cons-eq e) h)

pub child_append : (w : Word) (i : ℕ) (x : Word) → child w i ++ x ≡ w ++ i ∷ x
child_append w i x = append_assoc w (i ∷ []) x

-- a prefix of a child is the child, or a prefix of its parent
pub prefix_of_child : (u y w : Word) (i : ℕ) → u ++ y ≡ child w i → (y ≡ []) ⊎ ((z : Word) × (w ≡ u ++ z))
prefix_of_child [] y w i e = inr (w, refl)
prefix_of_child (a ∷ u) y [] i e = go u y (tail-eq_of_cons-eq e)
  where
    go : (u y : Word) → u ++ y ≡ [] → (y ≡ []) ⊎ ((z : Word) × ([] ≡ a ∷ u ++ z))
    go [] y e = inl e
    go (b ∷ u) y e = absurd (nil≢cons (sym e))
prefix_of_child (a ∷ u) y (b ∷ w) i e = go (prefix_of_child u y w i (tail-eq_of_cons-eq e))
  where
    go : (y ≡ []) ⊎ ((z : Word) × (w ≡ u ++ z)) → (y ≡ []) ⊎ ((z : Word) × (b ∷ w ≡ a ∷ u ++ z))
    go (inl h) = inl h
    go (inr (z, h)) = inr (z, ap₂ ◌∷◌ (sym (head-eq_of_cons-eq e)) h)

pub ways_append : (n : ℕ) (x y : Word) → Ways n x → Ways n y → Ways n (x ++ y)
ways_append n [] y p q = q
ways_append n (i ∷ x) y p q = (p.0, ways_append n x y p.1 q)

pub ways_left : (n : ℕ) (x y : Word) → Ways n (x ++ y) → Ways n x
ways_left n [] y p = tt
ways_left n (i ∷ x) y p = (p.0, ways_left n x y p.1)

pub ways_right : (n : ℕ) (x y : Word) → Ways n (x ++ y) → Ways n y
ways_right n [] y p = p
ways_right n (i ∷ x) y p = ways_right n x y p.1

pub word_append : (s : Shape) (w x : Word) → IsWord s w → Ways s.arity x → IsWord s (w ++ x)
word_append s [] x p q = absurd p
word_append s (a ∷ w) x p q = (p.0, ways_append s.arity w x p.1 q)

-- what stands behind a word in a word are ways
pub word_right : (s : Shape) (w x : Word) → IsWord s w → IsWord s (w ++ x) → Ways s.arity x
word_right s [] x p q = absurd p
word_right s (a ∷ w) x p q = ways_right s.arity w x q.1

-- way 1, k times
pub ones : ℕ → Word
ones k = replicate k 1

pub ones_ways : (n k : ℕ) → 1 ≤ n → Ways n (ones k)
unfolding ones
ones_ways n zero h = tt
ones_ways n (suc k) h = ((le_refl 1, h), ones_ways n k h)

pub ones_length : (k : ℕ) → length (ones k) ≡ k
unfolding ones
ones_length k = length-replicate k 1

-- a word that another properly begins has a digit more, and such a word is properly begun
pub proper_tail : (u w : Word) → begins_properly u w ≡ true → (i : ℕ) × (x : Word) × (w ≡ u ++ i ∷ x)
proper_tail u w e = by_tail (after u w) refl e
  where
    by_tail : (o : Option Word) → after u w ≡ o → elim o [ none ↦ false | some x ↦ elim x [ [] ↦ false | i ∷ y ↦ true ] ] ≡ true
        → (i : ℕ) × (x : Word) × (w ≡ u ++ i ∷ x)
    by_tail none h k = absurd (clash k refl)
    by_tail (some []) h k = absurd (clash k refl)
    by_tail (some (i ∷ x)) h k = (i, x, after_some_lem u w (i ∷ x) h)

pub begins_of_proper : (u w : Word) → begins_properly u w ≡ true → begins u w ≡ true
begins_of_proper u w e = let (i, x, f) = proper_tail u w e in subst (λ v. begins u v ≡ true) (sym f) (begins_append u (i ∷ x))

pub proper_of_tail : (u w : Word) (i : ℕ) (x : Word) → w ≡ u ++ i ∷ x → begins_properly u w ≡ true
proper_of_tail u w i x e = subst (λ v. begins_properly u v ≡ true) (sym e) (rw (after_append u (i ∷ x), begins_properly))
