-- Columns that are grown by splits: a column is an expansion of the belts, of the size that its splits say and in digit order; its
-- longest word gets no shorter; and it is made split by split, as the relation `Splits` says.
use Prim.Native.Nat.{ℕ, zero, suc, ◌+◌, ◌*◌, ◌-◌, ◌%◌, ◌≤◌, ◌<◌}
use mathlib.Core.Path.{◌≡◌, refl, sym, ◌∙◌, ap, subst}
use mathlib.Core.Logic.{◌⊎◌, inl, inr}
use mathlib.Core.Bool.{true}
use mathlib.Core.List.{List, [], ◌∷◌, ◌++◌, map, append-nil}
use mathlib.Core.List.Memᴰ
use mathlib.Core.List.{Memᴰ}
use native.Mathlib.Nat.{add-zero, add-suc, mod-lt, le_refl, le_trans}
use native.Mathlib.Omega.{arith}
use lib.ListN.{length, get_or, take, drop, length-append}
use lib.Seq.{split_at, length-take-le}
use Rattle.higman.specs.Words.{Shape, Word, count, digits, child, children}
use Rattle.higman.specs.Bases.{root_words, Expansion, longest}
use Rattle.higman.specs.Normal.{ordered}
use Rattle.higman.specs.Exercises.{next_draw, drawn, expanded_at, grown, draw_after, Splits, no_split, split}
use Rattle.higman.proofs.Tests.{count_bounds}
use Rattle.higman.proofs.Expansions.{length_of_expansion}
use Rattle.higman.proofs.Ordered.{Before, BeforeAll, Sorted, test_of_sorted}

-- a word before another is before what the other begins, and so is what it begins itself
before_longer : (u w x : Word) → Before u w → Before u (w ++ x)
before_longer [] w x h = absurd h
before_longer (a ∷ u) [] x h = absurd h
before_longer (a ∷ u) (b ∷ w) x h = go h (λ k. before_longer u w x k)
  where
    go : (a < b) ⊎ ((a ≡ b) × Before u w) → (Before u w → Before u (w ++ x)) → Before (a ∷ u) (b ∷ w ++ x)
    go (inl l) rest = inl l
    go (inr (e, k)) rest = inr (e, rest k)

longer_before : (w x v : Word) → Before w v → Before (w ++ x) v
longer_before [] x v h = absurd h
longer_before (a ∷ w) x [] h = absurd h
longer_before (a ∷ w) x (b ∷ v) h = go h (λ k. longer_before w x v k)
  where
    go : (a < b) ⊎ ((a ≡ b) × Before w v) → (Before w v → Before (w ++ x) v) → Before (a ∷ w ++ x) (b ∷ v)
    go (inl l) rest = inl l
    go (inr (e, k)) rest = inr (e, rest k)

before_child : (w : Word) (a b : ℕ) → a < b → Before (child w a) (child w b)
before_child [] a b h = inl h
before_child (i ∷ w) a b h = inr (refl, before_child w a b h)

-- The children of w in place of w, counted from a so that the recursion goes through. The belts are the children of [].
sorted_children : (w : Word) (back : List Word) → BeforeAll w back → Sorted back → (a m : ℕ) → Sorted (map (child w) (count a m) ++ back)
sorted_children w back f h a zero = h
sorted_children w back f h a (suc m) =
    (λ u k. go u (Memᴰ.append_cases (map (child w) (count (suc a) m)) k), sorted_children w back f h (suc a) m)
  where
    later : (u : Word) → (b : ℕ) × Memᴰ b (count (suc a) m) × (child w b ≡ u) → Before (child w a) u
    later u (b, k, e) = subst (Before (child w a)) e (before_child w a b (count_bounds (suc a) m b k).0)

    go : (u : Word) → Memᴰ u (map (child w) (count (suc a) m)) ⊎ Memᴰ u back → Before (child w a) u
    go u (inl k) = later u (Memᴰ.of_map (child w) (count (suc a) m) k)
    go u (inr k) = longer_before w (a ∷ []) u (f u k)

-- a split keeps the order
sorted_split : (n : ℕ) (front : List Word) (w : Word) (back : List Word) → Sorted (front ++ w ∷ back) → Sorted (front ++ children n w ++ back)
sorted_split n [] w back h = sorted_children w back h.0 h.1 1 n
sorted_split n (v ∷ front) w back h =
    (λ u m. outer u (Memᴰ.append_cases (front ++ children n w) m), sorted_split n front w back h.1)
  where
    part : (u : Word) → (i : ℕ) × Memᴰ i (digits n) × (child w i ≡ u) → Before v u
    part u (i, k, e) = subst (Before v) e (before_longer v w (i ∷ []) (h.0 w (Memᴰ.append_right front (Memᴰ.head refl))))

    inner : (u : Word) → Memᴰ u front ⊎ Memᴰ u (children n w) → Before v u
    inner u (inl m) = h.0 u (Memᴰ.append_left (w ∷ back) m)
    inner u (inr m) = part u (Memᴰ.of_map (child w) (digits n) m)

    outer : (u : Word) → Memᴰ u (front ++ children n w) ⊎ Memᴰ u back → Before v u
    outer u (inl m) = inner u (Memᴰ.append_cases front m)
    outer u (inr m) = h.0 u (Memᴰ.append_right front (Memᴰ.tail m))

longest_behind : (front back : List Word) → longest back ≤ longest (front ++ back)
longest_behind [] back = le_refl (longest back)
longest_behind (v ∷ front) back = omega (arith, longest_behind front back)

-- the children are longer than the word
longest_children : (n : ℕ) → 1 ≤ n → (w : Word) (back : List Word) → longest (w ∷ back) ≤ longest (children n w ++ back)
longest_children zero h w back = absurd (omega arith)
longest_children (suc m) h w back = omega (arith, length-append w (1 ∷ []), longest_behind (map (child w) (count 2 m)) back)

longest_split : (n : ℕ) → 1 ≤ n → (front : List Word) (w : Word) (back : List Word)
    → longest (front ++ w ∷ back) ≤ longest (front ++ children n w ++ back)
longest_split n h [] w back = longest_children n h w back
longest_split n h (v ∷ front) w back = omega (arith, longest_split n h front w back)

-- one more split, behind those that are made
split_on : {n x k y : ℕ} {c e : List Word} → Splits n x c k y e → (place : ℕ) → place < length e → ordered e ≡ true
    → place ≡ draw_after y % length e → Splits n x c (suc k) (draw_after y) (expanded_at n e place)
split_on {n} {x} {c} no_split place h o p =
    let front = take place c in
    let w = get_or c place [] in
    let back = drop (suc place) c in
    let e : c ≡ front ++ w ∷ back = split_at c place [] h in
    subst
    (λ z. Splits n x z 1 (draw_after x) (front ++ children n w ++ back))
    (sym e)
    (split front w back (rw (← e) o) (length-take-le place c (omega arith) ∙ p ∙ ap (λ z. draw_after x % length z) e) no_split)
split_on (split front w back o' p' rest) place h o p = split front w back o' p' (split_on rest place h o p)

module _ (s : Shape) (n : 1 ≤ s.arity) (r : 1 ≤ s.roots) where
  -- an expansion has a word, since there is a belt
  nonempty : (k : ℕ) (c : List Word) → Expansion s k c → 1 ≤ length c
  nonempty k c e = omega (arith, length_of_expansion s n k c e)

  pub grown_expands : (x k : ℕ) → Expansion s k (grown s x k)
  unfolding grown
  grown_expands x zero = refl
  grown_expands x (suc k) =
      let c = grown s x k in
      let e = grown_expands x k in
      let place = drawn x (suc k) % length c in
      let inside : place < length c = mod-lt (drawn x (suc k)) (nonempty k c e) in
      (take place c, get_or c place [], drop (suc place) c, subst (Expansion s k) (split_at c place [] inside) e, refl)

  pub grown_size : (x k : ℕ) → length (grown s x k) ≡ s.roots + k * (s.arity - 1)
  grown_size x k = length_of_expansion s n k (grown s x k) (grown_expands x k)

  pub grown_nonempty : (x k : ℕ) → 1 ≤ length (grown s x k)
  grown_nonempty x k = nonempty k (grown s x k) (grown_expands x k)

  -- whatever is drawn, its remainder is a place of the column
  pub place_inside : (x k draw : ℕ) → draw % length (grown s x k) < length (grown s x k)
  place_inside x k draw = mod-lt draw (grown_nonempty x k)

  -- the place of the next split, and the column taken apart there
  abbrev place : ℕ → ℕ → ℕ
  place x k = drawn x (suc k) % length (grown s x k)

  column_apart : (x k : ℕ)
      → grown s x k ≡ take (place x k) (grown s x k) ++ get_or (grown s x k) (place x k) [] ∷ drop (suc (place x k)) (grown s x k)
  column_apart x k = split_at (grown s x k) (place x k) [] (place_inside x k (drawn x (suc k)))

  grown_sorted : (x k : ℕ) → Sorted (grown s x k)
  unfolding grown
  grown_sorted x zero = subst Sorted (append-nil (root_words s)) (sorted_children [] [] (λ u m. absurd (Memᴰ.not-nil m)) tt 1 s.roots)
  grown_sorted x (suc k) =
      sorted_split
      s.arity
      (take (place x k) (grown s x k))
      (get_or (grown s x k) (place x k) [])
      (drop (suc (place x k)) (grown s x k))
      (subst Sorted (column_apart x k) (grown_sorted x k))

  pub grown_ordered : (x k : ℕ) → ordered (grown s x k) ≡ true
  grown_ordered x k = test_of_sorted (grown s x k) (grown_sorted x k)

  -- a split makes the longest word no shorter
  pub split_longest : (x k : ℕ) → longest (grown s x k) ≤ longest (grown s x (suc k))
  unfolding grown
  split_longest x k =
      subst
      (λ z. longest z ≤ longest (grown s x (suc k)))
      (sym (column_apart x k))
      (longest_split
      s.arity
      n
      (take (place x k) (grown s x k))
      (get_or (grown s x k) (place x k) [])
      (drop (suc (place x k)) (grown s x k)))

  pub grown_longest : (x k j : ℕ) → longest (grown s x k) ≤ longest (grown s x (k + j))
  grown_longest x k zero = rw add-zero (le_refl (longest (grown s x k)))
  grown_longest x k (suc j) = rw add-suc (le_trans (grown_longest x k j) (split_longest x (k + j)))

  pub grown_splits : (x k : ℕ) → Splits s.arity x (root_words s) k (drawn x k) (grown s x k)
  unfolding grown drawn next_draw
  grown_splits x zero = no_split
  grown_splits x (suc k) = split_on (grown_splits x k) (place x k) (place_inside x k (drawn x (suc k))) (grown_ordered x k) refl
