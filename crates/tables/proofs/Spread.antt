-- The pairs of *a then b* before reduction: where each comes from, that they say what a and then b do, that they are in order, and
-- that they are at most as many as a and b have together. Followed.antt has what this means for the composition.
use Prim.Native.Nat.{ℕ, suc, ◌+◌, ◌≤◌, ◌<◌}
use mathlib.Core.Path.{◌≡◌, refl, sym, ◌∙◌, ap, subst, subst₂}
use mathlib.Core.Logic.{◌⊎◌, inl, inr}
use mathlib.Core.List.Memᴰ
use mathlib.Core.List.{List, [], ◌∷◌, ◌++◌, append-nil, append_assoc, append_cancel_left, Memᴰ}
use mathlib.Core.Option.{Option, none, some, none-ne-some, some-injective}
use native.Mathlib.Omega.{arith}
use lib.ListN.{length, length-append}
use Rattle.higman.specs.Words.{Word, after}
use Rattle.higman.specs.Tables.{Pair, Table, froms, tos, image}
use Rattle.higman.specs.Normal.{and_then}
use Rattle.higman.proofs.Prefixes.{after_append, after_some_lem, comparable}
use Rattle.higman.proofs.Proper.{ApartFrom, Apart}
use Rattle.higman.proofs.Images.{row_of_image, image_of_row, image_steady}
use Rattle.higman.proofs.Actions.{and_then_some, and_then_cases}
use Rattle.higman.proofs.Ordered.{Before, Sorted, before_froms, sorted_append}
use Rattle.tables.specs.Spread.{beneath, spread_pair, spread}

-- a pair of b whose from-word extends q, and the pair that it gives
abbrev Beneath : Word → Word → Table → Pair → Type 0
Beneath p q b r = (u : Pair) × (x : Word) × Memᴰ u b × (u.from ≡ q ++ x) × (r ≡ record { from = p ++ x; to = u.to })

beneath_row : (p q : Word) (b : Table) (r : Pair) → Memᴰ r (beneath p q b) → Beneath p q b r
beneath_row p q [] r m = absurd (Memᴰ.not-nil m)
beneath_row p q (u ∷ b) r m = go (after q u.from) refl m (λ k. beneath_row p q b r k)
  where
    later : Beneath p q b r → Beneath p q (u ∷ b) r
    later (v, x, k, e, f) = (v, x, Memᴰ.tail k, e, f)

    go : (o : Option Word) → after q u.from ≡ o → Memᴰ r (elim o as (λ _. Table) [ none ↦ beneath p q b | some x ↦ record { from = p ++ x; to = u.to } ∷ beneath p q b ]) → (Memᴰ r (beneath p q b) → Beneath p q b r) → Beneath p q (u ∷ b) r
    go none e k rest = later (rest k)
    go (some x) e k rest = either (Memᴰ.cases_cons k)
      where
        either : (r ≡ record { from = p ++ x; to = u.to }) ⊎ Memᴰ r (beneath p q b) → Beneath p q (u ∷ b) r
        either (inl f) = (u, x, Memᴰ.head refl, after_some_lem q u.from x e, f)
        either (inr l) = later (rest l)

mem_beneath : (p q : Word) (b : Table) (u : Pair) (x : Word) → Memᴰ u b → u.from ≡ q ++ x → Memᴰ (record { from = p ++ x; to = u.to }) (beneath p q b)
mem_beneath p q [] u x m e = absurd (Memᴰ.not-nil m)
mem_beneath p q (v ∷ b) u x m e = go (Memᴰ.cases_cons m) (λ k. mem_beneath p q b u x k e)
  where
    r : Pair
    r = record { from = p ++ x; to = u.to }

    put : Option Word → Table
    put o = elim o [ none ↦ beneath p q b | some y ↦ record { from = p ++ y; to = v.to } ∷ beneath p q b ]

    skip : (o : Option Word) → Memᴰ r (beneath p q b) → Memᴰ r (put o)
    skip none k = k
    skip (some y) k = Memᴰ.tail k

    go : (u ≡ v) ⊎ Memᴰ u b → (Memᴰ u b → Memᴰ r (beneath p q b)) → Memᴰ r (put (after q v.from))
    go (inl f) rest =
        subst (λ o. Memᴰ r (put o)) (sym (ap (after q) (sym (ap (λ t. t.from) f) ∙ e) ∙ after_append q x))
        (Memᴰ.head (ap (λ t. record { from = p ++ x; to = t.to }) f))
    go (inr k) rest = skip (after q v.from) (rest k)

-- How a pair r of *a then b* comes from a pair p of a: the to-word of p and the from-word of a pair of b meet, one of them
-- followed by a tail.
pub record Met (p : Pair) (b : Table) (r : Pair) : Type 0 where
  pub second : Pair
  pub ahead : Word
  pub behind : Word
  pub among : Memᴰ second b
  pub meets : p.to ++ ahead ≡ second.from ++ behind
  pub from_is : r.from ≡ p.from ++ ahead
  pub to_is : r.to ≡ second.to ++ behind
  pub one_side : (ahead ≡ []) ⊎ (behind ≡ [])

met_pair : (b : Table) (p r : Pair) → Memᴰ r (spread_pair b p) → Met p b r
met_pair b p r m = go (image b p.to) refl m
  where
    go : (o : Option Word) → image b p.to ≡ o → Memᴰ r (elim o as (λ _. Table) [ none ↦ beneath p.from p.to b | some v ↦ record { from = p.from; to = v } ∷ [] ]) → Met p b r
    go none e k =
        let (u, x, l, f, g) = beneath_row p.from p.to b r k in
        record {
          second = u;
          ahead = x;
          behind = [];
          among = l;
          meets = sym f ∙ sym (append-nil u.from);
          from_is = ap (λ t. t.from) g;
          to_is = ap (λ t. t.to) g ∙ sym (append-nil u.to);
          one_side = inr refl;
        }
    go (some v) e k =
        let (u, x, l, f, g) = row_of_image b p.to v e in
        let h = Memᴰ.eq_of_singleton k in
        record {
          second = u;
          ahead = [];
          behind = x;
          among = l;
          meets = append-nil p.to ∙ f;
          from_is = ap (λ t. t.from) h ∙ sym (append-nil p.from);
          to_is = ap (λ t. t.to) h ∙ g;
          one_side = inl refl;
        }

pub spread_met : (a b : Table) (r : Pair) → Memᴰ r (spread a b) → (p : Pair) × Memᴰ p a × Met p b r
spread_met [] b r m = absurd (Memᴰ.not-nil m)
spread_met (p ∷ a) b r m = go (Memᴰ.append_cases (spread_pair b p) m) (λ k. spread_met a b r k)
  where
    go : Memᴰ r (spread_pair b p) ⊎ Memᴰ r (spread a b) → (Memᴰ r (spread a b) → (q : Pair) × Memᴰ q a × Met q b r) → (q : Pair) × Memᴰ q (p ∷ a) × Met q b r
    go (inl k) rest = (p, Memᴰ.head refl, met_pair b p r k)
    go (inr k) rest = let (q, l, h) = rest k in (q, Memᴰ.tail l, h)

mem_spread : (a b : Table) (p r : Pair) → Memᴰ p a → Memᴰ r (spread_pair b p) → Memᴰ r (spread a b)
mem_spread [] b p r m k = absurd (Memᴰ.not-nil m)
mem_spread (q ∷ a) b p r m k = go (Memᴰ.cases_cons m) (λ l. mem_spread a b p r l k)
  where
    go : (p ≡ q) ⊎ Memᴰ p a → (Memᴰ p a → Memᴰ r (spread a b)) → Memᴰ r (spread_pair b q ++ spread a b)
    go (inl e) rest = Memᴰ.append_left (spread a b) (subst (λ t. Memᴰ r (spread_pair b t)) e k)
    go (inr l) rest = Memᴰ.append_right (spread_pair b q) (rest l)

-- a pair of *a then b* says what a and then b do
pub spread_acts : (a b : Table) → Apart (froms a) → Apart (froms b) → (r : Pair) → Memᴰ r (spread a b) → and_then (image a) (image b) r.from ≡ some r.to
spread_acts a b A B r m = let (p, k, h) = spread_met a b r m in go p k h
  where
    go : (p : Pair) → Memᴰ p a → Met p b r → and_then (image a) (image b) r.from ≡ some r.to
    go p k h =
        and_then_some (image a) (image b) r.from (p.to ++ h.ahead) (ap (image a) h.from_is ∙ image_of_row a A p k h.ahead)
        ∙ ap (image b) h.meets
        ∙ image_of_row b B h.second h.among h.behind
        ∙ ap some (sym h.to_is)

-- the pair of a table that a word and its image lie below
abbrev pub Below : Table → Word → Word → Type 0
Below t w u = (r : Pair) × (x : Word) × Memᴰ r t × (w ≡ r.from ++ x) × (u ≡ r.to ++ x)

-- and what a and then b do, one of the pairs says
pub spread_reaches : (a b : Table) → Apart (froms b) → (w u : Word) → and_then (image a) (image b) w ≡ some u → Below (spread a b) w u
spread_reaches a b B w u e =
    let (v, f, g) = and_then_cases (image a) (image b) w u e in
    let (p, x, m, h, k) = row_of_image a w v f in
    go p x m h (ap (image b) (sym k) ∙ g) (image b p.to) refl
  where
    go : (p : Pair) (x : Word) → Memᴰ p a → w ≡ p.from ++ x → image b (p.to ++ x) ≡ some u → (o : Option Word) → image b p.to ≡ o → Below (spread a b) w u
    go p x m h k (some v) e = (
      record { from = p.from; to = v },
      x,
      mem_spread a b p (record { from = p.from; to = v }) m (rw (e, spread_pair) (Memᴰ.head refl)),
      h,
      some-injective _ _ (sym k ∙ image_steady b B p.to v x e),
    )
    go p x m h k none e = let (q, y, l, f, g) = row_of_image b (p.to ++ x) u k in either q y l f g (comparable p.to q.from x y f)
      where
        either : (q : Pair) (y : Word) → Memᴰ q b → p.to ++ x ≡ q.from ++ y → u ≡ q.to ++ y
            → ((z : Word) × (q.from ≡ p.to ++ z)) ⊎ ((z : Word) × (p.to ≡ q.from ++ z)) → Below (spread a b) w u
        either q y l f g (inl (z, c)) =
            let r : Pair = record { from = p.from ++ z; to = q.to } in
            let d : x ≡ z ++ y = append_cancel_left p.to x (z ++ y) (f ∙ ap (λ t. t ++ y) c ∙ append_assoc p.to z y) in
            (r, y, mem_spread a b p r m (rw (e, spread_pair) (mem_beneath p.from p.to b q z l c)), h ∙ ap (λ t. p.from ++ t) d ∙ sym (append_assoc p.from z y), g)
        either q y l f g (inr (z, c)) =
            absurd (none-ne-some (q.to ++ z) (sym e ∙ ap (image b) c ∙ image_of_row b B q l z))

before_append : (u v x y : Word) → Before u v → Before (u ++ x) (v ++ y)
before_append [] v x y h = absurd h
before_append (a ∷ u) [] x y h = absurd h
before_append (a ∷ u) (b ∷ v) x y h = go h (λ k. before_append u v x y k)
  where
    go : (a < b) ⊎ ((a ≡ b) × Before u v) → (Before u v → Before (u ++ x) (v ++ y)) → (a < b) ⊎ ((a ≡ b) × Before (u ++ x) (v ++ y))
    go (inl l) rest = inl l
    go (inr (e, k)) rest = inr (e, rest k)

before_prepend : (p u v : Word) → Before u v → Before (p ++ u) (p ++ v)
before_prepend [] u v h = h
before_prepend (a ∷ p) u v h = inr (refl, before_prepend p u v h)

before_tails : (p u v : Word) → Before (p ++ u) (p ++ v) → Before u v
before_tails [] u v h = h
before_tails (a ∷ p) u v h = go h (λ k. before_tails p u v k)
  where
    go : (a < a) ⊎ ((a ≡ a) × Before (p ++ u) (p ++ v)) → (Before (p ++ u) (p ++ v) → Before u v) → Before u v
    go (inl l) rest = absurd (omega arith)
    go (inr (e, k)) rest = rest k

-- below one word, the pairs come in the order of b
sorted_beneath : (p q : Word) (b : Table) → Sorted (froms b) → Sorted (froms (beneath p q b))
sorted_beneath p q [] h = tt
sorted_beneath p q (u ∷ b) h = go (after q u.from) refl (sorted_beneath p q b h.1)
  where
    go : (o : Option Word) → after q u.from ≡ o → Sorted (froms (beneath p q b)) → Sorted (froms (elim o as (λ _. Table) [ none ↦ beneath p q b | some x ↦ record { from = p ++ x; to = u.to } ∷ beneath p q b ]))
    go none e rest = rest
    go (some x) e rest = (before_froms (p ++ x) (beneath p q b) (λ r m. let (v, y, k, f, g) = beneath_row p q b r m in ahead r v y k f g), rest)
      where
        ahead : (r v : Pair) (y : Word) → Memᴰ v b → v.from ≡ q ++ y → r ≡ record { from = p ++ y; to = v.to } → Before (p ++ x) r.from
        ahead r v y k f g =
            subst (λ t. Before (p ++ x) t) (sym (ap (λ t. t.from) g))
            (before_prepend p x y (before_tails q x y (subst₂ Before (after_some_lem q u.from x e) f (h.0 v.from (Memᴰ.map (λ t. t.from) k)))))

sorted_pair : (b : Table) (p : Pair) → Sorted (froms b) → Sorted (froms (spread_pair b p))
sorted_pair b p h = go (image b p.to)
  where
    go : (o : Option Word) → Sorted (froms (elim o as (λ _. Table) [ none ↦ beneath p.from p.to b | some v ↦ record { from = p.from; to = v } ∷ [] ]))
    go none = sorted_beneath p.from p.to b h
    go (some v) = (λ u m. absurd (Memᴰ.not-nil m), tt)

pub sorted_spread : (a b : Table) → Sorted (froms a) → Sorted (froms b) → Sorted (froms (spread a b))
sorted_spread [] b h k = tt
sorted_spread (p ∷ a) b h k = sorted_append (spread_pair b p) (spread a b) (sorted_pair b p k) (sorted_spread a b h.1 k) first
  where
    first : (r t : Pair) → Memᴰ r (spread_pair b p) → Memᴰ t (spread a b) → Before r.from t.from
    first r t m l =
        let (q, n, f) = spread_met a b t l in
        let e = met_pair b p r m in
        subst₂ Before (sym e.from_is) (sym f.from_is) (before_append p.from q.from e.ahead f.ahead (h.0 q.from (Memᴰ.map (λ x. x.from) n)))

-- one more where there is a tail
abbrev counted : Option Word → ℕ → ℕ
counted none k = k
counted (some x) k = suc k

-- the number of words of a column that begin w
hits : List Word → Word → ℕ
hits [] w = 0
hits (q ∷ c) w = counted (after q w) (hits c w)

-- where one begins it, no word apart from that one does
hits_none : (q x : Word) (c : List Word) → ApartFrom q c → hits c (q ++ x) ≡ 0
unfolding hits
hits_none q x [] h = refl
hits_none q x (u ∷ c) h = go (after u (q ++ x)) refl (hits_none q x c (λ v m. h v (Memᴰ.tail m)))
  where
    either : ((z : Word) × (u ≡ q ++ z)) ⊎ ((z : Word) × (q ≡ u ++ z)) → ⊥
    either (inl (z, e)) = (h u (Memᴰ.head refl) z).0 e
    either (inr (z, e)) = (h u (Memᴰ.head refl) z).1 e

    go : (o : Option Word) → after u (q ++ x) ≡ o → hits c (q ++ x) ≡ 0 → counted o (hits c (q ++ x)) ≡ 0
    go none e rest = rest
    go (some y) e rest = absurd (either (comparable q u x y (after_some_lem u (q ++ x) y e)))

hits_once : (c : List Word) (w : Word) → Apart c → hits c w ≤ 1
unfolding hits
hits_once [] w h = omega arith
hits_once (q ∷ c) w h = go (after q w) refl (hits_once c w h.1)
  where
    go : (o : Option Word) → after q w ≡ o → hits c w ≤ 1 → counted o (hits c w) ≤ 1
    go none e rest = rest
    go (some x) e rest = omega (arith, ap (hits c) (after_some_lem q w x e) ∙ hits_none q x c h.0)

-- the number of pairs of b below the to-words of a, counted once for each of these
below : Table → Table → ℕ
below [] b = 0
below (p ∷ a) b = length (beneath p.from p.to b) + below a b

below_nil : (a : Table) → below a [] ≡ 0
unfolding below
below_nil [] = refl
below_nil (p ∷ a) = omega (arith, below_nil a)

below_cons : (a : Table) (u : Pair) (b : Table) → below a (u ∷ b) ≡ hits (tos a) u.from + below a b
unfolding below hits
below_cons [] u b = refl
below_cons (p ∷ a) u b = go (after p.to u.from) (below_cons a u b)
  where
    rest : Table
    rest = beneath p.from p.to b

    put : Option Word → Table
    put o = elim o [ none ↦ rest | some x ↦ record { from = p.from ++ x; to = u.to } ∷ rest ]

    go : (o : Option Word) → below a (u ∷ b) ≡ hits (tos a) u.from + below a b
        → length (put o) + below a (u ∷ b) ≡ counted o (hits (tos a) u.from) + (length rest + below a b)
    go none e = omega arith
    go (some x) e = omega arith

-- a pair of b lies below at most one to-word of a
below_length : (a : Table) → Apart (tos a) → (b : Table) → below a b ≤ length b
below_length a h [] = omega (arith, below_nil a)
below_length a h (u ∷ b) = omega (arith, below_cons a u b, hits_once (tos a) u.from h, below_length a h b)

pair_length : (b : Table) (p : Pair) → length (spread_pair b p) ≤ suc (length (beneath p.from p.to b))
pair_length b p = go (image b p.to)
  where
    put : Option Word → Table
    put o = elim o [ none ↦ beneath p.from p.to b | some v ↦ record { from = p.from; to = v } ∷ [] ]

    go : (o : Option Word) → length (put o) ≤ suc (length (beneath p.from p.to b))
    go none = omega arith
    go (some v) = omega arith

length_with_below : (a b : Table) → length (spread a b) ≤ length a + below a b
unfolding below
length_with_below [] b = omega arith
length_with_below (p ∷ a) b = omega (arith, length-append (spread_pair b p) (spread a b), pair_length b p, length_with_below a b)

-- "Following of two plans may need up to 254 pairs .. before reduction"
pub length_of_spread : (a b : Table) → Apart (tos a) → length (spread a b) ≤ length a + length b
length_of_spread a b h = omega (arith, length_with_below a b, below_length a h b)
