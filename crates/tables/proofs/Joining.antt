-- Joins found by a pass over the places. What is found at a place is a join; and in a table in order n pairs that join stand next to
-- each other, for no word stands between wi and w(i + 1): so a table in order is reduced exactly if none is found.
use Prim.Native.Nat.{ℕ, zero, suc, ◌+◌, ◌-◌, ◌≤◌, ◌<◌}
use mathlib.Core.Path.{◌≡◌, refl, sym, ◌∙◌, ap, ap₂, subst}
use mathlib.Core.Logic.{◌↔◌, ◌⊎◌, inl, inr}
use mathlib.Core.Bool.{Bool, true, false, ◌&&◌, ◌||◌, not}
use mathlib.Core.List.Memᴰ
use mathlib.Core.List.{List, [], ◌∷◌, ◌++◌, head-eq_of_cons-eq, Memᴰ}
use native.Mathlib.Omega.{arith}
use lib.Dec.{T}
use lib.ListN.{length, take, drop, length-take, length-drop, take-append-drop}
use borrow.Author.Tests.{not-true}
use Rattle.std.specs.List.{list_any, range_with_len}
use Rattle.higman.specs.Words.{Shape, Word, count, digits, child}
use Rattle.higman.specs.Tables.{Pair, Table, froms, same_table}
use Rattle.higman.specs.Normal.{gather, whole, parts, keep, Joinable, Reduced, ordered}
use Rattle.higman.proofs.Tests.{passes, so, T_of, clash, and_left, and_right, and_intro, or_false, or_cases, or_true_left, or_true_right, count_bounds, digit_of_mem, same_table_lem, same_table_refl}
use Rattle.higman.proofs.Blocks.{mem_gather}
use Rattle.higman.proofs.Columns.{deep_longest, proper_of_column}
use Rattle.higman.proofs.Ordered.{Before, Sorted, sorted_of_test}
use Rattle.higman.proofs.Reduced.{keep_of_reduced}
use Rattle.words.specs.Packed.{unpack, last}
use Rattle.words.proofs.Packing.{unpack_zero, unpack_injective}
use Rattle.words.proofs.Children.{last_child, parent_of_child}
use Rattle.columns.specs.Packed.{words_of, table, rows_at}
use Rattle.columns.specs.Columns.{word_at}
use Rattle.tables.specs.Reduction.{prefixed, Reducible}
use Rattle.tables.specs.Spreading.{pair}
use Rattle.tables.specs.Joining.{is_rooted, above, joins_first, has_join, is_normal}
use Rattle.columns.proofs.Rearranged.{froms_table}
use Rattle.columns.proofs.Rows.{table_length}
use Rattle.tables.proofs.Cuts.{prefixed_length}
use Rattle.tables.proofs.Joins.{parts_length}
use Rattle.tables.proofs.Lookup.{table_left}

-- the first n pairs join, p being the first of them
record Found (n : ℕ) (p : Pair) (t : Table) : Type 0 where
  from_belt : T (is_rooted (above p.from))
  to_belt : T (is_rooted (above p.to))
  first : take n (p ∷ t) ≡ prefixed (above p.from) (parts n (above p.to))

module _ (n : ℕ) (p : Pair) (t : Table) where
  belts : Bool
  belts = is_rooted (above p.from) && is_rooted (above p.to)

  same : Bool
  same = same_table (take n (p ∷ t)) (prefixed (above p.from) (parts n (above p.to)))

  found : joins_first n (p ∷ t) ≡ true → Found n p t
  unfolding joins_first belts same
  found e =
      let both = and_left belts same (T_of e) in
      record {
        from_belt = and_left (is_rooted (above p.from)) (is_rooted (above p.to)) both;
        to_belt = and_right (is_rooted (above p.from)) (is_rooted (above p.to)) both;
        first = same_table_lem (take n (p ∷ t)) (prefixed (above p.from) (parts n (above p.to))) (and_right belts same (T_of e));
      }

  test_of_found : Found n p t → joins_first n (p ∷ t) ≡ true
  unfolding joins_first belts same
  test_of_found x =
      so (joins_first n (p ∷ t))
      (and_intro belts same
      (and_intro (is_rooted (above p.from)) (is_rooted (above p.to)) x.from_belt x.to_belt)
      (subst (λ l. T (same_table (take n (p ∷ t)) l)) x.first (same_table_refl (take n (p ∷ t)))))

  not_found : (Found n p t → ⊥) → joins_first n (p ∷ t) ≡ false
  not_found h = go (passes (joins_first n (p ∷ t)))
    where
      go : (joins_first n (p ∷ t) ≡ true) ⊎ (joins_first n (p ∷ t) ≡ false) → joins_first n (p ∷ t) ≡ false
      go (inl e) = absurd (h (found e))
      go (inr e) = e

  -- the first of them is a first part
  first_part : 1 ≤ n → Found n p t → p ≡ pair (child (above p.from) 1) (child (above p.to) 1)
  first_part h x = go n h x.first
    where
      go : (k : ℕ) → 1 ≤ k → take k (p ∷ t) ≡ prefixed (above p.from) (parts k (above p.to)) → p ≡ pair (child (above p.from) 1) (child (above p.to) 1)
      go zero l e = absurd (omega arith)
      go (suc k) l e = head-eq_of_cons-eq e

rows_take : (k : ℕ) (f t : List ℕ) → table (take k f) (take k t) ≡ take k (table f t)
rows_take zero f t = refl
rows_take (suc k) [] t = refl
rows_take (suc k) (x ∷ f) [] = refl
rows_take (suc k) (x ∷ f) (y ∷ t) = ap (λ l. pair (unpack x) (unpack y) ∷ l) (rows_take k f t)

rooted : (x : ℕ) (u : Word) → unpack x ≡ u → (x ≡ 0 → ⊥) → is_rooted u ≡ true
rooted x [] e h = absurd (h (unpack_injective x 0 (e ∙ sym unpack_zero)))
rooted x (a ∷ u) e h = refl

-- a place of two columns with a pair at it
module _ (n : ℕ) (some_part : 1 ≤ n) (f t : List ℕ) (at : ℕ) (h : at < length f) (h' : at < length t) where
  rest : Table
  rest = table (drop (at + 1) f) (drop (at + 1) t)

  stands : table (drop at f) (drop at t) ≡ pair (word_at f at) (word_at t at) ∷ rest
  unfolding rest
  stands = table_left f t at h h'

  none_at : (Found n (pair (word_at f at) (word_at t at)) rest → ⊥) → joins_first n (table (drop at f) (drop at t)) ≡ false
  none_at k = ap (joins_first n) stands ∙ not_found n (pair (word_at f at) (word_at t at)) rest k

  pub from_digit : (last (word_at f at) ≡ 1 → ⊥) → joins_first n (table (drop at f) (drop at t)) ≡ false
  from_digit k =
      none_at (λ x. k (ap (λ q. last q.from) (first_part n (pair (word_at f at) (word_at t at)) rest some_part x) ∙ last_child (above (word_at f at)) 1))

  pub to_digit : (last (word_at t at) ≡ 1 → ⊥) → joins_first n (table (drop at f) (drop at t)) ≡ false
  to_digit k =
      none_at (λ x. k (ap (λ q. last q.to) (first_part n (pair (word_at f at) (word_at t at)) rest some_part x) ∙ last_child (above (word_at t at)) 1))

  module _ (w v : ℕ) (e : unpack w ≡ above (word_at f at)) (e' : unpack v ≡ above (word_at t at)) where
    pub from_belt : w ≡ 0 → joins_first n (table (drop at f) (drop at t)) ≡ false
    from_belt z = none_at (λ x. subst (λ u. T (is_rooted u)) (sym e ∙ ap unpack z ∙ unpack_zero) x.from_belt)

    pub to_belt : v ≡ 0 → joins_first n (table (drop at f) (drop at t)) ≡ false
    to_belt z = none_at (λ x. subst (λ u. T (is_rooted u)) (sym e' ∙ ap unpack z ∙ unpack_zero) x.to_belt)

    -- below two words of at least a belt the parts decide
    pub by_parts : (w ≡ 0 → ⊥) → (v ≡ 0 → ⊥)
        → same_table (rows_at at n f t) (prefixed (unpack w) (parts n (unpack v))) ≡ joins_first n (table (drop at f) (drop at t))
    unfolding joins_first rest same
    by_parts k k' =
        let p = pair (word_at f at) (word_at t at) in
        ap₂ (λ l y. same_table l y) (rows_take n (drop at f) (drop at t) ∙ ap (take n) stands) (ap₂ (λ x y. prefixed x (parts n y)) e e')
        ∙ sym (ap₂ (λ x y. x && y && same n p rest) (rooted w (above (word_at f at)) e k) (rooted v (above (word_at t at)) e' k'))
        ∙ ap (joins_first n) (sym stands)

  -- a join at the place, or behind it
  pub joins_from : has_join n (table (drop at f) (drop at t)) ≡ (joins_first n (table (drop at f) (drop at t)) || has_join n (table (drop (at + 1) f) (drop (at + 1) t)))
  unfolding rest
  joins_from = ap (has_join n) stands ∙ ap (λ l. joins_first n l || has_join n rest) (sym stands)

-- fewer than n pairs do not join
few : (n : ℕ) (t : Table) → length t < n → has_join n t ≡ false
few n [] h = refl
few n (p ∷ t) h = or_false (joins_first n (p ∷ t)) (has_join n t) (not_found n p t short) (few n t (omega arith))
  where
    short : Found n p t → ⊥
    short x =
        let w = above p.from in
        let v = above p.to in
        omega (arith, ap length x.first, length-take n (p ∷ t), prefixed_length w (parts n v), parts_length v 1 n)

pub joins_few : (n : ℕ) (f t : List ℕ) (at : ℕ) → length f ≡ length t → length f < at + n → 1 ≤ n → has_join n (table (drop at f) (drop at t)) ≡ false
joins_few n f t at e h k =
    few n (table (drop at f) (drop at t))
    (omega (arith, table_length (drop at f) (drop at t) (length-drop at f ∙ ap (λ l. l - at) e ∙ sym (length-drop at t)), length-drop at f))

-- the pass over the places, each looked at by itself, of which there are m from a place on
pub found_somewhere : (n : ℕ) (f t : List ℕ) → 1 ≤ n → length f ≡ length t → (at m : ℕ) → length f + 1 - n - at ≡ m
    → list_any (λ k. joins_first n (table (drop k f) (drop k t))) (range_with_len at m) ≡ has_join n (table (drop at f) (drop at t))
found_somewhere n f t h e at zero l = sym (joins_few n f t at e (omega arith) h)
found_somewhere n f t h e at (suc m) l =
    ap (λ b. joins_first n (table (drop at f) (drop at t)) || b) (found_somewhere n f t h e (at + 1) m (omega arith))
    ∙ sym (joins_from n h f t at (omega arith) (omega arith))

part_listed : (n : ℕ) (w v : Word) (i : ℕ) → Memᴰ i (digits n) → Memᴰ (pair (child w i) (child v i)) (prefixed w (parts n v))
part_listed n w v i m =
    Memᴰ.map (λ p. pair (w ++ p.from) p.to) (mem_gather (digits n) (λ j. whole (child v j)) i (pair [] (child v i)) m (Memᴰ.head refl))

-- what is found is a join
join_of_test : (n : ℕ) (t : Table) → has_join n t ≡ true → (w : Word) × (v : Word) × T (is_rooted w) × T (is_rooted v) × Joinable n t w v
join_of_test n [] e = absurd (clash e refl)
join_of_test n (p ∷ t) e = go (or_cases (joins_first n (p ∷ t)) (has_join n t) e) (λ k. join_of_test n t k)
  where
    w : Word
    w = above p.from

    v : Word
    v = above p.to

    here : Found n p t → Joinable n (p ∷ t) w v
    here x i m =
        subst (Memᴰ (pair (child w i) (child v i))) (take-append-drop n (p ∷ t))
        (Memᴰ.append_left (drop n (p ∷ t)) (subst (Memᴰ (pair (child w i) (child v i))) (sym x.first) (part_listed n w v i m)))

    go : (joins_first n (p ∷ t) ≡ true) ⊎ (has_join n t ≡ true)
        → (has_join n t ≡ true → (w : Word) × (v : Word) × T (is_rooted w) × T (is_rooted v) × Joinable n t w v)
        → (w : Word) × (v : Word) × T (is_rooted w) × T (is_rooted v) × Joinable n (p ∷ t) w v
    go (inl h) onward = let x = found n p t h in (w, v, x.from_belt, x.to_belt, here x)
    go (inr h) onward = let (u, y, a, b, j) = onward h in (u, y, a, b, λ i m. Memᴰ.tail (j i m))

none_of_reduced : (n : ℕ) (t : Table) → Reduced n t → has_join n t ≡ false
none_of_reduced n t r = go (passes (has_join n t))
  where
    never : (w v : Word) → T (is_rooted w) → T (is_rooted v) → Joinable n t w v → ⊥
    never [] v a b j = a
    never (c ∷ w) [] a b j = b
    never (c ∷ w) (d ∷ v) a b j = r c d w v j

    go : (has_join n t ≡ true) ⊎ (has_join n t ≡ false) → has_join n t ≡ false
    go (inl e) = let (w, v, a, b, j) = join_of_test n t e in absurd (never w v a b j)
    go (inr e) = e

-- the parts of a word are in order as their digits are
before_parts : (w : Word) (i j : ℕ) → Before (child w i) (child w j) → i < j
before_parts [] i j h = go h
  where
    go : (i < j) ⊎ ((i ≡ j) × ⊥) → i < j
    go (inl l) = l
    go (inr (e, k)) = absurd k
before_parts (a ∷ w) i j h = go h (λ k. before_parts w i j k)
  where
    go : (a < a) ⊎ ((a ≡ a) × Before (child w i) (child w j)) → (Before (child w i) (child w j) → i < j) → i < j
    go (inl l) rest = absurd (omega arith)
    go (inr (e, k)) rest = rest k

-- and no word stands between one and the next
none_between : (w u : Word) (i : ℕ) → Before (child w i) u → Before u (child w (suc i)) → ⊥
none_between [] [] i h k = h
none_between [] (b ∷ u) i h k = go h k
  where
    not_before : (x : Word) → Before x [] → ⊥
    not_before [] l = l
    not_before (c ∷ x) l = l

    go : (i < b) ⊎ ((i ≡ b) × Before [] u) → (b < suc i) ⊎ ((b ≡ suc i) × Before u []) → ⊥
    go (inl l) (inl r) = omega arith
    go (inl l) (inr (e, r)) = not_before u r
    go (inr (e, l)) r = l
none_between (a ∷ w) [] i h k = h
none_between (a ∷ w) (b ∷ u) i h k = go h k (λ p q. none_between w u i p q)
  where
    go : (a < b) ⊎ ((a ≡ b) × Before (child w i) u) → (b < a) ⊎ ((b ≡ a) × Before u (child w (suc i))) → (Before (child w i) u → Before u (child w (suc i)) → ⊥) → ⊥
    go (inl l) (inl r) rest = omega arith
    go (inl l) (inr (f, q)) rest = omega arith
    go (inr (e, p)) (inl r) rest = omega arith
    go (inr (e, p)) (inr (f, q)) rest = rest p q

-- the parts of w with the parts of v, in a table in order
module _ (w v : Word) where
  part : ℕ → Pair
  part i = pair (child w i) (child v i)

  digit_of_part : (i j : ℕ) → part i ≡ part j → i ≡ j
  unfolding part
  digit_of_part i j e = sym (last_child w i) ∙ ap (λ p. last p.from) e ∙ last_child w j

  -- another part than the first pair stands behind it
  behind : (i j : ℕ) (p : Pair) (t : Table) → p ≡ part i → i < j → Memᴰ (part j) (p ∷ t) → Memᴰ (part j) t
  behind i j p t e l m = go (Memᴰ.cases_cons m)
    where
      go : (part j ≡ p) ⊎ Memᴰ (part j) t → Memᴰ (part j) t
      go (inl q) = absurd (omega (arith, digit_of_part j i (q ∙ e)))
      go (inr k) = k

  -- the part after the first pair is its neighbour
  next : (i : ℕ) (p q : Pair) (t : Table) → Sorted (froms (p ∷ q ∷ t)) → p ≡ part i → Memᴰ (part (suc i)) (q ∷ t) → q ≡ part (suc i)
  unfolding part
  next i p q t s e m = go (Memᴰ.cases_cons m)
    where
      go : (part (suc i) ≡ q) ⊎ Memᴰ (part (suc i)) t → q ≡ part (suc i)
      go (inl x) = sym x
      go (inr k) =
          absurd
          (none_between w q.from i
          (subst (λ r. Before r.from q.from) e (s.0 q.from (Memᴰ.head refl)))
          (s.1.0 (child w (suc i)) (Memᴰ.map (λ r. r.from) k)))

  run : (m i : ℕ) (p : Pair) (t : Table) → Sorted (froms (p ∷ t)) → p ≡ part i → ((j : ℕ) → Memᴰ j (count i (suc m)) → Memᴰ (part j) (p ∷ t))
      → take (suc m) (p ∷ t) ≡ prefixed w (gather (count i (suc m)) (λ j. whole (child v j)))
  unfolding part
  run zero i p t s e l = ap (λ q. q ∷ []) e
  run (suc m) i p [] s e l =
      absurd (Memᴰ.not-nil (behind i (suc i) p [] e (omega arith) (l (suc i) (Memᴰ.tail (Memᴰ.head refl)))))
  run (suc m) i p (q ∷ t) s e l =
      let second = next i p q t s e (behind i (suc i) p (q ∷ t) e (omega arith) (l (suc i) (Memᴰ.tail (Memᴰ.head refl)))) in
      ap₂ ◌∷◌ e
      (run m (suc i) q t s.1 second (λ j k. behind i j p (q ∷ t) e (count_bounds (suc i) (suc m) j k).0 (l j (Memᴰ.tail k))))

  -- n pairs that join are found
  test_of_join : (m : ℕ) → T (is_rooted w) → T (is_rooted v) → (t : Table) → Sorted (froms t) → Joinable (suc m) t w v → has_join (suc m) t ≡ true
  unfolding part
  test_of_join m a b [] s j = absurd (Memᴰ.not-nil (j 1 (Memᴰ.head refl)))
  test_of_join m a b (p ∷ t) s j = go (Memᴰ.cases_cons (j 1 (Memᴰ.head refl))) (λ k. test_of_join m a b t s.1 k)
    where
      here : part 1 ≡ p → Found (suc m) p t
      here e =
          let from : w ≡ above p.from = sym (parent_of_child w 1) ∙ ap (λ q. above q.from) e in
          let to : v ≡ above p.to = sym (parent_of_child v 1) ∙ ap (λ q. above q.to) e in
          record {
            from_belt = subst (λ u. T (is_rooted u)) from a;
            to_belt = subst (λ u. T (is_rooted u)) to b;
            first = run m 1 p t s (sym e) j ∙ ap₂ (λ x y. prefixed x (parts (suc m) y)) from to;
          }

      -- where the first part is not the first pair, none of the parts is
      later : Memᴰ (part 1) t → (i : ℕ) → Memᴰ i (digits (suc m)) → (part i ≡ p) ⊎ Memᴰ (part i) t → Memᴰ (part i) t
      later k i l (inl e) =
          let before = subst (λ r. Before r.from (child w 1)) (sym e) (s.0 (child w 1) (Memᴰ.map (λ r. r.from) k)) in
          absurd (omega (arith, before_parts w i 1 before, (digit_of_mem (suc m) i l).0))
      later k i l (inr x) = x

      go : (part 1 ≡ p) ⊎ Memᴰ (part 1) t → (Joinable (suc m) t w v → has_join (suc m) t ≡ true) → has_join (suc m) (p ∷ t) ≡ true
      go (inl e) _ = or_true_left (joins_first (suc m) (p ∷ t)) (has_join (suc m) t) (test_of_found (suc m) p t (here e))
      go (inr k) rest =
          or_true_right (joins_first (suc m) (p ∷ t)) (has_join (suc m) t) (rest (λ i l. later k i l (Memᴰ.cases_cons (j i l))))

-- a table in order is reduced exactly if the pass finds no join
reduced_exactly : (n : ℕ) (t : Table) → 1 ≤ n → ordered (froms t) ≡ true → (has_join n t ≡ false) ↔ Reduced n t
reduced_exactly zero t h o = absurd (omega arith)
reduced_exactly (suc m) t h o = (
  λ e a b w v j. clash (test_of_join (a ∷ w) (b ∷ v) m tt tt t (sorted_of_test (froms t) o) j) e,
  none_of_reduced (suc m) t,
)

-- a table that may be reduced and in which the pass finds no join is kept as it is
pub kept_without_join : (s : Shape) (t : Table) → 1 ≤ s.arity → Reducible s t → has_join s.arity t ≡ false → keep s t ≡ t
kept_without_join s t h r e =
    let proper = proper_of_column s (froms t) h r.column in
    keep_of_reduced s t h proper (deep_longest s (froms t) h proper) ((reduced_exactly s.arity t h r.in_order).0 e) r.in_order

-- the two tests together say that a table is reduced and in order
pub normal_exactly : (n : ℕ) (t : Table) → 1 ≤ n → T (is_normal n t) ↔ (Reduced n t × (ordered (froms t) ≡ true))
unfolding is_normal
normal_exactly n t h = (
  λ k.
      let order = so (ordered (froms t)) (and_left (ordered (froms t)) (not (has_join n t)) k) in
      ((reduced_exactly n t h order).0 (not-true (has_join n t) (so (not (has_join n t)) (and_right (ordered (froms t)) (not (has_join n t)) k))), order),
  λ (r, o). and_intro (ordered (froms t)) (not (has_join n t)) (T_of o) (T_of (ap not ((reduced_exactly n t h o).1 r))),
)

-- the tests of two columns
module _ (n : ℕ) (f t : List ℕ) (paired : length f ≡ length t) where
  pub normal_unordered : ordered (words_of f) ≡ false → is_normal n (table f t) ≡ false
  unfolding is_normal
  normal_unordered e = ap (λ b. b && not (has_join n (table f t))) (ap ordered (froms_table f t paired) ∙ e)

  pub normal_ordered : ordered (words_of f) ≡ true → is_normal n (table f t) ≡ not (has_join n (table f t))
  unfolding is_normal
  normal_ordered e = ap (λ b. b && not (has_join n (table f t))) (ap ordered (froms_table f t paired) ∙ e)
