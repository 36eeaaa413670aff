-- The order of a table's from-words: what `before` and `ordered` mean, that ordered words do not begin one another, and that a
-- table is known by its order and its rows. With it that every normal form, of any map at all, is in order and has words of the
-- shape on its left.
use Prim.Native.Nat.{ℕ, zero, suc, ◌<◌}
use mathlib.Core.Path.{◌≡◌, refl, sym, ◌∙◌, ap₂, subst}
use mathlib.Core.Logic.{◌⊎◌, inl, inr}
use mathlib.Core.Bool.{true, ◌&&◌}
use mathlib.Core.List.Memᴰ
use mathlib.Core.List.{List, [], ◌∷◌, ◌++◌, Memᴰ}
use native.Mathlib.Omega.{arith}
use lib.Dec.{T, eqb, ltb, ltb→lt, lt→ltb, eqb→eq, eqb_refl}
use Rattle.higman.specs.Words.{Shape, Word, count, digits}
use Rattle.higman.specs.Bases.{all}
use Rattle.higman.specs.Tables.{Pair, Table, BlockMap, froms}
use Rattle.higman.specs.Normal.{below, under, gather, whole, normal, normal_form, before, ordered}
use Rattle.higman.proofs.Tests.{so, T_of, and_left, and_right, and_intro, or_cases, or_true_left, or_true_right, all_at, all_of}
use Rattle.higman.proofs.Tests.{count_bounds, digit_of_mem, Ways, IsWord}
use Rattle.higman.proofs.Blocks.{row_under, gathered, normal_holds}
use Rattle.higman.proofs.Proper.{Apart}

-- at the first digit that differs, the first word has the smaller one
abbrev pub Before : Word → Word → Type 0
Before [] v = ⊥
Before (a ∷ u) [] = ⊥
Before (a ∷ u) (b ∷ v) = (a < b) ⊎ ((a ≡ b) × Before u v)

abbrev pub BeforeAll : Word → List Word → Type 0
BeforeAll w c = (u : Word) → Memᴰ u c → Before w u

abbrev pub Sorted : List Word → Type 0
Sorted [] = Unit {0}
Sorted (w ∷ c) = BeforeAll w c × Sorted c

before_of_test : (u v : Word) → before u v ≡ true → Before u v
before_of_test [] v e = T_of e
before_of_test (a ∷ u) [] e = T_of e
before_of_test (a ∷ u) (b ∷ v) e = go (or_cases (ltb a b) (eqb a b && before u v) e) (λ k. before_of_test u v k)
  where
    go : (ltb a b ≡ true) ⊎ ((eqb a b && before u v) ≡ true) → (before u v ≡ true → Before u v) → Before (a ∷ u) (b ∷ v)
    go (inl h) rest = inl (ltb→lt a b (T_of h))
    go (inr h) rest =
        inr (eqb→eq a b (and_left (eqb a b) (before u v) (T_of h)), rest (so (before u v) (and_right (eqb a b) (before u v) (T_of h))))

test_of_before : (u v : Word) → Before u v → before u v ≡ true
test_of_before [] v h = absurd h
test_of_before (a ∷ u) [] h = absurd h
test_of_before (a ∷ u) (b ∷ v) h = go h (λ k. test_of_before u v k)
  where
    go : (a < b) ⊎ ((a ≡ b) × Before u v) → (Before u v → before u v ≡ true) → before (a ∷ u) (b ∷ v) ≡ true
    go (inl l) rest = or_true_left (ltb a b) (eqb a b && before u v) (so (ltb a b) (lt→ltb a b l))
    go (inr (e, k)) rest =
        or_true_right
        (ltb a b)
        (eqb a b && before u v)
        (so (eqb a b && before u v) (and_intro (eqb a b) (before u v) (subst (λ x. T (eqb a x)) e (eqb_refl a)) (T_of (rest k))))

pub sorted_of_test : (c : List Word) → ordered c ≡ true → Sorted c
sorted_of_test [] e = tt
sorted_of_test (w ∷ c) e =
    let firsts = and_left (all (before w) c) (ordered c) (T_of e) in
    let rest = and_right (all (before w) c) (ordered c) (T_of e) in
    (λ u m. before_of_test w u (so (before w u) (all_at (before w) c firsts u m)), sorted_of_test c (so (ordered c) rest))

pub test_of_sorted : (c : List Word) → Sorted c → ordered c ≡ true
test_of_sorted [] h = refl
test_of_sorted (w ∷ c) h =
    so
    (ordered (w ∷ c))
    (and_intro
    (all (before w) c)
    (ordered c)
    (all_of (before w) c (λ u m. T_of (test_of_before w u (h.0 u m))))
    (T_of (test_of_sorted c h.1)))

-- a word is not before a word that it begins, nor before one that begins it
before_no_extension : (u x : Word) → Before u (u ++ x) → ⊥
before_no_extension [] x h = h
before_no_extension (a ∷ u) x h = go h (λ k. before_no_extension u x k)
  where
    go : (a < a) ⊎ ((a ≡ a) × Before u (u ++ x)) → (Before u (u ++ x) → ⊥) → ⊥
    go (inl l) rest = omega arith
    go (inr (e, k)) rest = rest k

before_no_prefix : (u x : Word) → Before (u ++ x) u → ⊥
before_no_prefix [] [] h = h
before_no_prefix [] (a ∷ x) h = h
before_no_prefix (a ∷ u) x h = go h (λ k. before_no_prefix u x k)
  where
    go : (a < a) ⊎ ((a ≡ a) × Before (u ++ x) u) → (Before (u ++ x) u → ⊥) → ⊥
    go (inl l) rest = omega arith
    go (inr (e, k)) rest = rest k

before_asymmetric : (u v : Word) → Before u v → Before v u → ⊥
before_asymmetric [] v h k = h
before_asymmetric (a ∷ u) [] h k = h
before_asymmetric (a ∷ u) (b ∷ v) h k = go h k (λ p q. before_asymmetric u v p q)
  where
    go : (a < b) ⊎ ((a ≡ b) × Before u v) → (b < a) ⊎ ((b ≡ a) × Before v u) → (Before u v → Before v u → ⊥) → ⊥
    go (inl l) (inl r) rest = omega arith
    go (inl l) (inr (e, q)) rest = omega arith
    go (inr (e, p)) (inl r) rest = omega arith
    go (inr (e, p)) (inr (f, q)) rest = rest p q

sorted_apart : (c : List Word) → Sorted c → Apart c
sorted_apart [] h = tt
sorted_apart (w ∷ c) h = (
  λ u m x.
      (λ e. before_no_extension w x (subst (λ y. Before w y) e (h.0 u m)), λ e. before_no_prefix u x (subst (λ y. Before y u) e (h.0 u m))),
  sorted_apart c h.1,
)

-- words in order of a digit that differs do not begin one another
pub ordered_apart : (c : List Word) → ordered c ≡ true → Apart c
ordered_apart c e = sorted_apart c (sorted_of_test c e)

-- a word before the from-word of each row is before all from-words
pub before_froms : (w : Word) (t : Table) → ((p : Pair) → Memᴰ p t → Before w p.from) → BeforeAll w (froms t)
before_froms w t h u m = let r = Memᴰ.of_map (λ p. p.from) t m in subst (λ y. Before w y) r.2 (h r.0 r.1)

-- two tables in order with the same rows are equal
pub sorted_same : (t u : Table) → Sorted (froms t) → Sorted (froms u)
    → ((p : Pair) → Memᴰ p t → Memᴰ p u) → ((p : Pair) → Memᴰ p u → Memᴰ p t) → t ≡ u
sorted_same [] [] h k f g = refl
sorted_same [] (q ∷ u) h k f g = absurd (Memᴰ.not-nil (g q (Memᴰ.head refl)))
sorted_same (p ∷ t) [] h k f g = absurd (Memᴰ.not-nil (f p (Memᴰ.head refl)))
sorted_same (p ∷ t) (q ∷ u) h k f g = ap₂ ◌∷◌ first (sorted_same t u h.1 k.1 forth back)
  where
    -- were each first row behind the other's, each would be before the other
    meet : (p ≡ q) ⊎ Memᴰ p u → (q ≡ p) ⊎ Memᴰ q t → p ≡ q
    meet (inl e) o = e
    meet (inr m) (inl e) = sym e
    meet (inr m) (inr l) = absurd (before_asymmetric p.from q.from (h.0 q.from (Memᴰ.map (λ r. r.from) l)) (k.0 p.from (Memᴰ.map (λ r. r.from) m)))

    first : p ≡ q
    first = meet (Memᴰ.cases_cons (f p (Memᴰ.head refl))) (Memᴰ.cases_cons (g q (Memᴰ.head refl)))

    -- no row behind the first is the first again
    behind : (o r : Pair) (v : Table) → BeforeAll o.from (froms v) → Memᴰ r v → r ≡ o → ⊥
    behind o r v b m e = let again = b o.from (Memᴰ.map (λ r. r.from) (Memᴰ.cast (sym e) m)) in before_asymmetric o.from o.from again again

    forth : (r : Pair) → Memᴰ r t → Memᴰ r u
    forth r m = go (Memᴰ.cases_cons (f r (Memᴰ.tail m)))
      where
        go : (r ≡ q) ⊎ Memᴰ r u → Memᴰ r u
        go (inl e) = absurd (behind p r t h.0 m (e ∙ sym first))
        go (inr l) = l

    back : (r : Pair) → Memᴰ r u → Memᴰ r t
    back r m = go (Memᴰ.cases_cons (g r (Memᴰ.tail m)))
      where
        go : (r ≡ p) ⊎ Memᴰ r t → Memᴰ r t
        go (inl e) = absurd (behind q r u k.0 m (e ∙ first))
        go (inr l) = l

pub sorted_append : (t u : Table) → Sorted (froms t) → Sorted (froms u)
    → ((p q : Pair) → Memᴰ p t → Memᴰ q u → Before p.from q.from) → Sorted (froms (t ++ u))
sorted_append [] u h k f = k
sorted_append (p ∷ t) u h k f =
    (before_froms p.from (t ++ u) (λ q m. go q (Memᴰ.append_cases t m)), sorted_append t u h.1 k (λ q r m l. f q r (Memᴰ.tail m) l))
  where
    go : (q : Pair) → Memᴰ q t ⊎ Memᴰ q u → Before p.from q.from
    go q (inl m) = h.0 q.from (Memᴰ.map (λ r. r.from) m)
    go q (inr m) = f p q (Memᴰ.head refl) m

sorted_under : (i : ℕ) (t : Table) → Sorted (froms t) → Sorted (froms (under i t))
sorted_under i [] h = tt
sorted_under i (p ∷ t) h = (
  before_froms
      (i ∷ p.from)
      (under i t)
      (λ q m.
      let r = Memᴰ.of_map (row_under i) t m in
      subst (λ x. Before (i ∷ p.from) x.from) r.2 (inr (refl, h.0 r.0.from (Memᴰ.map (λ r. r.from) r.1)))),
  sorted_under i t h.1,
)

-- the rows under a digit come before the rows under a larger one
pub sorted_gather : (a m : ℕ) (g : ℕ → Table) → ((i : ℕ) → Sorted (froms (g i))) → Sorted (froms (gather (count a m) g))
sorted_gather a zero g h = tt
sorted_gather a (suc m) g h =
    sorted_append (under a (g a)) (gather (count (suc a) m) g) (sorted_under a (g a) (h a)) (sorted_gather (suc a) m g h) ahead
  where
    ahead : (p q : Pair) → Memᴰ p (under a (g a)) → Memᴰ q (gather (count (suc a) m) g) → Before p.from q.from
    ahead p q k l =
        let r = Memᴰ.of_map (row_under a) (g a) k in
        let s = gathered (count (suc a) m) g q l in
        let b = count_bounds (suc a) m s.digit s.among in
        subst (λ x. Before x.from q.from) r.2 (subst (λ x. Before (a ∷ r.0.from) x.from) (sym s.stands) (inl b.0))

normal_sorted : (n d : ℕ) (f : BlockMap) → Sorted (froms (normal n d f))
normal_sorted n =
    normal_holds n (λ f t. Sorted (froms t)) (λ f. tt) (λ f v e. (λ u m. absurd (Memᴰ.not-nil m), tt)) (λ f g h e. sorted_gather 1 n g h)

normal_ways : (n d : ℕ) (f : BlockMap) (p : Pair) → Memᴰ p (normal n d f) → Ways n p.from
normal_ways n = normal_holds n (λ f t. AllWays t) (λ f p m. absurd (Memᴰ.not-nil m)) (λ f v e. one v) (λ f g h e. parts g h)
  where
    AllWays : Table → Type 0
    AllWays t = (p : Pair) → Memᴰ p t → Ways n p.from

    one : (v : Word) → AllWays (whole v)
    one v p m = subst (λ x. Ways n x.from) (sym (Memᴰ.eq_of_singleton m)) tt

    parts : (g : ℕ → Table) → ((i : ℕ) → AllWays (g i)) → AllWays (gather (digits n) g)
    parts g h p m =
        let r = gathered (digits n) g p m in
        subst (λ x. Ways n x.from) (sym r.stands) (digit_of_mem n r.digit r.among, h r.digit r.part r.inside)

pub normal_form_ordered : (s : Shape) (d : ℕ) (f : BlockMap) → ordered (froms (normal_form s d f)) ≡ true
unfolding normal_form
normal_form_ordered s d f =
    test_of_sorted
    (froms (normal_form s d f))
    (sorted_gather 1 s.roots (λ a. normal s.arity d (below f a)) (λ a. normal_sorted s.arity d (below f a)))

-- the from-words of a normal form are words of the shape
pub normal_form_words : (s : Shape) (d : ℕ) (f : BlockMap) (p : Pair) → Memᴰ p (normal_form s d f) → IsWord s p.from
unfolding normal_form
normal_form_words s d f p m =
    let r = gathered (digits s.roots) (λ a. normal s.arity d (below f a)) p m in
    let ways = normal_ways s.arity d (below f r.digit) r.part r.inside in
    subst (λ x. IsWord s x.from) (sym r.stands) (digit_of_mem s.roots r.digit r.among, ways)
