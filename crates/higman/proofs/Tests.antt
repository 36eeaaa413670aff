-- The tests of specs/ as facts. For each test the type that says what it means, and the two ways between them; the other files
-- speak of the types: Digit, Ways, IsWord, membership, equality, Apart and Sorted.
use Prim.Native.Nat.{ℕ, zero, suc, ◌+◌, ◌≤◌, ◌<◌}
use mathlib.Core.Path.{◌≡◌, refl, sym, ◌∙◌, ap₂, subst}
use mathlib.Core.Logic.{◌⊎◌, inl, inr}
use mathlib.Core.Bool.{Bool, true, false, ◌&&◌, ◌||◌}
use mathlib.Core.List.Memᴰ
use mathlib.Core.List.{List, [], ◌∷◌, ◌++◌, Memᴰ}
use native.Mathlib.Omega.{arith}
use lib.Dec.{T, leb, eqb, leb→le, le→leb, eqb→eq, eqb_refl}
use borrow.Author.Tests.{eqb-true, eq-eqb}
use Rattle.higman.specs.Words.{Shape, Word, count, digits, is_digit, is_ways, is_word}
use Rattle.higman.specs.Bases.{same_word, listed, all}
use Rattle.higman.specs.Tables.{Pair, Table, same_table}

-- a test either passes or fails
pub passes : (b : Bool) → (b ≡ true) ⊎ (b ≡ false)
passes true = inl refl
passes false = inr refl

pub so : (b : Bool) → T b → b ≡ true
so true t = refl
so false t = absurd t

pub T_of : {b : Bool} → b ≡ true → T b
T_of e = subst T (sym e) tt

-- a test does not both pass and fail
pub clash : {b : Bool} → b ≡ true → b ≡ false → ⊥
clash p q = subst T (sym p ∙ q) tt

-- two tests that imply each other are one
pub same_test : (b c : Bool) → (T b → T c) → (T c → T b) → b ≡ c
same_test true true f g = refl
same_test true false f g = absurd (f tt)
same_test false true f g = absurd (g tt)
same_test false false f g = refl

pub and_left : (a b : Bool) → T (a && b) → T a
and_left true b t = tt
and_left false b t = t

pub and_right : (a b : Bool) → T (a && b) → T b
and_right true b t = t
and_right false b t = absurd t

pub and_intro : (a b : Bool) → T a → T b → T (a && b)
and_intro true b s t = t
and_intro false b s t = s

pub or_left_false : (a b : Bool) → (a || b) ≡ false → a ≡ false
or_left_false true b e = e
or_left_false false b e = refl

pub or_right_false : (a b : Bool) → (a || b) ≡ false → b ≡ false
or_right_false true b e = absurd (clash refl e)
or_right_false false b e = e

pub or_false : (a b : Bool) → a ≡ false → b ≡ false → (a || b) ≡ false
or_false true b p q = p
or_false false b p q = q

pub or_cases : (a b : Bool) → (a || b) ≡ true → (a ≡ true) ⊎ (b ≡ true)
or_cases true b e = inl refl
or_cases false b e = inr e

pub or_true_right : (a b : Bool) → b ≡ true → (a || b) ≡ true
or_true_right true b e = refl
or_true_right false b e = e

pub or_true_left : (a b : Bool) → a ≡ true → (a || b) ≡ true
or_true_left true b e = refl
or_true_left false b e = absurd (clash e refl)

module _ {A : Type 0} (f : A → Bool) where
  pub all_head : (a : A) (l : List A) → T (all f (a ∷ l)) → T (f a)
  all_head a l t = go (f a) t
    where
      go : (b : Bool) → T (elim b [ true ↦ all f l | false ↦ false ]) → T b
      go true h = tt
      go false h = h

  pub all_tail : (a : A) (l : List A) → T (all f (a ∷ l)) → T (all f l)
  all_tail a l t = go (f a) t
    where
      go : (b : Bool) → T (elim b [ true ↦ all f l | false ↦ false ]) → T (all f l)
      go true h = h
      go false h = absurd h

  pub all_cons : (a : A) (l : List A) → T (f a) → T (all f l) → T (all f (a ∷ l))
  all_cons a l h t = rw (so (f a) h, all) t

  -- a test that passes everywhere passes at each element
  pub all_at : (l : List A) → T (all f l) → (a : A) → Memᴰ a l → T (f a)
  all_at [] t a m = absurd (Memᴰ.not-nil m)
  all_at (x ∷ l) t a m = go (Memᴰ.cases_cons m) (λ k. all_at l (all_tail x l t) a k)
    where
      go : (a ≡ x) ⊎ Memᴰ a l → (Memᴰ a l → T (f a)) → T (f a)
      go (inl e) rest = subst (λ y. T (f y)) (sym e) (all_head x l t)
      go (inr k) rest = rest k

  pub all_of : (l : List A) → ((a : A) → Memᴰ a l → T (f a)) → T (all f l)
  all_of [] h = tt
  all_of (x ∷ l) h = all_cons x l (h x (Memᴰ.head refl)) (all_of l (λ a m. h a (Memᴰ.tail m)))

-- the numbers of `count a m` are those from a to a + m - 1
pub count_bounds : (a m i : ℕ) → Memᴰ i (count a m) → (a ≤ i) × (i < a + m)
count_bounds a zero i h = absurd (Memᴰ.not-nil h)
count_bounds a (suc m) i h = go (Memᴰ.cases_cons h) (λ k. count_bounds (suc a) m i k)
  where
    go : (i ≡ a) ⊎ Memᴰ i (count (suc a) m) → (Memᴰ i (count (suc a) m) → (suc a ≤ i) × (i < suc a + m)) → (a ≤ i) × (i < a + suc m)
    go (inl e) rest = (omega arith, omega arith)
    go (inr k) rest = let b = rest k in (omega arith, omega arith)

pub count_mem : (a m i : ℕ) → a ≤ i → i < a + m → Memᴰ i (count a m)
count_mem a zero i h k = absurd (omega arith)
count_mem a (suc m) i h k = go (passes (eqb i a)) (λ p. count_mem (suc a) m i p (omega arith))
  where
    go : (eqb i a ≡ true) ⊎ (eqb i a ≡ false) → (suc a ≤ i → Memᴰ i (count (suc a) m)) → Memᴰ i (a ∷ count (suc a) m)
    go (inl e) rest = Memᴰ.head (eqb-true i a e)
    go (inr e) rest = let d : i ≡ a → ⊥ = λ q. clash (eq-eqb i a q) e in Memᴰ.tail (rest (omega (arith, d)))

-- i is a digit from 1 to n
abbrev pub Digit : ℕ → ℕ → Type 0
Digit n i = (1 ≤ i) × (i ≤ n)

abbrev pub Ways : ℕ → Word → Type 0
Ways n [] = Unit {0}
Ways n (i ∷ x) = Digit n i × Ways n x

abbrev pub IsWord : Shape → Word → Type 0
IsWord s [] = ⊥
IsWord s (a ∷ x) = Digit s.roots a × Ways s.arity x

pub digit_of_test : (n i : ℕ) → T (is_digit n i) → Digit n i
digit_of_test n i t = (leb→le 1 i (and_left (leb 1 i) (leb i n) t), leb→le i n (and_right (leb 1 i) (leb i n) t))

pub test_of_digit : (n i : ℕ) → Digit n i → T (is_digit n i)
test_of_digit n i d = and_intro (leb 1 i) (leb i n) (le→leb 1 i d.0) (le→leb i n d.1)

pub ways_of_test : (n : ℕ) (x : Word) → T (is_ways n x) → Ways n x
ways_of_test n [] t = tt
ways_of_test n (i ∷ x) t =
    (digit_of_test n i (and_left (is_digit n i) (is_ways n x) t), ways_of_test n x (and_right (is_digit n i) (is_ways n x) t))

pub test_of_ways : (n : ℕ) (x : Word) → Ways n x → T (is_ways n x)
test_of_ways n [] h = tt
test_of_ways n (i ∷ x) h = and_intro (is_digit n i) (is_ways n x) (test_of_digit n i h.0) (test_of_ways n x h.1)

pub word_of_test : (s : Shape) (w : Word) → T (is_word s w) → IsWord s w
word_of_test s [] t = t
word_of_test s (a ∷ x) t =
    let r = is_digit s.roots a in
    (digit_of_test s.roots a (and_left r (is_ways s.arity x) t), ways_of_test s.arity x (and_right r (is_ways s.arity x) t))

pub test_of_word : (s : Shape) (w : Word) → IsWord s w → T (is_word s w)
test_of_word s [] h = h
test_of_word s (a ∷ x) h =
    and_intro (is_digit s.roots a) (is_ways s.arity x) (test_of_digit s.roots a h.0) (test_of_ways s.arity x h.1)

pub digit_of_mem : (n i : ℕ) → Memᴰ i (digits n) → Digit n i
digit_of_mem n i h = let b = count_bounds 1 n i h in (b.0, omega arith)

pub mem_of_digit : (n i : ℕ) → Digit n i → Memᴰ i (digits n)
mem_of_digit n i d = count_mem 1 n i d.0 (omega arith)

pub same_word_lem : (u v : Word) → T (same_word u v) → u ≡ v
same_word_lem [] [] t = refl
same_word_lem [] (b ∷ v) t = absurd t
same_word_lem (a ∷ u) [] t = absurd t
same_word_lem (a ∷ u) (b ∷ v) t =
    ap₂ ◌∷◌ (eqb→eq a b (and_left (eqb a b) (same_word u v) t)) (same_word_lem u v (and_right (eqb a b) (same_word u v) t))

pub same_word_refl : (u : Word) → T (same_word u u)
same_word_refl [] = tt
same_word_refl (a ∷ u) = and_intro (eqb a a) (same_word u u) (eqb_refl a) (same_word_refl u)

pub listed_of_mem : (w : Word) (c : List Word) → Memᴰ w c → listed w c ≡ true
listed_of_mem w [] m = absurd (Memᴰ.not-nil m)
listed_of_mem w (u ∷ c) m = go (Memᴰ.cases_cons m) (λ k. listed_of_mem w c k)
  where
    go : (w ≡ u) ⊎ Memᴰ w c → (Memᴰ w c → listed w c ≡ true) → listed w (u ∷ c) ≡ true
    go (inl e) rest = or_true_left (same_word w u) (listed w c) (so (same_word w u) (subst (λ x. T (same_word w x)) e (same_word_refl w)))
    go (inr k) rest = or_true_right (same_word w u) (listed w c) (rest k)

pub mem_of_listed : (w : Word) (c : List Word) → listed w c ≡ true → Memᴰ w c
mem_of_listed w [] e = absurd (clash e refl)
mem_of_listed w (u ∷ c) e = go (or_cases (same_word w u) (listed w c) e) (λ k. mem_of_listed w c k)
  where
    go : (same_word w u ≡ true) ⊎ (listed w c ≡ true) → (listed w c ≡ true → Memᴰ w c) → Memᴰ w (u ∷ c)
    go (inl h) rest = Memᴰ.head (same_word_lem w u (T_of h))
    go (inr h) rest = Memᴰ.tail (rest h)

pub pair_path : {p q : Pair} → p.from ≡ q.from → p.to ≡ q.to → p ≡ q
pair_path e f i = record { from = e i; to = f i }

same_pair : Pair → Pair → Bool
same_pair p q = same_word p.from q.from && same_word p.to q.to

pub same_table_lem : (t u : Table) → T (same_table t u) → t ≡ u
unfolding same_pair
same_table_lem [] [] h = refl
same_table_lem [] (q ∷ u) h = absurd h
same_table_lem (p ∷ t) [] h = absurd h
same_table_lem (p ∷ t) (q ∷ u) h =
    let f = and_left (same_pair p q) (same_table t u) h in
    let a = same_word p.from q.from in
    let b = same_word p.to q.to in
    ap₂
    ◌∷◌
    (pair_path (same_word_lem p.from q.from (and_left a b f)) (same_word_lem p.to q.to (and_right a b f)))
    (same_table_lem t u (and_right (same_pair p q) (same_table t u) h))

pub same_table_refl : (t : Table) → T (same_table t t)
unfolding same_pair
same_table_refl [] = tt
same_table_refl (p ∷ t) =
    and_intro
    (same_pair p p)
    (same_table t t)
    (and_intro (same_word p.from p.from) (same_word p.to p.to) (same_word_refl p.from) (same_word_refl p.to))
    (same_table_refl t)

pub all_snoc : {A : Type 0} (f : A → Bool) (l : List A) (a : A) → T (all f l) → T (f a) → T (all f (l ++ (a ∷ [])))
all_snoc f [] a h k = all_cons f a [] k tt
all_snoc f (b ∷ l) a h k = all_cons f b (l ++ (a ∷ [])) (all_head f b l h) (all_snoc f l a (all_tail f b l h) k)
