-- A walk over a sorted column block by block: the words that are passed before a block are passed before its parts, those passed with a
-- part are passed before the next, and the word at the cursor tells whether the block is listed. A word of the shape that lies in a block
-- lies in one of its parts, so that with the last part the block is passed.
use Prim.Native.Nat.{ℕ, zero, suc, ◌+◌, ◌≤◌, ◌<◌}
use mathlib.Core.Path.{◌≡◌, refl, sym, ◌∙◌, ap, subst}
use mathlib.Core.Logic.{◌⊎◌, inl, inr, ⊎_elim}
use mathlib.Core.Bool.{Bool, true, false, ◌&&◌, ◌||◌}
use mathlib.Core.List.{List, [], ◌∷◌, ◌++◌, append-nil, Memᴰ}
use native.Mathlib.Nat.{le_refl}
use native.Mathlib.Omega.{arith}
use lib.Dec.{T, eqb, ltb, eqb→eq}
use lib.ListN.{length, get_or}
use borrow.Author.Tests.{ltb-true, ltb-false, lt-ltb, le-ltb, eq-eqb}
use Rattle.higman.specs.Words.{Shape, Word, after, is_word, begins, child}
use Rattle.higman.specs.Bases.{all, listed, covered}
use Rattle.higman.specs.Normal.{before}
use Rattle.higman.proofs.Tests.{passes, so, T_of, clash, and_left, and_right, or_cases, or_false, or_true_left, or_true_right}
use Rattle.higman.proofs.Tests.{Digit, IsWord, word_of_test, all_at, listed_of_mem, mem_of_listed}
use Rattle.higman.proofs.Prefixes.{tail_of_begins, begins_append, child_append, ways_right}
use Rattle.std.specs.Prelude.{Option}
use Rattle.words.specs.Packed.{unpack}
use Rattle.words.specs.Bytes.{shape}
use Rattle.words.proofs.Packing.{unpack_injective}
use Rattle.columns.specs.Packed.{words_of, in_order}
use Rattle.columns.specs.Columns.{word_at, Walkable, AtBlock, PastBlock, Walked}
use Rattle.columns.proofs.InOrder.{test_of_in_order, in_order_of_test, in_order_antisym}
use Rattle.columns.proofs.WordOrder.{three_ways}
use Rattle.columns.proofs.Places.{mem_at, place_of_lem, sorted_at}
use Rattle.columns.proofs.Search.{apart_at}
use Rattle.columns.proofs.Covered.{uncovered}

-- behind a first digit p tells that it is smaller, q that it is the same
carry : (p q x y : Bool) → (x ≡ true → y ≡ true) → (p || (q && x)) ≡ true → (p || (q && y)) ≡ true
carry true q x y f e = refl
carry false true x y f e = f e
carry false false x y f e = e

pub before_itself : (w : Word) → before w w ≡ false
before_itself [] = refl
before_itself (a ∷ w) = or_false (ltb a a) (eqb a a && before w w) (le-ltb a a (le_refl a)) (rw (eq-eqb a a refl) (before_itself w))

before_empty : (u : Word) → before u [] ≡ false
before_empty [] = refl
before_empty (a ∷ u) = refl

-- what stands before a block stands before its parts
before_child : (u w : Word) (i : ℕ) → before u w ≡ true → before u (child w i) ≡ true
before_child [] w i e = absurd (clash e refl)
before_child (a ∷ u) [] i e = absurd (clash e refl)
before_child (a ∷ u) (b ∷ w) i e =
    carry (ltb a b) (eqb a b) (before u w) (before u (child w i)) (before_child u w i) e

-- what stands before a part stands before a later one, and so does what stands in it
before_later : (u w : Word) (i j : ℕ) → i < j → before u (child w i) ≡ true → before u (child w j) ≡ true
before_later [] w i j h e = absurd (clash e refl)
before_later (a ∷ u) [] i j h e = go (or_cases (ltb a i) (eqb a i && before u []) e)
  where
    go : (ltb a i ≡ true) ⊎ ((eqb a i && before u []) ≡ true) → before (a ∷ u) (j ∷ []) ≡ true
    go (inl l) = or_true_left (ltb a j) (eqb a j && before u []) (lt-ltb a j (omega (arith, ltb-true a i l)))
    go (inr l) = absurd (clash (so (before u []) (and_right (eqb a i) (before u []) (T_of l))) (before_empty u))
before_later (a ∷ u) (b ∷ w) i j h e =
    carry (ltb a b) (eqb a b) (before u (child w i)) (before u (child w j)) (before_later u w i j h) e

part_before_later : (w x : Word) (i j : ℕ) → i < j → before (child w i ++ x) (child w j) ≡ true
part_before_later [] x i j h = or_true_left (ltb i j) (eqb i j && before x []) (lt-ltb i j h)
part_before_later (b ∷ w) x i j h =
    or_true_right (ltb b b) (eqb b b && before (child w i ++ x) (child w j)) (rw (eq-eqb b b refl) (part_before_later w x i j h))

begun_before_later : (w u : Word) (i j : ℕ) → i < j → begins (child w i) u ≡ true → before u (child w j) ≡ true
begun_before_later w u i j h b = let (x, e) = tail_of_begins (child w i) u b in rw e (part_before_later w x i j h)

begins_itself : (w : Word) → begins w w ≡ true
begins_itself w = rw append-nil at (begins_append w [])

-- what stands before a part stands before the block or in it
before_part : (u w : Word) (i : ℕ) → before u (child w i) ≡ true → (before u w ≡ true) ⊎ (begins w u ≡ true)
before_part u [] i e = inr refl
before_part [] (b ∷ w) i e = absurd (clash e refl)
before_part (a ∷ u) (b ∷ w) i e = go (or_cases (ltb a b) (eqb a b && before u (child w i)) e) (λ k. before_part u w i k)
  where
    go : (ltb a b ≡ true) ⊎ ((eqb a b && before u (child w i)) ≡ true) → (before u (child w i) ≡ true → (before u w ≡ true) ⊎ (begins w u ≡ true)) → (before (a ∷ u) (b ∷ w) ≡ true) ⊎ (begins (b ∷ w) (a ∷ u) ≡ true)
    go (inl l) rest = inl (or_true_left (ltb a b) (eqb a b && before u w) l)
    go (inr l) rest =
        let same : a ≡ b = eqb→eq a b (and_left (eqb a b) (before u (child w i)) (T_of l)) in
        ⊎_elim
        (λ p. inl (or_true_right (ltb a b) (eqb a b && before u w) (rw (eq-eqb a b same) p)))
        (λ p. inr (rw (eq-eqb b a (sym same), after) p))
        (rest (so (before u (child w i)) (and_right (eqb a b) (before u (child w i)) (T_of l))))

refuted : (b : Bool) → (b ≡ true → ⊥) → b ≡ false
refuted b h = ⊎_elim (λ t. absurd (h t)) (λ f. f) (passes b)

before_asymmetric : (u v : Word) → before u v ≡ true → before v u ≡ false
before_asymmetric u v e =
    refuted (before v u)
    (λ f.
    let forth = in_order_of_test u v (or_true_left (before u v) (begins u v) e) in
    let back = in_order_of_test v u (or_true_left (before v u) (begins v u) f) in
    clash (subst (λ x. before u x ≡ true) (sym (in_order_antisym u v forth back)) e) (before_itself u))

-- a block's own word does not stand before its parts
before_own_part : (w : Word) (i : ℕ) → before w (child w i) ≡ false
before_own_part [] i = refl
before_own_part (b ∷ w) i =
    or_false (ltb b b) (eqb b b && before w (child w i)) (le-ltb b b (le_refl b)) (rw (eq-eqb b b refl) (before_own_part w i))

-- of the words in a block those with a smaller digit behind it stand before a part
digit_before_part : (w x : Word) (d i : ℕ) → before (w ++ (d ∷ x)) (child w i) ≡ true → d < i
digit_before_part [] x d i e = go (or_cases (ltb d i) (eqb d i && before x []) e)
  where
    go : (ltb d i ≡ true) ⊎ ((eqb d i && before x []) ≡ true) → d < i
    go (inl l) = ltb-true d i l
    go (inr l) = absurd (clash (so (before x []) (and_right (eqb d i) (before x []) (T_of l))) (before_empty x))
digit_before_part (b ∷ w) x d i e =
    go (or_cases (ltb b b) (eqb b b && before (w ++ (d ∷ x)) (child w i)) e) (λ k. digit_before_part w x d i k)
  where
    go : (ltb b b ≡ true) ⊎ ((eqb b b && before (w ++ (d ∷ x)) (child w i)) ≡ true) → (before (w ++ (d ∷ x)) (child w i) ≡ true → d < i) → d < i
    go (inl l) rest = absurd (omega (arith, ltb-true b b l))
    go (inr l) rest = rest (so (before (w ++ (d ∷ x)) (child w i)) (and_right (eqb b b) (before (w ++ (d ∷ x)) (child w i)) (T_of l)))

-- a word that stands before a part, and not before the block, has a smaller digit behind the block
record InFront (w u : Word) (i : ℕ) : Type 0 where
  digit : ℕ
  rest : Word
  spelled : u ≡ w ++ (digit ∷ rest)
  smaller : digit < i

in_front_lem : (u w : Word) (i : ℕ) → before u w ≡ false → before u (child w i) ≡ true → InFront w u i
in_front_lem u w i f e = go (before_part u w i e)
  where
    inside : (x : Word) → u ≡ w ++ x → InFront w u i
    inside [] g = absurd (clash e (ap (λ v. before v (child w i)) (g ∙ append-nil w) ∙ before_own_part w i))
    inside (d ∷ x) g =
        record { digit = d; rest = x; spelled = g; smaller = digit_before_part w x d i (subst (λ v. before v (child w i) ≡ true) g e) }

    go : (before u w ≡ true) ⊎ (begins w u ≡ true) → InFront w u i
    go (inl b) = absurd (clash b f)
    go (inr b) = let (x, g) = tail_of_begins w u b in inside x g

-- a word that stands neither before a part nor in it does not stand before the next
not_before_next : (u w : Word) (i : ℕ) → before u (child w i) ≡ false → begins (child w i) u ≡ false → before u (child w (i + 1)) ≡ false
not_before_next u w i before-it in-it =
    refuted (before u (child w (i + 1)))
    (λ e.
    let f = in_front_lem u w (i + 1) (refuted (before u w) (λ b. clash (before_child u w i b) before-it)) e in
    at_digit f.digit f.rest f.spelled f.smaller (three_ways f.digit i))
  where
    at_digit : (d : ℕ) (x : Word) → u ≡ w ++ (d ∷ x) → d < i + 1 → (d < i) ⊎ ((d ≡ i) ⊎ (i < d)) → ⊥
    at_digit d x g m (inl l) =
        clash (subst (λ v. before v (child w i) ≡ true) (child_append w d x ∙ sym g) (part_before_later w x d i l)) before-it
    at_digit d x g m (inr (inl q)) =
        let whole : child w i ++ x ≡ u = child_append w i x ∙ ap (λ j. w ++ (j ∷ x)) (sym q) ∙ sym g in
        clash (subst (λ v. begins (child w i) v ≡ true) whole (begins_append (child w i) x)) in-it
    at_digit d x g m (inr (inr l)) = omega arith

-- a word in order behind another that does not begin it stands behind it
behind_in_order : (v u : Word) → in_order v u ≡ true → begins v u ≡ false → before u v ≡ false
behind_in_order v u e apart =
    before_asymmetric v u (⊎_elim (λ b. b) (λ b. absurd (clash b apart)) (or_cases (before v u) (begins v u) e))

-- what holds below r and at r
below_next : (P : ℕ → Type 0) (r : ℕ) → ((k : ℕ) → k < r → P k) → P r → (k : ℕ) → k < r + 1 → P k
below_next P r f e k h = go (passes (ltb k r))
  where
    go : (ltb k r ≡ true) ⊎ (ltb k r ≡ false) → P k
    go (inl t) = f k (ltb-true k r t)
    go (inr t) = let same : r ≡ k = omega (arith, ltb-false k r t) in subst P same e

-- the words of a column are those that all of them are said to be
word_at_lem : (s : Shape) (column : List ℕ) → T (all (is_word s) (words_of column)) → (r : ℕ) → r < length column → IsWord s (word_at column r)
word_at_lem s column words r h = word_of_test s (word_at column r) (all_at (is_word s) (words_of column) words (word_at column r) (mem_at column r h))

-- no word of a shape stands before the first root
pub at_start : (s : Shape) (column : List ℕ) → T (all (is_word s) (words_of column)) → AtBlock column (1 ∷ []) 0
at_start s column words =
    record {
      within = omega arith;
      front = λ k h. absurd (omega arith);
      back = λ h. first (word_at column 0) (word_at_lem s column words 0 h);
    }
  where
    first : (u : Word) → IsWord s u → before u (1 ∷ []) ≡ false
    first [] y = refl
    first (a ∷ x) y =
        refuted (before (a ∷ x) (1 ∷ [])) (λ e. let less : a < 1 = digit_before_part [] x a 1 e in absurd (omega (arith, y.0.0)))

-- behind a part, the next one
pub at_later : (column : List ℕ) (w : Word) (r i : ℕ) → PastBlock column (child w i) r → AtBlock column (child w (i + 1)) r
at_later column w r i p =
    record {
      within = p.within;
      front = λ k l.
          let u = word_at column k in
          ⊎_elim (before_later u w i (i + 1) (omega arith)) (begun_before_later w u i (i + 1) (omega arith)) (p.front k l);
      back = λ h. not_before_next (word_at column r) w i (p.back h).0 (p.back h).1;
    }

-- an answer on a block, said of an equal block
pub walked_same : (column : List ℕ) (f : Word → Bool) {v w : Word} (r : Option ℕ) → v ≡ w → Walked column v (f v) r → Walked column w (f w) r
walked_same column f {v} {w} r p h = subst (λ x. Walked column x (f x) r) p h

-- where all words stand before a block, it is not listed, nor is a part of it
uncovered_of_before : (n d : ℕ) (c : List Word) (w : Word) → 1 ≤ n → ((u : Word) → Memᴰ u c → before u w ≡ true) → covered n c d w ≡ false
uncovered_of_before zero d c w h f = absurd (omega arith)
uncovered_of_before (suc m) d c w h f =
    uncovered m c (λ v. (u : Word) → Memᴰ u c → before u v ≡ true) unlisted (λ v g u k. before_child u v 1 (g u k)) d w f
  where
    unlisted : (v : Word) → ((u : Word) → Memᴰ u c → before u v ≡ true) → listed v c ≡ false
    unlisted v g = ⊎_elim (λ t. absurd (clash (g v (mem_of_listed v c t)) (before_itself v))) (λ e. e) (passes (listed v c))

pub uncovered_behind : (column : List ℕ) (w : Word) (r n d : ℕ) → 1 ≤ n → AtBlock column w r → length column ≤ r
    → covered n (words_of column) d w ≡ false
uncovered_behind column w r n d h p l =
    uncovered_of_before n d (words_of column) w h
    (λ u m. let (k, b, e) = place_of_lem column u m in rw e (p.front k (omega arith)))

-- a place of a column that may be walked, and a block
module _ (n : ℕ) (column : List ℕ) (may : Walkable n column) (w : Word) (r : ℕ) where
  -- a word in a block has a way of the shape behind it
  way_behind : (d : ℕ) (x : Word) → 1 ≤ length w → r < length column → word_at column r ≡ w ++ (d ∷ x) → Digit n d
  way_behind d x l h g = go w l (subst (IsWord s) g (word_at_lem s column may.words r h))
    where
      s : Shape
      s = shape n may.roots

      go : (v : Word) → 1 ≤ length v → IsWord s (v ++ (d ∷ x)) → Digit n d
      go [] l y = absurd (omega arith)
      go (a ∷ v) l y = (ways_right n v (d ∷ x) y.1).0

  -- behind a block that is not passed, its first part
  pub at_first : 1 ≤ length w → AtBlock column w r → AtBlock column (child w 1) r
  at_first l p =
      record {
        within = p.within;
        front = λ k m. before_child (word_at column k) w 1 (p.front k m);
        back = λ h. refuted (before (word_at column r) (child w 1)) (λ e. stops h (in_front_lem (word_at column r) w 1 (p.back h) e));
      }
    where
      stops : r < length column → InFront w (word_at column r) 1 → ⊥
      stops h f = omega (arith, f.smaller, (way_behind f.digit f.rest l h f.spelled).0)

  -- behind the last part, the block
  pub past_parts : (i : ℕ) → 1 ≤ length w → n < i → listed w (words_of column) ≡ false → AtBlock column (child w i) r → PastBlock column w r
  past_parts i l m unlisted p =
      record {
        within = p.within;
        front = λ k g. before_part (word_at column k) w i (p.front k g);
        back = λ h. (
          refuted (before (word_at column r) w) (λ b. clash (before_child (word_at column r) w i b) (p.back h)),
          refuted (begins w (word_at column r)) (λ b. let (x, g) = tail_of_begins w (word_at column r) b in inside h x g),
        );
      }
    where
      inside : r < length column → (x : Word) → word_at column r ≡ w ++ x → ⊥
      inside h [] g =
          let own = subst (λ v. Memᴰ v (words_of column)) (g ∙ append-nil w) (mem_at column r h) in
          clash (listed_of_mem w (words_of column) own) unlisted
      inside h (d ∷ x) g =
          let before-it = part_before_later w x d i (omega (arith, (way_behind d x l h g).1)) in
          clash (subst (λ v. before v (child w i) ≡ true) (child_append w d x ∙ sym g) before-it) (p.back h)

  -- where the word at the place is the block's own, the block is passed with it
  pub past_listed : AtBlock column w r → r < length column → word_at column r ≡ w → PastBlock column w (r + 1)
  past_listed p h e =
      record {
        within = omega arith;
        front =
            below_next (λ k. (before (word_at column k) w ≡ true) ⊎ (begins w (word_at column k) ≡ true)) r
            (λ k l. inl (p.front k l))
            (inr (rw e (begins_itself w)));
        back = behind;
      }
    where
      behind : r + 1 < length column → (before (word_at column (r + 1)) w ≡ false) × (begins w (word_at column (r + 1)) ≡ false)
      behind l =
          let u = word_at column (r + 1) in
          let in_order = test_of_in_order (word_at column r) u (sorted_at column may.in_order r (r + 1) (omega arith) l) in
          let apart = apart_at column may.apart r (r + 1) (omega arith) l in
          subst (λ v. (before u v ≡ false) × (begins v u ≡ false)) e (behind_in_order (word_at column r) u in_order apart, apart)

-- In such a column the first word that does not stand before w is w if w is listed.
module _ (n : ℕ) (column : List ℕ) (may : Walkable n column) (w r : ℕ) where
  pub listed_here : r < length column → get_or column r 0 ≡ w → listed (unpack w) (words_of column) ≡ true
  listed_here h e =
      listed_of_mem (unpack w) (words_of column) (subst (λ x. Memᴰ (unpack x) (words_of column)) e (mem_at column r h))

  pub listed_nowhere : AtBlock column (unpack w) r → r < length column → (get_or column r 0 ≡ w → ⊥) → listed (unpack w) (words_of column) ≡ false
  listed_nowhere p h other = go (passes (listed (unpack w) (words_of column)))
    where
      -- a later word begins with the one at r
      later : (k : ℕ) → r < k → k < length column → unpack w ≡ word_at column k → ⊥
      later k a b e =
          let in_order = test_of_in_order (word_at column r) (word_at column k) (sorted_at column may.in_order r k (omega arith) b) in
          let stops = ap (before (word_at column r)) (sym e) ∙ p.back h in
          let apart = apart_at column may.apart r k a b in
          clash in_order (or_false (before (word_at column r) (word_at column k)) (begins (word_at column r) (word_at column k)) stops apart)

      place : (k : ℕ) → k < length column → unpack w ≡ word_at column k → (k < r) ⊎ ((k ≡ r) ⊎ (r < k)) → ⊥
      place k b e (inl l) = clash (rw (sym e) at (p.front k l)) (before_itself (unpack w))
      place k b e (inr (inl q)) = other (sym (unpack_injective w (get_or column r 0) (e ∙ ap (word_at column) q)))
      place k b e (inr (inr l)) = later k l b e

      go : (listed (unpack w) (words_of column) ≡ true) ⊎ (listed (unpack w) (words_of column) ≡ false) → listed (unpack w) (words_of column) ≡ false
      go (inl t) =
          let (k, b, e) = place_of_lem column (unpack w) (mem_of_listed (unpack w) (words_of column) t) in
          absurd (place k b e (three_ways k r))
      go (inr f) = f
