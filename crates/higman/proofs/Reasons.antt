-- The reasons of a refused column (specs/Reasons.antt). An overlap is looked for place by place. Where a block is not covered, a part of
-- it is not, and so on down; the block at the end is longer than every word of the column, and none of the blocks on the way is listed.
use Prim.Native.Nat.{ℕ, zero, suc, ◌+◌, ◌≤◌, ◌<◌}
use mathlib.Core.Path.{◌≡◌, refl, sym, ◌∙◌, ap, subst}
use mathlib.Core.Logic.{◌⊎◌, inl, inr, ◌↔◌}
use mathlib.Core.Bool.{Bool, true, false, ◌||◌, not}
use mathlib.Core.List.{List, [], ◌∷◌, ◌++◌, append-nil, append_assoc, nil≢cons, head-eq_of_cons-eq, tail-eq_of_cons-eq}
use mathlib.Core.List.{Memᴰ}
use mathlib.Core.Option.{Option, none, some, none-ne-some, some-injective}
use native.Mathlib.Omega.{arith}
use lib.Dec.{T}
use lib.ListN.{length, get_or, length-append}
use Rattle.higman.specs.Words.{Shape, Word, digits, is_word, begins, child}
use Rattle.higman.specs.Bases.{Basis, listed, all, covered, longest, gap, meets, overlap}
use Rattle.higman.specs.Tables.{Table, froms, tos}
use Rattle.higman.specs.Answers.{Reason, Overlap, Gap, Verdict, Accepted, InFrom, InTo, fault, verdict}
use Rattle.higman.specs.Reasons.{Overlapping, OpenBlock, OnlyOpen, WordsOf, ReasonsExact}
use Rattle.higman.proofs.Tests.{passes, so, T_of, clash, or_cases, or_true_left, or_true_right, all_at}
use Rattle.higman.proofs.Tests.{Digit, Ways, IsWord, word_of_test, test_of_word, digit_of_mem, mem_of_digit, listed_of_mem}
use Rattle.higman.proofs.Prefixes.{begins_append, tail_of_begins, comparable, child_append, word_append, ones, ones_ways}
use Rattle.higman.proofs.Prefixes.{ones_length}
use Rattle.higman.proofs.Columns.{column_is_basis, fails, length_of_mem, deep_of_covered, covered_of_gap}

-- a word of the column that a word begins or equals, or that begins it, and its place
record Met (w : Word) (c : List Word) : Type 0 where
  place : ℕ
  within : place < length c
  either : (begins w (get_or c place []) ≡ true) ⊎ (begins (get_or c place []) w ≡ true)

met_of_meets : (w : Word) (c : List Word) → meets w c ≡ true → Met w c
met_of_meets w [] e = absurd (clash e refl)
met_of_meets w (u ∷ c) e = by_first (or_cases (begins w u || begins u w) (meets w c) e) (λ k. met_of_meets w c k)
  where
    by_first : ((begins w u || begins u w) ≡ true) ⊎ (meets w c ≡ true) → (meets w c ≡ true → Met w c) → Met w (u ∷ c)
    by_first (inl h) rest = record { place = 0; within = omega arith; either = or_cases (begins w u) (begins u w) h }
    by_first (inr h) rest =
        let m = rest h in
        record { place = suc m.place; within = omega arith; either = m.either }

meets_at : (w : Word) (c : List Word) (i : ℕ) → i < length c
    → (begins w (get_or c i []) || begins (get_or c i []) w) ≡ true → meets w c ≡ true
meets_at w [] i h e = absurd (omega arith)
meets_at w (u ∷ c) zero h e = or_true_left (begins w u || begins u w) (meets w c) e
meets_at w (u ∷ c) (suc i) h e = or_true_right (begins w u || begins u w) (meets w c) (meets_at w c i (omega arith) e)

-- the places of an overlap, one further on
behind_one : (w : Word) (c : List Word) → Overlapping c → Overlapping (w ∷ c)
behind_one w c o =
    record {
      first = suc o.first;
      second = suc o.second;
      two_places = λ e. o.two_places (omega arith);
      first_listed = omega arith;
      second_listed = omega arith;
      tail = o.tail;
      begun = o.begun;
    }

overlapping_of_test : (c : List Word) → overlap c ≡ true → Overlapping c
overlapping_of_test [] e = absurd (clash e refl)
overlapping_of_test (w ∷ c) e = by_first (or_cases (meets w c) (overlap c) e) (λ k. overlapping_of_test c k)
  where
    by_way : (m : Met w c) → (begins w (get_or c m.place []) ≡ true) ⊎ (begins (get_or c m.place []) w ≡ true) → Overlapping (w ∷ c)
    by_way m (inl h) =
        let t = tail_of_begins w (get_or c m.place []) h in
        record {
          first = 0;
          second = suc m.place;
          two_places = λ q. omega arith;
          first_listed = omega arith;
          second_listed = omega (arith, m.within);
          tail = t.0;
          begun = t.1;
        }
    by_way m (inr h) =
        let t = tail_of_begins (get_or c m.place []) w h in
        record {
          first = suc m.place;
          second = 0;
          two_places = λ q. omega arith;
          first_listed = omega (arith, m.within);
          second_listed = omega arith;
          tail = t.0;
          begun = t.1;
        }

    by_first : (meets w c ≡ true) ⊎ (overlap c ≡ true) → (overlap c ≡ true → Overlapping c) → Overlapping (w ∷ c)
    by_first (inl h) rest = let m = met_of_meets w c h in by_way m m.either
    by_first (inr h) rest = behind_one w c (rest h)

overlap_at : (c : List Word) (i j : ℕ) → (i ≡ j → ⊥) → i < length c → j < length c → begins (get_or c i []) (get_or c j []) ≡ true
    → overlap c ≡ true
overlap_at [] i j d h k e = absurd (omega arith)
overlap_at (w ∷ c) zero zero d h k e = absurd (d refl)
overlap_at (w ∷ c) zero (suc j) d h k e =
    let u = get_or c j [] in
    or_true_left (meets w c) (overlap c) (meets_at w c j (omega arith) (or_true_left (begins w u) (begins u w) e))
overlap_at (w ∷ c) (suc i) zero d h k e =
    let u = get_or c i [] in
    or_true_left (meets w c) (overlap c) (meets_at w c i (omega arith) (or_true_right (begins w u) (begins u w) e))
overlap_at (w ∷ c) (suc i) (suc j) d h k e =
    or_true_right (meets w c) (overlap c) (overlap_at c i j (λ q. d (ap suc q)) (omega arith) (omega arith) e)

test_of_overlapping : (c : List Word) → Overlapping c → overlap c ≡ true
test_of_overlapping c o =
    let u = get_or c o.first [] in
    let begun = subst (λ v. begins u v ≡ true) (sym o.begun) (begins_append u o.tail) in
    overlap_at c o.first o.second o.two_places o.first_listed o.second_listed begun

-- a test that fails somewhere
fails_at : {A : Type 0} (f : A → Bool) (l : List A) → all f l ≡ false → (a : A) × Memᴰ a l × (f a ≡ false)
fails_at f [] e = absurd (clash refl e)
fails_at {A = A} f (a ∷ l) e = by_first (passes (f a)) (λ k. fails_at f l k)
  where
    by_first : (f a ≡ true) ⊎ (f a ≡ false) → (all f l ≡ false → (b : A) × Memᴰ b l × (f b ≡ false))
        → (b : A) × Memᴰ b (a ∷ l) × (f b ≡ false)
    by_first (inl h) rest = let (b, m, k) = rest (rw (h, all) at e) in (b, Memᴰ.tail m, k)
    by_first (inr h) rest = (a, Memᴰ.head refl, h)

-- ways below a block on which no block is listed, so many
record Unlisted (n : ℕ) (c : List Word) (d : ℕ) (w : Word) : Type 0 where
  ways : Word
  are_ways : Ways n ways
  many : length ways ≡ d
  none_listed : (y z : Word) → ways ≡ y ++ z → listed (w ++ y) c ≡ false

unlisted_end : (n : ℕ) (c : List Word) (w : Word) → listed w c ≡ false → Unlisted n c 0 w
unlisted_end n c w e = record { ways = []; are_ways = tt; many = refl; none_listed = none_listed }
  where
    none_listed : (y z : Word) → [] ≡ y ++ z → listed (w ++ y) c ≡ false
    none_listed [] z q = subst (λ v. listed v c ≡ false) (sym (append-nil w)) e
    none_listed (i ∷ y) z q = absurd (nil≢cons q)

unlisted_step : (n : ℕ) (c : List Word) (d : ℕ) (w : Word) (i : ℕ) → Digit n i → listed w c ≡ false → Unlisted n c d (child w i)
    → Unlisted n c (suc d) w
unlisted_step n c d w i digit e p =
    record { ways = i ∷ p.ways; are_ways = (digit, p.are_ways); many = ap suc p.many; none_listed = none_listed }
  where
    none_listed : (y z : Word) → i ∷ p.ways ≡ y ++ z → listed (w ++ y) c ≡ false
    none_listed [] z q = subst (λ v. listed v c ≡ false) (sym (append-nil w)) e
    none_listed (j ∷ y) z q =
        let same = ap (λ k. listed (w ++ k ∷ y) c) (head-eq_of_cons-eq q) in
        let below = p.none_listed y z (tail-eq_of_cons-eq q) in
        sym same ∙ ap (λ v. listed v c) (sym (child_append w i y)) ∙ below

unlisted_of_uncovered : (n : ℕ) (c : List Word) (d : ℕ) (w : Word) → covered n c d w ≡ false → Unlisted n c d w
unlisted_of_uncovered n c zero w e = unlisted_end n c w e
unlisted_of_uncovered n c (suc d) w e =
    by_block (passes (listed w c)) (λ i k. unlisted_of_uncovered n c d (child w i) k)
  where
    part : ℕ → Bool
    part i = covered n c d (child w i)

    by_block : (listed w c ≡ true) ⊎ (listed w c ≡ false)
        → ((i : ℕ) → covered n c d (child w i) ≡ false → Unlisted n c d (child w i)) → Unlisted n c (suc d) w
    by_block (inl h) rest = absurd (clash refl (rw (h, covered) at e))
    by_block (inr h) rest =
        let (i, m, k) = fails_at part (digits n) (rw (h, covered) at e) in
        unlisted_step n c d w i (digit_of_mem n i m) h (rest i k)

open_of_unlisted : (s : Shape) (c : List Word) → T (all (is_word s) c) → (a : ℕ) → Digit s.roots a
    → Unlisted s.arity c (longest c) (a ∷ []) → OpenBlock s c
open_of_unlisted s c words a digit p =
    record {
      block = a ∷ p.ways;
      of_shape = test_of_word s (a ∷ p.ways) (digit, p.are_ways);
      not_begun = λ u tail m e. begun u tail m (word_of_test s u (all_at (is_word s) c words u m)) e;
      begins_none = λ u tail m e. omega (arith, p.many, length_of_mem u c m, simp length-append at (ap length e));
    }
  where
    begun : (u tail : Word) → Memᴰ u c → IsWord s u → a ∷ p.ways ≡ u ++ tail → ⊥
    begun [] tail m h e = h
    begun (b ∷ u) tail m h e =
        let unlisted = p.none_listed u tail (tail-eq_of_cons-eq e) in
        clash (listed_of_mem (b ∷ u) c m) (ap (λ k. listed (k ∷ u) c) (sym (head-eq_of_cons-eq e)) ∙ unlisted)

open_of_gap : (s : Shape) (c : List Word) → T (all (is_word s) c) → gap s c ≡ true → OpenBlock s c
open_of_gap s c words e =
    let (a, m, k) = fails_at root (digits s.roots) (not_all (all root (digits s.roots)) e) in
    open_of_unlisted s c words a (digit_of_mem s.roots a m) (unlisted_of_uncovered s.arity c (longest c) (a ∷ []) k)
  where
    root : ℕ → Bool
    root a = covered s.arity c (longest c) (a ∷ [])

    not_all : (b : Bool) → not b ≡ true → b ≡ false
    not_all true h = absurd (clash h refl)
    not_all false h = refl

-- Where every belt is covered, the block followed by ways 1 begins with a word of the column, which the block then begins or is begun by.
gap_of_open : (s : Shape) → 1 ≤ s.arity → (c : List Word) → OpenBlock s c → gap s c ≡ true
gap_of_open s nonzero c o = by_test (passes (gap s c))
  where
    meeting : (b : Word) → IsWord s b → gap s c ≡ false → (u : Word) × Memᴰ u c
        × (((z : Word) × (u ≡ b ++ z)) ⊎ ((z : Word) × (b ≡ u ++ z)))
    meeting [] h e = absurd h
    meeting (a ∷ x) h e =
        let root = covered_of_gap s c e a (mem_of_digit s.roots a h.0) in
        let tail = ones (longest c) in
        let below = word_append s (a ∷ x) tail h (ones_ways s.arity (longest c) nonzero) in
        let long : longest c ≤ length (x ++ tail) = rw length-append (omega (arith, ones_length (longest c))) in
        let (u, y, m, q) = deep_of_covered s.arity c (longest c) (a ∷ []) root (x ++ tail) below.1 long in
        (u, m, comparable (a ∷ x) u tail y q)

    apart : (u : Word) → Memᴰ u c → ((z : Word) × (u ≡ o.block ++ z)) ⊎ ((z : Word) × (o.block ≡ u ++ z)) → ⊥
    apart u m (inl (z, q)) = o.begins_none u z m q
    apart u m (inr (z, q)) = o.not_begun u z m q

    by_test : (gap s c ≡ true) ⊎ (gap s c ≡ false) → gap s c ≡ true
    by_test (inl e) = e
    by_test (inr e) =
        let (u, m, either) = meeting o.block (word_of_test s o.block o.of_shape) e in
        absurd (apart u m either)

overlaps : (c : List Word) → (overlap c ≡ true) ↔ Overlapping c
overlaps c = (overlapping_of_test c, test_of_overlapping c)

gaps : (s : Shape) → 1 ≤ s.arity → (c : List Word) → T (all (is_word s) c) → (gap s c ≡ true) ↔ OpenBlock s c
gaps s nonzero c words = (open_of_gap s c words, gap_of_open s nonzero c)

not_overlapping : (c : List Word) → (overlap c ≡ false) ↔ (Overlapping c → ⊥)
not_overlapping c = (λ e o. clash (test_of_overlapping c o) e, λ apart. fails (overlap c) (λ e. apart (overlapping_of_test c e)))

-- what is wrong with a column, by its two tests
data Fault (s : Shape) (c : List Word) : Option Reason → Type 0 where
  overlapped : overlap c ≡ true → Fault s c (some Overlap)
  left_open : overlap c ≡ false → gap s c ≡ true → Fault s c (some Gap)
  sound : overlap c ≡ false → gap s c ≡ false → Fault s c none

fault_overlapped : (s : Shape) (c : List Word) → overlap c ≡ true → fault s c ≡ some Overlap
fault_overlapped s c e = rw (e, fault)

fault_open : (s : Shape) (c : List Word) → overlap c ≡ false → gap s c ≡ true → fault s c ≡ some Gap
fault_open s c e g = rw (e, g, fault)

fault_of_lem : (s : Shape) (c : List Word) → Fault s c (fault s c)
fault_of_lem s c = by_tests (passes (overlap c)) (passes (gap s c))
  where
    by_tests : (overlap c ≡ true) ⊎ (overlap c ≡ false) → (gap s c ≡ true) ⊎ (gap s c ≡ false) → Fault s c (fault s c)
    by_tests (inl e) g = subst (Fault s c) (sym (fault_overlapped s c e)) (overlapped e)
    by_tests (inr e) (inl g) = subst (Fault s c) (sym (fault_open s c e g)) (left_open e g)
    by_tests (inr e) (inr g) = rw (e, g, fault) (sound e g)

overlapped_fault : (s : Shape) (c : List Word) → (fault s c ≡ some Overlap) ↔ Overlapping c
overlapped_fault s c = (λ e. overlapping_of_test c (by_fault (fault_of_lem s c) e), λ o. fault_overlapped s c (test_of_overlapping c o))
  where
    by_fault : {o : Option Reason} → Fault s c o → o ≡ some Overlap → overlap c ≡ true
    by_fault (overlapped e) q = e
    by_fault (left_open e g) q = cc
    by_fault (sound e g) q = cc

module _ (s : Shape) (nonzero : 1 ≤ s.arity) (c : List Word) (words : T (all (is_word s) c)) where
  open_fault : (fault s c ≡ some Gap) ↔ OnlyOpen s c
  open_fault = (λ e. by_fault (fault_of_lem s c) e, λ o. fault_open s c ((not_overlapping c).1 o.0) (gap_of_open s nonzero c o.1))
    where
      by_fault : {o : Option Reason} → Fault s c o → o ≡ some Gap → OnlyOpen s c
      by_fault (overlapped e) q = absurd (let z : ◌≡◌ {A = ℕ} 0 1 = cc in omega arith)
      by_fault (left_open e g) q = ((not_overlapping c).0 e, open_of_gap s c words g)
      by_fault (sound e g) q = absurd (let z : ◌≡◌ {A = ℕ} 0 1 = cc in omega arith)

  no_fault_basis : (fault s c ≡ none) ↔ Basis s c
  no_fault_basis = (λ e. by_fault (fault_of_lem s c) e, λ b. let k = (column_is_basis s nonzero c).0 b in rw (k.apart, k.covers, fault))
    where
      by_fault : {o : Option Reason} → Fault s c o → o ≡ none → Basis s c
      by_fault (overlapped e) q = absurd (let z : ◌≡◌ {A = ℕ} 0 1 = cc in omega arith)
      by_fault (left_open e g) q = absurd (let z : ◌≡◌ {A = ℕ} 0 1 = cc in omega arith)
      by_fault (sound e g) q = (column_is_basis s nonzero c).1 (record { words = words; apart = e; covers = g })

-- the verdict on two columns by what is wrong with each
abbrev judged : Option Reason → Option Reason → Verdict
judged from to = elim from [ some r ↦ InFrom r | none ↦ elim to [ some r ↦ InTo r | none ↦ Accepted ] ]

judged_from : (from to : Option Reason) (r : Reason) → (judged from to ≡ InFrom r) ↔ (from ≡ some r)
judged_from (some q) to r = (λ e. cc, λ e. cc)
judged_from none (some q) r = (λ e. cc, λ e. cc)
judged_from none none r = (λ e. cc, λ e. cc)

judged_to : (from to : Option Reason) (r : Reason) → (judged from to ≡ InTo r) ↔ ((from ≡ none) × (to ≡ some r))
judged_to (some q) to r = (λ e. (cc, cc), λ e. let h = e.0 in cc)
judged_to none (some q) r = (λ e. (refl, cc), λ e. let h = e.1 in cc)
judged_to none none r = (λ e. (refl, cc), λ e. let h = e.1 in cc)

module _ (s : Shape) (t : Table) where
  verdict_from : (r : Reason) → (verdict s t ≡ InFrom r) ↔ (fault s (froms t) ≡ some r)
  unfolding verdict
  verdict_from r = judged_from (fault s (froms t)) (fault s (tos t)) r

  verdict_to : (r : Reason) → (verdict s t ≡ InTo r) ↔ ((fault s (froms t) ≡ none) × (fault s (tos t) ≡ some r))
  unfolding verdict
  verdict_to r = judged_to (fault s (froms t)) (fault s (tos t)) r

  from_overlap : (verdict s t ≡ InFrom Overlap) ↔ Overlapping (froms t)
  from_overlap = (
    λ e. (overlapped_fault s (froms t)).0 ((verdict_from Overlap).0 e),
    λ o. (verdict_from Overlap).1 ((overlapped_fault s (froms t)).1 o),
  )

  module _ (w : WordsOf s t) where
    from_gap : (verdict s t ≡ InFrom Gap) ↔ OnlyOpen s (froms t)
    from_gap =
        let column = open_fault s w.arity (froms t) w.from_words in
        (λ e. column.0 ((verdict_from Gap).0 e), λ o. (verdict_from Gap).1 (column.1 o))

    sound_from : (fault s (froms t) ≡ none) ↔ Basis s (froms t)
    sound_from = no_fault_basis s w.arity (froms t) w.from_words

    to_overlap : (verdict s t ≡ InTo Overlap) ↔ (Basis s (froms t) × Overlapping (tos t))
    to_overlap =
        let column = overlapped_fault s (tos t) in (
          λ e. let f = (verdict_to Overlap).0 e in (sound_from.0 f.0, column.0 f.1),
          λ o. (verdict_to Overlap).1 (sound_from.1 o.0, column.1 o.1),
        )

    to_gap : (verdict s t ≡ InTo Gap) ↔ (Basis s (froms t) × OnlyOpen s (tos t))
    to_gap =
        let column = open_fault s w.arity (tos t) w.to_words in (
          λ e. let f = (verdict_to Gap).0 e in (sound_from.0 f.0, column.0 f.1),
          λ o. (verdict_to Gap).1 (sound_from.1 o.0, column.1 o.1),
        )

pub reasons_exact : ReasonsExact
reasons_exact =
    record {
      overlaps = overlaps;
      gaps = gaps;
      from_overlap = from_overlap;
      from_gap = from_gap;
      to_overlap = to_overlap;
      to_gap = to_gap;
    }
