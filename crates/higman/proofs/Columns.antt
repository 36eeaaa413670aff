-- Three ways to say what a column is, and that they agree: it passes the tests of document 01 (Column), it is proper (Proper.antt),
-- it lists an expansion of the roots (Basis). The theorems ColumnIsBasis and BasisSize of specs/Theorems.antt stand at the end.
use Prim.Native.Nat.{ℕ, zero, suc, ◌≤◌, max}
use mathlib.Core.Path.{◌≡◌, refl, sym, ◌∙◌, ap, subst}
use mathlib.Core.Logic.{◌⊎◌, inl, inr, ⊎_elim}
use mathlib.Core.Bool.{Bool, true, false, ◌||◌, not}
use mathlib.Core.List.Permᴰ
use mathlib.Core.List.{List, [], ◌∷◌, ◌++◌, append-nil, append_assoc, nil≢cons}
use mathlib.Core.List.Memᴰ
use mathlib.Core.List.{Memᴰ}
use native.Mathlib.Omega.{arith}
use lib.ListN.{length, length-append}
use Rattle.higman.specs.Words.{Shape, Word, digits, is_word, begins, child, children}
use Rattle.higman.specs.Bases.{root_words, Expansion, Basis, listed, all, covered, longest, gap, meets, overlap, Column}
use Rattle.higman.specs.Theorems.{ColumnIsBasis, BasisSize}
use Rattle.higman.proofs.Tests.{passes, so, T_of, clash, or_left_false, or_right_false, or_false, all_at, all_of}
use Rattle.higman.proofs.Tests.{Digit, Ways, IsWord, word_of_test, test_of_word, digit_of_mem, mem_of_digit, listed_of_mem}
use Rattle.higman.proofs.Tests.{mem_of_listed}
use Rattle.higman.proofs.Prefixes.{begins_append, tail_of_begins, comparable, child_append, prefix_of_child, word_append, ones}
use Rattle.higman.proofs.Prefixes.{ones_ways, ones_length}
use Rattle.higman.proofs.Proper.{ApartFrom, Apart, Deep, Proper}
use Rattle.higman.proofs.Expansions.{Begun, Separate, Within, length_of_perm, same_of_apart, perm_of_apart, proper_of_perm}
use Rattle.higman.proofs.Expansions.{proper_of_expansion, length_of_expansion}

apart_from_of_meets : (w : Word) (c : List Word) → meets w c ≡ false → ApartFrom w c
apart_from_of_meets w [] e u m = absurd (Memᴰ.not-nil m)
apart_from_of_meets w (v ∷ c) e u m =
    let pair = begins w v || begins v w in
    go (or_left_false pair (meets w c) e) (Memᴰ.cases_cons m) (λ k. apart_from_of_meets w c (or_right_false pair (meets w c) e) u k)
  where
    go : (begins w v || begins v w) ≡ false → (u ≡ v) ⊎ Memᴰ u c → (Memᴰ u c → Separate u w) → Separate u w
    go h (inl p) rest x = (
      λ q. clash (ap (begins w) (sym p ∙ q) ∙ begins_append w x) (or_left_false (begins w v) (begins v w) h),
      λ q. clash (ap (begins v) (q ∙ ap (λ a. a ++ x) p) ∙ begins_append v x) (or_right_false (begins w v) (begins v w) h),
    )
    go h (inr k) rest x = rest k x

-- a test that cannot pass fails
pub fails : (b : Bool) → (b ≡ true → ⊥) → b ≡ false
fails true h = absurd (h refl)
fails false h = refl

meets_of_apart_from : (w : Word) (c : List Word) → ApartFrom w c → meets w c ≡ false
meets_of_apart_from w [] a = refl
meets_of_apart_from w (v ∷ c) a =
    or_false
    (begins w v || begins v w)
    (meets w c)
    (or_false (begins w v) (begins v w) (fails (begins w v) onward) (fails (begins v w) backward))
    (meets_of_apart_from w c (λ u m. a u (Memᴰ.tail m)))
  where
    onward : begins w v ≡ true → ⊥
    onward e = let t = tail_of_begins w v e in (a v (Memᴰ.head refl) t.0).0 t.1

    backward : begins v w ≡ true → ⊥
    backward e = let t = tail_of_begins v w e in (a v (Memᴰ.head refl) t.0).1 t.1

apart_of_overlap : (c : List Word) → overlap c ≡ false → Apart c
apart_of_overlap [] e = tt
apart_of_overlap (w ∷ c) e =
    (apart_from_of_meets w c (or_left_false (meets w c) (overlap c) e), apart_of_overlap c (or_right_false (meets w c) (overlap c) e))

pub overlap_of_apart : (c : List Word) → Apart c → overlap c ≡ false
overlap_of_apart [] a = refl
overlap_of_apart (w ∷ c) a = or_false (meets w c) (overlap c) (meets_of_apart_from w c a.0) (overlap_of_apart c a.1)

-- every extension of w by at least d ways begins with a word of the column
abbrev pub DeepBelow : ℕ → List Word → ℕ → Word → Type 0
DeepBelow n c d w = (x : Word) → Ways n x → d ≤ length x → Begun c (w ++ x)

abbrev PartsCovered : ℕ → List Word → ℕ → Word → Type 0
PartsCovered n c d w = (i : ℕ) → Memᴰ i (digits n) → covered n c d (child w i) ≡ true

-- a covered block is listed, or its parts are covered
covered_cases : (n : ℕ) (c : List Word) (d : ℕ) (w : Word) → covered n c (suc d) w ≡ true → Memᴰ w c ⊎ PartsCovered n c d w
covered_cases n c d w e = go (listed w c) refl e
  where
    part : ℕ → Bool
    part i = covered n c d (child w i)

    go : (b : Bool) → listed w c ≡ b → elim b as (λ _. Bool) [ true ↦ true | false ↦ all part (digits n) ] ≡ true → Memᴰ w c ⊎ PartsCovered n c d w
    go true h k = inl (mem_of_listed w c h)
    go false h k = inr (λ i m. so (part i) (all_at part (digits n) (T_of k) i m))

pub deep_of_covered : (n : ℕ) (c : List Word) (d : ℕ) (w : Word) → covered n c d w ≡ true → DeepBelow n c d w
deep_of_covered n c zero w e x h k = (w, x, mem_of_listed w c e, refl)
deep_of_covered n c (suc d) w e [] h k = absurd (omega arith)
deep_of_covered n c (suc d) w e (i ∷ x) h k =
    go (covered_cases n c d w e) (λ p. deep_of_covered n c d (child w i) p x h.1 (omega arith))
  where
    go : Memᴰ w c ⊎ PartsCovered n c d w → (covered n c d (child w i) ≡ true → Begun c (child w i ++ x)) → Begun c (w ++ i ∷ x)
    go (inl m) below = (w, i ∷ x, m, refl)
    go (inr parts) below = subst (Begun c) (child_append w i x) (below (parts i (mem_of_digit n i h.0)))

-- no word of the column begins w, other than w itself
abbrev Uncut : List Word → Word → Type 0
Uncut c w = (u y : Word) → Memᴰ u c → w ≡ u ++ y → y ≡ []

uncut_same : (c : List Word) (w u y : Word) → Uncut c w → Memᴰ u c → w ≡ u ++ y → w ≡ u
uncut_same c w u y uncut m e = e ∙ ap (λ z. u ++ z) (uncut u y m e) ∙ append-nil u

uncut_child : (c : List Word) (w : Word) (i : ℕ) → Uncut c w → listed w c ≡ false → Uncut c (child w i)
uncut_child c w i uncut h u y m e = go (prefix_of_child u y w i (sym e))
  where
    go : (y ≡ []) ⊎ ((z : Word) × (w ≡ u ++ z)) → y ≡ []
    go (inl p) = p
    go (inr (z, p)) = absurd (clash (listed_of_mem w c (Memᴰ.cast (uncut_same c w u z uncut m p) m)) h)

covered_of_deep : (n : ℕ) (c : List Word) (d : ℕ) (w : Word) → DeepBelow n c d w → Uncut c w → covered n c d w ≡ true
covered_of_deep n c zero w deep uncut =
    let (u, y, m, e) = deep [] tt (omega arith) in
    listed_of_mem w c (Memᴰ.cast (uncut_same c w u y uncut m (sym (append-nil w) ∙ e)) m)
covered_of_deep n c (suc d) w deep uncut =
    go (passes (listed w c)) (λ i k h. covered_of_deep n c d (child w i) (below i k) (uncut_child c w i uncut h))
  where
    below : (i : ℕ) → Digit n i → DeepBelow n c d (child w i)
    below i k x h l =
        let (u, y, m, e) = deep (i ∷ x) (k, h) (omega arith) in
        (u, y, m, child_append w i x ∙ e)

    part : ℕ → Bool
    part i = covered n c d (child w i)

    go : (listed w c ≡ true) ⊎ (listed w c ≡ false) → ((i : ℕ) → Digit n i → listed w c ≡ false → part i ≡ true) → covered n c (suc d) w ≡ true
    go (inl h) parts = rw (h, covered)
    go (inr h) parts =
        rw (h, covered) (so (all part (digits n)) (all_of part (digits n) (λ i m. T_of (parts i (digit_of_mem n i m) h))))

pub length_of_mem : (u : Word) (c : List Word) → Memᴰ u c → length u ≤ longest c
length_of_mem u [] m = absurd (Memᴰ.not-nil m)
length_of_mem u (v ∷ c) m = go (Memᴰ.cases_cons m) (λ k. length_of_mem u c k)
  where
    go : (u ≡ v) ⊎ Memᴰ u c → (Memᴰ u c → length u ≤ longest c) → length u ≤ max (length v) (longest c)
    go (inl e) rest = omega (arith, ap length e)
    go (inr k) rest = omega (arith, rest k)

-- one of the two words begins the other
abbrev pub Comparable : Word → Word → Type 0
Comparable w u = ((z : Word) × (u ≡ w ++ z)) ⊎ ((z : Word) × (w ≡ u ++ z))

-- Each word is comparable with a word of the column: follow it by ways 1 until it is long enough.
pub comparable_of_proper : (s : Shape) (c : List Word) → 1 ≤ s.arity → Proper s c → (w : Word) → IsWord s w → (u : Word) × Memᴰ u c × Comparable w u
comparable_of_proper s c nonzero p w h =
    let (u, x, m, e) = p.deep (w ++ tail) (word_append s w tail h (ones_ways s.arity p.depth nonzero)) long in
    (u, m, comparable w u tail x e)
  where
    tail : Word
    tail = ones p.depth

    long : p.depth ≤ length (w ++ tail)
    long = rw length-append (omega (arith, ones_length p.depth))

pub deep_longest : (s : Shape) (c : List Word) → 1 ≤ s.arity → Proper s c → Deep s (suc (longest c)) c
deep_longest s c nonzero p w h k = let (u, m, either) = comparable_of_proper s c nonzero p w h in go u m either
  where
    go : (u : Word) → Memᴰ u c → Comparable w u → Begun c w
    go u m (inl (z, e)) = absurd (omega (arith, length_of_mem u c m, simp length-append at (ap length e)))
    go u m (inr (z, e)) = (u, z, m, e)

abbrev pub root_covered : Shape → List Word → ℕ → Bool
root_covered s c a = covered s.arity c (longest c) (a ∷ [])

pub covered_of_gap : (s : Shape) (c : List Word) → gap s c ≡ false → (a : ℕ) → Memᴰ a (digits s.roots) → root_covered s c a ≡ true
covered_of_gap s c e a m = so (root_covered s c a) (all_at (root_covered s c) roots (T_of (go (all (root_covered s c) roots) e)) a m)
  where
    roots : List ℕ
    roots = digits s.roots

    go : (b : Bool) → not b ≡ false → b ≡ true
    go true h = refl
    go false h = absurd (clash refl h)

gap_of_covered : (s : Shape) (c : List Word) → ((a : ℕ) → Memᴰ a (digits s.roots) → root_covered s c a ≡ true) → gap s c ≡ false
gap_of_covered s c h =
    let roots = digits s.roots in
    ap not (so (all (root_covered s c) roots) (all_of (root_covered s c) roots (λ a m. T_of (h a m))))

pub proper_of_column : (s : Shape) (c : List Word) → 1 ≤ s.arity → Column s c → Proper s c
proper_of_column s c nonzero k =
    record {
      words = λ w m. word_of_test s w (all_at (is_word s) c k.words w m);
      apart = apart_of_overlap c k.apart;
      depth = suc (longest c);
      deep = deep;
    }
  where
    deep : Deep s (suc (longest c)) c
    deep [] h l = absurd h
    deep (a ∷ x) h l =
        let root = covered_of_gap s c k.covers a (mem_of_digit s.roots a h.0) in
        deep_of_covered s.arity c (longest c) (a ∷ []) root x h.1 (omega arith)

-- a root has no proper beginning that is a word
root_uncut : (s : Shape) (c : List Word) → ((w : Word) → Memᴰ w c → IsWord s w) → (a : ℕ) → Uncut c (a ∷ [])
root_uncut s c words a u y m e = go u m (prefix_of_child u y [] a (sym e))
  where
    go : (u : Word) → Memᴰ u c → (y ≡ []) ⊎ ((z : Word) × ([] ≡ u ++ z)) → y ≡ []
    go u m (inl p) = p
    go [] m (inr t) = absurd (words [] m)
    go (b ∷ u) m (inr (z, p)) = absurd (nil≢cons p)

pub column_of_proper : (s : Shape) (c : List Word) → 1 ≤ s.arity → Proper s c → Column s c
column_of_proper s c nonzero p =
    record {
      words = all_of (is_word s) c (λ w m. test_of_word s w (p.words w m));
      apart = overlap_of_apart c p.apart;
      covers = gap_of_covered s c root;
    }
  where
    below : (a : ℕ) → Digit s.roots a → DeepBelow s.arity c (longest c) (a ∷ [])
    below a d x h l = deep_longest s c nonzero p (a ∷ x) (d, h) (omega arith)

    root : (a : ℕ) → Memᴰ a (digits s.roots) → root_covered s c a ≡ true
    root a m = covered_of_deep s.arity c (longest c) (a ∷ []) (below a (digit_of_mem s.roots a m)) (root_uncut s c p.words a)

pub proper_of_basis : (s : Shape) (c : List Word) → 1 ≤ s.arity → Basis s c → Proper s c
proper_of_basis s c nonzero b =
    proper_of_perm s (Permᴰ.symm b.listing) (proper_of_expansion s b.folds b.expansion b.expands)

-- The words ws have expansions in words of the column, wherever they stand in an expansion.
record Refined (s : Shape) (c ws : List Word) : Type 0 where
  leaves : List Word
  within : Within leaves c
  replaced : (front back : List Word) (d : ℕ) → Expansion s d (front ++ (ws ++ back)) → (k : ℕ) × Expansion s k (front ++ (leaves ++ back))

refined_listed : (s : Shape) (c : List Word) (w : Word) → Memᴰ w c → Refined s c (w ∷ [])
refined_listed s c w m =
    record {
      leaves = w ∷ [];
      within = λ u k. Memᴰ.cast (Memᴰ.eq_of_singleton k) m;
      replaced = λ front back d h. (d, h);
    }

refined_parts : (s : Shape) (c : List Word) (w : Word) → Refined s c (children s.arity w) → Refined s c (w ∷ [])
refined_parts s c w r =
    record {
      leaves = r.leaves;
      within = r.within;
      replaced = λ front back d h. r.replaced front back (suc d) (front, w, back, h, sym (append_assoc front (children s.arity w) back));
    }

refined_cons : (s : Shape) (c : List Word) (w : Word) (ws : List Word) → Refined s c (w ∷ []) → Refined s c ws → Refined s c (w ∷ ws)
refined_cons s c w ws p q =
    record {
      leaves = p.leaves ++ q.leaves;
      within = λ u m. ⊎_elim (p.within u) (q.within u) (Memᴰ.append_cases p.leaves m);
      replaced = replaced;
    }
  where
    regroup : (front back : List Word) → front ++ p.leaves ++ (q.leaves ++ back) ≡ front ++ (p.leaves ++ q.leaves ++ back)
    regroup front back = simp append_assoc

    replaced : (front back : List Word) (d : ℕ) → Expansion s d (front ++ w ∷ (ws ++ back)) → (k : ℕ) × Expansion s k (front ++ (p.leaves ++ q.leaves ++ back))
    replaced front back d h =
        let (k, l) = p.replaced front (ws ++ back) d h in
        let (j, r) = q.replaced (front ++ p.leaves) back k (rw append_assoc l) in
        (j, subst (Expansion s j) (regroup front back) r)

refined_all : (s : Shape) (c ws : List Word) → ((w : Word) → Memᴰ w ws → Refined s c (w ∷ [])) → Refined s c ws
refined_all s c [] each =
    record { leaves = []; within = λ u m. absurd (Memᴰ.not-nil m); replaced = λ front back d h. (d, h) }
refined_all s c (w ∷ ws) each =
    refined_cons s c w ws (each w (Memᴰ.head refl)) (refined_all s c ws (λ v m. each v (Memᴰ.tail m)))

refined_of_covered : (s : Shape) (c : List Word) (d : ℕ) (w : Word) → covered s.arity c d w ≡ true → Refined s c (w ∷ [])
refined_of_covered s c zero w e = refined_listed s c w (mem_of_listed w c e)
refined_of_covered s c (suc d) w e = go (covered_cases s.arity c d w e) (λ i h. refined_of_covered s c d (child w i) h)
  where
    go : Memᴰ w c ⊎ PartsCovered s.arity c d w → ((i : ℕ) → covered s.arity c d (child w i) ≡ true → Refined s c (child w i ∷ [])) → Refined s c (w ∷ [])
    go (inl m) below = refined_listed s c w m
    go (inr parts) below = refined_parts s c w (refined_all s c (children s.arity w) each)
      where
        each : (v : Word) → Memᴰ v (children s.arity w) → Refined s c (v ∷ [])
        each v m =
            let (i, k, q) = Memᴰ.of_map (child w) (digits s.arity) m in
            subst (λ v. Refined s c (v ∷ [])) q (below i (parts i k))

refined_roots : (s : Shape) (c : List Word) → gap s c ≡ false → Refined s c (root_words s)
refined_roots s c e = refined_all s c (root_words s) each
  where
    each : (w : Word) → Memᴰ w (root_words s) → Refined s c (w ∷ [])
    each w m =
        let (a, k, q) = Memᴰ.of_map (child []) (digits s.roots) m in
        subst (λ w. Refined s c (w ∷ [])) q (refined_of_covered s c (longest c) (a ∷ []) (covered_of_gap s c e a k))

-- The expansion of the roots into words of the column has all of them, since each is comparable with a word of the expansion.
pub basis_of_proper : (s : Shape) (c : List Word) → 1 ≤ s.arity → Proper s c → Basis s c
basis_of_proper s c nonzero p =
    let (d, h) = r.replaced [] [] 0 (append-nil (root_words s)) in
    let e = subst (Expansion s d) (append-nil r.leaves) h in
    let q = proper_of_expansion s d r.leaves e in
    let same = perm_of_apart c r.leaves p.apart q.apart (every q) r.within in
    record { folds = d; expansion = r.leaves; expands = e; listing = same }
  where
    r : Refined s c (root_words s)
    r = refined_roots s c (column_of_proper s c nonzero p).covers

    every : Proper s r.leaves → Within c r.leaves
    every q u m =
        let (v, k, either) = comparable_of_proper s r.leaves nonzero q u (p.words u m) in
        Memᴰ.cast (go v (r.within v k) either) k
      where
        go : (v : Word) → Memᴰ v c → Comparable u v → u ≡ v
        go v k (inl (z, e)) = same_of_apart c p.apart u v z m k e
        go v k (inr (z, e)) = sym (same_of_apart c p.apart v u z k m e)

pub column_is_basis : ColumnIsBasis
column_is_basis s nonzero c =
    (λ b. column_of_proper s c nonzero (proper_of_basis s c nonzero b), λ k. basis_of_proper s c nonzero (proper_of_column s c nonzero k))

pub basis_size : BasisSize
basis_size s nonzero c b =
    length_of_perm b.listing ∙ length_of_expansion s nonzero b.folds b.expansion b.expands
