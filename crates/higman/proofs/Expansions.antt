-- Expansions of the roots are proper columns, and of the size that their number of folds says. Both also hold of a column that
-- lists an expansion in another order: to be proper does not depend on the order, and neither does the length.
use Prim.Native.Nat.{ℕ, zero, suc, ◌+◌, ◌*◌, ◌-◌, ◌≤◌}
use mathlib.Core.Path.{◌≡◌, refl, sym, ◌∙◌, ap, subst, subst₂}
use mathlib.Core.Logic.{◌⊎◌, inl, inr}
use mathlib.Core.List.{List, [], ◌∷◌, ◌++◌, map, append-nil, append_assoc, append_cancel_left, head-eq_of_cons-eq}
use mathlib.Core.List.Memᴰ
use mathlib.Core.List.{Memᴰ}
use mathlib.Core.List.Permᴰ
use mathlib.Core.List.{Permᴰ}
use native.Mathlib.Nat.{suc-mul}
use native.Mathlib.Omega.{arith}
use lib.ListN.{length, length-append, length-map}
use Rattle.higman.specs.Words.{Shape, Word, count, digits, child, children}
use Rattle.higman.specs.Bases.{root_words, Expansion}
use Rattle.higman.proofs.Tests.{count_bounds, Ways, IsWord, digit_of_mem, mem_of_digit}
use Rattle.higman.proofs.Prefixes.{child_append, prefix_of_child, word_append, word_right}
use Rattle.higman.proofs.Proper.{ApartFrom, Apart, Deep, Proper}

-- the word begins with a word of the column
abbrev pub Begun : List Word → Word → Type 0
Begun c w = (u : Word) × (x : Word) × Memᴰ u c × (w ≡ u ++ x)

pub mem_of_perm : {A : Type 0} {a : A} {l k : List A} → Permᴰ l k → Memᴰ a l → Memᴰ a k
mem_of_perm Permᴰ.nil m = m
mem_of_perm {a} (Permᴰ.cons {a = x} {b = y} {l₁ = l} {l₂ = k} e p) m = go (Memᴰ.cases_cons m) (λ h. mem_of_perm p h)
  where
    go : (a ≡ x) ⊎ Memᴰ a l → (Memᴰ a l → Memᴰ a k) → Memᴰ a (y ∷ k)
    go (inl h) rest = Memᴰ.head (h ∙ e)
    go (inr h) rest = Memᴰ.tail (rest h)
mem_of_perm {A} {a} (Permᴰ.swap {a = x} {b = y} {a' = x'} {b' = y'} {l = l} e f) m = outer (Memᴰ.cases_cons m)
  where
    inner : (a ≡ y) ⊎ Memᴰ a l → Memᴰ a (x' ∷ y' ∷ l)
    inner (inl h) = Memᴰ.head (h ∙ f)
    inner (inr h) = Memᴰ.tail (Memᴰ.tail h)

    outer : (a ≡ x) ⊎ Memᴰ a (y ∷ l) → Memᴰ a (x' ∷ y' ∷ l)
    outer (inl h) = Memᴰ.tail (Memᴰ.head (h ∙ e))
    outer (inr h) = inner (Memᴰ.cases_cons h)
mem_of_perm (Permᴰ.trans p q) m = mem_of_perm q (mem_of_perm p m)

pub length_of_perm : {A : Type 0} {l k : List A} → Permᴰ l k → length l ≡ length k
length_of_perm Permᴰ.nil = refl
length_of_perm (Permᴰ.cons e p) = ap suc (length_of_perm p)
length_of_perm (Permᴰ.swap e f) = refl
length_of_perm (Permᴰ.trans p q) = length_of_perm p ∙ length_of_perm q

-- neither word begins the other
abbrev pub Separate : Word → Word → Type 0
Separate u w = (x : Word) → (u ≡ w ++ x → ⊥) × (w ≡ u ++ x → ⊥)

pub apart_of_perm : {c e : List Word} → Permᴰ c e → Apart c → Apart e
apart_of_perm Permᴰ.nil h = h
apart_of_perm (Permᴰ.cons p q) h =
    (λ u m. subst (Separate u) p (h.0 u (mem_of_perm (Permᴰ.symm q) m)), apart_of_perm q h.1)
apart_of_perm (Permᴰ.swap {a = v} {b = w} {a' = v'} {b' = w'} {l = c} p q) h =
    (λ u m. go u (Memᴰ.cases_cons m), (λ u m. subst (Separate u) p (h.0 u (Memᴰ.tail m)), h.1.1))
  where
    go : (u : Word) → (u ≡ w') ⊎ Memᴰ u c → Separate u v'
    go u (inl e) = subst₂ Separate (p ∙ sym e) q (λ x. let f = h.0 w (Memᴰ.head refl) x in (f.1, f.0))
    go u (inr m) = subst (Separate u) q (h.1.0 u m)
apart_of_perm (Permᴰ.trans p q) h = apart_of_perm q (apart_of_perm p h)

-- two words of a column of which one begins the other are one word
pub same_of_apart : (c : List Word) → Apart c → (u v x : Word) → Memᴰ u c → Memᴰ v c → v ≡ u ++ x → u ≡ v
same_of_apart [] h u v x mu mv e = absurd (Memᴰ.not-nil mu)
same_of_apart (w ∷ c) h u v x mu mv e =
    go (Memᴰ.cases_cons mu) (Memᴰ.cases_cons mv) (λ ku kv. same_of_apart c h.1 u v x ku kv e)
  where
    go : (u ≡ w) ⊎ Memᴰ u c → (v ≡ w) ⊎ Memᴰ v c → (Memᴰ u c → Memᴰ v c → u ≡ v) → u ≡ v
    go (inl p) (inl q) rest = p ∙ sym q
    go (inl p) (inr k) rest = absurd ((h.0 v k x).0 (e ∙ ap (λ y. y ++ x) p))
    go (inr k) (inl q) rest = absurd ((h.0 u k x).1 (sym q ∙ e))
    go (inr k) (inr l) rest = rest k l

-- every word of one column is a word of the other
abbrev pub Within : List Word → List Word → Type 0
Within c e = (u : Word) → Memᴰ u c → Memᴰ u e

-- a word of a column that w is apart from is not w, so it is among the others
within_rest : (w : Word) (c e : List Word) → ApartFrom w c → Within c (w ∷ e) → Within c e
within_rest w c e h all u m = go (Memᴰ.cases_cons (all u m))
  where
    go : (u ≡ w) ⊎ Memᴰ u e → Memᴰ u e
    go (inl p) = absurd ((h u m []).0 (p ∙ sym (append-nil w)))
    go (inr k) = k

-- a member taken to the front
pub perm_of_mem : {A : Type 0} {a : A} {l : List A} → Memᴰ a l → (k : List A) × Permᴰ l (a ∷ k)
perm_of_mem (Memᴰ.head {xs = l} e) = (l, Permᴰ.cons (sym e) (Permᴰ.refl l))
perm_of_mem (Memᴰ.tail {x = x} m) =
    let (k, p) = perm_of_mem m in
    (x ∷ k, Permᴰ.trans (Permᴰ.cons refl p) (Permᴰ.swap refl refl))

-- two columns without overlap that have the same words differ in the order alone
pub perm_of_apart : (c e : List Word) → Apart c → Apart e → Within c e → Within e c → Permᴰ c e
perm_of_apart [] [] h k to from = Permᴰ.nil
perm_of_apart [] (v ∷ e) h k to from = absurd (Memᴰ.not-nil (from v (Memᴰ.head refl)))
perm_of_apart (w ∷ c) e h k to from =
    let (l, p) = perm_of_mem (to w (Memᴰ.head refl)) in
    let q = apart_of_perm p k in
    let to-rest = within_rest w c l h.0 (λ u m. mem_of_perm p (to u (Memᴰ.tail m))) in
    let from-rest = within_rest w l c q.0 (λ u m. from u (mem_of_perm (Permᴰ.symm p) (Memᴰ.tail m))) in
    Permᴰ.trans (Permᴰ.cons refl (perm_of_apart c l h.1 q.1 to-rest from-rest)) (Permᴰ.symm p)

pub proper_of_perm : (s : Shape) {c e : List Word} → Permᴰ c e → Proper s c → Proper s e
proper_of_perm s p h =
    record {
      words = λ w m. h.words w (mem_of_perm (Permᴰ.symm p) m);
      apart = apart_of_perm p h.apart;
      depth = h.depth;
      deep = λ w k l. let (u, x, m, e) = h.deep w k l in (u, x, mem_of_perm p m, e);
    }

-- children of one word of which one begins the other are at the same way
same_digit : (w : Word) (a b : ℕ) (x : Word) → child w a ≡ child w b ++ x → a ≡ b
same_digit w a b x e = head-eq_of_cons-eq (append_cancel_left w (a ∷ []) (b ∷ x) (e ∙ child_append w b x))

child_apart_from : (w : Word) (c : List Word) (i : ℕ) → ApartFrom w c → ApartFrom (child w i) c
child_apart_from w c i h u m x =
    (λ e. (h u m (i ∷ x)).0 (e ∙ child_append w i x), λ e. go (prefix_of_child u x w i (sym e)) e)
  where
    go : (x ≡ []) ⊎ ((z : Word) × (w ≡ u ++ z)) → child w i ≡ u ++ x → ⊥
    go (inl p) e = (h u m (i ∷ [])).0 (sym (e ∙ ap (λ y. u ++ y) p ∙ append-nil u))
    go (inr (z, p)) e = (h u m z).1 p

-- The children of w in place of w, counted from a so that the recursion goes through. The roots are the children of [].
apart_children : (w : Word) (c : List Word) → ApartFrom w c → Apart c → (a m : ℕ) → Apart (map (child w) (count a m) ++ c)
apart_children w c f h a zero = h
apart_children w c f h a (suc m) =
    (λ u k. go u (Memᴰ.append_cases (map (child w) (count (suc a) m)) k), apart_children w c f h (suc a) m)
  where
    later : (u : Word) → (b : ℕ) × Memᴰ b (count (suc a) m) × (child w b ≡ u) → Separate u (child w a)
    later u (b, k, e) x =
        let bounds = count_bounds (suc a) m b k in (
          λ p. absurd (omega (arith, same_digit w b a x (e ∙ p))),
          λ p. absurd (omega (arith, same_digit w a b x (p ∙ ap (λ v. v ++ x) (sym e)))),
        )

    go : (u : Word) → Memᴰ u (map (child w) (count (suc a) m)) ⊎ Memᴰ u c → Separate u (child w a)
    go u (inl k) = later u (Memᴰ.of_map (child w) (count (suc a) m) k)
    go u (inr k) = child_apart_from w c a f u k

proper_roots : (s : Shape) → Proper s (root_words s)
proper_roots s = record { words = words; apart = apart; depth = 0; deep = deep }
  where
    words : (w : Word) → Memᴰ w (root_words s) → IsWord s w
    words w m =
        let (a, k, e) = Memᴰ.of_map (child []) (digits s.roots) m in
        subst (IsWord s) e (digit_of_mem s.roots a k, tt)

    apart : Apart (root_words s)
    apart =
        subst Apart (append-nil (root_words s)) (apart_children [] [] (λ u m. absurd (Memᴰ.not-nil m)) tt 1 s.roots)

    deep : Deep s 0 (root_words s)
    deep [] h l = absurd h
    deep (a ∷ x) h l = (a ∷ [], x, Memᴰ.map (child []) (mem_of_digit s.roots a h.0), refl)

proper_children : (s : Shape) (w : Word) (c : List Word) → Proper s (w ∷ c) → Proper s (children s.arity w ++ c)
proper_children s w c p =
    record {
      words = λ v m. words v (Memᴰ.append_cases (children s.arity w) m);
      apart = apart_children w c p.apart.0 p.apart.1 1 s.arity;
      depth = p.depth + suc (length w);
      deep = λ v h l. let (u, x, m, e) = p.deep v h (omega arith) in deep v h l u x (Memᴰ.cases_cons m) e;
    }
  where
    n : ℕ
    n = s.arity

    is_word_lem : IsWord s w
    is_word_lem = p.words w (Memᴰ.head refl)

    words : (v : Word) → Memᴰ v (children n w) ⊎ Memᴰ v c → IsWord s v
    words v (inl m) =
        let (i, k, e) = Memᴰ.of_map (child w) (digits n) m in
        subst (IsWord s) e (word_append s w (i ∷ []) is_word_lem (digit_of_mem n i k, tt))
    words v (inr m) = p.words v (Memᴰ.tail m)

    -- a longer word that begins with w begins with a child of w
    below : (x : Word) → Ways n x → 1 ≤ length x → Begun (children n w ++ c) (w ++ x)
    below [] h l = absurd (omega arith)
    below (i ∷ x) h l =
        (child w i, x, Memᴰ.append_left c (Memᴰ.map (child w) (mem_of_digit n i h.0)), sym (child_append w i x))

    deep : (v : Word) → IsWord s v → p.depth + suc (length w) ≤ length v → (u x : Word) → (u ≡ w) ⊎ Memᴰ u c → v ≡ u ++ x → Begun (children n w ++ c) v
    deep v h l u x (inl k) e =
        let q : v ≡ w ++ x = e ∙ ap (λ y. y ++ x) k in
        let ways = word_right s w x is_word_lem (subst (IsWord s) q h) in
        subst (Begun (children n w ++ c)) (sym q) (below x ways (omega (arith, simp length-append at (ap length q))))
    deep v h l u x (inr k) e = (u, x, Memᴰ.append_right (children n w) k, e)

-- the children stand where their parent stood; for proper-children, they come first
append_swap : {A : Type 0} (a b c : List A) → Permᴰ (a ++ (b ++ c)) (b ++ (a ++ c))
append_swap a [] c = Permᴰ.refl (a ++ c)
append_swap a (x ∷ b) c = Permᴰ.trans (Permᴰ.middle x a (b ++ c)) (Permᴰ.cons refl (append_swap a b c))

pub proper_of_expansion : (s : Shape) (d : ℕ) (c : List Word) → Expansion s d c → Proper s c
proper_of_expansion s zero c e = subst (Proper s) (sym e) (proper_roots s)
proper_of_expansion s (suc d) c (front, w, back, h, e) =
    let parts = children s.arity w in
    let p = proper_of_perm s (Permᴰ.middle w front back) (proper_of_expansion s d (front ++ w ∷ back) h) in
    let q = proper_of_perm s (append_swap parts front back) (proper_children s w (front ++ back) p) in
    subst (Proper s) (sym (e ∙ append_assoc front parts back)) q

pub length_count : (a m : ℕ) → length (count a m) ≡ m
length_count a zero = refl
length_count a (suc m) = ap suc (length_count (suc a) m)

pub length_of_expansion : (s : Shape) → 1 ≤ s.arity → (d : ℕ) (c : List Word) → Expansion s d c → length c ≡ s.roots + d * (s.arity - 1)
length_of_expansion s nonzero zero c e =
    omega (arith, ap length e, length-map (digits s.roots) (child []), length_count 1 s.roots)
length_of_expansion s nonzero (suc d) c (front, w, back, h, e) =
    let before = length_of_expansion s nonzero d (front ++ w ∷ back) h in
    omega (
      arith,
      simp length-append at (ap length e),
      simp length-append at before,
      length-map (digits s.arity) (child w),
      length_count 1 s.arity,
      suc-mul d (s.arity - 1),
    )
