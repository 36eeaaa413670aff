-- What is wrong with a column does not depend on the order of its words: a word is listed in two orders or in none, the longest word is
-- the same, and so a block is covered in both or in neither; and two words that overlap do so in any order.
use Prim.Native.Nat.{ℕ, zero, suc, max}
use mathlib.Core.Path.{◌≡◌, refl, sym, ◌∙◌, ap, ap₂}
use mathlib.Core.Bool.{Bool, true, false, ◌||◌, not, or-true}
use mathlib.Core.List.{List, [], ◌∷◌}
use mathlib.Core.List.{Permᴰ}
use mathlib.Core.Option.{Option, none, some}
use native.Mathlib.Omega.{arith}
use lib.Dec.{T}
use lib.ListN.{length}
use Rattle.higman.specs.Words.{Shape, Word, digits, is_word, begins, child}
use Rattle.higman.specs.Bases.{all, same_word, listed, covered, longest, gap, meets, overlap}
use Rattle.higman.specs.Answers.{Reason, Overlap, Gap, fault}
use Rattle.higman.proofs.Tests.{all_at, all_of}
use Rattle.higman.proofs.Expansions.{mem_of_perm}
use Rattle.columns.proofs.Covered.{all_same}

-- what is put together from the words one by one, in whichever order
module _ {A : Type 0} (add : A → A → A) (exchange : (a b c : A) → add a (add b c) ≡ add b (add a c))
    (f : Word → A) (h : List Word → A) (step : (w : Word) (c : List Word) → h (w ∷ c) ≡ add (f w) (h c)) where
  two : (v w : Word) (c : List Word) → h (v ∷ w ∷ c) ≡ add (f v) (add (f w) (h c))
  two v w c = step v (w ∷ c) ∙ ap (add (f v)) (step w c)

  unordered : {c e : List Word} → Permᴰ c e → h c ≡ h e
  unordered Permᴰ.nil = refl
  unordered (Permᴰ.cons {a = v} {b = w} {l₁ = c} {l₂ = e} p q) =
      step v c ∙ ap₂ (λ x r. add (f x) r) p (unordered q) ∙ sym (step w e)
  unordered (Permᴰ.swap {a = v} {b = w} {a' = v'} {b' = w'} {l = c} p q) =
      two v w c ∙ ap₂ (λ x y. add (f x) (add (f y) (h c))) p q ∙ exchange (f w') (f v') (h c) ∙ sym (two v' w' c)
  unordered (Permᴰ.trans p q) = unordered p ∙ unordered q

or_exchange : (a b c : Bool) → (a || (b || c)) ≡ (b || (a || c))
or_exchange true b c = sym (or-true b)
or_exchange false b c = refl

max_exchange : (a b c : ℕ) → max a (max b c) ≡ max b (max a c)
max_exchange a b c = omega arith

listed_unordered : (w : Word) {c e : List Word} → Permᴰ c e → listed w c ≡ listed w e
listed_unordered w p = unordered ◌||◌ or_exchange (same_word w) (listed w) (λ u c. refl) p

longest_unordered : {c e : List Word} → Permᴰ c e → longest c ≡ longest e
longest_unordered p = unordered max max_exchange length longest (λ u c. refl) p

meets_unordered : (w : Word) {c e : List Word} → Permᴰ c e → meets w c ≡ meets w e
meets_unordered w p = unordered ◌||◌ or_exchange (λ u. begins w u || begins u w) (meets w) (λ u c. refl) p

-- two words in front of others: whether they meet each other, whether each meets the others, and whether the others overlap
two_in_front : (a b m n o : Bool) → (a || b || m || (n || o)) ≡ (b || a || n || (m || o))
two_in_front true true m n o = refl
two_in_front true false m n o = refl
two_in_front false true m n o = refl
two_in_front false false m n o = or_exchange m n o

overlap_unordered : {c e : List Word} → Permᴰ c e → overlap c ≡ overlap e
overlap_unordered Permᴰ.nil = refl
overlap_unordered (Permᴰ.cons {b = w} {l₁ = c} p q) =
    ap₂ ◌||◌ (ap (λ x. meets x c) p ∙ meets_unordered w q) (overlap_unordered q)
overlap_unordered (Permᴰ.swap {a' = v} {b' = w} {l = c} p q) =
    ap₂ (λ x y. overlap (x ∷ y ∷ c)) p q ∙ two_in_front (begins w v) (begins v w) (meets w c) (meets v c) (overlap c)
overlap_unordered (Permᴰ.trans p q) = overlap_unordered p ∙ overlap_unordered q

covered_unordered : (n : ℕ) {c e : List Word} → Permᴰ c e → (d : ℕ) (w : Word) → covered n c d w ≡ covered n e d w
covered_unordered n p zero w = listed_unordered w p
covered_unordered n {c} {e} p (suc d) w =
    ap₂
    (λ t r. elim t as (λ _. Bool) [ true ↦ true | false ↦ r ])
    (listed_unordered w p)
    (all_same (λ i. covered n c d (child w i)) (λ i. covered n e d (child w i)) (λ i. covered_unordered n p d (child w i)) (digits n))

gap_unordered : (s : Shape) {c e : List Word} → Permᴰ c e → gap s c ≡ gap s e
gap_unordered s {c} {e} p =
    let n = s.arity in
    ap not
    (all_same (λ a. covered n c (longest c) (a ∷ [])) (λ a. covered n e (longest e) (a ∷ []))
    (λ a. covered_unordered n p (longest c) (a ∷ []) ∙ ap (λ d. covered n e d (a ∷ [])) (longest_unordered p))
    (digits s.roots))

pub fault_unordered : (s : Shape) {c e : List Word} → Permᴰ c e → fault s c ≡ fault s e
fault_unordered s p =
    ap₂ {B = Bool}
    (λ o g. elim o as (λ _. Option Reason) [ true ↦ some Overlap | false ↦ elim g as (λ _. Option Reason) [ true ↦ some Gap | false ↦ none ] ])
    (overlap_unordered p)
    (gap_unordered s p)

-- all are words of the shape, in any order
pub words_unordered : (s : Shape) {c e : List Word} → Permᴰ c e → T (all (is_word s) e) → T (all (is_word s) c)
words_unordered s {c} {e} p t = all_of (is_word s) c (λ w m. all_at (is_word s) e t w (mem_of_perm p m))

-- the three answers
module _ (s : Shape) (c : List Word) where
  pub fault_overlap : overlap c ≡ true → fault s c ≡ some Overlap
  fault_overlap o = rw (o, fault)

  pub fault_gap : overlap c ≡ false → gap s c ≡ true → fault s c ≡ some Gap
  fault_gap o g = rw (o, g, fault)

  pub fault_none : overlap c ≡ false → gap s c ≡ false → fault s c ≡ none
  fault_none o g = rw (o, g, fault)
