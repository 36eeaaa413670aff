-- Covered blocks as the code checks them: a run over ways stops at the first that is not covered, and looking deeper than the longest
-- word of the column changes nothing.
use Prim.Native.Nat.{ℕ, zero, suc, ◌+◌, ◌-◌, ◌^◌, ◌≤◌, ◌<◌}
use mathlib.Core.Path.{◌≡◌, refl, sym, ◌∙◌, ap, ap₂}
use mathlib.Core.Logic.{◌⊎◌, inl, inr, ⊎_elim}
use mathlib.Core.Bool.{Bool, true, false, not}
use mathlib.Core.List.{List, [], ◌∷◌}
use native.Mathlib.Omega.{arith}
use lib.ListN.{length, get_or}
use Rattle.higman.specs.Words.{Word, count, digits, child}
use Rattle.higman.specs.Bases.{same_word, listed, all, covered, longest, gap}
use Rattle.higman.proofs.Tests.{passes, T_of, or_false, same_word_lem}
use Rattle.higman.specs.Limits.{max_digits}
use Rattle.words.specs.Bytes.{shape}
use Rattle.words.proofs.Sizes.{length_child}
use Rattle.words.proofs.Limit.{word_fits}
use Rattle.columns.specs.Packed.{words_of}

-- the numbers from a to n, with a taken off
count_step : (a n : ℕ) → a ≤ n → count a (n + 1 - a) ≡ a ∷ count (a + 1) (n + 1 - (a + 1))
count_step a n h = ap (count a) e ∙ ap (λ b. a ∷ count b (n + 1 - (a + 1))) (omega arith)
  where
    e : n + 1 - a ≡ suc (n + 1 - (a + 1))
    e = omega arith

module _ (f : ℕ → Bool) (a n : ℕ) where
  pub all_done : n < a → all f (count a (n + 1 - a)) ≡ true
  all_done h = ap (λ m. all f (count a m)) e
    where
      e : n + 1 - a ≡ 0
      e = omega arith

  pub all_stop : a ≤ n → f a ≡ false → all f (count a (n + 1 - a)) ≡ false
  all_stop h e = ap (all f) (count_step a n h) ∙ rw (e, all) refl

  pub all_pass : a ≤ n → f a ≡ true → all f (count a (n + 1 - a)) ≡ all f (count (a + 1) (n + 1 - (a + 1)))
  all_pass h e = ap (all f) (count_step a n h) ∙ rw (e, all) refl

pub all_same : (f g : ℕ → Bool) → ((i : ℕ) → f i ≡ g i) → (l : List ℕ) → all f l ≡ all g l
all_same f g h [] = refl
all_same f g h (a ∷ l) = ap₂ (λ t r. elim t as (λ _. Bool) [ true ↦ r | false ↦ false ]) (h a) (all_same f g h l)

module _ (n : ℕ) (c : List Word) where
  pub covered_listed : (d : ℕ) (w : Word) → listed w c ≡ true → covered n c d w ≡ true
  covered_listed zero w e = e
  covered_listed (suc d) w e = rw (e, covered) refl

  -- a block that is not listed is covered by its parts
  parts : (d : ℕ) (w : Word) → listed w c ≡ false → covered n c (suc d) w ≡ all (λ i. covered n c d (child w i)) (digits n)
  parts d w e = rw (e, covered) refl

  pub covered_parts : (d : ℕ) (w : Word) → listed w c ≡ false → (d ≡ 0 → ⊥) → covered n c d w ≡ all (λ i. covered n c (d - 1) (child w i)) (count 1 (n + 1 - 1))
  covered_parts zero w e h = absurd (h refl)
  covered_parts (suc d) w e h =
      let below : d ≡ suc d - 1 = omega arith in
      let ways : n ≡ n + 1 - 1 = omega arith in
      parts d w e ∙ ap₂ (λ m k. all (λ i. covered n c m (child w i)) (count 1 k)) below ways

-- a block is not covered if neither it nor, way by way, a first part is listed
pub uncovered : (m : ℕ) (c : List Word) (P : Word → Type 0) → ((w : Word) → P w → listed w c ≡ false) → ((w : Word) → P w → P (child w 1)) → (d : ℕ) (w : Word) → P w → covered (suc m) c d w ≡ false
uncovered m c P none down zero w h = none w h
uncovered m c P none down (suc d) w h =
    parts (suc m) c d w (none w h) ∙ rw (uncovered m c P none down d (child w 1) (down w h), all) refl

-- a word longer than all of the column is not listed
unlisted : (c : List Word) (w : Word) → longest c < length w → listed w c ≡ false
unlisted [] w h = refl
unlisted (u ∷ c) w h = or_false (same_word w u) (listed w c) other (unlisted c w (omega arith))
  where
    other : same_word w u ≡ false
    other = ⊎_elim (λ t. absurd (omega (arith, ap length (same_word_lem w u (T_of t))))) (λ f. f) (passes (same_word w u))

-- nor is, where a block has a part, the block covered
too_deep : (m : ℕ) (c : List Word) (d : ℕ) (w : Word) → longest c < length w → covered (suc m) c d w ≡ false
too_deep m c d w h =
    uncovered m c (λ v. longest c < length v) (unlisted c) (λ v k. omega (arith, length_child v 1)) d w h

-- two depths that reach past the longest word
pub covered_deep : (m : ℕ) (c : List Word) (d e : ℕ) (w : Word) → longest c ≤ length w + d → longest c ≤ length w + e → covered (suc m) c d w ≡ covered (suc m) c e w
covered_deep m c zero zero w h k = refl
covered_deep m c zero (suc e) w h k = go (passes (listed w c))
  where
    go : (listed w c ≡ true) ⊎ (listed w c ≡ false) → listed w c ≡ covered (suc m) c (suc e) w
    go (inl t) = t ∙ sym (covered_listed (suc m) c (suc e) w t)
    go (inr f) = f ∙ sym (parts (suc m) c e w f ∙ rw (too_deep m c e (child w 1) (omega (arith, length_child w 1)), all) refl)
covered_deep m c (suc d) zero w h k = go (passes (listed w c))
  where
    go : (listed w c ≡ true) ⊎ (listed w c ≡ false) → covered (suc m) c (suc d) w ≡ listed w c
    go (inl t) = covered_listed (suc m) c (suc d) w t ∙ sym t
    go (inr f) = parts (suc m) c d w f ∙ rw (too_deep m c d (child w 1) (omega (arith, length_child w 1)), all) (sym f)
covered_deep m c (suc d) (suc e) w h k =
    ap
    (λ r. elim (listed w c) as (λ _. Bool) [ true ↦ true | false ↦ r ])
    (all_same
    (λ i. covered (suc m) c d (child w i))
    (λ i. covered (suc m) c e (child w i))
    (λ i. covered_deep m c d e (child w i) (omega (arith, length_child w i)) (omega (arith, length_child w i)))
    (digits (suc m)))

-- a gap, looked for as deep as the longest word reaches or deeper
pub gap_deep : (n r : ℕ) (c : List Word) (d : ℕ) → 1 ≤ n → longest c ≤ suc d → gap (shape n r) c ≡ not (all (λ a. covered n c d (a ∷ [])) (digits r))
gap_deep zero r c d h k = absurd (omega arith)
gap_deep (suc m) r c d h k =
    ap not (all_same (λ a. covered (suc m) c (longest c) (a ∷ [])) (λ a. covered (suc m) c d (a ∷ [])) (λ a. covered_deep m c (longest c) d (a ∷ []) (omega arith) (omega arith)) (digits r))

-- the words of a column of 64-bit numbers are within the limit
pub longest_fits : (column : List ℕ) → ((i : ℕ) → get_or column i 0 < 2 ^ 64) → longest (words_of column) ≤ max_digits
longest_fits [] h = omega arith
longest_fits (x ∷ column) h = omega (arith, word_fits x (h 0), longest_fits column (λ i. h (suc i)))
