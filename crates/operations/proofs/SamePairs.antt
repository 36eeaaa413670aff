-- Comparing two tables that columns hold, place by place: two numbers hold the same word exactly where they are the same number.
use Prim.Native.Nat.{ℕ, ◌+◌, ◌≤◌, ◌<◌}
use mathlib.Core.Path.{◌≡◌, sym, ◌∙◌, ap, ap₂}
use mathlib.Core.Logic.{◌⊎◌, inl, inr}
use mathlib.Core.Bool.{Bool, true, false, ◌&&◌, and-false}
use mathlib.Core.List.{List}
use native.Mathlib.Omega.{arith}
use lib.ListN.{length, get_or, drop, drop_of_length-le}
use Rattle.higman.specs.Bases.{same_word}
use Rattle.higman.specs.Tables.{same_table}
use Rattle.higman.proofs.Tests.{passes, so, T_of, same_word_lem, same_word_refl}
use Rattle.words.specs.Packed.{unpack}
use Rattle.words.proofs.Packing.{unpack_injective}
use Rattle.columns.specs.Packed.{table}
use Rattle.columns.specs.Columns.{word_at}
use Rattle.tables.proofs.Lookup.{table_left}

same_number : (x y : ℕ) → x ≡ y → same_word (unpack x) (unpack y) ≡ true
same_number x y e = ap (λ z. same_word (unpack x) (unpack z)) (sym e) ∙ so (same_word (unpack x) (unpack x)) (same_word_refl (unpack x))

other_number : (x y : ℕ) → (x ≡ y → ⊥) → same_word (unpack x) (unpack y) ≡ false
other_number x y h = go (passes (same_word (unpack x) (unpack y)))
  where
    go : (same_word (unpack x) (unpack y) ≡ true) ⊎ (same_word (unpack x) (unpack y) ≡ false) → same_word (unpack x) (unpack y) ≡ false
    go (inl e) = absurd (h (unpack_injective x y (same_word_lem (unpack x) (unpack y) (T_of e))))
    go (inr e) = e

-- the pairs from a place on
abbrev pub same_from : List ℕ → List ℕ → List ℕ → List ℕ → ℕ → Bool
same_from af at bf bt i = same_table (table (drop i af) (drop i at)) (table (drop i bf) (drop i bt))

module _ (af at bf bt : List ℕ) (la : length af ≡ length at) (lf : length af ≡ length bf) (lt : length af ≡ length bt) (i : ℕ) where
  pub at_end : length af ≤ i → same_from af at bf bt i ≡ true
  at_end h =
      let k : length bf ≤ i = omega arith in
      ap₂ (λ l m. same_table (table l (drop i at)) (table m (drop i bt))) (drop_of_length-le af h) (drop_of_length-le bf k)

  module _ (h : i < length af) where
    place : same_from af at bf bt i
        ≡ (same_word (word_at af i) (word_at bf i) && same_word (word_at at i) (word_at bt i) && same_from af at bf bt (i + 1))
    place = ap₂ same_table (table_left af at i h (omega arith)) (table_left bf bt i (omega arith) (omega arith))

    pub from_differs : (get_or af i 0 ≡ get_or bf i 0 → ⊥) → same_from af at bf bt i ≡ false
    from_differs d =
        place ∙ ap (λ x. x && same_word (word_at at i) (word_at bt i) && same_from af at bf bt (i + 1)) (other_number (get_or af i 0) (get_or bf i 0) d)

    pub to_differs : (get_or at i 0 ≡ get_or bt i 0 → ⊥) → same_from af at bf bt i ≡ false
    to_differs d =
        place
        ∙ ap (λ x. same_word (word_at af i) (word_at bf i) && x && same_from af at bf bt (i + 1)) (other_number (get_or at i 0) (get_or bt i 0) d)
        ∙ ap (λ x. x && same_from af at bf bt (i + 1)) (and-false (same_word (word_at af i) (word_at bf i)))

    pub same_place : get_or af i 0 ≡ get_or bf i 0 → get_or at i 0 ≡ get_or bt i 0 → same_from af at bf bt i ≡ same_from af at bf bt (i + 1)
    same_place e f =
        place
        ∙ ap₂ (λ x y. x && y && same_from af at bf bt (i + 1)) (same_number (get_or af i 0) (get_or bf i 0) e) (same_number (get_or at i 0) (get_or bt i 0) f)
