-- One digit behind a word and taken off again, on packed words: child, parent and last digit.
use Prim.Native.Nat.{ℕ, ◌/◌, ◌%◌, ◌<◌}
use mathlib.Core.Path.{◌≡◌, refl, sym, ◌∙◌, ap}
use mathlib.Core.Logic.{◌⊎◌, inl, inr}
use mathlib.Core.List.{[], ◌∷◌}
use native.Mathlib.Nat.{eq-zero-or-pos}
use Rattle.higman.specs.Words.{Word, child}
use Rattle.higman.specs.Normal.{parent}
use Rattle.higman.proofs.Blocks.{parent_child}
use Rattle.words.specs.Packed.{unpack, or_empty, last}
use Rattle.words.proofs.Packing.{unpack_zero, unpack_step}

pub last_child : (w : Word) (i : ℕ) → last (child w i) ≡ i
last_child [] i = refl
last_child (a ∷ []) i = refl
last_child (a ∷ b ∷ w) i = last_child (b ∷ w) i

pub parent_of_child : (w : Word) (i : ℕ) → or_empty (parent (child w i)) ≡ w
parent_of_child [] i = refl
parent_of_child (a ∷ w) i = ap or_empty (parent_child a w i)

pub unpack_parent : (x : ℕ) → unpack (x / 16) ≡ or_empty (parent (unpack x))
unpack_parent x = go (eq-zero-or-pos x)
  where
    go : (x ≡ 0) ⊎ (0 < x) → unpack (x / 16) ≡ or_empty (parent (unpack x))
    go (inl z) = ap (λ y. unpack (y / 16)) z ∙ unpack_zero ∙ sym (ap (λ y. or_empty (parent (unpack y))) z ∙ ap (λ w. or_empty (parent w)) unpack_zero)
    go (inr p) = sym (ap (λ w. or_empty (parent w)) (unpack_step x p) ∙ parent_of_child (unpack (x / 16)) (x % 16))

pub unpack_last : (x : ℕ) → x % 16 ≡ last (unpack x)
unpack_last x = go (eq-zero-or-pos x)
  where
    go : (x ≡ 0) ⊎ (0 < x) → x % 16 ≡ last (unpack x)
    go (inl z) = ap (λ y. y % 16) z ∙ sym (ap (λ y. last (unpack y)) z ∙ ap last unpack_zero)
    go (inr p) = sym (ap last (unpack_step x p) ∙ last_child (unpack (x / 16)) (x % 16))
