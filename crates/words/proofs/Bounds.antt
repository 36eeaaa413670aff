-- The bounds of a packing: a word of k digits of four bits packs below 16 ^ k, and one of digits that are not 0 to at least
-- 16 ^ (k - 1).
use Prim.Native.Nat.{ℕ, ◌+◌, ◌*◌, ◌/◌, ◌%◌, ◌^◌, ◌≤◌, ◌<◌}
use mathlib.Core.Path.{◌≡◌, sym, ◌∙◌, ap, subst}
use mathlib.Core.Logic.{◌⊎◌, inl, inr}
use mathlib.Core.List.{[], ◌∷◌}
use native.Mathlib.Omega.{arith}
use native.Mathlib.Nat.{eq-zero-or-pos, pow-succ'}
use lib.Arith.{digits_lt}
use lib.Dec.{lit<}
use lib.ListN.{length}
use Rattle.higman.specs.Words.{Word, child}
use Rattle.higman.proofs.Tests.{Ways}
use Rattle.words.specs.Packed.{pack_on, pack, unpack}
use Rattle.words.proofs.Packing.{unpack_zero, unpack_step, digit_induction, pack_empty, unpack_pack}
use Rattle.words.proofs.Sizes.{unpack_least, pack_on_split}

-- digits of four bits, 0 among them
abbrev pub Nibbles : Word → Type 0
Nibbles [] = Unit {0}
Nibbles (a ∷ w) = (a < 16) × Nibbles w

nibbles_child : (w : Word) (i : ℕ) → Nibbles w → i < 16 → Nibbles (child w i)
nibbles_child [] i h k = (k, tt)
nibbles_child (a ∷ w) i h k = (h.0, nibbles_child w i h.1 k)

pub unpack_nibbles : (x : ℕ) → Nibbles (unpack x)
unpack_nibbles =
    digit_induction
    (λ x. Nibbles (unpack x))
    (subst Nibbles (sym unpack_zero) tt)
    (λ x h n. subst Nibbles (sym (unpack_step x h)) (nibbles_child (unpack (x / 16)) (x % 16) n (omega arith)))

pub pack_cons : (a : ℕ) (w : Word) → pack (a ∷ w) ≡ a * 16 ^ length w + pack w
unfolding pack pack_on
pack_cons a w = ap (λ n. pack_on n w) (omega arith) ∙ pack_on_split a w

pub pack_below : (w : Word) → Nibbles w → pack w < 16 ^ length w
pack_below [] h = subst (λ n. n < 1) (sym pack_empty) (lit< tt)
pack_below (a ∷ w) h = rw (pack_cons a w) (subst (λ p. a * 16 ^ length w + pack w < p) (sym (pow-succ' 16 (length w))) (digits_lt h.0 (pack_below w h.1)))

pub nibbles_of_ways : (w : Word) → Ways 15 w → Nibbles w
nibbles_of_ways [] h = tt
nibbles_of_ways (a ∷ w) h = (omega arith, nibbles_of_ways w h.1)

-- a word of digits that are not 0 is at least 16 ^ (k - 1), for its k digits
pub pack_least : (w : Word) → Ways 15 w → 0 < length w → 16 ^ length w ≤ 16 * pack w
pack_least w h l = go (eq-zero-or-pos (pack w))
  where
    back : unpack (pack w) ≡ w
    back = unpack_pack w h

    go : (pack w ≡ 0) ⊎ (0 < pack w) → 16 ^ length w ≤ 16 * pack w
    go (inl z) = absurd (omega (arith, ap length (sym back ∙ ap unpack z ∙ unpack_zero)))
    go (inr p) = subst (λ u. 16 ^ length u ≤ 16 * pack w) back (unpack_least (pack w) p)
