-- Number fields, by the tests that the code makes one after the other, and how large what they spell is.
use Prim.Native.Nat.{ℕ, zero, suc, ◌+◌, ◌*◌, ◌^◌, ◌≤◌, ◌<◌}
use native.Mathlib.Nat.{pow-succ', pow-le-pow_right, one-mul, mul-one, mul_assoc}
use native.Mathlib.Omega.{arith}
use mathlib.Core.Path.{◌≡◌, refl, sym, ◌∙◌, ap, subst}
use mathlib.Core.Logic.{◌⊎◌, inl, inr}
use mathlib.Core.Bool.{Bool, true, false, ◌&&◌, and-false}
use mathlib.Core.List.{[], ◌∷◌}
use mathlib.Core.Option.{Option, none, some, none-ne-some, some-injective}
use lib.Dec.{T, leb, eqb}
use lib.IntN.{ℤ, pos, negsuc, nat_abs}
use lib.ListN.{length, drop}
use borrow.Author.Tests.{le-leb, lt-leb, leb-true}
use Rattle.higman.specs.Bases.{all}
use Rattle.higman.specs.Text.{Bytes, byte, is_numeral, numeral_value, spelled_out, no_leading_zero}
use Rattle.higman.proofs.Tests.{passes, so, T_of, and_left, and_right, all_head, all_tail}
use Rattle.desk.specs.Limits.{max_numeral}
use Rattle.desk.specs.Records.{number_field, signed_field, positive, negative}

module _ (m : ℕ) (f : Bytes) where
  abbrev is_number : Bool
  is_number = all is_numeral f && leb (length f) m && no_leading_zero f

  not_number : is_number ≡ false → number_field m f ≡ none
  not_number e = rw (e, number_field)

  pub number_too_long : m < length f → number_field m f ≡ none
  number_too_long h =
      not_number (ap (λ t. t && no_leading_zero f) (ap (λ t. all is_numeral f && t) (lt-leb (length f) m h) ∙ and-false (all is_numeral f)))

  pub number_leading_zero : no_leading_zero f ≡ false → number_field m f ≡ none
  number_leading_zero e =
      not_number (ap (λ t. all is_numeral f && leb (length f) m && t) e ∙ and-false (all is_numeral f && leb (length f) m))

  pub number_other_byte : all is_numeral f ≡ false → number_field m f ≡ none
  number_other_byte e = not_number (ap (λ t. t && leb (length f) m && no_leading_zero f) e)

  pub number_spelled : length f ≤ m → no_leading_zero f ≡ true → all is_numeral f ≡ true → number_field m f ≡ some (spelled_out 0 f)
  number_spelled h z a = rw (a, le-leb (length f) m h, z, number_field)

-- `MAX_NUMERAL` of the code
numeral_limit : max_numeral ≡ 4
unfolding max_numeral
numeral_limit = refl

-- a digit's value
pub value_below : (b : ℕ) → is_numeral b ≡ true → numeral_value b < 10
value_below b e = omega (arith, leb-true b 57 (so (leb b 57) (and_right (leb 48 b) (leb b 57) (T_of e))))

-- Digits spell a number with no more digits.
spelled_below : (f : Bytes) (n bound : ℕ) → T (all is_numeral f) → n < bound → spelled_out n f < bound * 10 ^ length f
spelled_below [] n bound t h = omega (arith, mul-one bound)
spelled_below (b ∷ f) n bound t h =
    let digit = value_below b (so (is_numeral b) (all_head is_numeral b f t)) in
    let next = spelled_below f (n * 10 + numeral_value b) (bound * 10) (all_tail is_numeral b f t) (omega arith) in
    subst (λ k. spelled_out n (b ∷ f) < k) (mul_assoc bound 10 (10 ^ length f) ∙ ap (λ k. bound * k) (sym (pow-succ' 10 (length f)))) next

pub number_below : (m : ℕ) (f : Bytes) (n : ℕ) → number_field m f ≡ some n → n < 10 ^ m
number_below m f n e = by_test (passes (is_number m f))
  where
    by_test : (is_number m f ≡ true) ⊎ (is_number m f ≡ false) → n < 10 ^ m
    by_test (inl t) =
        let front = and_left (all is_numeral f && leb (length f) m) (no_leading_zero f) (T_of t) in
        let digits = and_left (all is_numeral f) (leb (length f) m) front in
        let short = leb-true (length f) m (so (leb (length f) m) (and_right (all is_numeral f) (leb (length f) m) front)) in
        let value = some-injective (spelled_out 0 f) n (rw (t, number_field) at e) in
        let most : 10 ^ length f ≤ 10 ^ m = pow-le-pow_right (omega arith) short in
        omega (arith, spelled_below f 0 1 digits (omega arith), one-mul (10 ^ length f))
    by_test (inr t) = absurd (none-ne-some n (rw (t, number_field) at e))

pub numeral_below : (f : Bytes) (n : ℕ) → number_field max_numeral f ≡ some n → n < 10_000
numeral_below f n e = subst (λ m. n < 10 ^ m) numeral_limit (number_below max_numeral f n e)

-- "k an optional minus and one to four digits"
pub signed_below : (m : ℕ) (f : Bytes) (k : ℤ) → signed_field m f ≡ some k → nat_abs k < 10 ^ m
signed_below m [] k e = absurd (none-ne-some k e)
signed_below m (b ∷ f) k e = by_sign (passes (eqb b (byte "-")))
  where
    with_minus : (o : Option ℕ) → number_field m f ≡ o → negative o ≡ some k → nat_abs k < 10 ^ m
    with_minus none d p = absurd (none-ne-some k p)
    with_minus (some zero) d p = absurd (none-ne-some k p)
    with_minus (some (suc n)) d p =
        subst (λ i. nat_abs i < 10 ^ m) (some-injective (negsuc n) k p) (number_below m f (suc n) d)

    without : (o : Option ℕ) → number_field m (b ∷ f) ≡ o → positive o ≡ some k → nat_abs k < 10 ^ m
    without none d p = absurd (none-ne-some k p)
    without (some n) d p = subst (λ i. nat_abs i < 10 ^ m) (some-injective (pos n) k p) (number_below m (b ∷ f) n d)

    by_sign : (eqb b (byte "-") ≡ true) ⊎ (eqb b (byte "-") ≡ false) → nat_abs k < 10 ^ m
    by_sign (inl t) = with_minus (number_field m f) refl (rw (t, signed_field) at e)
    by_sign (inr t) = without (number_field m (b ∷ f)) refl (rw (t, signed_field) at e)

-- The loop over the digits: n is what the first i of them spell, and the others are still to be looked at.
pub record Spelling (f : Bytes) (n i : ℕ) : Type 0 where
  pub within : i ≤ length f
  pub numerals_left : all is_numeral f ≡ all is_numeral (drop i f)
  pub value_left : spelled_out 0 f ≡ spelled_out n (drop i f)
  pub small : n < 10 ^ i
