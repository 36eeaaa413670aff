-- The forms of numbers in specs/Records.antt read exactly the decimal digits of numbers that are short enough.
use Prim.Native.Nat.{ℕ, zero, suc, ◌+◌, ◌/◌, ◌%◌, ◌^◌, ◌≤◌, ◌<◌}
use native.Mathlib.Nat.{pow-suc}
use native.Mathlib.Omega.{arith}
use mathlib.Core.Path.{◌≡◌, refl, sym, ◌∙◌, ap, subst}
use mathlib.Core.Logic.{◌⊎◌, inl, inr, ◌↔◌}
use mathlib.Core.Bool.{Bool, true, false, ◌&&◌}
use mathlib.Core.List.{[], ◌∷◌}
use mathlib.Core.Option.{Option, none, some, none-ne-some, some-injective}
use lib.Dec.{T, leb, eqb, leb→le, le→leb}
use lib.IntN.{ℤ, pos, negsuc, nat_abs}
use lib.ListN.{length, length-append}
use borrow.Author.Tests.{leb-true, leb-false, eqb-true, ne_eqb}
use Rattle.higman.specs.Bases.{all}
use Rattle.higman.specs.Text.{Bytes, byte, digit_byte, decimal, is_numeral, spelled_out, no_leading_zero}
use Rattle.higman.proofs.Tests.{passes, so, T_of, and_left, and_right, and_intro, all_head}
use Rattle.higman.proofs.Decimals.{decimal_digit, decimal_split, numeral_low, decimal_numerals, decimal_read_back}
use Rattle.higman.proofs.Decimals.{decimal_no_leading_zero, decimal_unique}
use Rattle.desk.specs.Records.{Form, number_field, signed_field, positive, negative, signed_decimal, has_digits}

-- so many digits, below so many tens
some_digit : (k : ℕ) → 1 ≤ length (decimal k)
some_digit k = by_digits (decimal k) (decimal_no_leading_zero k)
  where
    by_digits : (x : Bytes) → T (no_leading_zero x) → 1 ≤ length x
    by_digits [] h = absurd h
    by_digits (b ∷ x) h = omega arith

ten_power : (d : ℕ) → 1 ≤ 10 ^ d
ten_power zero = omega arith
ten_power (suc d) = omega (arith, pow-suc 10 d, ten_power d)

length_split : (k : ℕ) → 10 ≤ k → length (decimal k) ≡ length (decimal (k / 10)) + 1
length_split k h = ap length (decimal_split k h) ∙ length-append (decimal (k / 10)) (digit_byte (k % 10) ∷ [])

below_of_length : (d k : ℕ) → length (decimal k) ≤ suc d → k < 10 ^ suc d
below_of_length zero k h = by_size (passes (leb 10 k))
  where
    by_size : (leb 10 k ≡ true) ⊎ (leb 10 k ≡ false) → k < 10 ^ 1
    by_size (inl e) = absurd (omega (arith, length_split k (leb-true 10 k e), some_digit (k / 10)))
    by_size (inr e) = leb-false 10 k e
below_of_length (suc d) k h = by_size (passes (leb 10 k)) (below_of_length d (k / 10))
  where
    by_size : (leb 10 k ≡ true) ⊎ (leb 10 k ≡ false) → (length (decimal (k / 10)) ≤ suc d → k / 10 < 10 ^ suc d) → k < 10 ^ suc (suc d)
    by_size (inl e) front =
        let less = front (omega (arith, length_split k (leb-true 10 k e))) in
        omega (arith, less, pow-suc 10 (suc d))
    by_size (inr e) front = omega (arith, leb-false 10 k e, pow-suc 10 (suc d), pow-suc 10 d, ten_power d)

length_of_below : (d k : ℕ) → k < 10 ^ suc d → length (decimal k) ≤ suc d
length_of_below zero k h = omega (arith, ap length (decimal_digit k (omega arith)))
length_of_below (suc d) k h = by_size (passes (leb 10 k)) (length_of_below d (k / 10))
  where
    by_size : (leb 10 k ≡ true) ⊎ (leb 10 k ≡ false) → (k / 10 < 10 ^ suc d → length (decimal (k / 10)) ≤ suc d)
        → length (decimal k) ≤ suc (suc d)
    by_size (inl e) front =
        let less : k / 10 < 10 ^ suc d = omega (arith, pow-suc 10 (suc d)) in
        omega (arith, length_split k (leb-true 10 k e), front less)
    by_size (inr e) front = omega (arith, ap length (decimal_digit k (leb-false 10 k e)))

pub digits_below : (d k : ℕ) → T (has_digits (suc d) k) ↔ (k < 10 ^ suc d)
digits_below d k = (
  λ h. below_of_length d k (leb→le (length (decimal k)) (suc d) h),
  λ h. le→leb (length (decimal k)) (suc d) (length_of_below d k h),
)

-- A field form is exact for a way to write values: it reads every value that fits, and what it reads is a value that fits, written.
pub record Written {A : Type 0} (written : A → Bytes) (fits : A → Bool) (f : Bytes) (a : A) : Type 0 where
  pub own_text : f ≡ written a
  pub fit : T (fits a)

pub record ExactForm {A : Type 0} (form : Form A) (written : A → Bytes) (fits : A → Bool) : Type 0 where
  pub reads : (a : A) → T (fits a) → form (written a) ≡ some a
  pub only : (f : Bytes) (a : A) → form f ≡ some a → Written written fits f a

module _ (m : ℕ) where
  abbrev is_number : Bytes → Bool
  is_number f = all is_numeral f && leb (length f) m && no_leading_zero f

  record IsNumber (f : Bytes) : Type 0 where
    numerals : T (all is_numeral f)
    short : T (leb (length f) m)
    no_leading_zero_fact : T (no_leading_zero f)

  test_of_number : (f : Bytes) → IsNumber f → T (is_number f)
  test_of_number f t =
      let front = and_intro (all is_numeral f) (leb (length f) m) t.numerals t.short in
      and_intro (all is_numeral f && leb (length f) m) (no_leading_zero f) front t.no_leading_zero_fact

  number_of_test : (f : Bytes) → T (is_number f) → IsNumber f
  number_of_test f t =
      let front = and_left (all is_numeral f && leb (length f) m) (no_leading_zero f) t in
      record {
        numerals = and_left (all is_numeral f) (leb (length f) m) front;
        short = and_right (all is_numeral f) (leb (length f) m) front;
        no_leading_zero_fact = and_right (all is_numeral f && leb (length f) m) (no_leading_zero f) t;
      }

  decimal_is_number : (n : ℕ) → T (has_digits m n) → IsNumber (decimal n)
  decimal_is_number n h = record { numerals = decimal_numerals n; short = h; no_leading_zero_fact = decimal_no_leading_zero n }

  number_read : (n : ℕ) → T (has_digits m n) → number_field m (decimal n) ≡ some n
  number_read n h =
      rw (so (is_number (decimal n)) (test_of_number (decimal n) (decimal_is_number n h)), number_field) (ap some (decimal_read_back n))

  number_own_text : (f : Bytes) → IsNumber f → Written decimal (has_digits m) f (spelled_out 0 f)
  number_own_text f t =
      let own = sym (decimal_unique f t.numerals t.no_leading_zero_fact) in
      record { own_text = own; fit = subst (λ x. T (leb (length x) m)) own t.short }

  number_only : (f : Bytes) (n : ℕ) → number_field m f ≡ some n → Written decimal (has_digits m) f n
  number_only f n e = by_test (passes (is_number f))
    where
      by_test : (is_number f ≡ true) ⊎ (is_number f ≡ false) → Written decimal (has_digits m) f n
      by_test (inl t) =
          let spelt = some-injective (spelled_out 0 f) n (rw (t, number_field) at e) in
          subst (Written decimal (has_digits m) f) spelt (number_own_text f (number_of_test f (T_of t)))
      by_test (inr t) = absurd (none-ne-some n (rw (t, number_field) at e))

  pub number_exact : ExactForm (number_field m) decimal (has_digits m)
  number_exact = record { reads = number_read; only = number_only }

  -- digits have no minus in front
  signed_of_numerals : (f : Bytes) → T (all is_numeral f) → T (no_leading_zero f) → signed_field m f ≡ positive (number_field m f)
  signed_of_numerals [] h z = absurd z
  signed_of_numerals (b ∷ f) h z = rw (ne_eqb b (byte "-") no_minus, signed_field)
    where
      no_minus : b ≡ byte "-" → ⊥
      no_minus e = omega (arith, numeral_low b (all_head is_numeral b f h))

  signed_read : (k : ℤ) → T (has_digits m (nat_abs k)) → signed_field m (signed_decimal k) ≡ some k
  signed_read (pos k) h =
      signed_of_numerals (decimal k) (decimal_numerals k) (decimal_no_leading_zero k) ∙ ap positive (number_read k h)
  signed_read (negsuc k) h = ap negative (number_read (suc k) h)

  abbrev WrittenSigned : Bytes → ℤ → Type 0
  WrittenSigned f k = Written signed_decimal (λ i. has_digits m (nat_abs i)) f k

  positive_only : (f : Bytes) (o : Option ℕ) (k : ℤ) → number_field m f ≡ o → positive o ≡ some k → WrittenSigned f k
  positive_only f none k e p = absurd (none-ne-some k p)
  positive_only f (some n) k e p =
      let digits = number_only f n e in
      subst (WrittenSigned f) (some-injective (pos n) k p) (record { own_text = digits.own_text; fit = digits.fit })

  negative_only : (f : Bytes) (o : Option ℕ) (k : ℤ) → number_field m f ≡ o → negative o ≡ some k → WrittenSigned (byte "-" ∷ f) k
  negative_only f none k e p = absurd (none-ne-some k p)
  negative_only f (some zero) k e p = absurd (none-ne-some k p)
  negative_only f (some (suc n)) k e p =
      let digits = number_only f (suc n) e in
      let own = ap (λ x. byte "-" ∷ x) digits.own_text in
      subst (WrittenSigned (byte "-" ∷ f)) (some-injective (negsuc n) k p) (record { own_text = own; fit = digits.fit })

  signed_only : (f : Bytes) (k : ℤ) → signed_field m f ≡ some k → WrittenSigned f k
  signed_only [] k e = absurd (none-ne-some k e)
  signed_only (b ∷ f) k e = by_sign (passes (eqb b (byte "-")))
    where
      by_sign : (eqb b (byte "-") ≡ true) ⊎ (eqb b (byte "-") ≡ false) → WrittenSigned (b ∷ f) k
      by_sign (inl t) =
          let behind = negative_only f (number_field m f) k refl (rw (t, signed_field) at e) in
          subst (λ c. WrittenSigned (c ∷ f) k) (sym (eqb-true b (byte "-") t)) behind
      by_sign (inr t) = positive_only (b ∷ f) (number_field m (b ∷ f)) k refl (rw (t, signed_field) at e)

  pub signed_exact : ExactForm (signed_field m) signed_decimal (λ k. has_digits m (nat_abs k))
  signed_exact = record { reads = signed_read; only = signed_only }
