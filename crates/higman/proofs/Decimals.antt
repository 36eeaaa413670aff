-- Numbers as digits: a number's decimal digits are numerals with no zero in front, they spell it, and no other such digits do.
use Prim.Native.Nat.{ℕ, zero, suc, ◌+◌, ◌*◌, ◌/◌, ◌%◌, ◌≤◌, ◌<◌}
use native.Mathlib.Omega.{arith}
use mathlib.Core.Path.{◌≡◌, refl, sym, ◌∙◌, ap, subst}
use mathlib.Core.Logic.{◌⊎◌, inl, inr}
use mathlib.Core.Bool.{true, false}
use mathlib.Core.List.{[], ◌∷◌, ◌++◌, map-append, append-nil, append_assoc}
use lib.Dec.{T, leb, leb→le, le→leb}
use borrow.Author.Tests.{leb-true, leb-false}
use Rattle.higman.specs.Words.{spelled}
use Rattle.higman.specs.Bases.{all}
use Rattle.higman.specs.Text.{Bytes, byte, digit_byte, word_bytes, is_numeral, numeral_value, spelled_out, no_leading_zero, decimal}
use Rattle.higman.specs.Theorems.{DecimalsExact}
use Rattle.higman.proofs.Tests.{passes, and_left, and_right, and_intro, all_head, all_tail, all_cons, all_snoc}

-- A number is a digit, or a number over 0 and a digit behind it.
module _ (P : ℕ → Type 0)
    (digit : (d : ℕ) → d < 10 → P d)
    (behind : (q d : ℕ) → 0 < q → d < 10 → P q → P (q * 10 + d)) where
  holds_below : (n k : ℕ) → k < n → P k
  holds_below zero k h = absurd (omega arith)
  holds_below (suc n) k h = by_size (passes (leb 10 k)) (λ q l. holds_below n q l)
    where
      by_size : (leb 10 k ≡ true) ⊎ (leb 10 k ≡ false) → ((q : ℕ) → q < n → P q) → P k
      by_size (inl e) before =
          let several = leb-true 10 k e in
          let whole : k / 10 * 10 + k % 10 ≡ k = omega arith in
          subst P whole (behind (k / 10) (k % 10) (omega arith) (omega arith) (before (k / 10) (omega arith)))
      by_size (inr e) before = digit k (leb-false 10 k e)

  digit_by_digit : (k : ℕ) → P k
  digit_by_digit k = holds_below (suc k) k (omega arith)

-- the digits by the last of them
spelled_digit : (c d : ℕ) → d < 10 → spelled (suc c) d ≡ d ∷ []
spelled_digit c d h =
    let none_before : d / 10 ≡ 0 = omega arith in
    let last : d % 10 ≡ d = omega arith in
    rw (none_before, spelled, last)

spelled_behind : (c q d : ℕ) → 0 < q → d < 10 → spelled (suc c) (q * 10 + d) ≡ spelled c q ++ (d ∷ [])
spelled_behind c zero d p h = absurd (omega arith)
spelled_behind c (suc q) d p h =
    let before : (suc q * 10 + d) / 10 ≡ suc q = omega arith in
    let last : (suc q * 10 + d) % 10 ≡ d = omega arith in
    rw (before, spelled, last)

-- with a bound over the number the digits do not depend on the bound
abbrev Enough : ℕ → Type 0
Enough k = (c : ℕ) → k < c → spelled c k ≡ spelled (suc k) k

spelled_enough : (k : ℕ) → Enough k
spelled_enough = digit_by_digit Enough of_digit of_behind
  where
    of_digit : (d : ℕ) → d < 10 → Enough d
    of_digit d h zero l = absurd (omega arith)
    of_digit d h (suc c) l = spelled_digit c d h ∙ sym (spelled_digit d d h)

    of_behind : (q d : ℕ) → 0 < q → d < 10 → Enough q → Enough (q * 10 + d)
    of_behind q d p h e zero l = absurd (omega arith)
    of_behind q d p h e (suc c) l =
        let k = q * 10 + d in
        spelled_behind c q d p h
        ∙ ap (λ w. w ++ (d ∷ [])) (e c (omega arith) ∙ sym (e k (omega arith)))
        ∙ sym (spelled_behind k q d p h)

pub decimal_digit : (d : ℕ) → d < 10 → decimal d ≡ digit_byte d ∷ []
decimal_digit d h = ap word_bytes (spelled_digit d d h)

decimal_behind : (q d : ℕ) → 0 < q → d < 10 → decimal (q * 10 + d) ≡ decimal q ++ (digit_byte d ∷ [])
decimal_behind q d p h =
    let k = q * 10 + d in
    ap word_bytes (spelled_behind k q d p h ∙ ap (λ w. w ++ (d ∷ [])) (spelled_enough q k (omega arith)))
    ∙ map-append digit_byte (spelled (suc q) q) (d ∷ [])

pub decimal_split : (k : ℕ) → 10 ≤ k → decimal k ≡ decimal (k / 10) ++ (digit_byte (k % 10) ∷ [])
decimal_split k h =
    let whole : k ≡ k / 10 * 10 + k % 10 = omega arith in
    ap decimal whole ∙ decimal_behind (k / 10) (k % 10) (omega arith) (omega arith)

-- digits as bytes
numeral_of_digit : (d : ℕ) → d < 10 → T (is_numeral (digit_byte d))
numeral_of_digit d h =
    let b = digit_byte d in
    let low = le→leb (byte "0") b (omega arith) in
    let high = le→leb b (byte "9") (omega arith) in
    and_intro (leb (byte "0") b) (leb b (byte "9")) low high

pub numeral_low : (b : ℕ) → T (is_numeral b) → byte "0" ≤ b
numeral_low b t = leb→le (byte "0") b (and_left (leb (byte "0") b) (leb b (byte "9")) t)

numeral_high : (b : ℕ) → T (is_numeral b) → b ≤ byte "9"
numeral_high b t = leb→le b (byte "9") (and_right (leb (byte "0") b) (leb b (byte "9")) t)

digit_of_numeral : (b : ℕ) → T (is_numeral b) → numeral_value b < 10
digit_of_numeral b t = omega (arith, numeral_low b t, numeral_high b t)

byte_of_numeral : (b : ℕ) → T (is_numeral b) → digit_byte (numeral_value b) ≡ b
byte_of_numeral b t = omega (arith, numeral_low b t)

spelled_out_snoc : (n : ℕ) (x : Bytes) (b : ℕ) → spelled_out n (x ++ (b ∷ [])) ≡ spelled_out n x * 10 + numeral_value b
spelled_out_snoc n [] b = refl
spelled_out_snoc n (c ∷ x) b = spelled_out_snoc (n * 10 + numeral_value c) x b

no_leading_zero_snoc : (x : Bytes) (b : ℕ) → T (no_leading_zero x) → 0 < spelled_out 0 x → T (no_leading_zero (x ++ (b ∷ [])))
no_leading_zero_snoc [] b h k = absurd h
no_leading_zero_snoc (a ∷ []) b h k = omega (arith, le→leb)
no_leading_zero_snoc (a ∷ c ∷ x) b h k = h

pub decimal_numerals : (k : ℕ) → T (all is_numeral (decimal k))
decimal_numerals = digit_by_digit (λ k. T (all is_numeral (decimal k))) of_digit of_behind
  where
    of_digit : (d : ℕ) → d < 10 → T (all is_numeral (decimal d))
    of_digit d h = rw decimal_digit (all_cons is_numeral (digit_byte d) [] (numeral_of_digit d h) tt)

    of_behind : (q d : ℕ) → 0 < q → d < 10 → T (all is_numeral (decimal q)) → T (all is_numeral (decimal (q * 10 + d)))
    of_behind q d p h t = rw decimal_behind (all_snoc is_numeral (decimal q) (digit_byte d) t (numeral_of_digit d h))

pub decimal_read_back : (k : ℕ) → spelled_out 0 (decimal k) ≡ k
decimal_read_back = digit_by_digit (λ k. spelled_out 0 (decimal k) ≡ k) of_digit of_behind
  where
    of_digit : (d : ℕ) → d < 10 → spelled_out 0 (decimal d) ≡ d
    of_digit d h = rw decimal_digit (omega arith)

    of_behind : (q d : ℕ) → 0 < q → d < 10 → spelled_out 0 (decimal q) ≡ q → spelled_out 0 (decimal (q * 10 + d)) ≡ q * 10 + d
    of_behind q d p h e = rw (decimal_behind, spelled_out_snoc, e) (omega arith)

pub decimal_no_leading_zero : (k : ℕ) → T (no_leading_zero (decimal k))
decimal_no_leading_zero = digit_by_digit (λ k. T (no_leading_zero (decimal k))) of_digit of_behind
  where
    of_digit : (d : ℕ) → d < 10 → T (no_leading_zero (decimal d))
    of_digit d h = rw decimal_digit tt

    of_behind : (q d : ℕ) → 0 < q → d < 10 → T (no_leading_zero (decimal q)) → T (no_leading_zero (decimal (q * 10 + d)))
    of_behind q d p h t = rw decimal_behind (no_leading_zero_snoc (decimal q) (digit_byte d) t (rw decimal_read_back p))

-- digits behind a number over 0 are the last digits of what they spell with it
decimal_of_spelled_out : (n : ℕ) (x : Bytes) → 0 < n → T (all is_numeral x) → decimal (spelled_out n x) ≡ decimal n ++ x
decimal_of_spelled_out n [] p h = sym (append-nil (decimal n))
decimal_of_spelled_out n (b ∷ x) p h =
    let v = numeral_value b in
    let t = all_head is_numeral b x h in
    decimal_of_spelled_out (n * 10 + v) x (omega arith) (all_tail is_numeral b x h)
    ∙ ap (λ y. y ++ x) (decimal_behind n v p (digit_of_numeral b t) ∙ ap (λ c. decimal n ++ (c ∷ [])) (byte_of_numeral b t))
    ∙ append_assoc (decimal n) (b ∷ []) x

decimal_of_numeral : (b : ℕ) → T (is_numeral b) → decimal (spelled_out 0 (b ∷ [])) ≡ b ∷ []
decimal_of_numeral b t =
    let value : spelled_out 0 (b ∷ []) ≡ numeral_value b = omega arith in
    ap decimal value ∙ decimal_digit (numeral_value b) (digit_of_numeral b t) ∙ ap (λ c. c ∷ []) (byte_of_numeral b t)

-- digits with no zero in front are those of the number that they spell
pub decimal_unique : (x : Bytes) → T (all is_numeral x) → T (no_leading_zero x) → decimal (spelled_out 0 x) ≡ x
decimal_unique [] h z = absurd z
decimal_unique (b ∷ []) h z = decimal_of_numeral b (all_head is_numeral b [] h)
decimal_unique (b ∷ c ∷ x) h z =
    let over_0 : 0 < spelled_out 0 (b ∷ []) = omega (arith, leb→le) in
    decimal_of_spelled_out (spelled_out 0 (b ∷ [])) (c ∷ x) over_0 (all_tail is_numeral b (c ∷ x) h)
    ∙ ap (λ f. f ++ c ∷ x) (decimal_of_numeral b (all_head is_numeral b (c ∷ x) h))

pub decimals_exact : DecimalsExact
decimals_exact =
    record {
      numerals = decimal_numerals;
      no_leading_zero_fact = decimal_no_leading_zero;
      read_back = decimal_read_back;
      one_digit = decimal_digit;
      several_digits = decimal_split;
    }
