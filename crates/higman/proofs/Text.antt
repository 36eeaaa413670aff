-- Words as bytes: the digit that a byte stands for, by its range and by cases, and that the bytes of a word spell it.
use Prim.Native.Nat.{ℕ, zero, suc, ◌+◌, ◌-◌, ◌≤◌, ◌<◌}
use mathlib.Core.Path.{◌≡◌, refl, ◌∙◌, ap, ap₂, subst}
use mathlib.Core.Logic.{◌⊎◌, inl, inr}
use mathlib.Core.Bool.{Bool, true, false}
use mathlib.Core.List.{List, [], ◌∷◌}
use native.Mathlib.Omega.{arith}
use lib.Dec.{leb, eqb}
use borrow.Author.Tests.{leb-true, leb-false, le-leb, lt-leb, eqb-true, eqb-false}
use Rattle.higman.specs.Words.{Word}
use Rattle.higman.specs.Text.{Bytes, digit_byte, word_bytes, digit_of, value_by, DigitsByCases, word_of}
use Rattle.higman.proofs.Tests.{passes, Digit, Ways}

-- the digit of a byte: under '1', over '9' and between
module _ (b : ℕ) where
  pub digit_under : b < 49 → digit_of b ≡ 0
  unfolding digit_of
  digit_under h = rw (lt-leb 49 b h, digit_of)

  pub digit_over : 57 < b → digit_of b ≡ 0
  unfolding digit_of
  digit_over h = rw (le-leb 49 b (omega arith), lt-leb b 57 h, digit_of)

  pub digit_within : 49 ≤ b → b ≤ 57 → digit_of b ≡ b - 48
  unfolding digit_of
  digit_within h k = rw (le-leb 49 b h, le-leb b 57 k, digit_of)

-- b is none of the k numbers from c on, as a `match` with a case for each of them leaves it
abbrev pub NoneOf : ℕ → ℕ → ℕ → Type 0
NoneOf b c zero = Unit
NoneOf b c (suc k) = NoneOf b c k × (b ≡ c + k → ⊥)

-- so a number from c on that is none of them is past them
past_none_of : (b c k : ℕ) → NoneOf b c k → c ≤ b → c + k ≤ b
past_none_of b c zero n h = omega arith
past_none_of b c (suc k) n h = omega (arith, past_none_of b c k n.0 h, n.1)

-- a byte that is none of the nine digits
pub digit_of_other : (b : ℕ) → NoneOf b 49 9 → digit_of b ≡ 0
digit_of_other b n = by_range (passes (leb 49 b))
  where
    by_range : (leb 49 b ≡ true) ⊎ (leb 49 b ≡ false) → digit_of b ≡ 0
    by_range (inl h) = digit_over b (past_none_of b 49 9 n (leb-true 49 b h))
    by_range (inr h) = digit_under b (leb-false 49 b h)

-- a value by cases: d where the first is b's own, and otherwise that by the cases behind it
by-first-case
    : (b c d later v : ℕ) → (b ≡ c → v ≡ d) → ((b ≡ c → ⊥) → v ≡ later)
    → v ≡ elim (eqb b c) as (λ _. ℕ) [ true ↦ d | false ↦ later ]
by-first-case b c d later v own others = go (eqb b c) refl
  where
    go : (t : Bool) → eqb b c ≡ t → v ≡ elim t as (λ _. ℕ) [ true ↦ d | false ↦ later ]
    go true e = own (eqb-true b c e)
    go false e = others (eqb-false b c e)

-- the k cases behind the first j
abbrev cases_from : ℕ → ℕ → List (ℕ × ℕ)
cases_from j zero = []
cases_from j (suc k) = (49 + j, 1 + j) ∷ cases_from (suc j) k

-- a byte that is none of the first j has its digit by the cases behind them
by_cases_from : (b j k : ℕ) → j + k ≡ 9 → NoneOf b 49 j → digit_of b ≡ value_by (cases_from j k) b
by_cases_from b j zero h n = let nine : j ≡ 9 = omega arith in digit_of_other b (subst (NoneOf b 49) nine n)
by_cases_from b j (suc k) h n =
    let value : digit_of (49 + j) ≡ 1 + j = omega (arith, digit_within (49 + j) (omega arith) (omega arith)) in
    let later = value_by (cases_from (suc j) k) b in
    by-first-case b (49 + j) (1 + j) later (digit_of b) (λ e. ap digit_of e ∙ value) (λ m. by_cases_from b (suc j) k (omega arith) (n, m))

pub digits_by_cases : DigitsByCases
digits_by_cases b = by_cases_from b 0 9 refl tt

-- a byte stands for at most 9
pub digit_below : (b : ℕ) → digit_of b ≤ 9
digit_below b = by_range (passes (leb 49 b)) (passes (leb b 57))
  where
    by_range : (leb 49 b ≡ true) ⊎ (leb 49 b ≡ false) → (leb b 57 ≡ true) ⊎ (leb b 57 ≡ false) → digit_of b ≤ 9
    by_range (inl h) (inl k) = omega (arith, leb-true b 57 k, digit_within b (leb-true 49 b h) (leb-true b 57 k))
    by_range (inl h) (inr k) = omega (arith, digit_over b (leb-false b 57 k))
    by_range (inr h) k = omega (arith, digit_under b (leb-false 49 b h))

pub digit_of_byte : (d : ℕ) → Digit 9 d → digit_of (digit_byte d) ≡ d
digit_of_byte d h = omega (arith, digit_within (48 + d) (omega arith) (omega arith))

-- the bytes of a word spell it
pub word_of_bytes : (w : Word) → Ways 9 w → word_of (word_bytes w) ≡ w
word_of_bytes [] h = refl
word_of_bytes (d ∷ w) h = ap₂ ◌∷◌ (digit_of_byte d h.0) (word_of_bytes w h.1)

-- a byte that stands for a digit from 1 to 9 is that digit's byte
byte_of_digit : (b : ℕ) → Digit 9 (digit_of b) → digit_byte (digit_of b) ≡ b
byte_of_digit b h = by_range (passes (leb 49 b)) (passes (leb b 57))
  where
    by_range : (leb 49 b ≡ true) ⊎ (leb 49 b ≡ false) → (leb b 57 ≡ true) ⊎ (leb b 57 ≡ false) → digit_byte (digit_of b) ≡ b
    by_range (inl l) (inl k) = omega (arith, leb-true 49 b l, digit_within b (leb-true 49 b l) (leb-true b 57 k))
    by_range (inl l) (inr k) = absurd (omega (arith, digit_over b (leb-false b 57 k)))
    by_range (inr l) k = absurd (omega (arith, digit_under b (leb-false 49 b l)))

pub bytes_of_word : (code : Bytes) → Ways 9 (word_of code) → word_bytes (word_of code) ≡ code
bytes_of_word [] h = refl
bytes_of_word (b ∷ code) h = ap₂ ◌∷◌ (byte_of_digit b h.0) (bytes_of_word code h.1)
