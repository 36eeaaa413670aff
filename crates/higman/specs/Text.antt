-- Text as bytes: the letters and lines of document 01 written as they are read, and words as the digits that spell them, with the statement
-- that reads a digit's byte by cases. Every text here is plain ASCII, where a character's code is its byte. To be believed is only that;
-- theorems fix the rest: `PlanLimitsExact` the signs, `DecimalsExact` numbers in decimal, `DigitsByCases` and `ListingFaithful` the digits
-- of words. Read Bases.antt next.
use Rattle.std.specs.Prelude.{ℕ, suc, ◌+◌, ◌*◌, ◌-◌, ◌≡◌, refl, Bool, true, false, ◌&&◌, List, [], ◌∷◌, ◌++◌, map, leb, eqb}
use Prim.Native.Char.{Char, code}
use Prim.Native.String.{String, [] as empty, ◌∷◌ as ◌before◌}
use Rattle.higman.specs.Words.{Word, spelled, spell}

abbrev pub Bytes : Type 0
Bytes = List ℕ

abbrev pub byte : Char → ℕ
byte c = code c

abbrev pub bytes : String → Bytes
bytes empty = []
bytes (c before s) = code c ∷ bytes s

-- "fields parted by tabs, lines ended by byte 10"
abbrev pub tab : ℕ
tab = 9

abbrev pub line_end : ℕ
line_end = 10

-- lines, each ended by byte 10
abbrev pub lines : List String → Bytes
lines [] = []
lines (l ∷ ls) = bytes l ++ line_end ∷ lines ls

-- the byte of a digit: '0' is 48
abbrev pub digit_byte : ℕ → ℕ
digit_byte d = 48 + d

abbrev pub word_bytes : Word → Bytes
word_bytes w = map digit_byte w

-- a number in decimal, 0 as one digit
abbrev pub decimal : ℕ → Bytes
decimal k = word_bytes (spelled (suc k) k)

-- a byte from '0' to '9', and its value
abbrev pub is_numeral : ℕ → Bool
is_numeral b = leb (byte "0") b && leb b (byte "9")

abbrev pub numeral_value : ℕ → ℕ
numeral_value b = b - byte "0"

-- the number that digits spell, behind the number that stands before them
abbrev pub spelled_out : ℕ → Bytes → ℕ
spelled_out n [] = n
spelled_out n (b ∷ l) = spelled_out (n * 10 + numeral_value b) l

-- "no leading zero": a number of several digits does not begin with 0
abbrev pub no_leading_zero : Bytes → Bool
no_leading_zero [] = false
no_leading_zero (b ∷ []) = true
no_leading_zero (b ∷ c ∷ l) = leb (byte "1") b

-- "A code is a string of digits", 1 to 9: 0, which is no digit, for any byte but '1' to '9'.
unfoldable pub digit_of : ℕ → ℕ
digit_of b = elim (leb 49 b && leb b 57) [ true ↦ b - 48 | false ↦ 0 ]

-- the byte at a column and row of the ISO 646 table: 3/1 is '1'
abbrev pub iso646 : ℕ → ℕ → ℕ
iso646 column row = column * 16 + row

-- The digits of a code "as nine cases, each readable beside its row of the table" (E4): bytes and their values.
abbrev pub digit_cases : List (ℕ × ℕ)
digit_cases =
    (iso646 3 1, 1)
    ∷ (iso646 3 2, 2)
    ∷ (iso646 3 3, 3)
    ∷ (iso646 3 4, 4)
    ∷ (iso646 3 5, 5)
    ∷ (iso646 3 6, 6)
    ∷ (iso646 3 7, 7)
    ∷ (iso646 3 8, 8)
    ∷ (iso646 3 9, 9)
    ∷ []

-- the value of a byte by such cases, and 0 in the remaining one
abbrev pub value_by : List (ℕ × ℕ) → ℕ → ℕ
value_by [] b = 0
value_by ((c, value) ∷ cases) b = elim (eqb b c) [ true ↦ value | false ↦ value_by cases b ]

-- the range and the cases agree on every number, and so on all 256 bytes
abbrev pub DigitsByCases : Type 0
DigitsByCases = (b : ℕ) → digit_of b ≡ value_by digit_cases b

-- the word that bytes spell
abbrev pub word_of : Bytes → Word
word_of code = map digit_of code

bytes_example : bytes "P\t1\n" ≡ 80 ∷ 9 ∷ 49 ∷ 10 ∷ []
bytes_example = refl

lines_example : lines ("ok" ∷ "no\t1" ∷ []) ≡ bytes "ok\nno\t1\n"
lines_example = refl

word_bytes_example : word_bytes (spell 1122) ≡ bytes "1122"
word_bytes_example = refl

decimal_example : map decimal (0 ∷ 10 ∷ 4_000_000_000 ∷ []) ≡ bytes "0" ∷ bytes "10" ∷ bytes "4000000000" ∷ []
decimal_example = refl

spelled_out_example : map (spelled_out 0) (bytes "0" ∷ bytes "1000" ∷ []) ≡ 0 ∷ 1000 ∷ []
spelled_out_example = refl

no_leading_zero_example : map no_leading_zero (bytes "0" ∷ bytes "10" ∷ bytes "01" ∷ bytes "" ∷ []) ≡ true ∷ true ∷ false ∷ false ∷ []
no_leading_zero_example = refl

digit_cases_example : map (value_by digit_cases) (bytes "/0123456789:") ≡ 0 ∷ 0 ∷ 1 ∷ 2 ∷ 3 ∷ 4 ∷ 5 ∷ 6 ∷ 7 ∷ 8 ∷ 9 ∷ 0 ∷ []
digit_cases_example = refl

-- bytes that are no digits from 1 to 9 give 0, a digit of no word
word_of_example : word_of (bytes "1290/:A\t") ≡ 1 ∷ 2 ∷ 9 ∷ 0 ∷ 0 ∷ 0 ∷ 0 ∷ 0 ∷ []
unfolding digit_of
word_of_example = refl
