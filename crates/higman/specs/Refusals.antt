-- The numbers of the refusals, each named in this one place beside its condition in the words of document 01 or of a change request, and
-- the letters of the two columns. Definitions, promises and code speak of the names. The numbers need not be believed: `NumbersNamed` of
-- Figures.antt has them one by one. Read Answers.antt next.
use Rattle.std.specs.Prelude.{ℕ, ◌≡◌, refl, [], ◌∷◌, map}
use Rattle.higman.specs.Text.{byte}

-- "1, unknown letter, wrong number of fields, a field form, or a line too long"
abbrev pub no_record : ℕ
no_record = 1

-- "2, an M or E with no plan open, or any other record while one is open"
abbrev pub wrong_state : ℕ
wrong_state = 2

-- "3, n or r outside its range"
abbrev pub shape_outside : ℕ
shape_outside = 3

-- "4, a word that is empty, too long or has a wrong digit"; of a routed code too, and of a word that X makes too long
abbrev pub bad_word : ℕ
bad_word = 4

-- "5, a 129th pair"; of the pairs that X makes too
abbrev pub pairs_full : ℕ
pairs_full = 5

-- "6, one word begins or equals another"
abbrev pub words_overlap : ℕ
words_overlap = 6

-- "7, a belt isn't covered"
abbrev pub root_uncovered : ℕ
root_uncovered = 7

-- "8, a slot byte outside A to H"
abbrev pub slot_outside : ℕ
slot_outside = 8

-- "9, a or b empty": a slot that is read holds no plan
abbrev pub slot_empty : ℕ
slot_empty = 9

-- "10, shapes differ"
abbrev pub shapes_differ : ℕ
shapes_differ = 10

-- "11, the reduced result breaks a limit"; of a power: "some reduced power from 1 up to the size of k breaks a limit"
abbrev pub limit_broken : ℕ
limit_broken = 11

-- "12, k outside −1,000 to 1,000"
abbrev pub power_outside : ℕ
power_outside = 12

-- "13, the code is a proper beginning of a from-word"
abbrev pub code_too_short : ℕ
code_too_short = 13

-- "14 last: the lent buffer is shorter than the output"
abbrev pub buffer_too_short : ℕ
buffer_too_short = 14

-- "15 before all these: a plan or desk handed in isn't one as described above"
abbrev pub invalid_value : ℕ
invalid_value = 15

-- "16, the count is at its limit"
abbrev pub count_full : ℕ
count_full = 16

-- "17, a seed outside 1 to 2147483646" (change request E3)
abbrev pub seed_outside : ℕ
seed_outside = 17

-- "18, a digit above 7": a station outside 0 to 7 (change request E5)
abbrev pub station_outside : ℕ
station_outside = 18

-- "19, G from another station or for station 0" (change request E6)
abbrev pub station_refused : ℕ
station_refused = 19

-- "20, a missing right" (change request E6)
abbrev pub right_missing : ℕ
right_missing = 20

-- "those of E for a column add ⇥F or ⇥T (from, to)"
pub data Letter : Type 0 where
  F : Letter
  T : Letter

abbrev pub letter_byte : Letter → ℕ
letter_byte F = byte "F"
letter_byte T = byte "T"

letter_byte_example : map letter_byte (F ∷ T ∷ []) ≡ 70 ∷ 84 ∷ []
letter_byte_example = refl

-- the paper's numbers, in its order
numbers_example : no_record ∷ wrong_state ∷ shape_outside ∷ bad_word ∷ pairs_full ∷ words_overlap ∷ root_uncovered ∷ slot_outside ∷ slot_empty ∷ []
    ≡ 1 ∷ 2 ∷ 3 ∷ 4 ∷ 5 ∷ 6 ∷ 7 ∷ 8 ∷ 9 ∷ []
numbers_example = refl

later_numbers_example : shapes_differ ∷ limit_broken ∷ power_outside ∷ code_too_short ∷ buffer_too_short ∷ invalid_value ∷ count_full ∷ []
    ≡ 10 ∷ 11 ∷ 12 ∷ 13 ∷ 14 ∷ 15 ∷ 16 ∷ []
later_numbers_example = refl

-- those of change requests E3, E5 and E6
requested_numbers_example : seed_outside ∷ station_outside ∷ station_refused ∷ right_missing ∷ [] ≡ 17 ∷ 18 ∷ 19 ∷ 20 ∷ []
requested_numbers_example = refl
