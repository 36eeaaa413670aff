-- The statements. proofs/ has one term of each: ColumnIsBasis and BasisSize (what it rests on that plans are
-- accepted exactly when both columns are bases), NormalForm, GroupActs, ResultsReduced, MinimalExpansion, AnswersExact, Demand3, ListingFaithful,
-- SlotsExact and DecimalsExact. They hold for every arity of at least 1 and every number of roots. Read Figures.antt next.
use Rattle.std.specs.Prelude.{ℕ, suc, ◌+◌, ◌*◌, ◌-◌, ◌/◌, ◌%◌, ◌≤◌, ◌<◌, ◌≡◌, ◌↔◌, true, false, T, leb, length, ℤ, pos, negsuc, nat_abs, ◌+ℤ◌, ◌*ℤ◌}
use mathlib.Core.List.{List, [], ◌∷◌, ◌++◌, Memᴰ}
use Rattle.std.proofs.Math.Option.{some}
use Rattle.higman.specs.Words.{Shape, Word, is_ways, is_word, child}
use Rattle.higman.specs.Text.{Bytes, digit_byte, word_bytes, is_numeral, spelled_out, no_leading_zero, decimal, word_of}
use Rattle.higman.specs.Bases.{Basis, Column, all}
use Rattle.higman.specs.Tables.{Pair, Table, froms, tos, image, long_enough}
use Rattle.higman.specs.Normal.{keep, and_then, times, compose, inverse, identity, repeated, power, Reduced, ordered, Joins}
use Rattle.higman.specs.Limits.{Plan, Bases, Kept, shape_in_range, granted, is_code, max_power, slot_count, power_in_range}
use Rattle.higman.specs.Answers.{verdict, Accepted, is_kept, Granted, Refused, LimitBroken, followed, inverted, powered, repeatable}
use Rattle.higman.specs.Answers.{identity_plan, same, Alike, routed, TooShort}
use Rattle.higman.specs.Listing.{slot_number, slot_byte, is_slot, pair_records, join_lines, listing}

-- A column is a basis exactly when its words are words of the shape, none begins or equals another and every belt is covered.
abbrev pub ColumnIsBasis : Type 0
ColumnIsBasis = (s : Shape) → 1 ≤ s.arity → (c : List Word) → Basis s c ↔ Column s c

-- "Every d-fold expansion of Y has |Y| + (n−1)d elements."
abbrev pub BasisSize : Type 0
BasisSize = (s : Shape) → 1 ≤ s.arity → (c : List Word) (b : Basis s c) → length c ≡ s.roots + b.folds * (s.arity - 1)

-- The normal form of a table whose columns are bases.
pub record NormalForm : Type 0 where
  -- it acts as the table it came from
  pub acts : (s : Shape) → 1 ≤ s.arity → (t : Table) → Bases s t → (w v : Word) → T (is_word s w) → image t w ≡ some v → image (keep s t) w ≡ some v
  pub bases : (s : Shape) → 1 ≤ s.arity → (t : Table) → Bases s t → Bases s (keep s t)
  -- no join is possible in it, and it is in order, whatever the columns of the table
  pub reduced : (s : Shape) → 1 ≤ s.arity → (t : Table) → Reduced s.arity (keep s t)
  pub in_order : (s : Shape) (t : Table) → ordered (froms (keep s t)) ≡ true
  -- a table with bases for columns is reduced and ordered exactly when it is its own normal form
  pub own : (s : Shape) → 1 ≤ s.arity → (t : Table) → Bases s t → (Reduced s.arity t × (ordered (froms t) ≡ true)) ↔ (keep s t ≡ t)
  -- it is reached from the table by joins, and the pairs listed in order
  pub reached : (s : Shape) → 1 ≤ s.arity → (t : Table) → Bases s t → Joins s.arity t (keep s t)
  -- after Lemma 4.3: "it doesn't depend on which join came first"
  pub any_joins : (s : Shape) → 1 ≤ s.arity → (t u : Table) → Bases s t → Joins s.arity t u → Reduced s.arity u → ordered (froms u) ≡ true → u ≡ keep s t

-- Compositions, inverses and powers act as those of the group G(n,r), on blocks and so on codes of any length, and have bases for
-- columns.
pub record GroupActs : Type 0 where
  pub compose_acts : (s : Shape) → 1 ≤ s.arity → (a b : Table) → Bases s a → Bases s b → (w v : Word) → T (is_word s w) → and_then (image a) (image b) w ≡ some v → image (compose s a b) w ≡ some v
  pub compose_bases : (s : Shape) → 1 ≤ s.arity → (a b : Table) → Bases s a → Bases s b → Bases s (compose s a b)
  pub inverse_acts : (s : Shape) → 1 ≤ s.arity → (a : Table) → Bases s a → (w v : Word) → T (is_word s w) → image a w ≡ some v → image (inverse s a) v ≡ some w
  pub inverse_bases : (s : Shape) → 1 ≤ s.arity → (a : Table) → Bases s a → Bases s (inverse s a)
  pub identity_acts : (s : Shape) (w : Word) → T (is_word s w) → image (identity s) w ≡ some w
  pub identity_bases : (s : Shape) → Bases s (identity s)
  -- "for k above zero, k times in a row; .. below zero, the power −k of the inverse" (negsuc k is −(k + 1))
  pub power_acts : (s : Shape) → 1 ≤ s.arity → (a : Table) → Bases s a → (k : ℕ) (w v : Word) → T (is_word s w) → times k (image a) w ≡ some v → image (power s a (pos k)) w ≡ some v
  pub power_acts_below : (s : Shape) → 1 ≤ s.arity → (a : Table) → Bases s a → (k : ℕ) (w v : Word) → T (is_word s w) → times (suc k) (image (inverse s a)) w ≡ some v → image (power s a (negsuc k)) w ≡ some v

-- "Only the reduced result is held to 128 pairs and 15 ways": what is held to them has no join left and is in order, whatever tables
-- it is made of. Nothing is asked of these: neither bases for columns, nor that they keep the limits themselves.
pub record ResultsReduced : Type 0 where
  pub compose_reduced : (s : Shape) → 1 ≤ s.arity → (a b : Table) → Reduced s.arity (compose s a b)
  pub compose_in_order : (s : Shape) (a b : Table) → ordered (froms (compose s a b)) ≡ true
  pub inverse_reduced : (s : Shape) → 1 ≤ s.arity → (a : Table) → Reduced s.arity (inverse s a)
  pub inverse_in_order : (s : Shape) (a : Table) → ordered (froms (inverse s a)) ≡ true
  pub identity_reduced : (s : Shape) → 1 ≤ s.arity → Reduced s.arity (identity s)
  pub identity_in_order : (s : Shape) → ordered (froms (identity s)) ≡ true
  -- 11 of a power looks at the repetitions on the way, of the plan or of its inverse
  pub repeated_reduced : (s : Shape) → 1 ≤ s.arity → (a : Table) (k : ℕ) → Reduced s.arity (repeated s a k)
  pub repeated_in_order : (s : Shape) (a : Table) (k : ℕ) → ordered (froms (repeated s a k)) ≡ true
  pub power_reduced : (s : Shape) → 1 ≤ s.arity → (a : Table) (k : ℤ) → Reduced s.arity (power s a k)
  pub power_in_order : (s : Shape) (a : Table) (k : ℤ) → ordered (froms (power s a k)) ≡ true

-- "Two plans send it to the same place if its two images agree in length and in every digit": every code that is long enough for both,
-- whatever its length.
abbrev pub ActAlike : Plan → Plan → Type 0
ActAlike a b = (w : Word) → T (is_word a.shape w) → T (long_enough a.rows w) → T (long_enough b.rows w) → image a.rows w ≡ image b.rows w

-- A plan in its reduced form, of any size: both columns bases, no join possible, from-words in order. `Kept` is this in the limits.
pub record ReducedPlan (s : Shape) (t : Table) : Type 0 where
  pub bases : Bases s t
  pub reduced : Reduced s.arity t
  pub in_order : ordered (froms t) ≡ true

-- "Document 004, Lemma 4.3, gives the reduced plan as the one on the minimal expansion": whatever table acts as the plan does, its
-- from-words each begin with one of the plan's. (004: "any other expansion of X with this property is an expansion of Y.")
abbrev pub MinimalExpansion : Type 0
MinimalExpansion =
    (s : Shape) → 1 ≤ s.arity → (a t : Table) → ReducedPlan s a → Bases s t
    → ActAlike (record { shape = s; rows = a }) (record { shape = s; rows = t })
    → (w : Word) → Memᴰ w (froms t) → T (long_enough a w)

-- Each answer is given under its condition and no other.
pub record AnswersExact : Type 0 where
  -- a draft of words is accepted exactly when both columns are bases, and what is kept of it is within the limits if the draft is
  pub accepted : (s : Shape) → 1 ≤ s.arity → (t : Table) → T (all (is_word s) (froms t)) → T (all (is_word s) (tos t)) → (verdict s t ≡ Accepted) ↔ Bases s t
  pub keeps : (s : Shape) → T (shape_in_range s) → (t : Table) → Bases s t → T (granted t) → Kept (record { shape = s; rows = keep s t })
  -- the test that computes says whether a plan is a kept one
  pub kept_test : (p : Plan) → T (is_kept p) ↔ Kept p
  -- 11 of a power: "some reduced power from 1 up to the size of k breaks a limit"
  pub power_refused : (a : Plan) (k : ℤ) → (powered a k ≡ Refused LimitBroken) ↔ (T (power_in_range k) × ((j : ℕ) × (1 ≤ j) × (j ≤ nat_abs k) × (granted (repeated a.shape (repeatable a k) j) ≡ false)))
  -- below zero: power −j is the inverse of power j, so it breaks a limit exactly where power j does
  pub power_below : (a : Plan) → Kept a → (j : ℕ) → granted (repeated a.shape (inverse a.shape a.rows) j) ≡ granted (repeated a.shape a.rows j)
  -- where a power is granted, it is the power
  pub power_granted : (a b : Plan) (k : ℤ) → powered a k ≡ Granted b → b ≡ record { shape = a.shape; rows = power a.shape a.rows k }
  -- 13: "the code is a proper beginning of a from-word"
  pub too_short : (a : Plan) → Kept a → (w : Word) → T (is_code a.shape w) → (routed a w ≡ TooShort) ↔ ((p : Pair) × (i : ℕ) × (x : Word) × Memᴰ p a.rows × (p.from ≡ w ++ i ∷ x))
  -- S: "if the plans act alike"
  pub alike : (a b : Plan) → Kept a → Kept b → a.shape ≡ b.shape → (same a b ≡ Alike true) ↔ ActAlike a b

-- Demand 3: "The laws and the exactly-when of demand 3 are one claim over all such plans, numbers and codes". Over what F, I, K and
-- L give; a law speaks wherever the plans that it names are granted, and these are kept plans again.
pub record Demand3 : Type 0 where
  pub followed_kept : (a b c : Plan) → Kept a → Kept b → followed a b ≡ Granted c → Kept c
  pub inverted_kept : (a b : Plan) → Kept a → inverted a ≡ Granted b → Kept b
  pub powered_kept : (a b : Plan) (k : ℤ) → Kept a → powered a k ≡ Granted b → Kept b
  -- (a then b) then c is a then (b then c)
  pub associative : (a b c ab bc : Plan) → Kept a → Kept b → Kept c → followed a b ≡ Granted ab → followed b c ≡ Granted bc → followed ab c ≡ followed a bc
  -- power 0 is the identity, on both sides
  pub power_zero : (a : Plan) → powered a (pos 0) ≡ Granted (identity_plan a.shape)
  pub identity_left : (a : Plan) → Kept a → followed (identity_plan a.shape) a ≡ Granted a
  pub identity_right : (a : Plan) → Kept a → followed a (identity_plan a.shape) ≡ Granted a
  -- power 1 is the plan itself, and power −1 its inverse
  pub power_one : (a : Plan) → Kept a → powered a (pos 1) ≡ Granted a
  pub power_minus_one : (a : Plan) → Kept a → powered a (negsuc 0) ≡ inverted a
  -- the inverse, on both sides
  pub inverse_left : (a b : Plan) → Kept a → inverted a ≡ Granted b → followed b a ≡ Granted (identity_plan a.shape)
  pub inverse_right : (a b : Plan) → Kept a → inverted a ≡ Granted b → followed a b ≡ Granted (identity_plan a.shape)
  -- power j then power k is power j + k
  pub power_sum : (a p q b : Plan) (j k : ℤ) → Kept a → powered a j ≡ Granted p → powered a k ≡ Granted q → powered a (j +ℤ k) ≡ Granted b → followed p q ≡ Granted b
  -- power k of power j is power jk
  pub power_product : (a p q b : Plan) (j k : ℤ) → Kept a → powered a j ≡ Granted p → powered p k ≡ Granted q → powered a (j *ℤ k) ≡ Granted b → q ≡ b
  -- the M records agree exactly when every code long enough for both, whatever its length, is sent to the same place
  pub same_listing : (a b : Plan) → Kept a → Kept b → a.shape ≡ b.shape → (pair_records a.rows ≡ pair_records b.rows) ↔ ActAlike a b

-- That a listing read back is the same plan rests on this: the bytes determine the slot's plan, and the M records the table.
pub record ListingFaithful : Type 0 where
  -- the bytes of a word of digits 1 to 9 spell it, first digit first, and no other bytes do
  pub words : (w : Word) → T (is_ways 9 w) → word_of (word_bytes w) ≡ w
  pub bytes : (code : Bytes) → T (is_ways 9 (word_of code)) → word_bytes (word_of code) ≡ code
  pub last_digit : (w : Word) (d : ℕ) → word_bytes (child w d) ≡ word_bytes w ++ digit_byte d ∷ []
  pub records : (t u : Table) → (pair_records t ≡ pair_records u) ↔ (t ≡ u)
  pub lines : (t u : Table) → (join_lines (pair_records t) ≡ join_lines (pair_records u)) ↔ (t ≡ u)
  pub whole_listing : (slot : ℕ) (a b : Plan) → (listing slot a ≡ listing slot b) ↔ (a ≡ b)

-- "slots A to H": letters and numbers below `slot_count`, one to one
pub record SlotsExact : Type 0 where
  pub named : (i : ℕ) → i < slot_count → T (is_slot (slot_byte i))
  pub number_of_byte : (i : ℕ) → slot_number (slot_byte i) ≡ i
  pub numbered : (b : ℕ) → T (is_slot b) → slot_number b < slot_count
  pub byte_of_number : (b : ℕ) → T (is_slot b) → slot_byte (slot_number b) ≡ b

-- a number in decimal: digits, "no leading zero", and the number that they spell
pub record DecimalsExact : Type 0 where
  pub numerals : (k : ℕ) → T (all is_numeral (decimal k))
  pub no_leading_zero_fact : (k : ℕ) → T (no_leading_zero (decimal k))
  pub read_back : (k : ℕ) → spelled_out 0 (decimal k) ≡ k
  -- in figures: '0' is 48, and the digits of ten and more are those of the tens and then the last
  pub one_digit : (k : ℕ) → k < 10 → decimal k ≡ (48 + k) ∷ []
  pub several_digits : (k : ℕ) → 10 ≤ k → decimal k ≡ decimal (k / 10) ++ (48 + k % 10) ∷ []
