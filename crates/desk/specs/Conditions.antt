-- "When each operation says no", as a table: for each record the numbers in the paper's order, each with its condition. Demand 1 says of
-- every desk that the first whose condition holds is given, and that the operation is done where none holds. `operation` says the same and
-- what is done besides, with one order for all records and by higman's answers. The table stands beside it to be held against the paper
-- line by line: each number has here its own condition, in the words of the definitions and by itself, so that no number hides in an
-- answer, in a record's kind or behind another step. This table is to be believed, with the tests that the theorems of higman fix. Read
-- Stations.antt next.
use Rattle.std.specs.Prelude.{ℕ, ◌≡◌, refl, Bool, true, false, ◌&&◌, ◌||◌, not, List, [], ◌∷◌, map, leb, eqb, pos, nat_abs, length}
use Rattle.std.proofs.Math.Option.{Option, none, some}
use Rattle.higman.specs.Words.{count, given}
use Rattle.higman.specs.Bases.{all, any_of, overlap, gap}
use Rattle.higman.specs.Tables.{froms, tos}
use Rattle.higman.specs.Normal.{compose, power}
use Rattle.higman.specs.Limits.{Plan, shape_in_range, granted, is_code, max_pairs, max_power, slot_count, is_plan_word, power_in_range}
use Rattle.higman.specs.Limits.{seed_in_range, pair_fits}
use Rattle.higman.specs.Answers.{same_shape}
use Rattle.higman.specs.Exercises.{exercised}
use Rattle.higman.specs.Refusals.{wrong_state, shape_outside, bad_word, pairs_full, words_overlap, root_uncovered, slot_outside, slot_empty}
use Rattle.higman.specs.Refusals.{shapes_differ, limit_broken, power_outside, count_full, seed_outside, station_outside, station_refused}
use Rattle.higman.specs.Refusals.{right_missing}
use Rattle.higman.specs.Refusals.{Letter}
use Rattle.higman.specs.Text.{byte, word_of}
use Rattle.desk.specs.Limits.{max_right}
use Rattle.desk.specs.Desk.{Draft, Desk, fresh_desk, station_of, own_right, held, is_station}
use Rattle.desk.specs.Records.{Record, P, M, E, F, I, K, S, W, L, C, T, U, X, Z, G, H}
use Rattle.higman.specs.Listing.{slot_number, is_slot}
use Rattle.desk.specs.Replies.{Outcome, refuse, pass, is_open, at_limit}

-- a refusal's number, the column it adds, and the condition it is given under
pub record Condition : Type 0 where
  pub number : ℕ
  pub column : Option Letter
  pub holds : Bool

infix 4 ◌if◌
abbrev pub ◌if◌ : ℕ → Bool → Condition
n if b = record { number = n; column = none; holds = b }

-- a condition that names a column
abbrev pub in_column : ℕ → Letter → Bool → Condition
in_column n c b = record { number = n; column = some c; holds = b }

-- a slot byte outside A to H among these
abbrev pub outside_of : List ℕ → Bool
outside_of bs = not (all is_slot bs)

-- the named station's right on one of these slots is less than this
abbrev pub lacks : Desk → ℕ → List ℕ → Bool
lacks d right bs = not (all (λ b. leb right (own_right d (slot_number b))) bs)

-- no plan in the slot
abbrev pub is_empty : Desk → ℕ → Bool
is_empty d a = not (given (held d (slot_number a)))

-- a test of what a slot, or the open plan, holds; it is asked only behind the test that something is there
abbrev pub of_plan : Desk → ℕ → (Plan → Bool) → Bool
of_plan d a test = elim (held d (slot_number a)) [ none ↦ false | some p ↦ test p ]

abbrev pub of_open : Desk → (Draft → Bool) → Bool
of_open d test = elim d.draft [ none ↦ false | some o ↦ test o ]

abbrev pub of_both : Desk → ℕ → ℕ → (Plan → Plan → Bool) → Bool
of_both d a b test = of_plan d a (λ p. of_plan d b (λ q. test p q))

-- In every line that names slots: "20, a missing right, right after 8 wherever slots are named", where "Reading needs 1, P, X, C or a target
-- needs 2" (change request E6).
unfoldable pub conditions : Desk → Record → List Condition
-- "P: then 8, a slot byte outside A to H; 3, n or r outside its range."
conditions d (P a n r) =
    (wrong_state if is_open d) ∷
    (slot_outside if outside_of (a ∷ [])) ∷
    (right_missing if lacks d 2 (a ∷ [])) ∷
    (shape_outside if not (shape_in_range (record { arity = n; roots = r }))) ∷
    []
-- "M: then 4, a word that is empty, too long or has a wrong digit; 5, a 129th pair."
conditions d (M from to) =
    (wrong_state if not (is_open d)) ∷
    (bad_word if of_open d (λ o. not (is_plan_word o.shape (word_of from) && is_plan_word o.shape (word_of to)))) ∷
    (pairs_full if of_open d (λ o. leb max_pairs (length o.rows))) ∷
    []
-- "E: then two checks, both made of the from column and after that both of the to column .. Then 16, the count is at its limit."
conditions d E =
    (wrong_state if not (is_open d)) ∷
    in_column words_overlap Letter.F (of_open d (λ o. overlap (froms o.rows))) ∷
    in_column root_uncovered Letter.F (of_open d (λ o. gap o.shape (froms o.rows))) ∷
    in_column words_overlap Letter.T (of_open d (λ o. overlap (tos o.rows))) ∷
    in_column root_uncovered Letter.T (of_open d (λ o. gap o.shape (tos o.rows))) ∷
    (count_full if at_limit d) ∷
    []
-- "F: then 8; 9, a or b empty; 10, shapes differ; 11, the reduced result breaks a limit; 16."
conditions d (F a b c) =
    (wrong_state if is_open d) ∷
    (slot_outside if outside_of (a ∷ b ∷ c ∷ [])) ∷
    (right_missing if lacks d 1 (a ∷ b ∷ []) || lacks d 2 (c ∷ [])) ∷
    (slot_empty if is_empty d a || is_empty d b) ∷
    (shapes_differ if of_both d a b (λ p q. not (same_shape p.shape q.shape))) ∷
    (limit_broken if of_both d a b (λ p q. not (granted (compose p.shape p.rows q.rows)))) ∷
    (count_full if at_limit d) ∷
    []
-- "I: then 8; 9; 16."
conditions d (I a c) =
    (wrong_state if is_open d) ∷
    (slot_outside if outside_of (a ∷ c ∷ [])) ∷
    (right_missing if lacks d 1 (a ∷ []) || lacks d 2 (c ∷ [])) ∷
    (slot_empty if is_empty d a) ∷
    (count_full if at_limit d) ∷
    []
-- "K: then 8; 12, k outside −1,000 to 1,000; 9; 11, some reduced power from 1 up to the size of k breaks a limit; 16."
conditions d (K a k c) =
    (wrong_state if is_open d) ∷
    (slot_outside if outside_of (a ∷ c ∷ [])) ∷
    (right_missing if lacks d 1 (a ∷ []) || lacks d 2 (c ∷ [])) ∷
    (power_outside if not (power_in_range k)) ∷
    (slot_empty if is_empty d a) ∷
    (limit_broken if of_plan d a (λ p. any_of (λ j. not (granted (power p.shape p.rows (pos j)))) (count 1 (nat_abs k)))) ∷
    (count_full if at_limit d) ∷
    []
-- "S: then 8; 9; 10."
conditions d (S a b) =
    (wrong_state if is_open d) ∷
    (slot_outside if outside_of (a ∷ b ∷ [])) ∷
    (right_missing if lacks d 1 (a ∷ b ∷ [])) ∷
    (slot_empty if is_empty d a || is_empty d b) ∷
    (shapes_differ if of_both d a b (λ p q. not (same_shape p.shape q.shape))) ∷
    []
-- "W: then 8; 9; 4", and "W no longer gives 13" (change request E1)
conditions d (W a code) =
    (wrong_state if is_open d) ∷
    (slot_outside if outside_of (a ∷ [])) ∷
    (right_missing if lacks d 1 (a ∷ [])) ∷
    (slot_empty if is_empty d a) ∷
    (bad_word if of_plan d a (λ p. not (is_code p.shape (word_of code)))) ∷
    []
-- "L: 8; 9."
conditions d (L a) =
    (wrong_state if is_open d) ∷
    (slot_outside if outside_of (a ∷ [])) ∷
    (right_missing if lacks d 1 (a ∷ [])) ∷
    (slot_empty if is_empty d a) ∷
    []
-- "C: the same" as I
conditions d (C a) =
    (wrong_state if is_open d) ∷
    (slot_outside if outside_of (a ∷ [])) ∷
    (right_missing if lacks d 2 (a ∷ [])) ∷
    (slot_empty if is_empty d a) ∷
    (count_full if at_limit d) ∷
    []
-- "U and T: no more."
conditions d T = (wrong_state if is_open d) ∷ []
conditions d U = (wrong_state if is_open d) ∷ []
-- "17, a seed outside 1 to 2147483646, after 8 and 3; then 5 and 4 if the unreduced plan breaks those limits; 16 last" (change request E3)
conditions d (X a n r s seed) =
    (wrong_state if is_open d) ∷
    (slot_outside if outside_of (a ∷ [])) ∷
    (right_missing if lacks d 2 (a ∷ [])) ∷
    (shape_outside if not (shape_in_range (record { arity = n; roots = r }))) ∷
    (seed_outside if not (seed_in_range seed)) ∷
    (pairs_full if not (leb (length (exercised (record { arity = n; roots = r }) s seed)) max_pairs)) ∷
    (bad_word if not (all pair_fits (exercised (record { arity = n; roots = r }) s seed))) ∷
    (count_full if at_limit d) ∷
    []
-- "18, a digit above 7, after 1 and 2" (change request E5)
conditions d (Z s) =
    (wrong_state if is_open d) ∷
    (station_outside if not (is_station s)) ∷
    []
-- "19, G from another station or for station 0, after 18 and 8" (change request E6); "G itself needs no right"
conditions d (G s a x) =
    (wrong_state if is_open d) ∷
    (station_outside if not (is_station s)) ∷
    (slot_outside if outside_of (a ∷ [])) ∷
    (station_refused if not (eqb (station_of d) 0) || eqb s 0) ∷
    []
-- "Other stations get 19, after 1 and 2" (change request E8)
conditions d H =
    (wrong_state if is_open d) ∷
    (station_refused if not (eqb (station_of d) 0)) ∷
    []

-- the first condition that holds: its number and column
abbrev pub first_of : List Condition → Option (ℕ × Option Letter)
first_of [] = none
first_of (c ∷ cs) = elim c.holds [ true ↦ some (c.number, c.column) | false ↦ first_of cs ]

-- what an operation was refused with, if it was
abbrev pub refusal_of : {A : Type 0} → Outcome A → Option (ℕ × Option Letter)
refusal_of (refuse n c) = some (n, c)
refusal_of (pass a) = none

-- on a fresh desk: a slot outside comes before a power outside, and that before an empty slot
conditions_example : map (λ r. first_of (conditions fresh_desk r)) (K (byte "I") (pos 1001) (byte "A") ∷ K (byte "A") (pos 1001) (byte "A") ∷ K (byte "A") (pos 1000) (byte "A") ∷ T ∷ [])
    ≡ some (8, none) ∷ some (12, none) ∷ some (9, none) ∷ none ∷ []
unfolding conditions fresh_desk slot_count max_right max_power
conditions_example = refl
