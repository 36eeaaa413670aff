-- What the rules of the grammar read behind their letters, by what the readers of the code find there.
use mathlib.Core.Path.{◌≡◌, refl, sym, ◌∙◌, ap}
use mathlib.Core.Logic.{◌≢◌}
use mathlib.Core.Bool.{Bool, true, false}
use mathlib.Core.List as list
use mathlib.Core.List.{[], ◌∷◌}
use mathlib.Core.Option.{Option as Maybe, none}
use borrow.Author.Tests.{ne_eqb}
use lib.Dec.{eqb}
use lib.ListN.{length, get_or}
use Rattle.std.specs.Prelude.{ℕ, zero, suc, ◌+◌, Option, None, Some, cond, nat_le, ◌==◌, option_and_then}
use native.Mathlib.Omega.{arith}
use Rattle.std.proofs.lemmas.Grind.{get_or_after_one}
use Rattle.std.proofs.lemmas.Bool.Decides.{nat_tests}
use Rattle.higman.specs.Text.{Bytes, byte, tab}
use Rattle.desk.specs.Limits.{max_numeral, max_splits_numeral, max_seed_numeral}
use Rattle.desk.specs.Records.{Record as DeskRecord, Rule, read_by, fields, no_more}
use Rattle.desk.specs.Records.{P, M, E, F, I, K, S, W, L, C, U, X, Z, G, H, grammar, any_field, number_field, signed_field, right_number}
use Rattle.records.specs.declared.Record.TheVariants.{Open, Pair, Close, Follow, Invert, Power, Same, Route}
use Rattle.records.specs.declared.Record.TheVariants.{List, Empty, Count, Survey, Exercise, Station, Grant, Sum}
use Rattle.records.specs.Reading.{part, placed}
use Rattle.records.specs.Fields.{given, single, singles, first, last, digit, behind, placed_if, behind_letter}
use Rattle.records.proofs.fields.Behind.{slot_single, digit_single, right_single, right_read, then_single, then_first, then_last, then_none}
use Rattle.records.proofs.fields.Behind.{then_singles, none_left}

-- a right above 2
no_right : {A : Type 0} (a : A) (n : ℕ) → None ≡ cond (nat_le (suc (suc (suc n))) 2) (Some a) None
no_right a n = grind (arith, nat_tests)

-- E, T, U and H, if nothing stands behind them
alone : (r : DeskRecord) (l : Bytes) → placed_if (behind (no_more r) l) ≡ cond (length l == 0) (Some (placed r)) None
alone r [] = refl
alone r (t ∷ l) = ap placed_if (none_left r t l) ∙ grind (arith, nat_tests)

-- a letter that no rule is for
abbrev pub OtherThan : ℕ → list.List Rule → Type 0
OtherThan b [] = Unit {0}
OtherThan b (rule ∷ rules) = b ≢ rule.letter × OtherThan b rules

nothing_read : (b : ℕ) (rules : list.List Rule) (fs : list.List Bytes) → OtherThan b rules → read_by rules b fs ≡ none
nothing_read b [] fs o = refl
nothing_read b (rule ∷ rules) fs o = rw (ne_eqb b rule.letter o.0, read_by) (nothing_read b rules fs o.1)

pub other_read : (b : ℕ) (l : Bytes) → OtherThan b grammar → None ≡ behind_letter b l
unfolding behind_letter
other_read b [] o = ap placed_if (sym (nothing_read b grammar [] o))
other_read b (t ∷ l) o = ap placed_if (sym (by_tab (eqb t tab)))
  where
    by_tab : (t : Bool) → ◌≡◌ {A = Maybe DeskRecord} (elim t [ true ↦ read_by grammar b (fields l) | false ↦ none ]) none
    by_tab true = nothing_read b grammar (fields l) o
    by_tab false = refl

module _ (l : Bytes) where
  pub close_read : behind_letter (byte "E") l ≡ cond (length l == 0) (Some Close) None
  unfolding behind_letter grammar
  close_read = alone E l

  pub count_read : behind_letter (byte "T") l ≡ cond (length l == 0) (Some Count) None
  unfolding behind_letter grammar
  count_read = alone DeskRecord.T l

  pub survey_read : behind_letter (byte "U") l ≡ cond (length l == 0) (Some Survey) None
  unfolding behind_letter grammar
  survey_read = alone U l

  pub sum_read : behind_letter (byte "H") l ≡ cond (length l == 0) (Some Sum) None
  unfolding behind_letter grammar
  sum_read = alone H l

  -- slots alone
  pub list_read : behind_letter (byte "L") l ≡ option_and_then (λ bs. Some (List (get_or bs 0 0))) (singles 1 l)
  unfolding behind_letter grammar
  list_read = then_singles slot_single 0 _ _ (λ a. then_none (L a)) l

  pub empty_read : behind_letter (byte "C") l ≡ option_and_then (λ bs. Some (Empty (get_or bs 0 0))) (singles 1 l)
  unfolding behind_letter grammar
  empty_read = then_singles slot_single 0 _ _ (λ a. then_none (C a)) l

  pub invert_read : behind_letter (byte "I") l ≡ option_and_then (λ bs. Some (Invert (get_or bs 0 0) (get_or bs 1 0))) (singles 2 l)
  unfolding behind_letter grammar
  invert_read =
      then_singles slot_single 1 _ _ (λ a. then_singles slot_single 0 _ _ (λ c. then_none (I a c))) l ∙ simp get_or_after_one

  pub same_read : behind_letter (byte "S") l ≡ option_and_then (λ bs. Some (Same (get_or bs 0 0) (get_or bs 1 0))) (singles 2 l)
  unfolding behind_letter grammar
  same_read =
      then_singles slot_single 1 _ _ (λ a. then_singles slot_single 0 _ _ (λ b. then_none (S a b))) l ∙ simp get_or_after_one

  pub follow_read : behind_letter (byte "F") l
      ≡ option_and_then (λ bs. Some (Follow (get_or bs 0 0) (get_or bs 1 0) (get_or bs 2 0))) (singles 3 l)
  unfolding behind_letter grammar
  follow_read =
      then_singles slot_single 2 _ _
      (λ a. then_singles slot_single 1 _ _ (λ b. then_singles slot_single 0 _ _ (λ c. then_none (F a b c)))) l
      ∙ simp get_or_after_one

  -- and digits
  pub open_read : behind_letter (byte "P") l
      ≡ option_and_then (λ bs. option_and_then (λ n. option_and_then (λ r. Some (Open (get_or bs 0 0) n r)) (digit (get_or bs 2 0)))
      (digit (get_or bs 1 0)))
      (singles 3 l)
  unfolding behind_letter grammar
  open_read =
      then_singles slot_single 2 _ _
      (λ a. then_singles digit_single 1 _ _ (λ n. then_singles digit_single 0 _ _ (λ r. then_none (P a n r)))) l
      ∙ simp get_or_after_one

  pub station_read : behind_letter (byte "Z") l
      ≡ option_and_then (λ bs. option_and_then (λ s. Some (Station s)) (digit (get_or bs 0 0))) (singles 1 l)
  unfolding behind_letter grammar
  station_read = then_singles digit_single 0 _ _ (λ s. then_none (Z s)) l

  -- words and codes
  pub pair_read : behind_letter (byte "M") l
      ≡ option_and_then (λ p. option_and_then (λ to. Some (Pair (part 2 (length p.0)) (part (2 + length p.0 + 1) (length to)))) (last p.1))
      (first l)
  unfolding behind_letter grammar
  pair_read = then_first any_field _ (λ from. then_last any_field (M from)) l

  pub route_read : behind_letter (byte "W") l
      ≡ option_and_then (λ p. option_and_then (λ code. Some (Route p.0 (part 4 (length code)))) (last p.1)) (single l)
  unfolding behind_letter grammar
  route_read = then_single _ _ (λ a. then_last any_field (W a)) slot_single l

  -- numbers
  pub power_read : behind_letter (byte "K") l
      ≡ option_and_then (λ p. option_and_then
      (λ q. option_and_then (λ k. option_and_then (λ bs. Some (Power p.0 k (get_or bs 0 0))) (singles 1 q.1))
      (given (signed_field max_numeral q.0))) (first p.1)) (single l)
  unfolding behind_letter grammar
  power_read =
      then_single _ _ (λ a. then_first (signed_field max_numeral) _
      (λ k. then_singles slot_single 0 _ _ (λ c. then_none (K a k c)))) slot_single l

  pub exercise_read : behind_letter (byte "X") l
      ≡ option_and_then (λ p. option_and_then (λ q. option_and_then (λ n. option_and_then (λ u. option_and_then (λ r. option_and_then (λ v.
      option_and_then (λ s. option_and_then (λ w. option_and_then (λ seed. Some (Exercise p.0 n r s seed))
      (given (number_field 10 w))) (last v.1)) (given (number_field 2 v.0))) (first u.1)) (digit u.0)) (single q.1)) (digit q.0))
      (single p.1)) (single l)
  unfolding behind_letter grammar max_splits_numeral max_seed_numeral
  exercise_read =
      then_single _ _ (λ a. then_single _ _ (λ n. then_single _ _ (λ r. then_first (number_field 2) _
      (λ s. then_last (number_field 10) (X a n r s))) digit_single) digit_single) slot_single l

  -- a right
  pub grant_read : behind_letter (byte "G") l
      ≡ option_and_then (λ bs. option_and_then
      (λ s. option_and_then (λ n. cond (nat_le n 2) (Some (Grant s (get_or bs 1 0) n)) None) (digit (get_or bs 2 0)))
      (digit (get_or bs 0 0))) (singles 3 l)
  unfolding behind_letter grammar right_number
  grant_read =
      then_singles digit_single 2 _ _
      (λ s. then_singles slot_single 1 _ _ (λ a. then_singles right_single 0 _ _ (λ x. then_none (G s a x)))) l
      ∙ simp get_or_after_one (by_bytes (singles 3 l))
    where
      by_right : (s a : ℕ) (d : Option ℕ) → option_and_then (λ x. Some (placed (G s a x))) (option_and_then right_read d)
          ≡ option_and_then (λ n. cond (nat_le n 2) (Some (Grant s a n)) None) d
      by_right s a None = refl
      by_right s a (Some zero) = refl
      by_right s a (Some (suc zero)) = refl
      by_right s a (Some (suc (suc zero))) = refl
      by_right s a (Some (suc (suc (suc n)))) = no_right (Grant s a (suc (suc (suc n)))) n

      by_station : (bs : Bytes) (d : Option ℕ)
          → option_and_then (λ s. option_and_then (λ x. Some (placed (G s (get_or bs 1 0) x)))
          (option_and_then right_read (digit (get_or bs 2 0)))) d
          ≡ option_and_then (λ s. option_and_then (λ n. cond (nat_le n 2) (Some (Grant s (get_or bs 1 0) n)) None)
          (digit (get_or bs 2 0))) d
      by_station bs None = refl
      by_station bs (Some s) = by_right s (get_or bs 1 0) (digit (get_or bs 2 0))

      by_bytes : (o : Option Bytes)
          → option_and_then (λ bs. option_and_then (λ s. option_and_then (λ x. Some (placed (G s (get_or bs 1 0) x)))
          (option_and_then right_read (digit (get_or bs 2 0)))) (digit (get_or bs 0 0))) o
          ≡ option_and_then (λ bs. option_and_then (λ s. option_and_then (λ n. cond (nat_le n 2) (Some (Grant s (get_or bs 1 0) n)) None)
          (digit (get_or bs 2 0))) (digit (get_or bs 0 0))) o
      by_bytes None = refl
      by_bytes (Some bs) = by_station bs (digit (get_or bs 0 0))

pub ruleset letters_alone = (close_read, count_read, survey_read, sum_read)
