-- The papers' figures as statements: `PlanLimitsExact` says what each limit of a plan and each sign of its text lets pass, `NumbersNamed`
-- the number of each refusal and of each case of an answer. So none of the names in Limits.antt, Refusals.antt and Listing.antt has to be
-- believed. Read Reasons.antt next.
use Rattle.std.specs.Prelude.{ℕ, ◌+◌, ◌-◌, ◌≤◌, ◌≡◌, ◌↔◌, T, ℤ, nat_abs, length}
use mathlib.Core.List.{Memᴰ}
use Rattle.std.proofs.Math.Option.{none, some}
use Rattle.higman.specs.Words.{Shape, Word, is_digit, is_word}
use Rattle.higman.specs.Text.{tab, line_end, digit_byte}
use Rattle.higman.specs.Tables.{Pair, Table}
use Rattle.higman.specs.Limits.{shape_in_range, max_pairs, is_plan_word, pair_fits, granted, is_code, power_in_range, seed_in_range, slot_count}
use Rattle.higman.specs.Listing.{slot_number, slot_byte, is_slot}
use Rattle.higman.specs.Refusals.{no_record, wrong_state, shape_outside, bad_word, pairs_full, words_overlap, root_uncovered, slot_outside}
use Rattle.higman.specs.Refusals.{slot_empty, shapes_differ, limit_broken, power_outside, code_too_short, buffer_too_short, invalid_value}
use Rattle.higman.specs.Refusals.{count_full, seed_outside, station_outside, station_refused, right_missing}
use Rattle.higman.specs.Answers.{Overlap, Gap, reason_number, Refusal, BadCode, ShapesDiffer, LimitBroken, PowerOutside, SeedOutside}
use Rattle.higman.specs.Answers.{TooManyPairs, WordTooLong, refusal_number, Image, TooShort, NotRouted, route_number}

-- both words of a pair have at most 16 digits
abbrev pub ShortPair : Pair → Type 0
ShortPair p = (length p.from ≤ 16) × (length p.to ≤ 16)

pub record PlanLimitsExact : Type 0 where
  -- "n ways at every switch, 2 to 9, and r belts, 1 to 9"
  pub shapes : (s : Shape) → T (shape_in_range s) ↔ ((2 ≤ s.arity) × (s.arity ≤ 9) × (1 ≤ s.roots) × (s.roots ≤ 9))
  -- "a belt from 1 to r, then ways from 1 to n"
  pub digits : (n i : ℕ) → T (is_digit n i) ↔ ((1 ≤ i) × (i ≤ n))
  -- "A word in a plan has at most 16 digits (belt and 15 ways). A routed code has at most 1,024"
  pub plan_words : (s : Shape) (w : Word) → T (is_plan_word s w) ↔ (T (is_word s w) × (length w ≤ 16))
  pub codes : (s : Shape) (w : Word) → T (is_code s w) ↔ (T (is_word s w) × (length w ≤ 1_024))
  -- "A plan is 1 to 128 pairs"; "Only the reduced result is held to 128 pairs and 15 ways", and X's pairs before they are reduced
  pub pairs : max_pairs ≡ 128
  pub short_pairs : (p : Pair) → T (pair_fits p) ↔ ShortPair p
  pub results : (t : Table) → T (granted t) ↔ ((length t ≤ 128) × ((p : Pair) → Memᴰ p t → ShortPair p))
  -- "12, k outside −1,000 to 1,000"
  pub powers : (k : ℤ) → T (power_in_range k) ↔ (nat_abs k ≤ 1_000)
  -- "17, a seed outside 1 to 2147483646" (change request E3)
  pub seeds : (seed : ℕ) → T (seed_in_range seed) ↔ ((1 ≤ seed) × (seed ≤ 2_147_483_646))
  -- "The desk has slots A to H": bytes 65 to 72, and A is slot 0
  pub slots : slot_count ≡ 8
  pub slot_bytes : (b : ℕ) → T (is_slot b) ↔ ((65 ≤ b) × (b ≤ 72))
  pub slot_of_byte : (b : ℕ) → slot_number b ≡ b - 65
  pub byte_of_slot : (i : ℕ) → slot_byte i ≡ 65 + i
  -- "fields parted by tabs, lines ended by byte 10", and "⇥ is the tab byte"; '0' is 48
  pub tabs : tab ≡ 9
  pub line_ends : line_end ≡ 10
  pub digit_bytes : (d : ℕ) → digit_byte d ≡ 48 + d

-- the numbers of the answers, case by case
pub record CasesNumbered : Type 0 where
  pub overlap : reason_number Overlap ≡ 6
  pub gap : reason_number Gap ≡ 7
  pub bad_code : refusal_number BadCode ≡ 4
  pub shapes_differ_lem : refusal_number ShapesDiffer ≡ 10
  pub limit_broken_fact : refusal_number LimitBroken ≡ 11
  pub power_outside_lem : refusal_number PowerOutside ≡ 12
  pub seed_outside_fact : refusal_number SeedOutside ≡ 17
  pub too_many_pairs : refusal_number TooManyPairs ≡ 5
  pub word_too_long : refusal_number WordTooLong ≡ 4
  pub too_short : route_number TooShort ≡ some 13
  pub not_routed : (r : Refusal) → route_number (NotRouted r) ≡ some (refusal_number r)
  pub routed : (w : Word) → route_number (Image w) ≡ none

-- the numbers of "When each operation says no" and of change requests E3, E5 and E6, name by name
pub record NumbersNamed : Type 0 where
  pub one : no_record ≡ 1
  pub two : wrong_state ≡ 2
  pub three : shape_outside ≡ 3
  pub four : bad_word ≡ 4
  pub five : pairs_full ≡ 5
  pub six : words_overlap ≡ 6
  pub seven : root_uncovered ≡ 7
  pub eight : slot_outside ≡ 8
  pub nine : slot_empty ≡ 9
  pub ten : shapes_differ ≡ 10
  pub eleven : limit_broken ≡ 11
  pub twelve : power_outside ≡ 12
  pub thirteen : code_too_short ≡ 13
  pub fourteen : buffer_too_short ≡ 14
  pub fifteen : invalid_value ≡ 15
  pub sixteen : count_full ≡ 16
  pub seventeen : seed_outside ≡ 17
  pub eighteen : station_outside ≡ 18
  pub nineteen : station_refused ≡ 19
  pub twenty : right_missing ≡ 20
  pub cases : CasesNumbered
