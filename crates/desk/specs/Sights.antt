-- What a station can learn (change request E6): which lines of a session are its own, what it may know when it sends one of them, and the
-- statement that its replies tell it no more. Time is no part of it. To be believed: `Sight` and the statement, which fixes `whole_turns`,
-- `sights`, `replies_to` and, by the senders, which lines hand over. Read Pairs.antt next.
use Rattle.std.specs.Prelude.{ℕ, ◌≤◌, ◌<◌, ◌↔◌, ◌≡◌, refl, Bool, true, false, ◌&&◌, not, List, [], ◌∷◌, ◌++◌, map, T as So, eqb}
use Rattle.std.proofs.Math.Option.{Option, none, some}
use Rattle.higman.specs.Words.{count, given}
use Rattle.higman.specs.Text.{Bytes, bytes, digit_of}
use Rattle.higman.specs.Limits.{Plan, slot_count, shape_in_range, is_plan_word, seed_in_range, max_pairs, max_digits}
use Rattle.higman.specs.Exercises.{next_draw, drawn, grown, shuffled, exercised, exercise}
use Rattle.higman.specs.Normal.{joined, normal, normal_form, keep}
use Rattle.desk.specs.Limits.{station_count, max_right, max_changes, max_line, max_splits_numeral, max_seed_numeral}
use Rattle.desk.specs.Desk.{Desk, fresh_desk, station_of, own_right, held, IsDesk, seen, changed, with_draft, dropped, at_station}
use Rattle.desk.specs.Desk.{with_right, is_station}
use Rattle.desk.specs.Records.{Record, P, M, E, F, I, K, S, W, L, C, T, U, X, Z, G, H, right_number, needed_right, kind}
use Rattle.desk.specs.Records.{parse, grammar}
use Rattle.desk.specs.Replies.{Reply, silent, ok_number, surveys, refuses, refuse, pass, ◌>>=◌, is_open, surveyed, admission}
use Rattle.desk.specs.Replies.{job, operation, record_of, line_operation, respond_line, run, desk_after}

-- the station that a record hands over to: a Z, to the station that it names, where there is such a one
unfoldable pub hands_over : Record → Option ℕ
hands_over (P a n r) = none
hands_over (M from to) = none
hands_over E = none
hands_over (F a b c) = none
hands_over (I a c) = none
hands_over (K a k c) = none
hands_over (S a b) = none
hands_over (W a code) = none
hands_over (L a) = none
hands_over (C a) = none
hands_over T = none
hands_over U = none
hands_over (X a n r s seed) = none
hands_over (Z s) = elim (is_station s) [ true ↦ some s | false ↦ none ]
hands_over (G s a x) = none
hands_over H = none

abbrev pub turn_to : Bytes → Option ℕ
turn_to line = elim (record_of line) [ refuse n c ↦ none | pass r ↦ hands_over r ]

-- "records sent in whole turns, a plan never left open at a change of station": nor at a Z to the station that is named already, which is
-- refused and drops the plan all the same
unfoldable pub whole_turns : Desk → List Bytes → Bool
whole_turns d [] = true
whole_turns d (l ∷ ls) = elim (turn_to l) [ none ↦ true | some t ↦ not (is_open d) ] && whole_turns (respond_line d l).0 ls

-- A station's own lines: those that come while it is named and don't hand over, records or not, done or refused. A line that hands over is
-- nobody's: in whole turns it is done, whoever sent it, and its reply, `ok`, tells nothing.
abbrev pub sent_by : ℕ → Desk → Bytes → Bool
sent_by s d l = eqb (station_of d) s && not (given (turn_to l))

-- what a station sends, and when it does, "its rights and .. what the slots readable to it hold". The line stands for the record: lines that
-- are no records get replies too.
pub record Sight : Type 0 where
  pub line : Bytes
  pub rights : List ℕ
  pub slots : List (Option Plan)

abbrev pub sight_of : Desk → Bytes → Sight
sight_of d l = record { line = l; rights = map (own_right d) (count 0 slot_count); slots = seen d }

-- "one station's records, and, at each of those records," what it may know
unfoldable pub sights : ℕ → Desk → List Bytes → List Sight
sights s d [] = []
sights s d (l ∷ ls) =
    elim (sent_by s d l) [ true ↦ sight_of d l ∷ sights s (respond_line d l).0 ls | false ↦ sights s (respond_line d l).0 ls ]

-- the replies to these records
unfoldable pub replies_to : ℕ → Desk → List Bytes → List Reply
replies_to s d [] = []
replies_to s d (l ∷ ls) =
    elim (sent_by s d l) [ true ↦ (respond_line d l).1 ∷ replies_to s (respond_line d l).0 ls | false ↦ replies_to s (respond_line d l).0 ls ]

-- the station that some lines name last
abbrev pub last_named : ℕ → List Bytes → ℕ
last_named s [] = s
last_named s (l ∷ ls) = elim (turn_to l) [ none ↦ last_named s ls | some t ↦ last_named t ls ]

pub record StationsApart : Type 0 where
  -- "Two sessions from fresh desks that agree on one station's records, and, at each of those records, on its rights and on what the slots
  -- readable to it hold, give that station the same replies. This holds for records sent in whole turns"
  pub same_replies : (s : ℕ) (ls ms : List Bytes) → So (whole_turns fresh_desk ls) → So (whole_turns fresh_desk ms)
      → sights s fresh_desk ls ≡ sights s fresh_desk ms → replies_to s fresh_desk ls ≡ replies_to s fresh_desk ms
  -- the replies to a station's own lines are among these, every one
  pub replied : (s : ℕ) (d : Desk) (l : Bytes) (ls : List Bytes) → station_of d ≡ s → turn_to l ≡ none
      → replies_to s d (l ∷ ls) ≡ (respond_line d l).1 ∷ replies_to s (respond_line d l).0 ls
  -- its sights are those of its own lines and of no other, and have the line, the rights and what the readable slots hold, and no more
  pub sighted : (s : ℕ) (d : Desk) (l : Bytes) (ls : List Bytes) → station_of d ≡ s → turn_to l ≡ none
      → sights s d (l ∷ ls) ≡ sight_of d l ∷ sights s (respond_line d l).0 ls
  pub unseen : (s : ℕ) (d : Desk) (l : Bytes) (ls : List Bytes) → ((station_of d ≡ s) × (turn_to l ≡ none) → ⊥)
      → sights s d (l ∷ ls) ≡ sights s (respond_line d l).0 ls
  pub no_more_fact : (d c : Desk) (l : Bytes) → IsDesk d → IsDesk c → ((i : ℕ) → i < slot_count → own_right d i ≡ own_right c i)
      → ((i : ℕ) → i < slot_count → 1 ≤ own_right d i → held d i ≡ held c i) → sight_of d l ≡ sight_of c l
  -- whole turns: no plan is open where a line hands over
  pub whole : (d : Desk) (ls : List Bytes)
      → So (whole_turns d ls)
      ↔ ((ms ns : List Bytes) (l : Bytes) (t : ℕ) → ls ≡ ms ++ l ∷ ns → turn_to l ≡ some t → (desk_after d (run d ms)).draft ≡ none)
  -- in whole turns a line's sender is the station that the input has named last
  pub senders : (ls : List Bytes) → So (whole_turns fresh_desk ls) → station_of (desk_after fresh_desk (run fresh_desk ls)) ≡ last_named 0 ls

-- Two sessions that station 1 can't tell apart: station 0 takes its right on B away, and then B is filled, and counted, in one of them.
abbrev told_apart : List Bytes → List Bytes
told_apart other =
    map bytes ("G\t1\tB\t0" ∷ []) ++ other ++ map bytes ("Z\t1" ∷ "U" ∷ "L\tB" ∷ "T" ∷ "L\tA" ∷ [])

apart_example : (sights 1 fresh_desk (told_apart (map bytes ("X\tB\t2\t1\t2\t1" ∷ []))) ≡ sights 1 fresh_desk (told_apart []))
    × (replies_to 1 fresh_desk (told_apart []) ≡ surveys [] ∷ refuses 20 none ∷ ok_number 0 ∷ refuses 9 none ∷ [])
unfolding sights replies_to hands_over ◌>>=◌ respond_line line_operation operation admission job surveyed seen kind needed_right right_number
    parse
    grammar fresh_desk changed at_station with_right dropped slot_count station_count max_right max_changes max_line max_splits_numeral max_seed_numeral
    shape_in_range seed_in_range max_pairs max_digits exercise exercised grown shuffled drawn next_draw keep normal_form normal joined
apart_example = (refl, refl)

-- Whole turns are needed: station 1 leaves a plan open where the input hands over to 2; that Z is refused and drops the plan, and M, which
-- station 2 was to send, is station 1's. What station 1 sent is the same in both, and its replies are not.
abbrev left_open : List Bytes
left_open = map bytes ("Z\t1" ∷ "P\tA\t2\t1" ∷ "Z\t2" ∷ "M\t1\t1" ∷ [])

abbrev not_left : List Bytes
not_left = map bytes ("Z\t1" ∷ "P\tA\t2\t1" ∷ "M\t1\t1" ∷ [])

turns_example : (whole_turns fresh_desk left_open ≡ false) × (whole_turns fresh_desk not_left ≡ true)
    × (sights 1 fresh_desk left_open ≡ sights 1 fresh_desk not_left)
    × (replies_to 1 fresh_desk left_open ≡ silent ∷ refuses 2 none ∷ []) × (replies_to 1 fresh_desk not_left ≡ silent ∷ silent ∷ [])
unfolding whole_turns sights replies_to hands_over ◌>>=◌ respond_line line_operation operation admission job seen kind needed_right parse grammar
    fresh_desk with_draft at_station dropped slot_count station_count max_right max_line shape_in_range is_plan_word max_pairs max_digits digit_of
turns_example = (refl, refl, refl, refl, refl)
