-- Stations (change request E5): how many changes each has made, counted by what the lines did, and the statement that the desk's counts are
-- these, that Z alone names a station, and that no count stands in another station's way. To be believed: `changes_made`, `OwnCountAgrees`
-- and the statement. Read Rights.antt next.
use Rattle.std.specs.Prelude.{ℕ, ◌+◌, ◌≤◌, ◌≡◌, refl, Bool, true, false, ◌&&◌, List, [], ◌∷◌, map, eqb}
use Rattle.std.proofs.Math.Option.{Option, none}
use Rattle.higman.specs.Text.{Bytes, bytes, digit_of}
use Rattle.higman.specs.Limits.{slot_count, shape_in_range, is_plan_word, max_pairs, max_digits}
use Rattle.higman.specs.Answers.{verdict, inverted}
use Rattle.higman.specs.Normal.{joined, normal, normal_form, keep, inverse}
use Rattle.higman.specs.Refusals.{Letter}
use Rattle.desk.specs.Limits.{station_count, max_right, max_changes, max_line}
use Rattle.desk.specs.Desk.{Desk, fresh_desk, station_of, changes_of, count_of, IsDesk, changed, with_draft, dropped, at_station}
use Rattle.desk.specs.Records.{Right, Record, T, Z, G, needed_right, stations_named, is_change, kind, parse, grammar}
use Rattle.desk.specs.Replies.{ok, ok_number, Outcome, refuse, pass, ◌>>=◌, Effect, bit, admission, job, operation, record_of}
use Rattle.desk.specs.Replies.{line_operation, respond_line, run, desk_after}
use Rattle.desk.specs.Bytes.{reply_bytes}
use Rattle.desk.specs.Conditions.{refusal_of}

abbrev pub is_done : Outcome Effect → Bool
is_done (refuse n c) = false
is_done (pass e) = true

-- whether a line made a change: its record is one of those that do, and its job was done
abbrev pub made_change : Desk → Bytes → Bool
made_change d l = elim (record_of l) [ refuse n c ↦ false | pass r ↦ is_change r && is_done (operation d r) ]

-- how many changes a station made in some lines: those that were done while it was named
unfoldable pub changes_made : ℕ → Desk → List Bytes → ℕ
changes_made s d [] = 0
changes_made s d (l ∷ ls) = bit (made_change d l && eqb (station_of d) s) + changes_made s (respond_line d l).0 ls

-- two desks that differ in the counts of stations that aren't named, if at all
pub record OwnCountAgrees (d c : Desk) : Type 0 where
  pub slots : d.slots ≡ c.slots
  pub draft : d.draft ≡ c.draft
  pub station : station_of d ≡ station_of c
  pub rights : d.control.rights ≡ c.control.rights
  pub own : count_of d ≡ count_of c

pub record CountsOfStations : Type 0 where
  -- "before the first, it is station 0"
  pub first : station_of fresh_desk ≡ 0
  -- the count of a station is the number of its changes, from a fresh desk on
  pub made : (ls : List Bytes) (s : ℕ) → changes_of (desk_after fresh_desk (run fresh_desk ls)).control s ≡ changes_made s fresh_desk ls
  -- "T gives the named station's own changes", whatever the counts are
  pub told : (d : Desk) → d.draft ≡ none → operation d T ≡ pass (d, ok_number (changes_of d.control (station_of d)))
  -- "Z⇥digit names the station for the records after it", "counts no change and replies `ok`", whatever the counts are; that is all it does
  pub names : (d : Desk) (s : ℕ) → d.draft ≡ none → s ≤ 7 → operation d (Z s) ≡ pass (at_station d s, ok)
  pub named : (d : Desk) (s : ℕ) (e : Effect) → operation d (Z s) ≡ pass e → (s ≤ 7) × (e ≡ (at_station d s, ok))
  -- no other record but G names one by its kind, none does by what it does, and a line that is refused leaves station, counts and rights
  pub names_own : (s : ℕ) → stations_named (Z s) ≡ s ∷ []
  pub names_none : (r : Record) → ((s : ℕ) → r ≡ Z s → ⊥) → ((s a : ℕ) (x : Right) → r ≡ G s a x → ⊥) → stations_named r ≡ []
  pub stays : (d : Desk) (r : Record) (e : Effect) → ((s : ℕ) → r ≡ Z s → ⊥) → operation d r ≡ pass e
      → station_of e.0 ≡ station_of d
  pub refused : (d : Desk) (l : Bytes) (n : ℕ) (c : Option Letter) → line_operation d l ≡ refuse n c
      → (respond_line d l).0.control ≡ d.control
  -- "one station at its limit leaves the others free to work": no refusal depends on the count of a station that isn't named
  pub free : (d c : Desk) → IsDesk d → IsDesk c → OwnCountAgrees d c → (r : Record)
      → refusal_of (operation d r) ≡ refusal_of (operation c r)

-- Station 0 keeps 1→1; station 7 keeps its inverse and empties a slot. There is no station 8. With a plan open Z is refused, even with a
-- digit above 7, drops the plan and leaves station 7 named.
abbrev two_stations : List Bytes
two_stations =
    map bytes
    ("P\tA\t2\t1" ∷ "M\t1\t1" ∷ "E" ∷ "Z\t7" ∷ "I\tA\tB" ∷ "C\tA" ∷ "Z\t8" ∷ "T"
    ∷ "P\tA\t2\t1" ∷ "Z\t9" ∷ "E" ∷ "T" ∷ "Z\t0" ∷ "T" ∷ "Z\t1" ∷ "T" ∷ [])

-- the replies, and the changes of stations 0, 1 and 7
stations_example : (map (λ e. reply_bytes e.1) (run fresh_desk two_stations)
    ≡ map bytes ("" ∷ "" ∷ "ok\t1\n" ∷ "ok\n" ∷ "ok\t1\n" ∷ "ok\n" ∷ "no\t18\n" ∷ "ok\t2\n"
    ∷ "" ∷ "no\t2\n" ∷ "no\t2\n" ∷ "ok\t2\n" ∷ "ok\n" ∷ "ok\t1\n" ∷ "ok\n" ∷ "ok\t0\n" ∷ []))
    × (map (λ s. changes_made s fresh_desk two_stations) (0 ∷ 1 ∷ 7 ∷ []) ≡ 1 ∷ 0 ∷ 2 ∷ [])
unfolding changes_made run reply_bytes ◌>>=◌ respond_line line_operation operation admission job kind needed_right parse grammar fresh_desk
    changed with_draft dropped at_station slot_count station_count max_right max_changes max_line shape_in_range is_plan_word max_pairs max_digits
    verdict digit_of inverted inverse keep normal_form normal joined
stations_example = (refl, refl)
