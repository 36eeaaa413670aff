-- A session, bytes in and bytes out (document 01, "Records"): the replies to the lines of its input. And the same fed in pieces: between
-- two pieces there is the desk and the beginning of a line, of which no more is held than a line may have. That both write the same is
-- `SessionFed` of Theorems.antt. The example is the paper's "A session in full". To be believed: `session`. The lines and the feeding need
-- not be: `LinesExact`, `SessionFed` and `FedInPieces` fix them. Read Feeds.antt next.
use Rattle.std.specs.Prelude.{ℕ, ◌≡◌, refl, Bool, true, false, not, List, [], ◌∷◌, ◌++◌, map, eqb, ltb, length, replicate}
use Rattle.std.proofs.Math.Option.{none}
use Rattle.higman.specs.Bases.{all}
use Rattle.higman.specs.Normal.{joined, normal, normal_form, keep, compose, inverse, identity}
use Rattle.higman.specs.Limits.{is_plan_word, max_pairs, max_digits, max_code, max_power, shape_in_range, granted, is_code, slot_count}
use Rattle.higman.specs.Answers.{verdict, followed, inverted, raised, powered, routed}
use Rattle.higman.specs.Places.{place_of, placed_block}
use Rattle.higman.specs.Text.{digit_of, line_end, Bytes, byte, bytes, lines}
use Rattle.higman.specs.Refusals.{no_record}
use Rattle.higman.specs.Listing.{join_lines}
use Rattle.desk.specs.Limits.{station_count, max_right, max_changes, max_line, max_numeral}
use Rattle.desk.specs.Desk.{Desk, fresh_desk, changed, with_draft, dropped}
use Rattle.desk.specs.Records.{grammar, parse, needed_right, kind}
use Rattle.desk.specs.Replies.{◌>>=◌, Effect, refuse, settle, job, operation, admission, line_operation, respond_line, run}
use Rattle.desk.specs.Bytes.{reply_bytes}

-- "lines ended by byte 10. A last line without that byte counts if it isn't empty": the lines of some bytes behind the beginning of one
abbrev pub lines_from : Bytes → Bytes → List Bytes
lines_from begun [] = elim begun [ [] ↦ [] | b ∷ l ↦ (b ∷ l) ∷ [] ]
lines_from begun (b ∷ input) =
    elim (eqb b line_end) [ true ↦ begun ∷ lines_from [] input | false ↦ lines_from (begun ++ (b ∷ [])) input ]

-- no byte 10 in it
abbrev pub unended : Bytes → Bool
unended line = all (λ b. not (eqb b line_end)) line

-- the bytes of the replies to lines, one after the other
abbrev pub replies_to : Desk → List Bytes → Bytes
replies_to d ls = join_lines (map (λ e. reply_bytes e.1) (run d ls))

-- "The desk program reads standard input, one record a line": what it writes
unfoldable pub session : Bytes → Bytes
session input = replies_to fresh_desk (lines_from [] input)

-- The desk, the line that has begun, and whether that line is too long already; what it holds then is let go.
pub record State : Type 0 where
  pub desk : Desk
  pub line : Bytes
  pub overlong : Bool

-- at the beginning of a line
abbrev pub idle : Desk → State
idle d = record { desk = d; line = []; overlong = false }

-- one more byte of a line
abbrev pub with_byte : State → ℕ → State
with_byte s b =
    elim
    s.overlong [
      | true ↦ s
      | false ↦ elim (ltb (length s.line) max_line) [ true ↦ record { desk = s.desk; line = s.line ++ (b ∷ []); overlong = false } | false ↦ record { desk = s.desk; line = []; overlong = true } ]
    ]

-- the line is whole: "a longer one, up to its byte 10, is one refusal"
abbrev pub effect_of : State → Effect
effect_of s = elim s.overlong [ true ↦ settle s.desk (refuse no_record none) | false ↦ respond_line s.desk s.line ]

-- no line has begun
abbrev pub is_idle : State → Bool
is_idle s = elim s.overlong [ true ↦ false | false ↦ elim s.line [ [] ↦ true | b ∷ l ↦ false ] ]

abbrev pub line_ended : State → State × Bytes
line_ended s = let e = effect_of s in (idle e.0, reply_bytes e.1)

-- "lines ended by byte 10"
unfoldable pub feed_byte : State → ℕ → State × Bytes
feed_byte s b = elim (eqb b line_end) [ true ↦ line_ended s | false ↦ (with_byte s b, []) ]

unfoldable pub feed : State → Bytes → State × Bytes
feed s [] = (s, [])
feed s (b ∷ input) = let r = feed_byte s b in let q = feed r.0 input in (q.0, r.1 ++ q.1)

-- "A last line without that byte counts if it isn't empty." "An open plan is dropped at the end of input."
unfoldable pub finish : State → Desk × Bytes
finish s = elim (is_idle s) [ true ↦ (dropped s.desk, []) | false ↦ let r = line_ended s in (dropped r.0.desk, r.1) ]

-- what is written when the input from a state on is fed whole and ends
abbrev pub fed_whole : State → Bytes → Bytes
fed_whole s input = let r = feed s input in r.1 ++ (finish r.0).1

-- document 01, "A session in full", with the block that change request E1 gives for its `no⇥13`, and the places of change request E7
abbrev pub input_in_full : Bytes
input_in_full =
    lines (
    "P\tA\t2\t1" ∷
    "M\t111\t11" ∷
    "M\t112\t121" ∷
    "M\t12\t122" ∷
    "E" ∷
    "W\tA\t1122" ∷
    "K\tA\t2\tB" ∷
    "L\tB" ∷
    "W\tA\t11" ∷
    "T" ∷
    [])

abbrev pub output_in_full : Bytes
output_in_full =
    lines (
    "ok\t3" ∷
    "ok\t1212\t2" ∷
    "ok\t4" ∷
    "P\tB\t2\t1" ∷
    "M\t1111\t11" ∷
    "M\t1112\t121" ∷
    "M\t112\t1221" ∷
    "M\t12\t1222" ∷
    "E" ∷
    "B\t111\t11\t1" ∷
    "B\t112\t121\t2" ∷
    "ok\t2" ∷  -- lines
    "ok\t2" ∷  -- changes
    [])

lines_from_example : lines_from [] (bytes "T\n\nU") ≡ bytes "T" ∷ [] ∷ bytes "U" ∷ []
lines_from_example = refl

-- a last line without byte 10, and none behind the last byte 10
last_line_example : map session (bytes "T" ∷ bytes "T\n" ∷ bytes "\nT\r" ∷ []) ≡ bytes "ok\t0\n" ∷ bytes "ok\t0\n" ∷ bytes "no\t1\nno\t1\n" ∷ []
unfolding session run reply_bytes ◌>>=◌ respond_line line_operation operation admission job kind needed_right parse grammar fresh_desk dropped
    slot_count station_count max_right max_line
last_line_example = refl

-- behind 1,100 bytes of a line one more makes it too long: what it held is let go, and at its end it is refused
abbrev full_line : State
full_line = record { desk = fresh_desk; line = replicate max_line (byte "T"); overlong = false }

overlong_example : feed full_line (bytes "TT\nT\n") ≡ (idle fresh_desk, bytes "no\t1\nok\t0\n")
unfolding feed feed_byte reply_bytes ◌>>=◌ respond_line line_operation operation admission job kind needed_right parse grammar fresh_desk dropped
    slot_count station_count max_right max_line
overlong_example = refl

session_in_full : session input_in_full ≡ output_in_full
unfolding session run reply_bytes ◌>>=◌ respond_line line_operation operation admission job kind needed_right parse grammar fresh_desk changed
    with_draft dropped slot_count station_count max_right max_changes max_line max_numeral is_plan_word digit_of max_pairs max_digits max_code max_power
    shape_in_range granted is_code verdict followed inverted raised powered routed place_of placed_block keep compose inverse identity
    normal_form normal joined
session_in_full = refl
