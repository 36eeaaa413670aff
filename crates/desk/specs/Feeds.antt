-- A piece of input with many lines (include/desk.h, `desk_feed`): its whole lines are answered one after the other, as long as there is
-- room for the longest reply at the beginning of each. What is left is handed back, a line that has begun too, so that between two calls
-- there is the desk, and whether a line that has begun is too long already. None of it need be believed: `FeedsExact` fixes it. Read
-- Buffers.antt next.
use Rattle.std.specs.Prelude.{ℕ, ◌-◌, ◌+◌, ◌≤◌, ◌<◌, ◌≡◌, refl, Bool, true, false, ◌&&◌, List, [], ◌∷◌, ◌++◌, T, ltb, length, replicate}
use Rattle.higman.specs.Text.{line_end, Bytes, byte, bytes}
use Rattle.higman.specs.Limits.{slot_count}
use Rattle.desk.specs.Limits.{station_count, max_right, max_line}
use Rattle.desk.specs.Desk.{Desk, IsDesk, fresh_desk, dropped}
use Rattle.desk.specs.Records.{grammar, parse, needed_right, kind}
use Rattle.desk.specs.Replies.{◌>>=◌, Effect, job, operation, admission, line_operation, respond_line}
use Rattle.desk.specs.Bytes.{reply_bytes}
use Rattle.desk.specs.Session.{unended, State, idle, is_idle, feed_byte, feed, fed_whole}

-- what a piece of input leaves: the desk, whether a line has begun that is too long already, the bytes that were not taken, and the replies
pub record Fed : Type 0 where
  pub desk : Desk
  pub overlong : Bool
  pub rest : Bytes
  pub output : Bytes

-- between two calls: nothing is held of a line
abbrev pub between : Desk → Bool → State
between d overlong = record { desk = d; line = []; overlong = overlong }

-- no further: what is held of a line is handed back, in front of what follows it
abbrev pub stopped_at : State → Bytes → Fed
stopped_at s rest = record { desk = s.desk; overlong = s.overlong; rest = s.line ++ rest; output = [] }

-- the same behind the bytes of replies
abbrev pub behind : Bytes → Fed → Fed
behind reply w = record { desk = w.desk; overlong = w.overlong; rest = w.rest; output = reply ++ w.output }

-- "Lines are answered as long as DESK_LONGEST_REPLY bytes of the buffer for replies are left": whether a line begins where fewer are
abbrev pub stops_at : ℕ → ℕ → State → Bool
stops_at most room s = is_idle s && ltb room most

-- the longest reply, the room, the state, and the input
unfoldable pub fed_within : ℕ → ℕ → State → Bytes → Fed
fed_within most room s [] = stopped_at s []
fed_within most room s (b ∷ input) =
    elim
    (stops_at most room s) [
      | true ↦ stopped_at s (b ∷ input)
      | false ↦ let r = feed_byte s b in behind r.1 (fed_within most (room - length r.1) r.0 input)
    ]

-- a line's effect, and then the rest
abbrev pub then_within : ℕ → ℕ → Effect → Bytes → Fed
then_within most room e rest = let reply = reply_bytes e.1 in behind reply (fed_within most (room - length reply) (idle e.0) rest)

-- the first bytes of a piece were taken: fed, they leave just that state and write just those replies, and nothing is lost of the others
pub record TakenOf (d : Desk) (overlong : Bool) (input : Bytes) (w : Fed) : Type 0 where
  pub taken : Bytes
  pub whole : input ≡ taken ++ w.rest
  pub fed : feed (between d overlong) taken ≡ (between w.desk w.overlong, w.output)

-- no reply of a desk has more bytes
abbrev pub LongestReply : ℕ → Type 0
LongestReply most = (d : Desk) → IsDesk d → (line : Bytes) → length (reply_bytes (respond_line d line).1) ≤ most

-- A piece by its lines, which `unended` bounds. These six decide every piece.
pub record FedByLines (most : ℕ) : Type 0 where
  -- "A line is answered when its byte 10 is in the piece"
  pub answered : (room : ℕ) (d : Desk) (line rest : Bytes) → T (unended line) → most ≤ room
      → fed_within most room (idle d) (line ++ line_end ∷ rest) ≡ then_within most room (respond_line d line) rest
  -- "while it is set every byte up to and with the next byte 10 is taken, and that byte 10 writes the refusal with 1"
  pub refused : (room : ℕ) (d : Desk) (line rest : Bytes) → T (unended line)
      → fed_within most room (between d true) (line ++ line_end ∷ rest)
      ≡ behind (bytes "no\t1\n") (fed_within most (room - 5) (idle (dropped d)) rest)
  -- "Where fewer are, the call stops at the beginning of a line"
  pub stopped : (room : ℕ) (d : Desk) (rest : Bytes) → room < most
      → fed_within most room (idle d) rest ≡ record { desk = d; overlong = false; rest = rest; output = [] }
  -- "the bytes behind the last byte 10 are not taken"
  pub begun : (room : ℕ) (d : Desk) (line : Bytes) → T (unended line) → length line ≤ 1_100
      → fed_within most room (idle d) line ≡ record { desk = d; overlong = false; rest = line; output = [] }
  -- "where that many and one more stand in the piece with no byte 10, all of them are taken and overlong is set"
  pub too_long : (room : ℕ) (d : Desk) (line : Bytes) → T (unended line) → 1_100 < length line → most ≤ room
      → fed_within most room (idle d) line ≡ record { desk = d; overlong = true; rest = []; output = [] }
  pub longer : (room : ℕ) (d : Desk) (line : Bytes) → T (unended line)
      → fed_within most room (between d true) line ≡ record { desk = d; overlong = true; rest = []; output = [] }

-- A piece as a whole. The room is that of a call that is not refused with 14, and the desk is one.
pub record FeedsExact (most : ℕ) : Type 0 where
  pub by_lines : FedByLines most
  -- nothing is lost or made up
  pub taken : (room : ℕ) (d : Desk) (overlong : Bool) (input : Bytes)
      → TakenOf d overlong input (fed_within most room (between d overlong) input)
  -- "the caller hands them in again, in front of what comes next": however often it is called, the replies are those to the whole input
  pub again : (room : ℕ) (d : Desk) (overlong : Bool) (input next : Bytes)
      → let w = fed_within most room (between d overlong) input in
      fed_whole (between d overlong) (input ++ next) ≡ w.output ++ fed_whole (between w.desk w.overlong) (w.rest ++ next)
  -- a whole line is left only where there is too little room for the longest reply
  pub left : (room : ℕ) (d : Desk) (overlong : Bool) (input : Bytes)
      → let w = fed_within most room (between d overlong) input in (T (unended w.rest) → ⊥) → room < length w.output + most
  -- and where a whole line stands in the piece something is taken
  pub progress : (room : ℕ) (d : Desk) (overlong : Bool) (input : Bytes) → most ≤ room → (T (unended input) → ⊥)
      → length (fed_within most room (between d overlong) input).rest < length input
  -- all replies fit into the room
  pub fits : LongestReply most → (room : ℕ) (d : Desk) (overlong : Bool) (input : Bytes) → IsDesk d → most ≤ room
      → length (fed_within most room (between d overlong) input).output ≤ room
  pub stays : (room : ℕ) (d : Desk) (overlong : Bool) (input : Bytes) → IsDesk d
      → IsDesk (fed_within most room (between d overlong) input).desk

-- two lines and the beginning of one, with replies of at most 5 bytes; and with room for the first alone
fed_within_example : fed_within 5 10 (idle fresh_desk) (bytes "T\nX\nW\tA")
    ≡ record { desk = fresh_desk; overlong = false; rest = bytes "W\tA"; output = bytes "ok\t0\nno\t1\n" }
unfolding fed_within feed_byte reply_bytes ◌>>=◌ respond_line line_operation operation admission job kind needed_right parse grammar fresh_desk
    dropped slot_count station_count max_right max_line
fed_within_example = refl

no_room_example : fed_within 5 9 (idle fresh_desk) (bytes "T\nX\nW\tA")
    ≡ record { desk = fresh_desk; overlong = false; rest = bytes "X\nW\tA"; output = bytes "ok\t0\n" }
unfolding fed_within feed_byte reply_bytes ◌>>=◌ respond_line line_operation operation admission job kind needed_right parse grammar fresh_desk
    dropped slot_count station_count max_right max_line
no_room_example = refl

-- behind 1,100 bytes of a line one more makes it too long: nothing is handed back, and the next call refuses it at its end
abbrev full_line : State
full_line = record { desk = fresh_desk; line = replicate max_line (byte "T"); overlong = false }

too_long_example : fed_within 5 5 full_line (bytes "TT") ≡ record { desk = fresh_desk; overlong = true; rest = []; output = [] }
unfolding fed_within feed_byte fresh_desk max_line
too_long_example = refl

overlong_example : fed_within 5 5 (between fresh_desk true) (bytes "T\nT")
    ≡ record { desk = fresh_desk; overlong = false; rest = bytes "T"; output = bytes "no\t1\n" }
unfolding fed_within feed_byte reply_bytes fresh_desk dropped slot_count station_count max_line
overlong_example = refl
