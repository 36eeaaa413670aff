-- What the calls answer, in the figures of document 01 ("When each operation says no") and by the members that include/desk.h publishes:
-- `desk_line` puts 15 first and 14 last, `desk_do` does what `desk_line` does with the text of its record, and `desk_feed` puts 15 first
-- and then 14, before it reads a line. These statements fix the definitions of Calls.antt and Feeding.antt; proofs/ has one term of each.
use Rattle.std.specs.Prelude.{ℕ, ◌-◌, ◌≤◌, ◌<◌, ◌≡◌, refl, Bool, false, T as So, pos, length, take, drop}
use mathlib.Core.List.{[], ◌∷◌, ◌++◌, map, Memᴰ}
use Rattle.std.proofs.Math.Option.{Option, none, some}
use Rattle.std.proofs.Common.{arith}
use Rattle.higman.specs.Text.{Bytes, byte, bytes, decimal}
use Rattle.higman.specs.Refusals.{Letter}
use Rattle.desk.specs.Desk.{dropped}
use Rattle.desk.specs.Records.{Record, P, M, E, F, I, K, S, W, L, C, T, U, X, Z, record_text, well_formed, G, H, right_number}
use Rattle.desk.specs.Replies.{refuse, pass, Effect, operation, line_operation}
use Rattle.desk.specs.Bytes.{reply_bytes}
use Rattle.desk.specs.Session.{feed}
use Rattle.desk.specs.Feeds.{Fed as FedLines, between, fed_within, FeedsExact}
use Rattle.desk_values.specs.declared.Desk.{Desk}
use Rattle.desk_values.specs.Values.{desk_in, is_desk_value, packed_desk, Whole}
use Rattle.desk_c.specs.declared.Job.{Job}
use Rattle.desk_c.specs.declared.Fed.{Fed}
use Rattle.desk_c.specs.declared.serving.Served.{Served}
use Rattle.desk_c.specs.Calls.{column_byte, job_work, served, buffer_after, worked}
use Rattle.desk_c.specs.Feeding.{piece_fed, buffer_fed}

-- a value that is taken for a desk: 15 is not given for it
pub record TakenForDesk (v : Desk) : Type 0 where
  pub whole : Whole v
  pub passes : So (is_desk_value v)

-- "Any refusal drops an open plan and changes nothing else."
abbrev pub plan_dropped : Desk → Desk
plan_dropped v = packed_desk (dropped (desk_in v))

-- a line is refused: what is left of the desk, the number, the column; "a lent buffer then holds what it held before"
pub record UnservedLine (line : Bytes) (v : Desk) (out : Bytes) (left : Desk) (number column : ℕ) : Type 0 where
  pub call : served line v out ≡ record { desk = left; answer = record { number = number; column = column; length = 0 } }
  pub buffer : buffer_after line v out ≡ out

-- a line is done: "only the bytes of the output change", at the front of the buffer
pub record ServedLine (line : Bytes) (v : Desk) (out : Bytes) (left : Desk) (output : Bytes) : Type 0 where
  pub call : served line v out ≡ record { desk = left; answer = record { number = 0; column = 0; length = length output } }
  pub front : take (length output) (buffer_after line v out) ≡ output
  pub rest : drop (length output) (buffer_after line v out) ≡ drop (length output) out

-- `desk_line`: 15, then what the line is refused with, then 14, else it is done.
pub record LinesNumbered : Type 0 where
  -- "15 before all these: .. such a desk .. is left as it came"
  pub no_desk_lem : (line : Bytes) (v : Desk) (out : Bytes) → is_desk_value v ≡ false → UnservedLine line v out v 15 0
  pub refused : (line : Bytes) (v : Desk) (out : Bytes) (n : ℕ) (c : Option Letter) → TakenForDesk v
      → line_operation (desk_in v) line ≡ refuse n c → UnservedLine line v out (plan_dropped v) n (column_byte c)
  -- "14 last: the lent buffer is shorter than the output"
  pub no_room : (line : Bytes) (v : Desk) (out : Bytes) (e : Effect) → TakenForDesk v → line_operation (desk_in v) line ≡ pass e
      → length out < length (reply_bytes e.1) → UnservedLine line v out (plan_dropped v) 14 0
  pub done : (line : Bytes) (v : Desk) (out : Bytes) (e : Effect) → TakenForDesk v → line_operation (desk_in v) line ≡ pass e
      → length (reply_bytes e.1) ≤ length out → ServedLine line v out (packed_desk e.0) (reply_bytes e.1)
  -- a buffer of so many bytes is enough for every reply (DESK_LONGEST_REPLY)
  pub enough_room : (line : Bytes) (v : Desk) (out : Bytes) → TakenForDesk v → 5_127 ≤ length out
      → (served line v out).answer.number ≡ 14 → ⊥
  -- 6 and 7: "those of E for a column add ⇥F or ⇥T (from, to)"
  pub columns : map column_byte (none ∷ some Letter.F ∷ some Letter.T ∷ []) ≡ 0 ∷ byte "F" ∷ byte "T" ∷ []

-- The job of a record as include/desk.h lays it out: its letter, its slots or numbers in the order in which a line has them, the exponent
-- of K, the splits and the seed of X. Members that a record does not have may be anything. A record with text or a listing has no job, nor
-- has X with splits of three digits: "s one or two digits" (change request E3).
abbrev pub IsJobOf : Record → Job → Type 0
IsJobOf (P a n r) j = (j.letter ≡ byte "P") × (j.a ≡ a) × (j.b ≡ n) × (j.c ≡ r)
IsJobOf (M from to) j = ⊥
IsJobOf E j = j.letter ≡ byte "E"
IsJobOf (F a b c) j = (j.letter ≡ byte "F") × (j.a ≡ a) × (j.b ≡ b) × (j.c ≡ c)
IsJobOf (I a c) j = (j.letter ≡ byte "I") × (j.a ≡ a) × (j.b ≡ c)
IsJobOf (K a k c) j = (j.letter ≡ byte "K") × (j.a ≡ a) × (j.k ≡ k) × (j.b ≡ c)
IsJobOf (S a b) j = (j.letter ≡ byte "S") × (j.a ≡ a) × (j.b ≡ b)
IsJobOf (W a code) j = ⊥
IsJobOf (L a) j = ⊥
IsJobOf (C a) j = (j.letter ≡ byte "C") × (j.a ≡ a)
IsJobOf T j = j.letter ≡ byte "T"
IsJobOf U j = ⊥
IsJobOf (X a n r s seed) j =
    (j.letter ≡ byte "X") × (j.a ≡ a) × (j.b ≡ n) × (j.c ≡ r) × (j.splits ≡ s) × (j.seed ≡ seed) × (s ≤ 99)
IsJobOf (Z s) j = (j.letter ≡ byte "Z") × (j.a ≡ s)
IsJobOf (G s a x) j = (j.letter ≡ byte "G") × (j.a ≡ s) × (j.b ≡ a) × (j.c ≡ right_number x)
IsJobOf H j = j.letter ≡ byte "H"

-- a job is refused, with what is left of the desk
abbrev pub JobRefused : Job → Desk → Desk → ℕ → ℕ → Type 0
JobRefused j v left number column =
    worked (job_work j) v ≡ record { desk = left; answer = record { number = number; column = column; value = 0 } }

-- the bytes that a line's call wrote
abbrev pub written_reply : Bytes → Desk → Bytes → Bytes
written_reply line v out = take (served line v out).answer.length (buffer_after line v out)

-- `ok⇥` and a number, and byte 10
abbrev pub ok_line_of : ℕ → Bytes
ok_line_of n = bytes "ok\t" ++ decimal n ++ bytes "\n"

-- A job does what a line does: the desk, the number and the column are the same, and the value is n where the reply is `ok⇥n`, and 0
-- where it is any other reply or none.
pub record DoneAsLine (j : Job) (line : Bytes) (v : Desk) (out : Bytes) : Type 0 where
  pub desk : (worked (job_work j) v).desk ≡ (served line v out).desk
  pub number : (worked (job_work j) v).answer.number ≡ (served line v out).answer.number
  pub column : (worked (job_work j) v).answer.column ≡ (served line v out).answer.column
  pub value : (n : ℕ) → written_reply line v out ≡ ok_line_of n → (worked (job_work j) v).answer.value ≡ n
  pub no_value : ((n : ℕ) → written_reply line v out ≡ ok_line_of n → ⊥) → (worked (job_work j) v).answer.value ≡ 0

-- `desk_do`: 15, then 1 for what is no record's job, else what the line of its record is answered, with nothing written and so no 14.
pub record JobsExact : Type 0 where
  pub no_desk_lem : (j : Job) (v : Desk) → is_desk_value v ≡ false → JobRefused j v v 15 0
  -- "1, unknown letter" or "a field form": no record has this job, by its letter, or since it is X with splits of three digits or G with a
  -- right above 2
  pub no_record : (j : Job) (v : Desk) → TakenForDesk v → ((r : Record) → IsJobOf r j → ⊥) → JobRefused j v (plan_dropped v) 1 0
  pub unknown_letter : (j : Job) (v : Desk) → TakenForDesk v → (Memᴰ j.letter (bytes "PEFIKSCTXZGH") → ⊥)
      → JobRefused j v (plan_dropped v) 1 0
  pub many_splits : (j : Job) (v : Desk) → TakenForDesk v → j.letter ≡ byte "X" → 99 < j.splits → JobRefused j v (plan_dropped v) 1 0
  pub right_above : (j : Job) (v : Desk) → TakenForDesk v → j.letter ≡ byte "G" → 2 < j.c → JobRefused j v (plan_dropped v) 1 0
  pub as_line : (r : Record) (j : Job) (v : Desk) (out : Bytes) → IsJobOf r j → So (well_formed r) → TakenForDesk v
      → ((served (record_text r) v out).answer.number ≡ 14 → ⊥) → DoneAsLine j (record_text r) v out
  -- a job of numbers that no line has digits for is refused as its record is: n of 10 with 3, k of 10000 with 12, a station of 10 with 18
  pub refused : (r : Record) (j : Job) (v : Desk) (n : ℕ) (c : Option Letter) → IsJobOf r j → TakenForDesk v
      → operation (desk_in v) r ≡ refuse n c → JobRefused j v (plan_dropped v) n (column_byte c)
  -- so every job that is done has a line
  pub done_has_line : (j : Job) (v : Desk) → TakenForDesk v → (worked (job_work j) v).answer.number ≡ 0
      → (r : Record) × IsJobOf r j × So (well_formed r)

-- a piece of input is refused: "these two leave desk and buffer as they were, an open plan too"
pub record UnfedPiece (overlong : Bool) (input : Bytes) (v : Desk) (out : Bytes) (number : ℕ) : Type 0 where
  pub call : piece_fed overlong input v out
      ≡ record { desk = v; answer = record { number = number; overlong = overlong; taken = 0; length = 0 } }
  pub buffer : buffer_fed overlong input v out ≡ out

-- A piece of input is fed: the desk, the flag and the replies are those that feeding the bytes taken leaves, and what was not taken stands
-- behind them.
pub record FedPiece (overlong : Bool) (input : Bytes) (v : Desk) (out : Bytes) (w : FedLines) (r : Served Fed) (out' : Bytes) : Type 0 where
  pub call : r
      ≡ record {
        desk = packed_desk w.desk;
        answer = record {
          number = 0;
          overlong = w.overlong;
          taken = length input - length w.rest;
          length = length w.output;
        };
      }
  pub whole : input ≡ take r.answer.taken input ++ w.rest
  pub fed : feed (between (desk_in v) overlong) (take r.answer.taken input)
      ≡ (between (desk_in r.desk) r.answer.overlong, take r.answer.length out')
  -- "only the bytes of the output change"
  pub fits : r.answer.length ≤ length out
  pub front : take r.answer.length out' ≡ w.output
  pub behind : drop r.answer.length out' ≡ drop r.answer.length out

-- `desk_feed`: 15, then 14 where DESK_LONGEST_REPLY has more bytes than the buffer, else the piece is fed. Which of its lines are answered,
-- and which bytes taken, `FeedsExact` of desk decides.
pub record PiecesExact : Type 0 where
  pub no_desk_lem : (overlong : Bool) (input : Bytes) (v : Desk) (out : Bytes) → is_desk_value v ≡ false → UnfedPiece overlong input v out 15
  pub no_room : (overlong : Bool) (input : Bytes) (v : Desk) (out : Bytes) → TakenForDesk v → length out < 5_127
      → UnfedPiece overlong input v out 14
  pub fed : (overlong : Bool) (input : Bytes) (v : Desk) (out : Bytes) → TakenForDesk v → 5_127 ≤ length out
      → FedPiece overlong input v out (fed_within 5_127 (length out) (between (desk_in v) overlong) input) (piece_fed overlong input v out)
      (buffer_fed overlong input v out)
  pub lines : FeedsExact 5_127

pub record DeskCallsExact : Type 0 where
  pub lines : LinesNumbered
  pub jobs : JobsExact
  pub pieces : PiecesExact

abbrev job : ℕ → Job
job letter = record { letter = letter; a = 65; b = 66; c = 67; k = pos 2; seed = 1; splits = 99 }

-- K⇥A⇥2⇥B and X⇥A⇥66⇥67⇥99⇥1
is_job_of_example : IsJobOf (K 65 (pos 2) 66) (job (byte "K")) × IsJobOf (X 65 66 67 99 1) (job (byte "X"))
is_job_of_example = ((refl, refl, refl, refl), (refl, refl, refl, refl, refl, refl, omega arith))

ok_line_of_example : map ok_line_of (0 ∷ 128 ∷ []) ≡ bytes "ok\t0\n" ∷ bytes "ok\t128\n" ∷ []
ok_line_of_example = refl
