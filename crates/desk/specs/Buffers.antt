-- The library's side (document 01, the end of "When each operation says no"): what a call answers, what a lent buffer holds after it and
-- what became of the desk. 15 comes before every other number and 14 after them. None of it need be believed: `LentCallsExact` says the
-- same case by case. Read Theorems.antt next.
use Rattle.std.specs.Prelude.{ℕ, ◌+◌, ◌≡◌, refl, true, false, length}
use Rattle.std.proofs.Math.Option.{none}
use Rattle.higman.specs.Text.{Bytes, bytes}
use Rattle.higman.specs.Refusals.{buffer_too_short, invalid_value}
use Rattle.higman.specs.Buffers.{if_room, lent_into}
use Rattle.higman.specs.Limits.{slot_count}
use Rattle.desk.specs.Limits.{station_count, max_right, max_changes}
use Rattle.desk.specs.Desk.{Desk, fresh_desk, dropped, at_count, are_rights, is_control, is_desk}
use Rattle.desk.specs.Records.{T, needed_right, kind}
use Rattle.desk.specs.Replies.{Reply, ok_number, Outcome, refuse, pass, ◌>>=◌, Effect, settle, job, operation, admission}
use Rattle.desk.specs.Bytes.{reply_bytes}

-- a lent buffer after a call, and the call's answer: how many bytes it wrote, or a refusal
pub record Lent : Type 0 where
  pub buffer : Bytes
  pub answer : Outcome ℕ

-- "14 last: the lent buffer is shorter than the output"; at any refusal it "then holds what it held before"
unfoldable pub lent : Bytes → Outcome Bytes → Lent
lent buffer (refuse n c) = record { buffer = buffer; answer = refuse n c }
lent buffer (pass output) =
    record {
      buffer = lent_into output buffer;
      answer = if_room (length output) (length buffer) (pass (length output)) (refuse buffer_too_short none);
    }

-- the bytes of a reply
abbrev pub output_of : Outcome Effect → Outcome Bytes
output_of o = o >>= λ e. pass (reply_bytes e.1)

-- What a call does on the desk that it is given: `λ d. operation d r` for a record, `λ d. lineOperation d l` for a line.
abbrev pub Work : Type 0
Work = Desk → Outcome Effect

-- A refusal with 14 leaves the desk as any other does: the open plan is dropped, and the operation is not done.
abbrev pub desk_left : Desk → Outcome Effect → Outcome ℕ → Desk
desk_left d o (refuse n c) = dropped d
desk_left d o (pass n) = (settle d o).0

-- A call that works on a desk and writes the reply into a lent buffer. "15 before all these: a plan or desk handed in isn't one as
-- described above; such a desk has no open plan to drop and is left as it came."
unfoldable pub lent_call : Desk → Work → Bytes → Desk × Lent
lent_call d work buffer =
    elim
    (is_desk d) [
      | true ↦ let l = lent buffer (output_of (work d)) in (desk_left d (work d) l.answer, l)
      | false ↦ (d, lent buffer (refuse invalid_value none))
    ]

abbrev pub reply_of : Outcome Effect → Outcome Reply
reply_of o = o >>= λ e. pass e.1

-- A call that works on a desk and is lent nothing: the reply is its value.
unfoldable pub plain_call : Desk → Work → Desk × Outcome Reply
plain_call d work = elim (is_desk d) [ true ↦ ((settle d (work d)).0, reply_of (work d)) | false ↦ (d, refuse invalid_value none) ]

-- The work of T on a fresh desk, with room for its reply and one byte short of it
abbrev counting : Work
counting d = operation d T

lent_call_example : lent_call fresh_desk counting (bytes ".......") ≡ (fresh_desk, record { buffer = bytes "ok\t0\n.."; answer = pass 5 })
unfolding ◌>>=◌ lent_call lent is_desk is_control are_rights operation admission job kind needed_right reply_bytes fresh_desk slot_count
    station_count max_right max_changes
lent_call_example = refl

too_short_example : lent_call fresh_desk counting (bytes "....") ≡ (fresh_desk, record { buffer = bytes "...."; answer = refuse 14 none })
unfolding ◌>>=◌ lent_call lent is_desk is_control are_rights operation admission job kind needed_right reply_bytes fresh_desk dropped slot_count
    station_count max_right max_changes
too_short_example = refl

-- the same call lent nothing: the desk stays, and the reply is the count
plain_call_example : plain_call fresh_desk counting ≡ (fresh_desk, pass (ok_number 0))
unfolding ◌>>=◌ plain_call is_desk is_control are_rights operation admission job kind needed_right fresh_desk slot_count station_count max_right
    max_changes
plain_call_example = refl

-- no desk: its count is above the limit
abbrev no_desk : Desk
no_desk = at_count fresh_desk (max_changes + 1)

no_desk_example : lent_call no_desk counting (bytes ".") ≡ (no_desk, record { buffer = bytes "."; answer = refuse 15 none })
unfolding lent_call lent is_desk is_control are_rights fresh_desk slot_count station_count max_changes
no_desk_example = refl
