-- What the functions beneath the calls promise: how the outcome of a work on a head and columns is told. These are inner: a reader may
-- stop at Calls.antt and Theorems.antt.
use Rattle.std.specs.Prelude.{ℕ, ◌≡◌, ◌≤◌, ◌<◌, ◌⊎◌, List, length, Result, Ok, Err}
use Rattle.higman.specs.Buffers.{written}
use Rattle.desk.specs.Replies.{Outcome, pass, Effect}
use Rattle.desk.specs.Bytes.{reply_bytes}
use Rattle.operations.specs.declared.refusals.Refusal.TheVariants.{BufferTooShort}
use Rattle.slots.specs.declared.Head.{Head}
use Rattle.slots.specs.declared.Reply.{Reply}
use Rattle.slots.specs.declared.Reply.TheVariants as The
use Rattle.slots.specs.declared.Refused.{Refused}
use Rattle.slots.specs.Desks.{desk_of, HoldsDesk}
use Rattle.slots.specs.Refused.{refused_for, outcome_of}
use Rattle.slots.specs.Works.{Work, DoneBy}
use Rattle.lines.specs.declared.Stepped.{Stepped}
use Rattle.desk_c.specs.declared.Job.{Job}
use Rattle.desk_c.specs.Calls.{job_work}

-- what comes of an operation is held by a head and columns, and its reply is written, for which the caller has room
pub record Replied (o : Outcome Effect) (room : ℕ) (out : List ℕ) (s : Stepped) (columns' out' : List ℕ) : Type 0 where
  pub effect : Effect
  pub passed : o ≡ pass effect
  pub holds : HoldsDesk s.head columns'
  pub desk : desk_of s.head columns' ≡ effect.0
  pub size : s.used ≡ length (reply_bytes effect.1)
  pub fits : s.used ≤ room
  pub output : out' ≡ written out 0 (reply_bytes effect.1)

-- it is refused, or for want of room
abbrev pub NotReplied : Outcome Effect → ℕ → Refused → Type 0
NotReplied o room f =
    (o ≡ outcome_of (Err f)) ⊎ ((e : Effect) × (o ≡ pass e) × (room < length (reply_bytes e.1)) × (f ≡ refused_for BufferTooShort))

-- what a line leaves on a lent head
abbrev pub stepped : Head → Result ℕ Refused → Result Stepped Refused
stepped h (Ok n) = Ok (record { head = h; used = n })
stepped h (Err f) = Err f

abbrev pub RepliedTo : Outcome Effect → ℕ → List ℕ → Result Stepped Refused → List ℕ → List ℕ → Type 0
RepliedTo o room out (Ok s) columns' out' = Replied o room out s columns' out'
RepliedTo o room out (Err f) columns' out' = NotReplied o room f

-- a record without text is done
abbrev pub JobDone : Job → Head → List ℕ → Result Work Refused → List ℕ → Type 0
JobDone j h columns w columns' = (out : List ℕ) → DoneBy (desk_of h columns) (job_work j (desk_of h columns)) out h w columns' out

-- the number that a reply has
abbrev pub value_of : Reply → ℕ
value_of The.Silent = 0
value_of The.Ok = 0
value_of (The.Number k) = k
value_of (The.Written n) = 0
