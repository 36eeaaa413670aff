-- A line answered: what the functions from a line to its reply ask for and promise.
use Rattle.std.specs.Prelude.{ℕ, ◌≡◌, List, None, Result}
use Rattle.higman.specs.Text.{Bytes}
use Rattle.words.specs.Writing.{Wrote}
use Rattle.higman.specs.Buffers.{written}
use Rattle.desk.specs.Desk.{Desk}
use Rattle.desk.specs.Replies.{Reply as ReplyOf, ◌>>=◌, Effect, operation, line_operation, respond_line}
use Rattle.desk.specs.Bytes.{reply_bytes}
use Rattle.records.specs.declared.Record.{Record}
use Rattle.records.specs.Reading.{meant, InBounds}
use Rattle.asking.specs.Asked.{Asked}
use Rattle.slots.specs.declared.Head.{Head}
use Rattle.slots.specs.declared.Reply.{Reply}
use Rattle.slots.specs.declared.Refused.{Refused}
use Rattle.slots.specs.Desks.{desk_of, HoldsDesk}
use Rattle.slots.specs.Refused.{outcome_of}
use Rattle.slots.specs.Works.{Work, work_of, direct, told, DoneBy}
use Rattle.lines.specs.declared.Stepped.{Stepped}

-- a desk, room for any reply, and a record that was read of a line
pub record Working (h : Head) (columns : List ℕ) (line : Bytes) (r : Record) (out : List ℕ) : Type 0 where
  pub asked : Asked h columns out
  pub bounds : InBounds line r

-- what is meant by a record that was read of a line is done
abbrev pub LineDone : Head → List ℕ → Bytes → Record → List ℕ → Result Work Refused → List ℕ → List ℕ → Type 0
LineDone h columns line r out w columns' out' =
    let d = desk_of h columns in DoneBy d (meant line r >>= operation d) out h w columns' out'

-- .. and of a line, which is refused where it is no record
abbrev pub LineWorked : Head → List ℕ → Bytes → List ℕ → Result Work Refused → List ℕ → List ℕ → Type 0
LineWorked h columns line out w columns' out' =
    let d = desk_of h columns in DoneBy d (line_operation d line) out h w columns' out'

-- "Any refusal drops an open plan and changes nothing else."
abbrev pub dropped_head : Head → Head
dropped_head h = record { sizes = h.sizes; draft = None; control = h.control }

-- An effect carried out: the head and columns hold the desk after it, and its reply stands at the front of the output.
pub record Answered (e : Effect) (out : List ℕ) (s : Stepped) (columns' out' : List ℕ) : Type 0 where
  pub holds : HoldsDesk s.head columns'
  pub desk : desk_of s.head columns' ≡ e.0
  pub wrote : Wrote (reply_bytes e.1) out 0 out' s.used

-- what tells a reply is settled: the reply stands at the front of the output, of which a part may have stood there already
abbrev pub SettledBy : Result Reply Refused → List ℕ → ℕ → List ℕ → Type 0
SettledBy p out used out' =
    (q : ReplyOf) (out₀ : List ℕ) → outcome_of p ≡ told q → out ≡ written out₀ 0 (direct q) → Wrote (reply_bytes q) out₀ 0 out' used

-- and what comes of the work of a line is the answer to it
abbrev pub AnswersWork : Head → Result Reply Refused → List ℕ → Stepped → List ℕ → Type 0
AnswersWork h p out s out' =
    (d : Desk) (line : Bytes) (out₀ columns' : List ℕ) → DoneBy d (line_operation d line) out₀ h (work_of h p) columns' out
    → Answered (respond_line d line) out₀ s columns' out'
