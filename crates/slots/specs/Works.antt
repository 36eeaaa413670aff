-- What a record does to a head and its columns, and its reply: `operation` of desk's Replies.antt, through the desk that they hold. The
-- reply is told by a value, and written later, but for an image, a block, a listing and a survey, which are written where they are found.
use Rattle.std.specs.Prelude.{ℕ, ◌≡◌, refl, Bool, List, [], ◌∷◌, ◌++◌, map, length, Result, Ok, Err}
use Rattle.std.proofs.Math.Option.{none, some}
use Rattle.higman.specs.Words.{spell}
use Rattle.higman.specs.Text.{Bytes, bytes}
use Rattle.higman.specs.Refusals.{Letter}
use Rattle.higman.specs.Buffers.{written}
use Rattle.desk.specs.Desk.{Desk}
use Rattle.desk.specs.Records.{Record, SlotUse, reading, writing, kind, of_slots}
use Rattle.desk.specs.Replies.{Reply as ReplyOf, silent, ok, ok_number, ok_image, ok_block, lists, surveys, refuses}
use Rattle.desk.specs.Replies.{Outcome, refuse, pass, Effect}
use Rattle.desk.specs.Replies.{admission, operation}
use Rattle.desk.specs.Bytes.{reply_bytes}
use Rattle.slots.specs.declared.Head.{Head}
use Rattle.slots.specs.declared.Reply.{Reply}
use Rattle.slots.specs.declared.Reply.TheVariants as The
use Rattle.slots.specs.declared.Refused.{Refused}
use Rattle.slots.specs.Desks.{desk_of, HoldsDesk}
use Rattle.slots.specs.Refused.{outcome_of}

-- the bytes of a reply that a work writes itself
abbrev pub direct : ReplyOf → Bytes
direct silent = []
direct ok = []
direct (ok_number n) = []
direct (ok_image w k) = reply_bytes (ok_image w k)
direct (ok_block ls) = reply_bytes (ok_block ls)
direct (lists slot p) = reply_bytes (lists slot p)
direct (surveys hs) = reply_bytes (surveys hs)
direct (refuses n c) = []

-- the value by which a reply is told, unless it refuses
abbrev pub told : ReplyOf → Outcome Reply
told silent = pass The.Silent
told ok = pass The.Ok
told (ok_number n) = pass (The.Number n)
told (ok_image w k) = pass (The.Written (length (direct (ok_image w k))))
told (ok_block ls) = pass (The.Written (length (direct (ok_block ls))))
told (lists slot p) = pass (The.Written (length (direct (lists slot p))))
told (surveys hs) = pass (The.Written (length (direct (surveys hs))))
told (refuses n c) = refuse n c

-- what comes of an operation before a refusal has dropped the open plan
abbrev pub desk_after : Desk → Outcome Effect → Desk
desk_after d (refuse n c) = d
desk_after d (pass e) = e.0

abbrev pub reply_to : Outcome Effect → ReplyOf
reply_to (refuse n c) = refuses n c
reply_to (pass e) = e.1

-- what comes of a record that is done: the head, and the reply
pub record Work : Type 0 where
  pub head : Head
  pub reply : Reply

-- and of one that was worked on a lent head: the head that is left, and the reply, or the refusal
abbrev pub work_of : Head → Result Reply Refused → Result Work Refused
work_of h (Ok p) = Ok (record { head = h; reply = p })
work_of h (Err f) = Err f

-- the head after a record, which a refusal leaves as it was, and the reply
abbrev pub head_after : Head → Result Work Refused → Head
head_after h (Ok w) = w.head
head_after h (Err f) = h

abbrev pub reply_in : Result Work Refused → Result Reply Refused
reply_in (Ok w) = Ok w.reply
reply_in (Err f) = Err f

-- A work well done: what comes of an operation on a desk is held by the head and columns that it leaves, told by its reply and, where the
-- reply is written at once, at the front of the output.
pub record DoneBy (d : Desk) (o : Outcome Effect) (out : List ℕ) (h : Head) (w : Result Work Refused) (columns' out' : List ℕ)
    : Type 0 where
  pub holds : HoldsDesk (head_after h w) columns'
  pub desk : desk_of (head_after h w) columns' ≡ desk_after d o
  pub reply : outcome_of (reply_in w) ≡ told (reply_to o)
  pub output : out' ≡ written out 0 (direct (reply_to o))

-- the same for a record on the desk that a head and its columns hold
abbrev pub Done : Record → Head → List ℕ → List ℕ → Result Work Refused → List ℕ → List ℕ → Type 0
Done r h columns out w columns' out' = DoneBy (desk_of h columns) (operation (desk_of h columns) r) out h w columns' out'

-- a work that only the head is needed for: it is well done whatever the columns are, and leaves them and the output as they are
abbrev pub DoneByHead : Record → Head → Result Work Refused → Type 0
DoneByHead r h w = (columns out : List ℕ) → HoldsDesk h columns → Done r h columns out w columns out

-- a work that writes no output
abbrev pub DoneSilently : Record → Head → List ℕ → Result Work Refused → List ℕ → Type 0
DoneSilently r h columns w columns' = (out : List ℕ) → Done r h columns out w columns' out

-- A question well answered: what comes of an operation on a desk leaves the desk as it is, and is told by a reply and, where that is
-- written at once, at the front of the output.
pub record ToldBy (d : Desk) (o : Outcome Effect) (out : List ℕ) (p : Result Reply Refused) (out' : List ℕ) : Type 0 where
  pub desk : desk_after d o ≡ d
  pub reply : outcome_of p ≡ told (reply_to o)
  pub output : out' ≡ written out 0 (direct (reply_to o))

-- the same for a record on the desk that a head and its columns hold
abbrev pub Tells : Record → Head → List ℕ → List ℕ → Result Reply Refused → List ℕ → Type 0
Tells r h columns out reply out' = ToldBy (desk_of h columns) (operation (desk_of h columns) r) out reply out'

-- a reply that writes no output
abbrev pub TellsSilently : Record → Head → List ℕ → Result Reply Refused → Type 0
TellsSilently r h columns reply = (out : List ℕ) → Tells r h columns out reply out

-- and one that only the head is needed for
abbrev pub TellsByHead : Record → Head → Result Reply Refused → Type 0
TellsByHead r h reply = (columns : List ℕ) → TellsSilently r h columns reply

-- the slots that a record reads, and then its targets
abbrev pub uses_of : List ℕ → List ℕ → List SlotUse
uses_of reads targets = map reading reads ++ map writing targets

-- a head of some desk in code, whatever its columns are
abbrev pub HeadOfDesk : Head → Type 0
HeadOfDesk h = (columns : List ℕ) × HoldsDesk h columns

-- what a head says to every record of these slots, whatever the columns are
abbrev pub AdmittedAs : Head → List ℕ → List ℕ → Result (Unit {0}) Refused → Type 0
AdmittedAs h reads targets admitted =
    (r : Record) (change : Bool) (columns : List ℕ) → kind r ≡ of_slots (uses_of reads targets) change
    → admission (desk_of h columns) r ≡ outcome_of admitted

-- a reply by its form; "ok⇥12⇥1" and byte 10 are eight bytes
told_example : map told (silent ∷ ok_number 3 ∷ ok_image (spell 12) 1 ∷ refuses 9 none ∷ refuses 7 (some Letter.T) ∷ [])
    ≡ pass The.Silent ∷ pass (The.Number 3) ∷ pass (The.Written 8) ∷ refuse 9 none ∷ refuse 7 (some Letter.T) ∷ []
unfolding reply_bytes
told_example = refl

direct_example : map direct (ok_number 3 ∷ ok_image (spell 12) 1 ∷ []) ≡ [] ∷ bytes "ok\t12\t1\n" ∷ []
unfolding reply_bytes
direct_example = refl
