-- What the records that write their reply themselves, W, L and U, are asked of, and what W with a front and U promise.
use Rattle.std.specs.Prelude.{ℕ, ◌≤◌, ◌≡◌, List, length, Result, MatchResult}
use Rattle.std.proofs.Math.Option.{none}
use Rattle.higman.specs.Text.{Bytes, word_of}
use Rattle.higman.specs.Answers.{routed, TooShort}
use Rattle.higman.specs.Places.{placed_block}
use Rattle.columns.specs.Packed.{table}
use Rattle.operations.specs.declared.lent.Lent.{Lent}
use Rattle.operations.specs.declared.refusals.Refusal.{Refusal}
use Rattle.operations.specs.Refusals.{number_of}
use Rattle.operations.specs.Plans.{lent_plan}
use Rattle.desk.specs.Records.{Record}
use Rattle.desk.specs.Replies.{refuse, pass, plan_in, ok_block}
use Rattle.desk.specs.Bytes.{reply_bytes}
use Rattle.replies.specs.Sizes.{max_reply}
use Rattle.slots.specs.declared.Head.{Head}
use Rattle.slots.specs.declared.Reply.{Reply}
use Rattle.slots.specs.declared.Refused.{Refused}
use Rattle.slots.specs.Desks.{desk_of, HoldsDesk}
use Rattle.slots.specs.Works.{Tells}

-- a desk in code, and an output that has room for every reply
pub record Asked (h : Head) (columns out : List ℕ) : Type 0 where
  pub holds : HoldsDesk h columns
  pub room : max_reply ≤ length out

-- what a slot lends: the plan that a record finds there, or the refusal
abbrev pub LentIn : Head → List ℕ → ℕ → Result Lent Refusal → Type 0
LentIn h columns slot r =
    MatchResult r (λ l. plan_in (desk_of h columns) slot ≡ pass (lent_plan l))
    (λ n. plan_in (desk_of h columns) slot ≡ refuse (number_of n) none)

-- a lent plan, a code that no from-word of it begins, and an output that has room for every reply
pub record AskedOfFront (plan : Lent) (code out : List ℕ) : Type 0 where
  pub short : routed (lent_plan plan) (word_of code) ≡ TooShort
  pub space : max_reply ≤ length out

-- what is then replied: the block of the code (change request E1), with places (change request E7)
abbrev pub block_reply : List ℕ → List ℕ → List ℕ → Bytes
block_reply from to code = reply_bytes (ok_block (placed_block (table from to) (word_of code)))

-- the same of a head, whatever its columns are
abbrev pub AskedByHead : Head → List ℕ → Type 0
AskedByHead h out = (columns : List ℕ) × Asked h columns out

-- a reply that only the head is needed for, and that is written: it is well told whatever the columns are
abbrev pub TellsByHeadInto : Record → Head → List ℕ → Result Reply Refused → List ℕ → Type 0
TellsByHeadInto r h out reply out' = (columns : List ℕ) → HoldsDesk h columns → Tells r h columns out reply out'
