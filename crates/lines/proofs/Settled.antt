-- A reply is settled by the value that tells it: what the reply is, what is written of it, and what becomes of the desk of a work.
use Prim.Native.Nat.{ℕ}
use mathlib.Core.Path.{◌≡◌, refl, sym, ◌∙◌, ap, subst, subst₂}
use mathlib.Core.List.{List, [], ◌∷◌}
use mathlib.Core.Option.{Option, none, some}
use Rattle.std.specs.Prelude.{Result, Ok, Err, OnErr}
use native.Mathlib.Omega.{arith}
use lib.ListN.{length}
use Rattle.higman.specs.Text.{Bytes, decimal}
use Rattle.higman.specs.Refusals.{Letter, letter_byte}
use Rattle.higman.specs.Buffers.{written}
use Rattle.words.specs.Writing.{Wrote}
use Rattle.desk.specs.Desk.{Desk, IsDesk, dropped}
use Rattle.desk.specs.Replies.{Reply, silent, ok, ok_number, ok_image, ok_block, lists, surveys, refuses, Outcome, refuse, pass, Effect}
use Rattle.desk.specs.Replies.{settle}
use Rattle.desk.specs.Replies.{line_operation, respond_line}
use Rattle.desk.specs.Bytes.{ok_line, no_line, reply_bytes}
use Rattle.desk.proofs.Outcomes.{Passes, passes, NoRefusal, Answered as Replied, line_answers}
use Rattle.desk.proofs.Stays.{dropped_desk}
use Rattle.slots.specs.declared.Head.{Head}
use Rattle.operations.specs.declared.Column.{Column}
use Rattle.operations.specs.declared.Column.TheVariants as Named
use Rattle.operations.specs.Closing.{letter_of as byte_of}
use Rattle.operations.specs.Refusals.{number_of}
use Rattle.slots.specs.declared.Reply.{Reply as Told}
use Rattle.slots.specs.declared.Reply.TheVariants as The
use Rattle.slots.specs.declared.Refused.{Refused}
use Rattle.slots.specs.Blocks.{value_at}
use Rattle.slots.specs.Desks.{desk_of, HoldsDesk}
use Rattle.slots.specs.Works.{Work, work_of, direct, told, desk_after, reply_to, DoneBy}
use Rattle.slots.specs.Refused.{letter, letter_of, outcome_of}
use Rattle.lines.specs.Lines.{dropped_head, SettledBy, Answered}

-- the open plan dropped
pub dropped_is : (h : Head) (columns : List ℕ) → desk_of (dropped_head h) columns ≡ dropped (desk_of h columns)
unfolding desk_of dropped value_at
dropped_is h columns = refl

pub holds_dropped : (h : Head) (columns : List ℕ) → HoldsDesk h columns → HoldsDesk (dropped_head h) columns
unfolding value_at
holds_dropped h columns H =
    record {
      sized = H.sized;
      headed = H.headed;
      is_desk_lem = subst IsDesk (sym (dropped_is h columns)) (dropped_desk (desk_of h columns) H.is_desk_lem);
      in_tables = H.in_tables;
      few = H.few;
    }

-- the reply that is told
told_silent : (p : Reply) → told p ≡ pass The.Silent → p ≡ silent
told_silent silent e = refl
told_silent ok e = cc
told_silent (ok_number k) e = cc
told_silent (ok_image v place) e = cc
told_silent (ok_block ls) e = cc
told_silent (lists b p) e = cc
told_silent (surveys hs) e = cc
told_silent (refuses k c) e = cc

told_ok : (p : Reply) → told p ≡ pass The.Ok → p ≡ ok
told_ok silent e = cc
told_ok ok e = refl
told_ok (ok_number k) e = cc
told_ok (ok_image v place) e = cc
told_ok (ok_block ls) e = cc
told_ok (lists b p) e = cc
told_ok (surveys hs) e = cc
told_ok (refuses k c) e = cc

told_number : (p : Reply) (n : ℕ) → told p ≡ pass (The.Number n) → p ≡ ok_number n
told_number silent n e = cc
told_number ok n e = cc
told_number (ok_number k) n e = cc
told_number (ok_image v place) n e = cc
told_number (ok_block ls) n e = cc
told_number (lists b p) n e = cc
told_number (surveys hs) n e = cc
told_number (refuses k c) n e = cc

pub told_refused : (p : Reply) (n : ℕ) (c : Option Letter) → told p ≡ refuse n c → p ≡ refuses n c
told_refused silent n c e = cc
told_refused ok n c e = cc
told_refused (ok_number k) n c e = cc
told_refused (ok_image v place) n c e = cc
told_refused (ok_block ls) n c e = cc
told_refused (lists b p) n c e = cc
told_refused (surveys hs) n c e = cc
told_refused (refuses k l) n c e = cc

-- a reply that stands in the output already
pub record Standing (p : Reply) (n : ℕ) : Type 0 where
  pub size : n ≡ length (direct p)
  pub whole : direct p ≡ reply_bytes p

told_written : (p : Reply) (n : ℕ) → told p ≡ pass (The.Written n) → Standing p n
told_written silent n e = cc
told_written ok n e = cc
told_written (ok_number k) n e = cc
told_written (ok_image v place) n e = record { size = cc; whole = refl }
told_written (ok_block ls) n e = record { size = cc; whole = refl }
told_written (lists b p) n e = record { size = cc; whole = refl }
told_written (surveys hs) n e = record { size = cc; whole = refl }
told_written (refuses k c) n e = cc

-- the byte that names a column is its letter's
pub column_byte : (c : Column) → byte_of c ≡ letter_byte (letter c)
column_byte Named.From = refl
column_byte Named.To = refl

-- what is written of a reply, by what tells it
module _ (q : Reply) (out₀ out : List ℕ) (o : out ≡ written out₀ 0 (direct q)) where
  -- where nothing was written yet
  untouched : direct q ≡ [] → out ≡ out₀
  untouched e = o ∙ ap (written out₀ 0) e

  all_written : (p : Reply) → q ≡ p → direct p ≡ [] → (out' : List ℕ) (n : ℕ) → Wrote (reply_bytes p) out 0 out' n
      → Wrote (reply_bytes q) out₀ 0 out' n
  all_written p e f out' n w = subst₂ (λ x y. Wrote (reply_bytes x) y 0 out' n) (sym e) (untouched (ap direct e ∙ f)) w

  pub wrote_silent : pass The.Silent ≡ told q → Wrote (reply_bytes q) out₀ 0 out 0
  unfolding reply_bytes
  wrote_silent t = all_written silent (told_silent q (sym t)) refl out 0 (record { place = refl; contents = refl })

  pub wrote_standing : (n : ℕ) → pass (The.Written n) ≡ told q → Wrote (reply_bytes q) out₀ 0 out n
  wrote_standing n t =
      let s = told_written q n (sym t) in
      subst (λ b. Wrote b out₀ 0 out n) s.whole (record { place = s.size ∙ omega arith; contents = o })

  module _ (out' : List ℕ) (n : ℕ) where
    pub wrote_ok : pass The.Ok ≡ told q → Wrote (ok_line []) out 0 out' n → Wrote (reply_bytes q) out₀ 0 out' n
    unfolding reply_bytes
    wrote_ok t w = all_written ok (told_ok q (sym t)) refl out' n w

    pub wrote_number : (m : ℕ) → pass (The.Number m) ≡ told q → Wrote (ok_line (decimal m ∷ [])) out 0 out' n
        → Wrote (reply_bytes q) out₀ 0 out' n
    unfolding reply_bytes
    wrote_number m t w = all_written (ok_number m) (told_number q m (sym t)) refl out' n w

    pub wrote_refusal : (m : ℕ) → refuse m none ≡ told q → Wrote (no_line (decimal m ∷ [])) out 0 out' n
        → Wrote (reply_bytes q) out₀ 0 out' n
    unfolding reply_bytes
    wrote_refusal m t w = all_written (refuses m none) (told_refused q m none (sym t)) refl out' n w

    pub wrote_column : (m b : ℕ) (c : Letter) → b ≡ letter_byte c → refuse m (some c) ≡ told q
        → Wrote (no_line (decimal m ∷ (b ∷ []) ∷ [])) out 0 out' n → Wrote (reply_bytes q) out₀ 0 out' n
    unfolding reply_bytes
    wrote_column m b c e t w =
        all_written (refuses m (some c)) (told_refused q m (some c) (sym t)) refl out' n
        (subst (λ x. Wrote (no_line (decimal m ∷ (x ∷ []) ∷ [])) out 0 out' n) e w)

-- how an operation is settled, by what tells its reply
pub passes_told : (p : Reply) (n : ℕ) (c : Option Letter) → NoRefusal p → told p ≡ refuse n c → ⊥
passes_told p n c h e = subst NoRefusal (told_refused p n c e) h

module _ (d : Desk) where
  told_passed : (o : Outcome Effect) (p : Told) → pass p ≡ told (reply_to o) → settle d o ≡ (desk_after d o, reply_to o)
  told_passed (refuse n c) p e = cc
  told_passed (pass x) p e = refl

  told_refusal : (o : Outcome Effect) → Passes Replied o → (n : ℕ) (c : Option Letter) → refuse n c ≡ told (reply_to o)
      → settle d o ≡ (dropped (desk_after d o), reply_to o)
  told_refusal (refuse m l) k n c e = refl
  told_refusal (pass x) (passes k) n c e = absurd (passes_told x.1 n c k (sym e))

-- a work that is well done on a lent head is so on the head that is left, since a refusal leaves it as it was
pub done_left : (d : Desk) (o : Outcome Effect) (out : List ℕ) (h h' : Head) (p : Result Told Refused) (columns' out' : List ℕ)
    → OnErr p (h' ≡ h) → DoneBy d o out h (work_of h' p) columns' out' → DoneBy d o out h' (work_of h' p) columns' out'
done_left d o out h h' (Ok q) columns' out' e k = record { holds = k.holds; desk = k.desk; reply = k.reply; output = k.output }
done_left d o out h h' (Err f) columns' out' e k = subst (λ x. DoneBy d o out x (Err f) columns' out') (sym e) k

-- a work that is well done for a line is answered once its reply is settled, and a refusal drops the open plan
module _ (d : Desk) (line : Bytes) (out₀ columns' out out' : List ℕ) (used : ℕ) (h : Head) where
  abbrev o : Outcome Effect
  o = line_operation d line

  answered_as : (x : Desk) → settle d o ≡ (x, reply_to o) → (h' : Head) → HoldsDesk h' columns' → desk_of h' columns' ≡ x
      → (p : Result Told Refused) → SettledBy p out used out' → outcome_of p ≡ told (reply_to o)
      → out ≡ written out₀ 0 (direct (reply_to o))
      → Answered (respond_line d line) out₀ (record { head = h'; used = used }) columns' out'
  unfolding respond_line
  answered_as x e h' H q p s t w =
      subst (λ z. Answered z out₀ (record { head = h'; used = used }) columns' out') (sym e)
      (record { holds = H; desk = q; wrote = s (reply_to o) out₀ t w })

  pub answered_done : (w : Work) → DoneBy d o out₀ h (Ok w) columns' out → SettledBy (Ok w.reply) out used out'
      → Answered (respond_line d line) out₀ (record { head = w.head; used = used }) columns' out'
  answered_done w k s = answered_as (desk_after d o) (told_passed d o w.reply k.reply) w.head k.holds k.desk (Ok w.reply) s k.reply k.output

  pub answered_refused : (f : Refused) → DoneBy d o out₀ h (Err f) columns' out → SettledBy (Err f) out used out' → (h' : Head)
      → h' ≡ dropped_head h → Answered (respond_line d line) out₀ (record { head = h'; used = used }) columns' out'
  answered_refused f k s h' q =
      answered_as (dropped (desk_after d o)) (told_refusal d o (line_answers d line) (number_of f.refusal) (letter_of f.column) k.reply) h'
      (subst (λ x. HoldsDesk x columns') (sym q) (holds_dropped h columns' k.holds))
      (ap (λ x. desk_of x columns') q ∙ dropped_is h columns' ∙ ap dropped k.desk) (Err f) s k.reply k.output
