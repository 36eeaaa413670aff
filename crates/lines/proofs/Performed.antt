-- The work of a line: what was read of it means a record, and the record is done.
use Prim.Native.Nat.{ℕ, ◌<◌}
use mathlib.Core.Path.{◌≡◌, sym, ◌∙◌, ap, subst}
use mathlib.Core.List.{List}
use native.Mathlib.Omega.{arith}
use lib.IntN.{ℤ, pos, negsuc, nat_abs}
use mir.Syntax.{w32}
use mir.Val.{SFits}
use Rattle.std.specs.Prelude.{Some, None, IfSome, Result}
use Rattle.higman.specs.Text.{Bytes}
use Rattle.desk.specs.Records.{Record as DeskRecord}
use Rattle.desk.specs.Desk.{Desk}
use Rattle.desk.specs.Replies.{◌>>=◌, Outcome, pass, operation, line_operation}
use Rattle.records.specs.declared.Record.{Record}
use Rattle.records.specs.Reading.{read_line, meant, meant_by, InBounds}
use Rattle.records.proofs.Reading.{read_exact}
use Rattle.operations.specs.declared.refusals.Refusal.TheVariants as The
use Rattle.slots.specs.declared.Head.{Head}
use Rattle.slots.specs.declared.Reply.{Reply}
use Rattle.slots.specs.declared.Refused.{Refused}
use Rattle.slots.specs.Desks.{desk_of, HoldsDesk}
use Rattle.slots.specs.Refused.{refused_for, refusing}
use Rattle.slots.specs.Works.{Work, work_of, DoneBy, Done, Tells}
use Rattle.slots.proofs.Steps.{done_refusal, done_told}
use Rattle.lines.specs.Lines.{LineDone, LineWorked}

module _ (h : Head) (columns : List ℕ) (line : Bytes) (r : Record) (out : List ℕ) (w : Result Work Refused) (columns' out' : List ℕ) where
  pub line_meant : (x : Record) (m : Outcome DeskRecord) → r ≡ x → meant line x ≡ m
      → DoneBy (desk_of h columns) (m >>= operation (desk_of h columns)) out h w columns' out'
      → LineDone h columns line r out w columns' out'
  line_meant x m e q k =
      let d = desk_of h columns in
      subst (λ (z : Outcome DeskRecord). DoneBy d (z >>= operation d) out h w columns' out') (sym (ap (meant line) e ∙ q)) k

  pub line_done : (x : Record) (m : DeskRecord) → r ≡ x → meant line x ≡ pass m → Done m h columns out w columns' out'
      → LineDone h columns line r out w columns' out'
  unfolding ◌>>=◌
  line_done x m e q k = line_meant x (pass m) e q k

-- one that asks leaves the head and the columns as they are
pub line_told : (h : Head) (columns : List ℕ) → HoldsDesk h columns → (line : Bytes) (r : Record) (out : List ℕ) (p : Result Reply Refused)
    (out' : List ℕ) (w : Result Work Refused) → w ≡ work_of h p → (x : Record) (m : DeskRecord) → r ≡ x → meant line x ≡ pass m
    → Tells m h columns out p out' → LineDone h columns line r out w columns out'
line_told h columns H line r out p out' w u x m e q t =
    line_done h columns line r out w columns out' x m e q (done_told h columns H (operation (desk_of h columns) m) out p out' t w u)

-- a line, by what is read of it
module _ (h : Head) (columns : List ℕ) (line : Bytes) (out : List ℕ) (w : Result Work Refused) where
  abbrev d : Desk
  d = desk_of h columns

  pub no_line : HoldsDesk h columns → read_line line ≡ None → w ≡ refusing The.NoRecord → LineWorked h columns line out w columns out
  unfolding line_operation ◌>>=◌
  no_line H e q =
      let meaning = sym (read_exact.means line) ∙ ap (meant_by line) e in
      done_refusal h columns H (line_operation d line) (refused_for The.NoRecord) (ap (λ m. m >>= operation d) meaning) out w q

  pub line_worked : (r : Record) → read_line line ≡ Some r → (columns' out' : List ℕ) → LineDone h columns line r out w columns' out'
      → LineWorked h columns line out w columns' out'
  unfolding line_operation
  line_worked r e columns' out' k =
      let meaning = sym (ap (meant_by line) e) ∙ read_exact.means line in
      subst (λ (m : Outcome DeskRecord). DoneBy d (m >>= operation d) out h w columns' out') meaning k

pub line_bounds : (line : Bytes) (r : Record) → read_line line ≡ Some r → InBounds line r
line_bounds line r e = subst (λ o. IfSome o (InBounds line)) e (read_exact.in_bounds line)

-- a number of few digits fits into 32 bits with its sign
pub small_fits : (k : ℤ) → nat_abs k < 10_000 → SFits w32 k
small_fits (pos n) h = record { sfits = omega arith }
small_fits (negsuc n) h = record { sfits = omega arith }
