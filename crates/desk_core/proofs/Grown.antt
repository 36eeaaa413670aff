-- The beginning of a line that grows by a run of bytes: what is held of it still answers for the whole of it.
use Prim.Native.Nat.{ℕ, ◌+◌, ◌≤◌, ◌<◌}
use mathlib.Core.Path.{◌≡◌, refl, sym, ◌∙◌, ap, subst}
use mathlib.Core.Bool.{Bool, true, false}
use mathlib.Core.Option.{none, some}
use mathlib.Core.List.{List, [], ◌++◌, append_assoc}
use native.Mathlib.Omega.{arith}
use borrow.Author.Tests.{le-leb, lt-leb, leb-true, leb-false}
use lib.Dec.{leb}
use lib.ListN.{length, take, drop, length-append}
use lib.Seq.{length-take-le, take_at}
use Rattle.higman.specs.Text.{Bytes}
use Rattle.higman.specs.Buffers.{written}
use Rattle.higman.specs.Refusals.{no_record}
use Rattle.slots.specs.declared.Head.{Head}
use Rattle.slots.specs.Desks.{desk_of, HoldsDesk}
use Rattle.std.specs.Prelude.{Err}
use Rattle.operations.specs.declared.refusals.Refusal.TheVariants as The
use Rattle.slots.specs.declared.Refused.{Refused}
use Rattle.slots.specs.Refused.{refused_for}
use Rattle.slots.specs.Works.{DoneBy}
use Rattle.slots.proofs.Steps.{done_refusal}
use Rattle.desk.specs.Limits.{max_line}
use Rattle.desk.specs.Desk.{Desk}
use Rattle.desk.specs.Records.{parse}
use Rattle.desk.specs.Replies.{◌>>=◌, refuse, pass, settle, operation, line_operation, respond_line}
use Rattle.desk.specs.Session.{State, effect_of}
use Rattle.desk.proofs.Session.{Begun, kept, lost, begun_effect, long_line, long_length}
use Rattle.desk_core.specs.Feeding.{begun_at, grown_line}

abbrev at_line : Desk → Bytes × Bool → State
at_line d g = record { desk = d; line = g.0; overlong = g.1 }

pub begun_grows : {d : Desk} {s : State} {l : Bytes} → Begun d s l → (part : Bytes) → Begun d (at_line d (grown_line s.line s.overlong part)) (l ++ part)
begun_grows {d} (lost l h) part = lost (l ++ part) (omega (arith, length-append l part))
begun_grows {d} (kept l h) part = by (leb (length l + length part) max_line) refl
  where
    by : (b : Bool) → leb (length l + length part) max_line ≡ b
        → Begun d (at_line d (elim b [ true ↦ (l ++ part, false) | false ↦ ([], true) ])) (l ++ part)
    by true e = kept (l ++ part) (omega (arith, length-append l part, leb-true (length l + length part) max_line e))
    by false e = lost (l ++ part) (omega (arith, length-append l part, leb-false (length l + length part) max_line e))

-- what is held of a line answers for some line
pub some_line : (d : Desk) (l : Bytes) (o : Bool) → length l ≤ max_line → (o ≡ true → l ≡ []) → (x : Bytes) × Begun d (record { desk = d; line = l; overlong = o }) x
some_line d l false h e = (l, kept l h)
some_line d l true h e =
    (long_line, subst (λ x. Begun d (record { desk = d; line = x; overlong = true }) long_line) (sym (e refl)) (lost long_line long_length))

-- a line that lies whole in the input is answered where it lies
pub grown_whole : (d : Desk) (part : Bytes) → effect_of (at_line d (grown_line [] false part)) ≡ respond_line d part
grown_whole d part = begun_effect (begun_grows {d = d} (kept [] (omega arith)) part)

-- the bytes of a line in its place, and those copied behind them
pub copied : (line : List ℕ) (begun : ℕ) (part : List ℕ) → begun + length part ≤ length line
    → take (begun + length part) (written line begun part) ≡ take begun line ++ part
copied line begun part h =
    let front = take begun line ++ part in
    let size : length front ≡ begun + length part = length-append (take begun line) part ∙ ap (λ n. n + length part) (length-take-le begun line (omega arith)) in
    ap (take (begun + length part)) (sym (append_assoc (take begun line) part (drop (begun + length part) line)))
    ∙ take_at front (drop (begun + length part) line) (begun + length part) size

module _ (l part : Bytes) where
  pub grown_fits : length l + length part ≤ max_line → (l ++ part, false) ≡ grown_line l false part
  grown_fits h = ap (λ b. elim b [ true ↦ (l ++ part, false) | false ↦ ([], true) ]) (sym (le-leb (length l + length part) max_line h))

  pub grown_over : max_line < length l + length part → ([], true) ≡ grown_line l false part
  grown_over h = ap (λ b. elim b [ true ↦ (l ++ part, false) | false ↦ ([], true) ]) (sym (lt-leb (length l + length part) max_line h))

pub line_limit : max_line ≡ 1100
unfolding max_line
line_limit = refl

-- such a line is refused
long_operation : (d : Desk) → line_operation d long_line ≡ refuse no_record none
unfolding line_operation ◌>>=◌
long_operation d =
    ap (λ b. elim b [ false ↦ refuse no_record none | true ↦ elim (parse long_line) [ none ↦ refuse no_record none | some r ↦ pass r ] ] >>= operation d)
    (lt-leb (length long_line) max_line long_length)

module _ (h : Head) (columns : List ℕ) where
  pub long_done : HoldsDesk h columns → (out : List ℕ) (f : Refused) → f ≡ refused_for The.NoRecord
      → DoneBy (desk_of h columns) (line_operation (desk_of h columns) long_line) out h (Err f) columns out
  long_done H out f e =
      done_refusal h columns H (line_operation (desk_of h columns) long_line) (refused_for The.NoRecord) (long_operation (desk_of h columns)) out
      (Err f) (ap Err e)

  pub long_effect : (line : Bytes) (o : Bool) → o ≡ true → effect_of (begun_at h columns line o) ≡ respond_line (desk_of h columns) long_line
  unfolding respond_line
  long_effect line o e =
      let d = desk_of h columns in
      ap (λ b. effect_of (begun_at h columns line b)) e ∙ sym (ap (settle d) (long_operation d))

  pub short_effect : (line : Bytes) (o : Bool) → o ≡ false → effect_of (begun_at h columns line o) ≡ respond_line (desk_of h columns) line
  short_effect line o e = ap (λ b. effect_of (begun_at h columns line b)) e
