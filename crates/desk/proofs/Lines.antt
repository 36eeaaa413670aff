-- A line that is the text of a record does what the record does, unless it is too long; any other line is no record.
use Prim.Native.Nat.{◌≤◌, ◌<◌}
use native.Mathlib.Omega.{arith}
use mathlib.Core.Path.{◌≡◌, refl, sym, ◌∙◌, ap}
use mathlib.Core.Logic.{◌⊎◌, inl, inr}
use mathlib.Core.Bool.{true, false}
use mathlib.Core.Option.{Option, none, some, none-ne-some}
use lib.Dec.{T, leb, le→leb}
use lib.ListN.{length}
use borrow.Author.Tests.{lt-leb, leb-true, leb-false}
use Rattle.higman.specs.Text.{Bytes}
use Rattle.higman.specs.Refusals.{no_record}
use Rattle.higman.proofs.Tests.{passes, so}
use Rattle.desk.specs.Limits.{max_line}
use Rattle.desk.specs.Desk.{Desk, dropped}
use Rattle.desk.specs.Records.{Record, parse, record_text, well_formed}
use Rattle.desk.specs.Replies.{refuse, pass, ◌>>=◌, refuses, settle, operation, record_of, line_operation, respond_line}
use Rattle.desk.specs.Grammar.{NoRecord}
use Rattle.desk.proofs.Grammar.{parse_text, text_of_parse}

pub respond_record : (d : Desk) (line : Bytes) (r : Record) → length line ≤ max_line → parse line ≡ some r
    → respond_line d line ≡ settle d (operation d r)
unfolding ◌>>=◌ respond_line line_operation
respond_record d line r h e = ap (λ o. settle d (o >>= operation d)) whole
  where
    whole : record_of line ≡ pass r
    whole = rw (so (leb (length line) max_line) (le→leb (length line) max_line h), record_of, e)

pub respond_text : (d : Desk) (r : Record) → T (well_formed r) → length (record_text r) ≤ max_line
    → respond_line d (record_text r) ≡ settle d (operation d r)
respond_text d r w h = respond_record d (record_text r) r h (parse_text r w)

-- "a longer one, up to its byte 10, is one refusal"
pub respond_overlong : (d : Desk) (line : Bytes) → max_line < length line → respond_line d line ≡ (dropped d, refuses no_record none)
unfolding ◌>>=◌ respond_line line_operation
respond_overlong d line h = ap (λ o. settle d (o >>= operation d)) none_read
  where
    none_read : record_of line ≡ refuse no_record none
    none_read = rw (lt-leb (length line) max_line h, record_of)

-- a line is no record, or the text of one
pub record Read (line : Bytes) : Type 0 where
  pub typed : Record
  pub well_formed_lem : T (well_formed typed)
  pub text : line ≡ record_text typed
  pub short : length line ≤ max_line
  pub read : record_of line ≡ pass typed

pub read_or_not : (line : Bytes) → (NoRecord line × (record_of line ≡ refuse no_record none)) ⊎ Read line
read_or_not line = by_length (passes (leb (length line) max_line))
  where
    by_parse : leb (length line) max_line ≡ true → (o : Option Record) → parse line ≡ o
        → (NoRecord line × (record_of line ≡ refuse no_record none)) ⊎ Read line
    by_parse h none e =
        inl (inr (λ r w t. none-ne-some r (sym e ∙ ap parse t ∙ parse_text r w)), rw (h, record_of, e))
    by_parse h (some r) e =
        let (w, t) = text_of_parse line r e in
        inr (record { typed = r; well_formed_lem = w; text = t; short = leb-true (length line) max_line h; read = rw (h, record_of, e) })

    by_length : (leb (length line) max_line ≡ true) ⊎ (leb (length line) max_line ≡ false)
        → (NoRecord line × (record_of line ≡ refuse no_record none)) ⊎ Read line
    by_length (inl h) = by_parse h (parse line) refl
    by_length (inr h) = inl (inl (leb-false (length line) max_line h), rw (h, record_of))

-- a line that is no record is read as none
pub not_read : (line : Bytes) → NoRecord line → record_of line ≡ refuse no_record none
not_read line h = by_reading (read_or_not line) h
  where
    by_reading : (NoRecord line × (record_of line ≡ refuse no_record none)) ⊎ Read line → NoRecord line → record_of line ≡ refuse no_record none
    by_reading (inl (g, e)) h = e
    by_reading (inr r) (inl long) = let short : length line ≤ max_line = r.short in absurd (omega arith)
    by_reading (inr r) (inr other) = absurd (other r.typed r.well_formed_lem r.text)

pub line_of_record : (d : Desk) (r : Record) → T (well_formed r) → length (record_text r) ≤ max_line → line_operation d (record_text r)
    ≡ operation d r
unfolding ◌>>=◌ line_operation
line_of_record d r w h = ap (λ o. o >>= operation d) whole
  where
    whole : record_of (record_text r) ≡ pass r
    whole = rw (so (leb (length (record_text r)) max_line) (le→leb (length (record_text r)) max_line h), record_of, parse_text r w)
