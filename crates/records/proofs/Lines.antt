-- A whole line, by its length and its letter.
use Prim.Native.Nat.{ℕ, ◌≤◌, ◌<◌}
use mathlib.Core.Path.{◌≡◌, refl, sym, ◌∙◌, ap}
use mathlib.Core.Logic.{◌⊎◌, inl, inr}
use mathlib.Core.Bool.{Bool, true, false}
use mathlib.Core.List.{[], ◌∷◌}
use mathlib.Core.Option.{Option, none, some}
use native.Mathlib.Omega.{arith}
use borrow.Author.Tests.{le-leb, lt-leb, eqb-true}
use lib.Dec.{eqb}
use lib.ListN.{length, get_or, drop}
use Rattle.higman.specs.Refusals.{no_record}
use Rattle.higman.specs.Text.{Bytes, tab}
use Rattle.higman.proofs.Tests.{passes}
use Rattle.desk.specs.Limits.{max_line}
use Rattle.desk.specs.Records.{Record, fields, grammar, read_by, read_fields, parse}
use Rattle.desk.specs.Replies.{Outcome, refuse, pass}
use Rattle.std.specs.Prelude.{None}
use Rattle.records.specs.Reading.{placed_by, read_line}
use Rattle.records.specs.Fields.{placed_if, behind, behind_letter}
use Rattle.records.proofs.fields.Behind.{reads_in_front}

-- `MAX_LINE` of the code
pub line_limit : max_line ≡ 1100
unfolding max_line
line_limit = refl

-- A line, by its length: `record_of` of a line that is short enough or not, and of what the grammar makes of it.
judged : Bool → Option Record → Outcome Record
judged short o = elim short [ false ↦ refuse no_record none | true ↦ elim o [ none ↦ refuse no_record none | some r ↦ pass r ] ]

pub read_too_long : (line : Bytes) → max_line < length line → None ≡ read_line line
unfolding read_line judged
read_too_long line h = ap (λ t. placed_by (judged t (parse line))) (sym (lt-leb (length line) max_line h))

pub read_within : (line : Bytes) → length line ≤ max_line → read_line line ≡ placed_if (parse line)
unfolding read_line judged
read_within line h = ap (λ t. placed_by (judged t (parse line))) (le-leb (length line) max_line h) ∙ by_record (parse line)
  where
    by_record : (o : Option Record) → placed_by (judged true o) ≡ placed_if o
    by_record none = refl
    by_record (some r) = refl

-- .. and by its letter, with what stands behind it
pub parse_letter : (b : ℕ) (l : Bytes) → placed_if (parse (b ∷ l)) ≡ behind_letter b l
unfolding parse behind_letter grammar
parse_letter b l = ap placed_if (by_byte (passes (eqb b tab)))
  where
    tab_reads : (l : Bytes) → ◌≡◌ {A = Option Record} none (behind (read_by grammar tab) l)
    tab_reads [] = refl
    tab_reads (t ∷ l) = by_tab (eqb t tab)
      where
        by_tab : (t : Bool) → ◌≡◌ {A = Option Record} none (elim t [ true ↦ read_by grammar tab (fields l) | false ↦ none ])
        by_tab true = refl
        by_tab false = refl

    by_byte : (eqb b tab ≡ true) ⊎ (eqb b tab ≡ false) → read_fields (fields (b ∷ l)) ≡ behind (read_by grammar b) l
    by_byte (inl e) = rw (e, fields) (tab_reads l ∙ ap (λ c. behind (read_by grammar c) l) (sym (eqb-true b tab e)))
    by_byte (inr e) = reads_in_front read_fields b e (λ c f fs. refl) l

pub line_read : (line rest : Bytes) → 1 ≤ length line → rest ≡ drop 1 line → length line ≤ 1100 → behind_letter (get_or line 0 0) rest
    ≡ read_line line
line_read [] rest h e f = absurd (omega arith)
line_read (b ∷ l) rest h e f =
    ap (behind_letter b) e ∙ sym (read_within (b ∷ l) (omega (arith, line_limit)) ∙ parse_letter b l)

pub no_line_read : (line : Bytes) → length line < 1 → None ≡ read_line line
unfolding read_line parse max_line
no_line_read [] h = refl
no_line_read (b ∷ l) h = absurd (omega arith)
