-- `desk_c::serving::serve` meets its contract: a value that passes the test holds a desk.
use mathlib.Core.Path.{sym, ◌∙◌, ap}
use mathlib.Core.Bool.{Bool, true, false}
use Rattle.std.specs.Prelude.{Err}
use Rattle.higman.specs.Refusals.{invalid_value}
use Rattle.higman.specs.Text.{Bytes}
use Rattle.slots.specs.declared.Head.{Head}
use Rattle.slots.specs.declared.Refused.{Refused}
use Rattle.slots.specs.Desks.{desk_of}
use Rattle.slots.specs.Refused.{outcome_of}
use Rattle.desk_values.specs.declared.Desk.{Desk}
use Rattle.desk_values.specs.Values.{desk_in}
use Rattle.desk_values.proofs.Exact.{whole_of_good}
use Rattle.desk_c.proofs.Passing.{letter_passes, holds_value}
use Rattle.desk_c.specs.declared.Written.{Written}
use Rattle.desk_c.specs.declared.serving.Served.{Served}
use Rattle.desk_c.specs.Calls.{written_of, line_call, lent_of, refused_with, served, buffer_after}
use Rattle.desk_c.proofs.serving.serve.Goals as goal

-- the call, by whether the value passes
abbrev leaves : Bytes → Desk → Bytes → Bool → Served Written
leaves line d out b = elim b [ true ↦ lent_of (line_call (desk_in d) line out) | false ↦ refused_with d invalid_value 0 ]

abbrev buffers : Bytes → Desk → Bytes → Bool → Bytes
buffers line d out b = elim b [ true ↦ (line_call (desk_in d) line out).1.buffer | false ↦ out ]

pub returns-then-not-is_desk : goal.returns-then-not-is_desk
unfolding served buffer_after
returns-then-not-is_desk c =
    let a = c.args in
    let no = sym c.is_desk.ensures ∙ c.if-not-is_desk.true in
    let answer = c.from-then-not-is_desk.ensures ∙ ap (λ (f : Refused). written_of (outcome_of (Err f))) c.from.ensures in
    record {
      left = ap (λ (w : Written). record { desk = a.desk; answer = w }) answer ∙ sym (ap (leaves a.line.now a.desk a.out.now) no);
      buffer = sym (ap (buffers a.line.now a.desk a.out.now) no);
    }

pub head_of-requires : goal.head_of-requires
head_of-requires c = letter_passes c.args.desk (whole_of_good c.args.desk _ c.well_formed.0) c.if-not-is_desk.ensures

pub lend-requires : goal.lend-requires
lend-requires c =
    holds_value c.args.desk (whole_of_good c.args.desk _ c.well_formed.0) c.if-not-is_desk.ensures c.head_of.result c.head_of.ensures

pub returns : goal.returns
unfolding served buffer_after desk_in
returns c =
    let a = c.args in
    let columns = a.desk.columns in
    let test = sym c.is_desk.ensures ∙ c.if-not-is_desk.false in
    record {
      left = c.lend.ensures.left ∙ ap (λ (x : Head). lent_of (line_call (desk_of x columns) a.line.now a.out.now)) c.head_of.ensures
          ∙ sym (ap (leaves a.line.now a.desk a.out.now) test);
      buffer = c.lend.ensures.buffer ∙ ap (λ (x : Head). (line_call (desk_of x columns) a.line.now a.out.now).1.buffer) c.head_of.ensures
          ∙ sym (ap (buffers a.line.now a.desk a.out.now) test);
    }
