-- `records::fields::signed` meets its contract: a number without a minus in front, and one behind it.
use Prim.Native.Nat.{◌-◌, ◌<◌}
use mathlib.Core.Path.{◌≡◌, sym, ◌∙◌, ap}
use mathlib.Core.Logic.{◌⊎◌, inl, inr}
use native.Mathlib.Omega.{arith}
use borrow.Author.Rules.{rules}
use borrow.Author.Tests.{tests}
use lib.ListN.{length, get_or, take, drop, length-drop}
use lib.Seq.{take_all}
use mir.Syntax.{w32}
use mir.ValLaws.{to_z_pos}
use Rattle.std.specs.Prelude.{Some}
use Rattle.std.proofs.lemmas.Int.{ints}
use Rattle.higman.specs.Text.{byte}
use Rattle.desk.specs.Limits.{max_numeral}
use Rattle.desk.specs.Records.{number_field, positive, negative}
use Rattle.records.specs.Fields.{given}
use Rattle.records.proofs.fields.Numbers.{numeral_below}
use Rattle.records.proofs.fields.Signs.{given_none, given_some, signed_minus, signed_plain, opposite_read}
use Rattle.records.proofs.fields.signed.Goals as goal
use Rattle.records.proofs.fields.signed.Goals.{in_default-via-then-field-lt1, in_default-via-else-field-lt1+in_default-1}

pub returns-in_err-number : goal.returns-in_err-number
unfolding max_numeral
returns-in_err-number c =
    let field = c.args.field.now in
    let way : (length field < 1) ⊎ (get_or field 0 0 ≡ byte "-" → ⊥) =
    elim c.in_default.branch [
      | in_default-via-then-field-lt1 w ↦ inl (search (rules, tests))
      | in_default-via-else-field-lt1+in_default-1 w ↦ inr (search (rules, tests))
    ] in
    let none_read = given_none (number_field 4 field) (sym c.in_err-number.ensures) in
    c.from_residual.ensures ∙ sym (ap given (signed_plain 4 field way ∙ ap positive none_read))

pub overflow_cast-result : goal.overflow_cast-result
unfolding max_numeral
overflow_cast-result c =
    let field = c.args.field.now in
    let read = given_some (number_field 4 field) c.in_ok-number.field-0 (sym c.in_ok-number.ensures) in
    omega (arith, ints, numeral_below field c.in_ok-number.field-0 read)

pub returns-in_default : goal.returns-in_default
unfolding max_numeral
returns-in_default c =
    let field = c.args.field.now in
    let n = c.in_ok-number.field-0 in
    let way : (length field < 1) ⊎ (get_or field 0 0 ≡ byte "-" → ⊥) =
    elim c.in_default.branch [
      | in_default-via-then-field-lt1 w ↦ inl (search (rules, tests))
      | in_default-via-else-field-lt1+in_default-1 w ↦ inr (search (rules, tests))
    ] in
    let read = given_some (number_field 4 field) n (sym c.in_ok-number.ensures) in
    ap Some (to_z_pos w32 n (omega (arith, numeral_below field n read))) ∙ sym (ap given (signed_plain 4 field way ∙ ap positive read))

pub returns-in_err-n : goal.returns-in_err-n
unfolding max_numeral
returns-in_err-n c =
    let field = c.args.field.now in
    let digits = take (length field - 1) (drop 1 field) in
    let minus : get_or field 0 0 ≡ byte "-" = omega arith in
    let rest : digits ≡ drop 1 field = take_all (length field - 1) (drop 1 field) (omega (arith, length-drop 1 field)) in
    let none_read = given_none (number_field 4 digits) (sym c.in_err-n.ensures) in
    c.from_residual-in_err-n.ensures ∙ sym (ap given (signed_minus 4 field digits (omega arith) minus rest ∙ ap negative none_read))

pub returns : goal.returns
unfolding max_numeral
returns c =
    let field = c.args.field.now in
    let n = c.in_ok-n.n in
    let digits = take (length field - 1) (drop 1 field) in
    let minus : get_or field 0 0 ≡ byte "-" = omega arith in
    let rest : digits ≡ drop 1 field = take_all (length field - 1) (drop 1 field) (omega (arith, length-drop 1 field)) in
    let read = given_some (number_field 4 digits) n (sym c.in_ok-n.ensures) in
    opposite_read w32 n c.if-n-eq0.false (omega (arith, numeral_below digits n read))
    ∙ sym (ap given (signed_minus 4 field digits (omega arith) minus rest ∙ ap negative read))
