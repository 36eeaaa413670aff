-- `columns::begun_by` meets its contract: in a column without overlap only the last of the words in order with w can begin w, since a word
-- before it that begins w begins it too.
use Rattle.std.proofs.Common.{◌≡◌, ◌+◌, sym, ◌∙◌, ap, arith}
use Rattle.std.proofs.lemmas.Grind.{common_steps}
use Rattle.std.specs.Bool.{then_some}
use Rattle.words.specs.Packed.{unpack}
use Rattle.columns.proofs.Search.{begun_nowhere, begun_none, begun_or_not}
use Rattle.columns.proofs.begun_by.Goals as goal

pub returns-in_err-last : goal.returns-in_err-last
returns-in_err-last c =
    let column = c.args.column.now in
    let none : c.first_after.result ≡ 0 = grind (arith, common_steps, c.in_err-last.ensures) in
    let nowhere = begun_nowhere column c.requires.column_value c.requires.column_value_2 c.args.w c.first_after.result c.first_after.ensures (λ h. absurd (omega arith)) in
    c.from_residual.ensures ∙ sym (begun_none column (unpack c.args.w) _ nowhere (omega arith))

pub returns : goal.returns
returns c =
    let column = c.args.column.now in
    let last = c.in_ok-last.last in
    let some : c.first_after.result ≡ last + 1 = grind (arith, common_steps, c.in_ok-last.ensures) in
    c.then_some.ensures
    ∙ ap (λ b. then_some b last) c.begins.ensures
    ∙ begun_or_not column c.requires.column_value c.requires.column_value_2 c.args.w c.first_after.result c.first_after.ensures last some
