-- `lines::write_refusal` meets its contract, by the column that the refusal names.
use mathlib.Core.Path.{sym, ◌∙◌, ap, ap₂}
use native.Mathlib.Omega.{arith}
use Rattle.desk.specs.Replies.{refuse}
use Rattle.slots.specs.Refused.{letter, letter_of}
use Rattle.replies.proofs.Sizes.{rooms}
use Rattle.lines.proofs.Settled.{column_byte, wrote_refusal, wrote_column}
use Rattle.lines.proofs.write_refusal.Goals as goal

pub no-requires : goal.no-requires
no-requires c = omega (arith, rooms.no, c.requires)

pub no_column-requires : goal.no_column-requires
no_column-requires c = omega (arith, rooms.no_column, c.requires)

pub returns-in-None : goal.returns-in-None
returns-in-None c = λ q out₀ t o.
    wrote_refusal q out₀ c.args.out.now o _ _ c.from-number.result
    (ap₂ refuse c.from-number.ensures (ap letter_of (sym c.in-None.is)) ∙ t) c.no.ensures

pub returns-in-Some : goal.returns-in-Some
returns-in-Some c = λ q out₀ t o.
    wrote_column q out₀ c.args.out.now o _ _ c.from-number.result c.into.result (letter c.in-Some.column)
    (c.into.ensures ∙ column_byte c.in-Some.column)
    (ap₂ refuse c.from-number.ensures (ap letter_of (sym c.in-Some.is)) ∙ t) c.no_column.ensures
