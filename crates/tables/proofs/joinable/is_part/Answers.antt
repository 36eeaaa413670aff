-- `tables::joinable::is_part` meets its contract: the last digit tells one part from another, and the rest the block.
use mathlib.Core.Path.{sym, ◌∙◌}
use Rattle.std.proofs.lemmas.Bool.{ne_eqb}
use Rattle.words.specs.Packed.{unpack}
use Rattle.tables.proofs.Joins.{other_last, part_of}
use Rattle.tables.proofs.joinable.is_part.Goals as goal

pub returns-then-last-i : goal.returns-then-last-i
returns-then-last-i c =
    let a = c.args in
    part_of a.x c.parent.result a.w a.i c.requires (sym c.last.ensures ∙ c.if-last-i.true) c.parent.ensures

pub returns-else-last-i : goal.returns-else-last-i
returns-else-last-i c =
    let a = c.args in
    ne_eqb c.last.result a.i c.if-last-i.false ∙ sym (other_last a.x (unpack a.w) a.i (λ e. c.if-last-i.false (c.last.ensures ∙ e)))
