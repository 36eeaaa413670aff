-- `tables::routing::place_of` meets its contract: the word that begins the code's front begins the code.
use mathlib.Core.Path.{◌∙◌}
use Rattle.higman.specs.Text.{word_of}
use Rattle.tables.proofs.Routes.{begun_at_front}
use Rattle.tables.proofs.routing.place_of.Goals as goal

pub returns : goal.returns
returns c =
    let a = c.args in
    c.begun_by.ensures ∙ begun_at_front a.from.now c.front.result (word_of a.code.now) c.requires.searchable.packed c.front.ensures
