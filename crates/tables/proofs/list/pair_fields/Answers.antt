-- `tables::list::pair_fields` meets its contract: the letter and the two words are one run. That each has room follows from the length of
-- them all, `fields_size`.
use native.Mathlib.Omega.{arith}
use Rattle.words.specs.Packed.{unpack}
use Rattle.columns.specs.Packed.{pair_of}
use Rattle.words.proofs.Runs.{word_size, wrote_then}
use Rattle.tables.proofs.Records.{fields_size}
use Rattle.tables.proofs.list.pair_fields.Goals as goal

pub returns : goal.returns
returns c =
    let a = c.args in
    let size = fields_size a.letter (pair_of a.from a.to) in
    let left = word_size (unpack a.from) in
    wrote_then (omega arith) c.put-from_at.ensures (wrote_then (omega arith) c.put_word-to_at.ensures c.put_word.ensures)
