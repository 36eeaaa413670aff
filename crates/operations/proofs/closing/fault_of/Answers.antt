-- `operations::closing::fault_of` meets its contract: the parts that are sorted hold the words of the column.
use Rattle.std.proofs.Common.{refl, ◌∙◌, ap, length, take}
use Rattle.words.specs.Bytes.{shape_of}
use Rattle.higman.specs.Answers.{fault}
use Rattle.columns.specs.Packed.{words_of}
use Rattle.operations.specs.Closing.{fault_of}
use Rattle.operations.proofs.Filled.{front_of_filling}
use Rattle.operations.proofs.closing.fault_of.Goals as goal

pub fault_in-requires : goal.fault_in-requires
fault_in-requires c =
    let words = c.args.words.now in
    let copied = ap (take (length words)) c.padded-keys.ensures ∙ front_of_filling words in
    rw copied (refl, c.requires.1, c.requires.0, c.requires.2)

pub returns : goal.returns
returns c =
    let words = c.args.words.now in
    let copied = ap (take (length words)) c.padded-keys.ensures ∙ front_of_filling words in
    c.fault_in.ensures.found ∙ ap (λ l. fault_of (fault (shape_of c.args.shape) (words_of l))) copied
