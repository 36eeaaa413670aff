-- `operations::closing::fault_in` meets its contract. What is wrong with the sorted keys is what is wrong with the keys as they came,
-- since neither overlap nor gap depends on the order, nor whether they are words of the shape.
use mathlib.Core.Path.{◌∙◌, ap}
use Rattle.words.specs.Bytes.{shape_of}
use Rattle.columns.proofs.Rearranged.{rearranged_keys}
use Rattle.operations.specs.Closing.{fault_of}
use Rattle.operations.proofs.Unordered.{fault_unordered, words_unordered}
use Rattle.operations.proofs.closing.fault_in.Goals as goal

pub sorted_fault-requires : goal.sorted_fault-requires
sorted_fault-requires c =
    let s = shape_of c.args.shape in
    let same-words = rearranged_keys c.requires.0 c.sort.ensures.rearranged in
    (c.sort.ensures.in_order, c.requires.1, words_unordered s same-words c.requires.3)

pub returns : goal.returns
returns c =
    let s = shape_of c.args.shape in
    record {
      found = c.sorted_fault.ensures ∙ ap fault_of (fault_unordered s (rearranged_keys c.requires.0 c.sort.ensures.rearranged));
      sorts = c.sort.ensures;
    }
