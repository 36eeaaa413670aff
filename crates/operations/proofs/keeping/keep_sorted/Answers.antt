-- `operations::keeping::keep_sorted` meets its contract: what `reduce_into` leaves in the fresh columns is the value of the kept plan.
use mathlib.Core.Path.{refl}
use native.Mathlib.Omega.{arith}
use Rattle.higman.specs.Limits.{max_pairs}
use Rattle.words.specs.Bytes.{shape_of}
use Rattle.columns.specs.Packed.{table}
use Rattle.operations.proofs.Values.{kept_value}
use Rattle.operations.proofs.keeping.keep_sorted.Goals as goal

pub reduce_into-pairs-requires : goal.reduce_into-pairs-requires
unfolding max_pairs
reduce_into-pairs-requires c =
    (c.requires, omega (arith, c.requires.few), omega (arith, c.requires.few))

pub returns : goal.returns
unfolding max_pairs
returns c =
    let a = c.args in
    kept_value (shape_of a.shape) (table a.keys.now a.values.now) _ _
    c.reduce_into-pairs.new.out_from c.reduce_into-pairs.new.out_to c.reduce_into-pairs.result refl refl c.reduce_into-pairs.ensures
