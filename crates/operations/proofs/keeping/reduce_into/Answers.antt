-- `operations::keeping::reduce_into` meets its contract: zeros stand behind the reduced pairs.
use Rattle.std.proofs.Common.{◌≤◌, length, arith}
use Rattle.words.specs.Bytes.{shape_of}
use Rattle.columns.specs.Packed.{table}
use Rattle.operations.proofs.Values.{cleared, kept_columns}
use Rattle.operations.proofs.keeping.reduce_into.Goals as goal

pub returns : goal.returns
returns c =
    let a = c.args in
    let r = c.reduce-pairs in
    let in_from : r.result ≤ length r.new.out_from = omega arith in
    let in_to : r.result ≤ length r.new.out_to = omega arith in
    kept_columns (shape_of a.shape) (table a.keys.now a.values.now) r.new.out_from r.new.out_to
    a.out_from.now a.out_to.now _ _ r.result in_from in_to
    r.ensures.keeps r.auto.out_from r.auto.out_to
    (cleared r.result r.new.out_from _ (c.fill.ensures.after (λ y e. e)))
    (cleared r.result r.new.out_to _ (c.fill-2.ensures.after (λ y e. e)))
