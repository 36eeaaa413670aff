-- `columns::first_after` meets its contract: in a sorted column no word that is in order with w stands behind one that is not.
use Rattle.std.proofs.Common.{rules}
use Rattle.std.proofs.lemmas.List.Sorted.{IsPartitionPoint-from_clause}
use Rattle.words.specs.Packed.{unpack}
use Rattle.columns.specs.Packed.{in_order}
use Rattle.columns.proofs.Search.{partitioned, parted_at}
use Rattle.columns.proofs.first_after.Goals as goal

pub returns : goal.returns
returns c =
    let column = c.args.column.now in
    let w = c.args.w in
    parted_at column w c.partition_point.result c.partition_point.ensures.bound
    (IsPartitionPoint-from_clause (λ x. in_order (unpack x) (unpack w)) column c.partition_point.result c.partition_point.ensures.partitioned (partitioned column c.requires w) (λ a r f' k. search rules))
