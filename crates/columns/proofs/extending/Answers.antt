-- `columns::extending` meets its contract: behind the words in order with w no word that w begins stands behind one that it does not begin.
use Rattle.std.proofs.Common.{◌≡◌, ◌-◌, ◌≤◌, ℕ, Bool, true, false, sym, subst, rules, take, drop, length, length-drop, arith}
use Rattle.std.specs.List.Sorted.{IsPartitionedBy, IsPartitionPoint}
use Rattle.std.proofs.lemmas.List.{take_all}
use Rattle.std.proofs.lemmas.List.Sorted.{IsPartitionPoint-from_clause}
use Rattle.higman.specs.Words.{begins}
use Rattle.words.specs.Packed.{unpack}
use Rattle.columns.proofs.Extensions.{run_partitioned, run_found}
use Rattle.columns.proofs.extending.Goals as goal

pub returns : goal.returns
returns c =
    let column = c.args.column.now in
    let w = c.args.w in
    let start = c.first_after-start.result in
    let parted = c.first_after-start.ensures in
    let run = c.partition_point-run in
    let test : ℕ → Bool = λ x. begins (unpack w) (unpack x) in
    let rest : take (length column - start) (drop start column) ≡ drop start column = take_all (length column - start) (drop start column) (omega (arith, length-drop start column)) in
    run_found column c.requires w start parted run.result (subst (λ xs. run.result ≤ length xs) rest run.ensures.bound)
    (subst (λ xs. IsPartitionPoint (λ x. test x ≡ true) (λ x. test x ≡ false) xs run.result) rest
    (IsPartitionPoint-from_clause test (take (length column - start) (drop start column)) run.result run.ensures.partitioned
    (subst (IsPartitionedBy test) (sym rest) (run_partitioned column c.requires w start parted)) (λ a r f' k. search rules)))
