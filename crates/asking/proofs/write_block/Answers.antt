-- `asking::write_block` meets its contract: the pairs of the run that was found are the block, and their lines and the line of their number
-- are one run of bytes.
use native.Mathlib.Omega.{arith}
use Rattle.higman.specs.Limits.{max_pairs}
use Rattle.higman.specs.Text.{word_of}
use Rattle.columns.specs.Columns.{Extending}
use Rattle.asking.proofs.Fronts.{front_digits, front_sorted, front_whole, run_few, start_few, lines_fit, count_room, block_wrote}
use Rattle.asking.proofs.write_block.Goals.{After-extending-run}
use Rattle.asking.proofs.write_block.Goals as goal

-- the run of pairs is found
extending : (c : After-extending-run) →
    Extending c.args.plan.from.now (word_of c.args.code.now) c.extending-run.result.start c.extending-run.result.end
extending c =
    front_whole c.requires c.front.result c.extending-run.result.start c.extending-run.result.end c.front.ensures c.extending-run.ensures

pub front-requires : goal.front-requires
front-requires c = front_digits c.requires

pub extending-run-requires : goal.extending-run-requires
extending-run-requires c = front_sorted c.requires

pub overflow_add-start : goal.overflow_add-start
unfolding max_pairs
overflow_add-start c = let x = extending (goal.at.overflow_add-start c).After-extending-run in record { fits = omega (arith, start_few c.requires x) }

pub block_lines-used-requires : goal.block_lines-used-requires
block_lines-used-requires c = lines_fit c.requires (extending (goal.at.block_lines-used-requires c).After-extending-run)

pub overflow_cast-end : goal.overflow_cast-end
unfolding max_pairs
overflow_cast-end c =
    let x = extending (goal.at.overflow_cast-end c).After-extending-run in
    record { fits = omega (arith, run_few c.requires x) }

pub ok_number-requires : goal.ok_number-requires
ok_number-requires c = count_room c.requires (extending (goal.at.ok_number-requires c).After-extending-run) c.block_lines-used.ensures

pub returns : goal.returns
returns c = block_wrote c.requires (extending (goal.at.returns c).After-extending-run) c.block_lines-used.ensures c.ok_number.ensures
