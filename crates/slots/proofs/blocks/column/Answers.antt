-- `slots::blocks::column` meets its contract: the part that is copied is a whole column.
use mathlib.Core.Path.{sym, ◌∙◌, ap}
use native.Mathlib.Omega.{arith}
use lib.ListN.{length, take, drop, length-drop}
use lib.Seq.{length-take-le}
use Rattle.columns.proofs.Limits.{pair_limit}
use Rattle.slots.proofs.blocks.column.Goals as goal

pub copy_from_slice-requires : goal.copy_from_slice-requires
copy_from_slice-requires c =
    let a = c.args in
    sym (ap length c.part.ensures ∙ length-take-le 128 (drop a.at a.columns.now) (omega (arith, length-drop a.at a.columns.now)))

pub returns : goal.returns
returns c = c.copy_from_slice.ensures.after ∙ c.part.ensures ∙ ap (λ n. take n (drop c.args.at c.args.columns.now)) (sym pair_limit)
