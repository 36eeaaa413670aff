-- `exercises::shuffles::shuffle` meets its contract.
use Prim.Native.Nat.{◌-◌, ◌%◌, ◌+◌, ◌<◌}
use mathlib.Core.Path.{◌∙◌}
use native.Mathlib.Nat.{mod-lt}
use native.Mathlib.Omega.{arith}
use lib.ListN.{take}
use Rattle.columns.specs.Packed.{words_of}
use Rattle.columns.proofs.Limits.{pair_limit}
use Rattle.exercises.proofs.Shuffling.{next_in_range, shuffled_swap, shuffled_end}
use Rattle.exercises.proofs.shuffles.shuffle.Goals as goal

pub swap-requires : goal.swap-requires
swap-requires c =
    let i = c.loop-i.i - 1 in
    let other : c.next-last.result % (i + 1) < i + 1 = mod-lt c.next-last.result (omega arith) in
    record { a_in_bounds = omega (arith, pair_limit); b_in_bounds = omega (arith, pair_limit) }

pub loop-i-preserved : goal.loop-i-preserved
loop-i-preserved c =
    let l = c.loop-i in
    let step = shuffled_swap l.last c.next-last.result l.words c.swap.new.self c.args.count (l.i - 1) (omega arith) (omega arith)
    (omega (arith, pair_limit)) c.next-last.ensures c.swap.ensures.after in
    record {
      some = omega arith;
      seed = next_in_range l.last c.next-last.result c.next-last.ensures l.invariant.seed;
      same = step ∙ l.invariant.same;
    }

pub returns : goal.returns
returns c =
    let l = c.loop-i in
    shuffled_end l.last (words_of (take c.args.count l.words)) (l.i - 1) (omega arith) ∙ l.invariant.same
