-- `exercises::shuffles::shuffle` meets its contract. The invariant: what is left to swap makes of the words what all swaps make of the
-- first ones.
use Prim.Native.Nat.{◌-◌, ◌≤◌}
use mathlib.Core.Path.{◌≡◌}
use lib.Dec.{T}
use lib.ListN.{take}
use Rattle.higman.specs.Limits.{seed_in_range}
use Rattle.higman.specs.Exercises.{shuffled}
use Rattle.columns.specs.Packed.{words_of}
use Rattle.exercises.proofs.shuffles.shuffle.Given as goal

abbrev pub invariant-loop-i : goal.invariant-loop-i
invariant-loop-i l =
    record {
      some : 1 ≤ l.i;
      seed : T (seed_in_range l.last);
      same : shuffled l.last (words_of (take l.count l.words)) (l.i - 1) ≡ shuffled l.draw (words_of (take l.count l.initial.words)) (l.count - 1);
    }
