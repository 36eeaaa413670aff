-- `columns::splits::split` meets its contract. The invariant: behind the words before the place stand the first i parts, and behind the
-- parts the words are as they were moved.
use Prim.Native.Nat.{◌+◌}
use mathlib.Core.Path.{◌≡◌}
use mathlib.Core.List.{◌++◌, map}
use lib.ListN.{length, take, drop}
use Rattle.higman.specs.Words.{count, child}
use Rattle.words.specs.Packed.{unpack}
use Rattle.columns.specs.Packed.{words_of}
use Rattle.columns.proofs.splits.split.Given as goal

abbrev pub invariant-loop-i : goal.invariant-loop-i
invariant-loop-i l =
    record {
      long : length l.parts ≡ 128;
      front : words_of (take (l.place + l.i) l.parts) ≡ words_of (take l.place l.initial.parts) ++ map (child (unpack l.w)) (count 1 l.i);
      back : drop (l.place + l.arity) l.parts ≡ drop (l.place + l.arity) l.initial.parts;
    }
