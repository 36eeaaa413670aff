-- `columns::splits::root_words` meets its contract. The invariant: the first i places hold the first i roots.
use mathlib.Core.Path.{◌≡◌}
use mathlib.Core.List.{[], ◌∷◌, map}
use lib.ListN.{length, take}
use Rattle.higman.specs.Words.{count}
use Rattle.columns.specs.Packed.{words_of}
use Rattle.columns.proofs.splits.root_words.Given as goal

abbrev pub invariant-loop-i : goal.invariant-loop-i
invariant-loop-i l =
    record {
      long : length l.column ≡ 128;
      first_roots : words_of (take l.i l.column) ≡ map (λ a. a ∷ []) (count 1 l.i);
    }
