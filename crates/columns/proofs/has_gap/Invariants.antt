-- The loop over the roots: there is a gap exactly if one of those from the present one on is not covered, and the words before the cursor
-- stand before the present root.
use Rattle.std.proofs.Common.{◌≡◌, ◌+◌, ◌-◌, ℕ, Bool, not, List, [], ◌∷◌}
use Rattle.higman.specs.Words.{count}
use Rattle.higman.specs.Bases.{all, covered, gap}
use Rattle.words.specs.Bytes.{shape_of}
use Rattle.columns.specs.Packed.{words_of}
use Rattle.columns.specs.Columns.{AtBlock}
use Rattle.columns.proofs.has_gap.Given as goal

-- a root is covered, looked at as deep as a plan's words reach
abbrev pub root_covered : List ℕ → ℕ → ℕ → Bool
root_covered column arity a = covered arity (words_of column) 15 (a ∷ [])

abbrev pub invariant-loop-root : goal.invariant-loop-root
invariant-loop-root l =
    record {
      left_over : gap (shape_of l.shape) (words_of l.column) ≡ not (all (root_covered l.column l.shape.arity) (count l.root (l.shape.roots + 1 - l.root)));
      here : AtBlock l.column (l.root ∷ []) l.at;
    }
