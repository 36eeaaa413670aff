-- `plans::drafts::is_column` meets its contract: the part behind the first n numbers is all that is left.
use Prim.Native.Nat.{ℕ, ◌-◌, ◌≤◌}
use mathlib.Core.Path.{◌≡◌, ◌∙◌, ap}
use mathlib.Core.Bool.{Bool, ◌&&◌}
use mathlib.Core.List.{List}
use native.Mathlib.Omega.{arith}
use lib.ListN.{length, take, drop, length-drop}
use lib.Seq.{take_all}
use Rattle.higman.specs.Words.{Shape}
use Rattle.higman.specs.Bases.{all}
use Rattle.higman.specs.Limits.{is_plan_word}
use Rattle.words.specs.Bytes.{shape_of}
use Rattle.columns.specs.Packed.{words_of}
use Rattle.operations.specs.Plans.{zeros, is_column}
use Rattle.plans.proofs.drafts.is_column.Goals as goal

tested_first : (s : Shape) (n : ℕ) (l : List ℕ) (b : Bool) → b ≡ zeros (take (length l - n) (drop n l))
    → (b && all (is_plan_word s) (words_of (take n l))) ≡ is_column s n l
tested_first s n l b e =
    let rest : length (drop n l) ≤ length l - n = omega (arith, length-drop n l) in
    ap (λ t. t && all (is_plan_word s) (words_of (take n l))) (e ∙ ap zeros (take_all (length l - n) (drop n l) rest))

pub returns-then-are_zeros : goal.returns-then-are_zeros
returns-then-are_zeros c =
    let a = c.args in
    c.are_words.ensures ∙ tested_first (shape_of a.shape) a.n a.column.now _ c.if-are_zeros.ensures

pub returns-else-are_zeros : goal.returns-else-are_zeros
returns-else-are_zeros c =
    let a = c.args in
    c.if-are_zeros.false ∙ tested_first (shape_of a.shape) a.n a.column.now _ c.if-are_zeros.ensures
