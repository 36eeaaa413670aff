-- `desks::is_row` meets its contract: the rights on the slots are the numbers of the row.
use Prim.Native.Nat.{ℕ}
use mathlib.Core.Path.{◌≡◌, sym, ◌∙◌, ap}
use mathlib.Core.Bool.{Bool}
use lib.Dec.{leb}
use lib.ListN.{get_or}
use borrow.Author.Tests.{tests}
use native.Mathlib.Omega.{arith}
use Rattle.std.proofs.Common.{rules}
use Rattle.std.proofs.lemmas.Iterator.{YieldsList-from_range}
use Rattle.std.proofs.lemmas.Iterator.Search.{all_from_yields_List}
use Rattle.higman.specs.Words.{count}
use Rattle.higman.specs.Bases.{all}
use Rattle.higman.specs.Limits.{slot_count}
use Rattle.words.proofs.Checks.{check_map}
use Rattle.desk.specs.Limits.{max_right}
use Rattle.slots.specs.Rights.{right_at, row_of}
use Rattle.slots.proofs.Held.{same_count}
use Rattle.slots.proofs.Rows.{row_length, right_in_row}
use Rattle.desks.specs.Tested.{row_test}
use Rattle.desks.proofs.Chains.{all_counted, all_places}
use Rattle.desks.proofs.is_row.Goals as goal

abbrev within : ℕ → Bool
within x = leb x max_right

row_by_slots : (row : ℕ) → all (λ i. within (right_at row i)) (count 0 slot_count) ≡ row_test row
row_by_slots row =
    sym (check_map within (right_at row) (count 0 slot_count))
    ∙ ap (all within) (same_count (λ i. get_or (row_of row) i 0) (right_at row) 0 slot_count (λ i a h. sym (right_in_row row i (omega arith)))
    ∙ all_places (row_of row) 0 slot_count (row_length row))

pub returns : goal.returns
unfolding max_right slot_count
returns c =
    let f : ℕ → Bool = λ i. leb (right_at c.args.row i) max_right in
    all_from_yields_List f _ _ _ c.all.ensures.ran (YieldsList-from_range 0 8 8 (cc) (omega arith)) (λ x b q k. search (rules, tests))
    ∙ all_counted f 8 ∙ row_by_slots c.args.row
