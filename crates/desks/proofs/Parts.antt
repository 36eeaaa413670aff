-- The parts of the test of a control block: what it asks besides of a block in code holds by the lengths of its arrays.
use Prim.Native.Nat.{ℕ, ◌+◌}
use mathlib.Core.Path.{◌≡◌, refl, ◌∙◌, ap, ap₂}
use mathlib.Core.Bool.{Bool, true, false, ◌&&◌}
use mathlib.Core.List.{List, [], ◌∷◌}
use borrow.Author.Tests.{eq-eqb}
use lib.Dec.{leb}
use lib.ListN.{length, length-map}
use Rattle.higman.specs.Bases.{all}
use Rattle.higman.specs.Limits.{slot_count}
use Rattle.desk.specs.Limits.{station_count}
use Rattle.desk.specs.Desk.{are_slot_rights, are_rights, is_control}
use Rattle.slots.specs.Rights.{row_of, rights_of}
use Rattle.slots.specs.declared.Control.{Control}
use Rattle.slots.proofs.Rows.{row_length}
use Rattle.desks.specs.Tested.{counts_test, row_test, rights_test, control_test}

-- the rows have a right for each slot
row_decides : (row : ℕ) → are_slot_rights (row_of row) ≡ row_test row
row_decides row = ap (λ b. b && row_test row) (eq-eqb (length (row_of row)) slot_count (row_length row))

rows_decide : (rows : List ℕ) → all are_slot_rights (rights_of rows) ≡ rights_test rows
rows_decide [] = refl
rows_decide (row ∷ rows) = ap₂ (λ (a b : Bool). elim a as (λ _. Bool) [ true ↦ b | false ↦ false ]) (row_decides row) (rows_decide rows)

rights_decide : (rows : List ℕ) → length rows ≡ 7 → are_rights (rights_of rows) ≡ rights_test rows
unfolding are_rights station_count
rights_decide rows e =
    ap (λ b. b && all are_slot_rights (rights_of rows)) (eq-eqb (length (rights_of rows)) 7 (length-map rows row_of ∙ e)) ∙ rows_decide rows

pub control_parts : (c : Control) → length c.changes ≡ 8 → length c.rights ≡ 7
    → control_test c ≡ (leb (c.station + 1) 8 && counts_test c.changes && rights_test c.rights)
unfolding is_control station_count
control_parts c e f =
    ap (λ b. leb (c.station + 1) 8 && b && counts_test c.changes && are_rights (rights_of c.rights)) (eq-eqb (length c.changes) 8 e)
    ∙ ap (λ b. leb (c.station + 1) 8 && true && counts_test c.changes && b) (rights_decide c.rights f)
    ∙ by (leb (c.station + 1) 8) (counts_test c.changes) (rights_test c.rights)
  where
    by : (a b c : Bool) → (a && true && b && c) ≡ (a && b && c)
    by true b c = refl
    by false b c = refl
