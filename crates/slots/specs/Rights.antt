-- Rights in code (change request E6): those of a station on the slots are one number, two bits for each slot, A lowest. Read Blocks.antt next.
use Rattle.std.specs.Prelude.{ℕ, zero, suc, ◌+◌, ◌*◌, ◌/◌, ◌%◌, ◌^◌, ◌≤◌, ◌<◌, ◌≡◌, refl, List, [], ◌∷◌, map, set, replicate}
use Rattle.higman.specs.Limits.{slot_count}
use Rattle.desk.specs.Limits.{max_right}
use Rattle.desk.specs.Desk.{Rights}

-- the right on a slot
abbrev pub right_at : ℕ → ℕ → ℕ
right_at row i = row / 2 ^ (2 * i) % 4

-- the rights on so many slots
abbrev pub slot_rights : ℕ → ℕ → List ℕ
slot_rights zero row = []
slot_rights (suc n) row = row % 4 ∷ slot_rights n (row / 4)

abbrev pub row_of : ℕ → List ℕ
row_of row = slot_rights slot_count row

-- those of all stations that have some
abbrev pub rights_of : List ℕ → Rights
rights_of rows = map row_of rows

-- and back
abbrev pub packed_row : List ℕ → ℕ
packed_row [] = 0
packed_row (x ∷ l) = x + 4 * packed_row l

abbrev pub packed_rights : Rights → List ℕ
packed_rights rights = map packed_row rights

-- a slot, and a right that may be given on it
pub record Givable (slot right : ℕ) : Type 0 where
  pub named : slot < slot_count
  pub fits : right ≤ max_right

-- all rights 2, and 1 on slot B
row_of_example : map row_of (0xAAAA ∷ 0xAAA6 ∷ []) ≡ replicate 8 2 ∷ (2 ∷ 1 ∷ 2 ∷ 2 ∷ 2 ∷ 2 ∷ 2 ∷ 2 ∷ []) ∷ []
unfolding slot_count
row_of_example = refl

packed_row_example : packed_row (set (row_of 0xAAAA) 1 1) ≡ 0xAAA6
unfolding slot_count
packed_row_example = refl

right_at_example : map (right_at 0xAAA6) (0 ∷ 1 ∷ 7 ∷ []) ≡ 2 ∷ 1 ∷ 2 ∷ []
right_at_example = refl
