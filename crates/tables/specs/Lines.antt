-- The plan that packed numbers hold, and the lines of the pairs of two columns: what a listing or a block writes.
use Rattle.std.specs.Prelude.{ℕ, suc, ◌+◌, ◌≤◌, ◌≡◌, refl, List, [], ◌∷◌, ◌++◌, map, length}
use Rattle.higman.specs.Tables.{row}
use Rattle.higman.specs.Limits.{Plan, max_pairs}
use Rattle.higman.specs.Text.{Bytes, byte, bytes, tab, line_end, decimal}
use Rattle.higman.specs.Listing.{pair_fields, pair_records, join_lines}
use Rattle.higman.specs.Places.{Placed, placed_from}
use Rattle.words.specs.Bytes.{shape}
use Rattle.columns.specs.Packed.{pair_of, table}

-- the M records of two columns' pairs
abbrev pub pair_lines : List ℕ → List ℕ → Bytes
pair_lines from to = join_lines (pair_records (table from to))

-- a place and the pair that two packed words are
abbrev pub placed : ℕ → ℕ → ℕ → Placed
placed place from to = record { place = place; pair = pair_of from to }

-- "`B⇥111⇥11⇥1`": the line of a pair in a block, with its place (change requests E1 and E7)
abbrev pub block_line : Placed → Bytes
block_line l = pair_fields (byte "B") l.pair ++ tab ∷ (decimal l.place ++ line_end ∷ [])

-- those of two columns' pairs, the first of which has this place
abbrev pub block_lines : ℕ → List ℕ → List ℕ → Bytes
block_lines first from to = join_lines (map block_line (placed_from first (table from to)))

-- paired columns, places that a plan has, and room for their lines from a place of a buffer on
pub record BlockFits (first : ℕ) (from to : List ℕ) (at size : ℕ) : Type 0 where
  pub paired : length from ≡ length to
  pub places : first + length from ≤ suc max_pairs
  pub room : at + length (block_lines first from to) ≤ size

abbrev pub plan_of_columns : ℕ → ℕ → List ℕ → List ℕ → Plan
plan_of_columns arity roots from to = record { shape = shape arity roots; rows = table from to }

block_line_example : block_line (record { place = 2; pair = row 112 121 }) ≡ bytes "B\t112\t121\t2\n"
block_line_example = refl
