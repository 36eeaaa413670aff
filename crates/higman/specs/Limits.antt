-- The limits of document 01 and of change request E3, named in this one place, and the plans that keep to them. Everything before and after
-- speaks of the names; only here are they numbers. To be believed: `Plan`, `Bases` and `Kept`; `PlanLimitsExact` of Figures.antt fixes the
-- limits and their tests. Read Refusals.antt next.
use Rattle.std.specs.Prelude.{ℕ, ◌≡◌, refl, Bool, true, false, ◌&&◌, [], ◌∷◌, map, T, leb, ℤ, nat_abs, length, replicate}
use Rattle.higman.specs.Words.{Shape, Word, is_word, spell}
use Rattle.higman.specs.Bases.{Basis, all}
use Rattle.higman.specs.Tables.{Pair, Table, froms, tos, row, ψ}
use Rattle.higman.specs.Normal.{Reduced, ordered}

-- "n ways at every switch, 2 to 9, and r belts, 1 to 9"
unfoldable pub shape_in_range : Shape → Bool
shape_in_range s = leb 2 s.arity && leb s.arity 9 && leb 1 s.roots && leb s.roots 9

-- "A plan is 1 to 128 pairs": a basis has at least one word, so only the upper end is a test.
unfoldable pub max_pairs : ℕ
max_pairs = 128

-- "A word in a plan has at most 16 digits (belt and 15 ways)."
unfoldable pub max_digits : ℕ
max_digits = 16

-- "A routed code has at most 1,024"
unfoldable pub max_code : ℕ
max_code = 1024

-- "k outside −1,000 to 1,000"
unfoldable pub max_power : ℕ
max_power = 1000

abbrev pub power_in_range : ℤ → Bool
power_in_range k = leb (nat_abs k) max_power

-- "17, a seed outside 1 to 2147483646" (change request E3)
abbrev pub max_seed : ℕ
max_seed = 2_147_483_646

unfoldable pub seed_in_range : ℕ → Bool
seed_in_range x = leb 1 x && leb x max_seed

-- "The desk has slots A to H"
unfoldable pub slot_count : ℕ
slot_count = 8

abbrev pub fits : Word → Bool
fits w = leb (length w) max_digits

-- a word that a plan of the shape may hold, not one "that is empty, too long or has a wrong digit"
unfoldable pub is_plan_word : Shape → Word → Bool
is_plan_word s w = is_word s w && fits w

abbrev pub pair_fits : Pair → Bool
pair_fits p = fits p.from && fits p.to

-- "Only the reduced result is held to 128 pairs and 15 ways." X's pairs are held to the same before they are reduced.
unfoldable pub granted : Table → Bool
granted t = leb (length t) max_pairs && all pair_fits t

-- "a belt from 1 to r, then ways from 1 to n", of a length that W takes
unfoldable pub is_code : Shape → Word → Bool
is_code s w = is_word s w && leb (length w) max_code

-- A plan: a table with its shape.
pub record Plan : Type 0 where
  pub shape : Shape
  pub rows : Table

-- both columns bases of one shape
pub record Bases (s : Shape) (t : Table) : Type 0 where
  pub from_basis : Basis s (froms t)
  pub to_basis : Basis s (tos t)

-- "Kept plans are reduced, with from-words in order of the first digit that differs."
pub record Kept (p : Plan) : Type 0 where
  pub in_range : T (shape_in_range p.shape)
  pub within : T (granted p.rows)
  pub bases : Bases p.shape p.rows
  pub reduced : Reduced p.shape.arity p.rows
  pub in_order : ordered (froms p.rows) ≡ true

-- a table of one pair, whose from-word has so many digits
abbrev digits_of : ℕ → Table
digits_of k = record { from = replicate k 1; to = replicate 1 1 } ∷ []

-- ψ; a word of 16 digits and one of 17; 128 pairs and 129
granted_example : map granted (ψ ∷ digits_of 16 ∷ digits_of 17 ∷ replicate 128 (row 1 1) ∷ replicate 129 (row 1 1) ∷ []) ≡ true ∷ true ∷ false ∷ true ∷ false ∷ []
unfolding granted max_pairs max_digits
granted_example = refl

-- "A word of 16 digits passes, 17 is 4."; no digits, a wrong belt and a wrong way
is_plan_word_example : map (is_plan_word (record { arity = 2; roots = 1 })) (replicate 16 1 ∷ replicate 17 1 ∷ [] ∷ spell 21 ∷ spell 13 ∷ [])
    ≡ true ∷ false ∷ false ∷ false ∷ false ∷ []
unfolding is_plan_word max_digits
is_plan_word_example = refl

-- a code of 1,024 digits and one of 1,025
is_code_example : map (is_code (record { arity = 2; roots = 1 })) (replicate 1024 1 ∷ replicate 1025 1 ∷ []) ≡ true ∷ false ∷ []
unfolding is_code max_code
is_code_example = refl

-- the first and the last seed, and those beside them
seed_in_range_example : map seed_in_range (0 ∷ 1 ∷ 2_147_483_646 ∷ 2_147_483_647 ∷ []) ≡ false ∷ true ∷ true ∷ false ∷ []
unfolding seed_in_range
seed_in_range_example = refl

shape_in_range_example : map shape_in_range (record { arity = 2; roots = 1 } ∷ record { arity = 1; roots = 1 } ∷ record { arity = 9; roots = 0 } ∷ []) ≡ true ∷ false ∷ false ∷ []
unfolding shape_in_range
shape_in_range_example = refl
