-- The test of a head and columns for a desk, part by part, and the statement that it holds exactly where they hold one.
use Rattle.std.specs.Prelude.{ℕ, zero, suc, ◌+◌, ◌≤◌, ◌<◌, ◌≡◌, refl, ◌↔◌, None, Some, Bool, true, false, ◌&&◌}
use Rattle.std.specs.Prelude.{List, [], ◌∷◌, map, T, leb, eqb, length, take}
use Rattle.higman.specs.Words.{count}
use Rattle.higman.specs.Bases.{all}
use Rattle.higman.specs.Tables.{row}
use Rattle.higman.specs.Normal.{joined, normal, normal_form, keep}
use Rattle.higman.specs.Limits.{max_pairs, max_digits, slot_count, shape_in_range, granted, is_plan_word}
use Rattle.higman.specs.Answers.{verdict, is_kept}
use Rattle.words.specs.Packed.{pack_on, pack, unpack_in, unpack}
use Rattle.columns.specs.Packed.{words_of}
use Rattle.desk.specs.Limits.{max_right, max_changes}
use Rattle.desk.specs.Desk.{is_control}
use Rattle.operations.specs.declared.Plan.{Plan}
use Rattle.operations.specs.Plans.{shape_of, zeros, in_table, is_plan, packed, blank}
use Rattle.operations.specs.Answers.{value21}
use Rattle.slots.specs.declared.Control.{Control}
use Rattle.slots.specs.declared.Head.{Head}
use Rattle.slots.specs.Rights.{row_of}
use Rattle.slots.specs.Blocks.{block_count, columns_size, size_at, value_at}
use Rattle.slots.specs.Desks.{draft_block, control_of, HoldsDesk}

-- what a slot may hold: a kept plan with zeros behind its pairs, or nothing at all
abbrev pub slot_test : Plan → Bool
slot_test v = elim (eqb v.pairs 0) [ true ↦ zeros v.from && zeros v.to | false ↦ is_plan v ]

abbrev pub slots_test : Head → List ℕ → Bool
slots_test h columns = all (λ i. slot_test (value_at h columns i)) (count 0 slot_count)

-- words of the shape in a column of an open plan
abbrev pub words_test : Plan → List ℕ → Bool
words_test v column = all (is_plan_word (shape_of v)) (words_of (take v.pairs column))

-- an open plan as P and M make one: for a slot, of a shape in its range, with words in both columns
abbrev pub draft_test : ℕ → Plan → Bool
draft_test slot v = leb (suc slot) slot_count && shape_in_range (shape_of v) && words_test v v.from && words_test v v.to

abbrev pub open_test : Head → Plan → Bool
open_test h v = elim h.draft [ None ↦ true | Some slot ↦ draft_test slot v ]

-- counts in their range, the rights of a station on the slots, and those of all stations
abbrev pub counts_test : List ℕ → Bool
counts_test changes = all (λ n. leb n max_changes) changes

abbrev pub row_test : ℕ → Bool
row_test row = all (λ x. leb x max_right) (row_of row)

abbrev pub rights_test : List ℕ → Bool
rights_test rows = all row_test rows

-- a station, counts and rights in their ranges
abbrev pub control_test : Control → Bool
control_test c = is_control (control_of c)

-- the pairs of so many slots, from one of them on, by their sizes, and those of all slots
abbrev pub sizes_from : Head → ℕ → ℕ → ℕ
sizes_from h i zero = 0
sizes_from h i (suc n) = (size_at h i).pairs + sizes_from h (suc i) n

unfoldable pub sizes_sum : Head → ℕ
sizes_sum h = sizes_from h 0 slot_count

-- no slot has more pairs than places
abbrev pub FewPairs : Head → Type 0
FewPairs h = (i : ℕ) → i < slot_count → (size_at h i).pairs ≤ max_pairs

unfoldable pub holds_test : Head → List ℕ → Bool
holds_test h columns =
    control_test h.control && leb (size_at h draft_block).pairs max_pairs && open_test h (value_at h columns draft_block)
    && slots_test h columns && eqb h.control.pairs (sizes_sum h)

-- a value without pairs that has a word
abbrev value : Plan
value = record { arity = 2; roots = 1; pairs = 0; from = 0x11 ∷ []; to = 0x11 ∷ [] }

-- the test says what a desk in code is
abbrev pub HoldsExact : Type 0
HoldsExact =
    (h : Head) (columns : List ℕ) → length h.sizes ≡ block_count → length columns ≡ columns_size
    → T (holds_test h columns) ↔ HoldsDesk h columns

-- no plan; a word without a pair; the plan that moves nothing, and the same on two pairs, which is not reduced
slot_test_example : map slot_test (blank ∷ value ∷ value21 (row 1 1 ∷ []) ∷ value21 (row 11 11 ∷ row 12 12 ∷ []) ∷ [])
    ≡ true ∷ false ∷ true ∷ false ∷ []
unfolding is_plan in_table is_kept shape_in_range granted max_pairs max_digits verdict keep normal_form normal joined packed blank pack pack_on unpack unpack_in
slot_test_example = refl
