-- The listing of a plan for a slot: what the call answers and leaves in the lent buffer. 15 comes first. Read
-- Theorems.antt next.
use Rattle.std.specs.Prelude.{ℕ, ◌≡◌, refl, true, false, List, [], ◌∷◌, ◌++◌, map, replicate, Result, Ok, Err}
use Rattle.higman.specs.Text.{bytes}
use Rattle.higman.specs.Tables.{row}
use Rattle.higman.specs.Normal.{joined, normal, normal_form, keep}
use Rattle.higman.specs.Limits.{shape_in_range, granted, max_pairs, max_digits, slot_count}
use Rattle.higman.specs.Answers.{verdict, is_kept}
use Rattle.words.specs.Packed.{pack_on, pack, unpack_in, unpack}
use Rattle.words.specs.Bytes.{shape}
use Rattle.operations.specs.declared.Plan.{Plan}
use Rattle.operations.specs.declared.refusals.Refusal.{Refusal}
use Rattle.operations.specs.declared.refusals.Refusal.TheVariants as The
use Rattle.operations.specs.Plans.{plan_of, in_table, is_plan, packed, blank}
use Rattle.operations.specs.Listing.{listing_for, listed_for}

-- L: 15, 8, 14
unfoldable pub listing_answer : Plan → ℕ → ℕ → Result ℕ Refusal
listing_answer p slot room =
    elim (is_plan p) [ true ↦ listing_for slot (plan_of p) room | false ↦ Err The.InvalidValue ]

-- what the buffer then holds
unfoldable pub listed_buffer : Plan → ℕ → List ℕ → List ℕ
listed_buffer p slot out =
    elim (is_plan p) [ true ↦ listed_for slot (plan_of p) out | false ↦ out ]

-- 1→1 in slot B: with room for its 16 bytes and for 15, in a slot that is none, and what is no plan
abbrev value : Plan
value = packed (record { shape = shape 2 1; rows = row 1 1 ∷ [] })

listing_example : (listing_answer value 66 16 ≡ Ok 16) × (listing_answer value 66 15 ≡ Err The.BufferTooShort)
    × (listing_answer value 73 16 ≡ Err The.SlotOutside) × (listing_answer blank 73 16 ≡ Err The.InvalidValue)
unfolding listing_answer slot_count is_plan in_table is_kept shape_in_range granted max_pairs max_digits verdict keep normal_form normal joined
    packed blank pack pack_on unpack unpack_in
listing_example = (refl, refl, refl, refl)

listed_buffer_example : map (listed_buffer value 66) (replicate 17 7 ∷ replicate 15 7 ∷ [])
    ≡ (bytes "P\tB\t2\t1\nM\t1\t1\nE\n" ++ 7 ∷ []) ∷ replicate 15 7 ∷ []
unfolding listed_buffer slot_count is_plan in_table is_kept shape_in_range granted max_pairs max_digits verdict keep normal_form normal joined
    packed pack pack_on unpack unpack_in
listed_buffer_example = refl
