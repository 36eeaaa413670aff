-- The listing of a plan for a slot: what is answered and left in the lent buffer. 8 comes first, and 14 last. Read Keeping.antt next.
use Rattle.std.specs.Prelude.{ℕ, ◌≡◌, refl, true, false, List, [], ◌∷◌, ◌++◌, map, length, replicate, Result, Ok, Err}
use Rattle.std.specs.Result.{result_unwrap_or}
use Rattle.higman.specs.Text.{bytes}
use Rattle.higman.specs.Tables.{row}
use Rattle.higman.specs.Limits.{Plan, slot_count}
use Rattle.higman.specs.Listing.{is_slot, listing as lines_of}
use Rattle.higman.specs.Buffers.{if_room, lent_into}
use Rattle.words.specs.Bytes.{shape}
use Rattle.operations.specs.declared.refusals.Refusal.{Refusal}
use Rattle.operations.specs.declared.refusals.Refusal.TheVariants.{SlotOutside, BufferTooShort}
use Rattle.operations.specs.Refusals.{answer_number}

-- "14 last: the lent buffer is shorter than the output"
abbrev pub listing_in : List ℕ → ℕ → Result ℕ Refusal
listing_in l room = if_room (length l) room (Ok (length l)) (Err BufferTooShort)

-- L of a plan: 8, 14
abbrev pub listing_for : ℕ → Plan → ℕ → Result ℕ Refusal
listing_for slot p room = elim (is_slot slot) [ true ↦ listing_in (lines_of slot p) room | false ↦ Err SlotOutside ]

-- what the buffer then holds
abbrev pub listed_for : ℕ → Plan → List ℕ → List ℕ
listed_for slot p out = elim (is_slot slot) [ true ↦ lent_into (lines_of slot p) out | false ↦ out ]

-- 1→1 in slot B: with room for its 16 bytes and for 15, and in a slot that is none
abbrev same : Plan
same = record { shape = shape 2 1; rows = row 1 1 ∷ [] }

listing_for_example : (listing_for 66 same 16 ≡ Ok 16) × (listing_for 66 same 15 ≡ Err BufferTooShort)
    × (listing_for 73 same 16 ≡ Err SlotOutside)
unfolding slot_count
listing_for_example = (refl, refl, refl)

listed_for_example : map (listed_for 66 same) (replicate 17 7 ∷ replicate 15 7 ∷ [])
    ≡ (bytes "P\tB\t2\t1\nM\t1\t1\nE\n" ++ 7 ∷ []) ∷ replicate 15 7 ∷ []
unfolding slot_count
listed_for_example = refl

-- the number of a refusal, 0 where the listing was written, and the number of bytes written
listed_number_example : (map (answer_number {A = ℕ}) (Ok 16 ∷ Err BufferTooShort ∷ []) ≡ 0 ∷ 14 ∷ [])
    × (map (λ (r : Result ℕ Refusal). result_unwrap_or r 0) (Ok 16 ∷ Err BufferTooShort ∷ []) ≡ 16 ∷ 0 ∷ [])
listed_number_example = (refl, refl)
