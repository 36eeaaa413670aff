-- Codes under a plan: what the library's match hands back, at which place it was found, and what a route replies and leaves in the lent
-- buffer. The images are those of higman; 15 comes before all other refusals. Read Listing.antt next.
use Rattle.std.specs.Prelude.{ℕ, ◌≡◌, refl, true, false, List, [], ◌∷◌, map, drop}
use Rattle.higman.specs.Tables.{froms, ψ}
use Rattle.higman.specs.Normal.{joined, normal, normal_form, keep}
use Rattle.higman.specs.Limits.{shape_in_range, granted, is_code, max_pairs, max_digits, max_code}
use Rattle.higman.specs.Places.{place_of}
use Rattle.higman.specs.Answers as Of
use Rattle.higman.specs.Text.{digit_of, word_of}
use Rattle.words.specs.Packed.{pack_on, pack, unpack_in, unpack}
use Rattle.words.specs.Bytes.{shape}
use Rattle.tables.specs.Routing.{matched_digits}
use Rattle.operations.specs.declared.Plan.{Plan}
use Rattle.operations.specs.declared.Route.{Route}
use Rattle.operations.specs.declared.Route.TheVariants.{Image, TooShort, Refused}
use Rattle.operations.specs.declared.refusals.Refusal.TheVariants as The
use Rattle.operations.specs.Plans.{shape_of, rows_of, plan_of, in_table, is_plan, packed, blank}
use Rattle.operations.specs.Routing.{matched_in, matched_place_in, routing_by, image_into}

-- the digits of the from-word that begins a code; none where no from-word does, "or 15 or 4 applies"
unfoldable pub matched : Plan → List ℕ → ℕ
matched p code =
    elim (is_plan p) [ true ↦ matched_in (shape_of p) (froms (rows_of p)) code | false ↦ 0 ]

-- "The library's match hands back the unmatched tail as a part of the parcel's code.": its bytes; where it starts is `further`.
abbrev pub matching : Plan → List ℕ → List ℕ
matching p code = drop (matched p code) code

-- the place of that from-word in the listing (change request E7): "The place is 0 where nothing matches or 15 or 4 applies."
unfoldable pub matched_place : Plan → List ℕ → ℕ
matched_place p code =
    elim (is_plan p) [ true ↦ matched_place_in (shape_of p) (froms (rows_of p)) code | false ↦ 0 ]

-- the route of a single code: 15, 4, 13, 14
unfoldable pub routing : Plan → List ℕ → ℕ → Route
routing p code room = elim (is_plan p) [ true ↦ routing_by (plan_of p) (word_of code) room | false ↦ Refused The.InvalidValue ]

-- what the buffer then holds
unfoldable pub routed_buffer : Plan → List ℕ → List ℕ → List ℕ
routed_buffer p code out = elim (is_plan p) [ true ↦ image_into (Of.routed (plan_of p) (word_of code)) out | false ↦ out ]

-- ψ, for examples
abbrev value : Plan
value = packed (record { shape = shape 2 1; rows = ψ })

-- 1122 behind 112; 13, which has a wrong digit; 1122 by what is no plan
matching_example : (matching value (49 ∷ 49 ∷ 50 ∷ 50 ∷ []) ≡ 50 ∷ []) × (matching value (49 ∷ 51 ∷ []) ≡ 49 ∷ 51 ∷ []) × (matching blank (49 ∷ 49 ∷ 50 ∷ 50 ∷ []) ≡ 49 ∷ 49 ∷ 50 ∷ 50 ∷ [])
unfolding matched matched_digits is_plan in_table Of.is_kept is_code max_code shape_in_range granted max_pairs max_digits Of.verdict
    keep normal_form normal joined packed blank pack pack_on unpack unpack_in digit_of
matching_example = (refl, refl, refl)

-- 1122 by the second pair; 11, which no from-word begins; 13, which has a wrong digit; 1122 by what is no plan
matched_place_example : (map (matched_place value) ((49 ∷ 49 ∷ 50 ∷ 50 ∷ []) ∷ (49 ∷ 49 ∷ []) ∷ (49 ∷ 51 ∷ []) ∷ []) ≡ 2 ∷ 0 ∷ 0 ∷ [])
    × (matched_place blank (49 ∷ 49 ∷ 50 ∷ 50 ∷ []) ≡ 0)
unfolding matched_place place_of is_plan in_table Of.is_kept is_code max_code shape_in_range granted max_pairs max_digits Of.verdict
    keep normal_form normal joined packed blank pack pack_on unpack unpack_in digit_of
matched_place_example = (refl, refl)

-- 1122 goes to 1212 by the second pair, with room for all of it and for three bytes; 11 is too short, and 13 has a wrong digit
routing_example : (routing value (49 ∷ 49 ∷ 50 ∷ 50 ∷ []) 4 ≡ Image (record { length = 4; place = 2 }))
    × (routing value (49 ∷ 49 ∷ 50 ∷ 50 ∷ []) 3 ≡ Refused The.BufferTooShort) × (routing value (49 ∷ 49 ∷ []) 4 ≡ TooShort)
    × (routing value (49 ∷ 51 ∷ []) 4 ≡ Refused The.BadWord)
unfolding routing place_of Of.routed is_plan in_table Of.is_kept is_code max_code shape_in_range granted max_pairs max_digits Of.verdict
    keep normal_form normal joined packed pack pack_on unpack unpack_in digit_of
routing_example = (refl, refl, refl, refl)

routed_buffer_example : map (routed_buffer value (49 ∷ 49 ∷ 50 ∷ 50 ∷ [])) ((7 ∷ 7 ∷ 7 ∷ 7 ∷ 7 ∷ []) ∷ (7 ∷ 7 ∷ 7 ∷ []) ∷ []) ≡ (49 ∷ 50 ∷ 49 ∷ 50 ∷ 7 ∷ []) ∷ (7 ∷ 7 ∷ 7 ∷ []) ∷ []
unfolding routed_buffer Of.routed is_plan in_table Of.is_kept is_code max_code shape_in_range granted max_pairs max_digits Of.verdict keep normal_form normal joined packed pack pack_on unpack unpack_in digit_of
routed_buffer_example = refl
