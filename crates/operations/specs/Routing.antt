-- Codes under a plan: how many digits of a code are matched and at which place of the plan, and what a route replies and leaves in the lent
-- buffer. The images and places are those of higman; 14 comes after all other refusals. Read Listing.antt next.
use Rattle.std.specs.Prelude.{ℕ, ◌≡◌, refl, true, false, List, [], ◌∷◌, map, length}
use Rattle.higman.specs.Words.{Shape, Word, spell}
use Rattle.higman.specs.Tables.{froms}
use Rattle.higman.specs.Limits.{Plan, is_code, max_code}
use Rattle.higman.specs.Places.{place_of}
use Rattle.higman.specs.Refusals.{code_too_short}
use Rattle.higman.specs.Answers as Of
use Rattle.higman.specs.Text.{word_bytes, digit_of, word_of}
use Rattle.higman.specs.Buffers.{if_room, lent_into}
use Rattle.words.specs.Bytes.{shape}
use Rattle.tables.specs.Routing.{matched_digits}
use Rattle.operations.specs.declared.Route.{Route}
use Rattle.operations.specs.declared.Route.TheVariants as Routes
use Rattle.operations.specs.declared.refusals.Refusal.TheVariants as The
use Rattle.operations.specs.Refusals.{number_of, refusal}

-- the digits of the from-word that begins a code; none where no from-word does, or 4 applies
abbrev pub matched_in : Shape → List Word → List ℕ → ℕ
matched_in s from code = elim (is_code s (word_of code)) [ true ↦ matched_digits from (word_of code) | false ↦ 0 ]

-- the place of that from-word (change request E7): "The place is 0 where nothing matches or 15 or 4 applies."
abbrev pub matched_place_in : Shape → List Word → List ℕ → ℕ
matched_place_in s from code = elim (is_code s (word_of code)) [ true ↦ place_of from (word_of code) | false ↦ 0 ]

-- "14 last: the lent buffer is shorter than the output"
abbrev pub routing_in : ℕ → Of.Route → ℕ → Route
routing_in place (Of.Image v) room =
    if_room (length (word_bytes v)) room (Routes.Image (record { length = length (word_bytes v); place = place }))
    (Routes.Refused The.BufferTooShort)
routing_in place Of.TooShort room = Routes.TooShort
routing_in place (Of.NotRouted r) room = Routes.Refused (refusal r)

-- the route of a code by a plan: an image comes with its place
abbrev pub routing_by : Plan → Word → ℕ → Route
routing_by p w room = routing_in (place_of (froms p.rows) w) (Of.routed p w) room

-- what the buffer then holds: the image is the output
abbrev pub image_into : Of.Route → List ℕ → List ℕ
image_into (Of.Image v) out = lent_into (word_bytes v) out
image_into Of.TooShort out = out
image_into (Of.NotRouted r) out = out

-- the number of a route's refusal; 0 for an image
abbrev pub routing_number : Route → ℕ
routing_number (Routes.Image i) = 0
routing_number Routes.TooShort = code_too_short
routing_number (Routes.Refused r) = number_of r

-- the number of bytes written, 0 where there is a refusal
abbrev pub routing_length : Route → ℕ
routing_length (Routes.Image i) = i.length
routing_length Routes.TooShort = 0
routing_length (Routes.Refused r) = 0

-- the place of the pair, 0 where there is a refusal
abbrev pub routing_place : Route → ℕ
routing_place (Routes.Image i) = i.place
routing_place Routes.TooShort = 0
routing_place (Routes.Refused r) = 0

-- 1122 behind 112; 13, which has a wrong digit
matched_in_example : map (matched_in (shape 2 1) (spell 111 ∷ spell 112 ∷ [])) ((49 ∷ 49 ∷ 50 ∷ 50 ∷ []) ∷ (49 ∷ 51 ∷ []) ∷ [])
    ≡ 3 ∷ 0 ∷ []
unfolding matched_digits is_code max_code digit_of
matched_in_example = refl

-- 1122 by the second of two words; 13, which has a wrong digit
matched_place_in_example : map (matched_place_in (shape 2 1) (spell 111 ∷ spell 112 ∷ [])) ((49 ∷ 49 ∷ 50 ∷ 50 ∷ []) ∷ (49 ∷ 51 ∷ []) ∷ [])
    ≡ 2 ∷ 0 ∷ []
unfolding place_of is_code max_code digit_of
matched_place_in_example = refl

-- the image 12 with room for it and for one byte, a code that is too short and one with a wrong digit
routing_in_example : (routing_in 3 (Of.Image (spell 12)) 2 ≡ Routes.Image (record { length = 2; place = 3 }))
    × (routing_in 3 (Of.Image (spell 12)) 1 ≡ Routes.Refused The.BufferTooShort)
    × (routing_in 0 Of.TooShort 2 ≡ Routes.TooShort)
    × (routing_in 0 (Of.NotRouted Of.BadCode) 2 ≡ Routes.Refused The.BadWord)
routing_in_example = (refl, refl, refl, refl)

image_into_example : map (image_into (Of.Image (spell 12))) ((7 ∷ 7 ∷ 7 ∷ []) ∷ (7 ∷ []) ∷ []) ≡ (49 ∷ 50 ∷ 7 ∷ []) ∷ (7 ∷ []) ∷ []
image_into_example = refl

-- an image of four bytes from the second pair, a code that is too short and one with a wrong digit
routes : List Route
routes = Routes.Image (record { length = 4; place = 2 }) ∷ Routes.TooShort ∷ Routes.Refused The.BadWord ∷ []

routing_number_example : (map routing_number routes ≡ 0 ∷ 13 ∷ 4 ∷ []) × (map routing_length routes ≡ 4 ∷ 0 ∷ 0 ∷ [])
    × (map routing_place routes ≡ 2 ∷ 0 ∷ 0 ∷ [])
unfolding routes
routing_number_example = (refl, refl, refl)
