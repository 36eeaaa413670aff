-- Codes under a plan's columns (document 01, "Forms"): the word of a column that begins a code, the tail behind it, and what routing
-- a code answers and leaves in the buffer.
use Rattle.std.specs.Prelude.{ℕ, zero, suc, ◌+◌, ◌≡◌, refl, true, false, List, [], ◌∷◌, map, T, length, drop, Some, None, Result, Ok, Err}
use Rattle.std.specs.Prelude as Of
use Rattle.std.proofs.Math.Option.{Option, none, some, get_or}
use Rattle.higman.specs.Words.{Word, is_ways, spell}
use Rattle.higman.specs.Bases.{overlap}
use Rattle.higman.specs.Tables.{first_match}
use Rattle.higman.specs.Text.{word_bytes, digit_of, word_of}
use Rattle.higman.specs.Buffers.{if_room, lent_into}
use Rattle.columns.specs.Packed.{words_of, sorted}
use Rattle.tables.specs.Spreading.{packed_words}
use Rattle.tables.specs.declared.routing.Image.{Image}
use Rattle.tables.specs.declared.routing.RouteError.{RouteError}
use Rattle.tables.specs.declared.routing.RouteError.TheVariants.{TooShort, NoRoom}

-- "A code is a string of digits"
abbrev pub IsCode : List ℕ → Type 0
IsCode code = T (is_ways 9 (word_of code))

-- a column in which the word that begins a code is looked up
pub record Searchable (column : List ℕ) : Type 0 where
  pub packed : packed_words column
  pub in_order : sorted (words_of column) ≡ true
  pub apart : overlap (words_of column) ≡ false

-- the number of digits of the first word of a column that begins w, 0 where none does
unfoldable pub matched_digits : List Word → Word → ℕ
matched_digits c w = get_or (first_match (λ u. u) (λ place u tail. length u) c w) 0

-- "The library's match hands back the unmatched tail .. Where no from-word begins the code .. that part is the whole code."
abbrev pub unmatched : List Word → List ℕ → List ℕ
unmatched c code = drop (matched_digits c (word_of code)) code

-- a place counted from 1, which is 0 where there is none
abbrev pub at_place : ℕ → Of.Option ℕ
at_place zero = None
at_place (suc k) = Some (suc k)

-- "as a part of the parcel's code": where a part starts that leaves out so many bytes, by the place where the code starts
abbrev pub further : ℕ → ℕ × ℕ → ℕ × ℕ
further n place = (place.0, n + place.1)

-- what routing a code by the pair at a place, with this image, answers, with room for so many bytes
abbrev pub routed_in : ℕ → Option Word → ℕ → Result Image RouteError
routed_in place none room = Err TooShort
routed_in place (some v) room =
    if_room (length (word_bytes v)) room (Ok (record { length = length (word_bytes v); place = place })) (Err NoRoom)

-- and what the buffer then holds
abbrev pub routed_into : Option Word → List ℕ → List ℕ
routed_into none out = out
routed_into (some v) out = lent_into (word_bytes v) out

-- 1122 behind 112, and 21, which no word begins
unmatched_example : map (unmatched (spell 111 ∷ spell 112 ∷ [])) ((49 ∷ 49 ∷ 50 ∷ 50 ∷ []) ∷ (50 ∷ 49 ∷ []) ∷ []) ≡ (50 ∷ []) ∷ (50 ∷ 49 ∷ []) ∷ []
unfolding matched_digits digit_of
unmatched_example = refl

-- room for all four bytes, for three of them, and a code that is too short
routed_in_example : (routed_in 2 (some (spell 1212)) 4 ≡ Ok (record { length = 4; place = 2 }))
    × (routed_in 2 (some (spell 1212)) 3 ≡ Err NoRoom)
    × (routed_in 0 none 4 ≡ Err TooShort)
routed_in_example = (refl, refl, refl)

routed_into_example : map (routed_into (some (spell 12))) ((7 ∷ 7 ∷ 7 ∷ []) ∷ (7 ∷ []) ∷ []) ≡ (49 ∷ 50 ∷ 7 ∷ []) ∷ (7 ∷ []) ∷ []
routed_into_example = refl

-- three bytes behind the fifth of block 2
further_example : further 3 (2, 5) ≡ (2, 8)
further_example = refl

at_place_example : map at_place (0 ∷ 3 ∷ []) ≡ None ∷ Some 3 ∷ []
at_place_example = refl
