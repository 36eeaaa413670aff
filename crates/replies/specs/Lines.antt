-- What the functions that write replies ask of their callers, and where W's image stands (document 01, "Records").
use Rattle.std.specs.Prelude.{ℕ, ◌+◌, ◌≤◌, ◌≡◌, refl, [], ◌∷◌, map, length, take, drop}
use Rattle.higman.specs.Limits.{max_pairs}
use Rattle.higman.specs.Text.{bytes, decimal}
use Rattle.desk.specs.Bytes.{line_of, ok_line, no_line}

-- W: "`ok⇥` and the image": what stands before the image is `ok` and a tab
abbrev pub image_at : ℕ
image_at = 3

-- "`ok⇥`", an image of so many digits that stands there, and a place (change request E7): one of a plan, and room for the longest such line
pub record ImageFits (digits place size : ℕ) : Type 0 where
  pub place_granted : place ≤ max_pairs
  pub room : digits + 8 ≤ size

-- "`slot⇥n⇥r⇥pairs`": n and r of one digit, the pairs of a plan, and room for the longest such line from a place on
pub record HeldFits (arity roots pairs at size : ℕ) : Type 0 where
  pub arity_digit : arity ≤ 9
  pub roots_digit : roots ≤ 9
  pub pairs_granted : pairs ≤ max_pairs
  pub room : at + 10 ≤ size

-- the image is what stands there in the line
image_at_example : take 4 (drop image_at (ok_line (bytes "1212" ∷ decimal 2 ∷ []))) ≡ bytes "1212"
image_at_example = refl

-- the longest line of an image of four digits has twelve bytes
image_room_example : length (ok_line (bytes "1212" ∷ decimal max_pairs ∷ [])) ≡ 12
unfolding max_pairs
image_room_example = refl

-- the longest line of a held slot has ten bytes
held_example : line_of (bytes "H" ∷ decimal 9 ∷ decimal 9 ∷ decimal max_pairs ∷ []) ≡ bytes "H\t9\t9\t128\n"
unfolding max_pairs
held_example = refl

-- the longest lines of `ok` and of `no`: as many bytes as there is asked room for
ok_room_example : map length (ok_line [] ∷ ok_line (decimal 4_294_967_295 ∷ []) ∷ []) ≡ 3 ∷ 14 ∷ []
ok_room_example = refl

no_room_example : map length (no_line (decimal 255 ∷ []) ∷ no_line (decimal 255 ∷ bytes "T" ∷ []) ∷ []) ≡ 7 ∷ 9 ∷ []
no_room_example = refl
