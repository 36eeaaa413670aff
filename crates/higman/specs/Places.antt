-- Places in the listing (change request E7): "which line of the plan to look at". A place is counted from 1, in the order of the pairs. A
-- code has the place of the pair that routes it, 0 where there is none, and each line of a block has that of its pair. None of it need be
-- believed: `PlacesExact` fixes it. Read Exercises.antt next.
use Rattle.std.specs.Prelude.{ℕ, suc, ◌≡◌, refl, ◌↔◌, true, false, length}
use mathlib.Core.List.{List, [], ◌∷◌, ◌++◌, map, Memᴰ}
use Rattle.std.proofs.Math.Option.{none, some, get_or}
use Rattle.higman.specs.Words.{Word, begins_properly, spell}
use Rattle.higman.specs.Tables.{Pair, Table, froms, first_match, image, row, ψ}
use Rattle.higman.specs.Limits.{Plan, Kept}
use Rattle.higman.specs.Listing.{open_record, pair_record, pair_records, close_record, join_lines, listing}
use Rattle.higman.specs.Fronts.{block}

-- the place of the first word of a column that begins the word w; "0 where nothing matches"
unfoldable pub place_of : List Word → Word → ℕ
place_of c w = get_or (first_match (λ u. u) (λ before u tail. suc before) c w) 0

-- a pair with its place
pub record Placed : Type 0 where
  pub place : ℕ
  pub pair : Pair

-- pairs with their places, the first of them with the place k
abbrev pub placed_from : ℕ → Table → List Placed
placed_from k [] = []
placed_from k (p ∷ t) = record { place = k; pair = p } ∷ placed_from (suc k) t

-- those of them whose from-words extend the word w
abbrev pub extending_in : List Placed → Word → List Placed
extending_in [] w = []
extending_in (l ∷ ls) w = elim (begins_properly w l.pair.from) [ true ↦ l ∷ extending_in ls w | false ↦ extending_in ls w ]

-- "The lines of E1 gain the same field": the block of a word, each of its pairs with the place that it has in the whole listing
unfoldable pub placed_block : Table → Word → List Placed
placed_block t w = extending_in (placed_from 1 t) w

abbrev pub pairs_of : List Placed → Table
pairs_of ls = map (λ l. l.pair) ls

-- the pair at the place k of a table: one pair less than k stands before it
pub record AtPlace (t : Table) (k : ℕ) (p : Pair) : Type 0 where
  pub before : Table
  pub behind : Table
  pub parts : t ≡ before ++ p ∷ behind
  pub counted : k ≡ suc (length before)

-- The same by the listing's bytes: its M record is the k-th, behind the P record and the M records of the pairs before.
pub record ListedAt (a : Plan) (slot k : ℕ) (p : Pair) : Type 0 where
  pub before : Table
  pub behind : Table
  pub lines : listing slot a ≡ open_record slot a.shape
      ++ (join_lines (pair_records before) ++ (pair_record p ++ (join_lines (pair_records behind) ++ close_record)))
  pub counted : k ≡ suc (length before)

-- the pair at a place routes a word to v
pub record RoutesAt (t : Table) (w v : Word) (k : ℕ) : Type 0 where
  pub pair : Pair
  pub tail : Word
  pub there : AtPlace t k pair
  pub begun : w ≡ pair.from ++ tail
  pub sent : v ≡ pair.to ++ tail

pub record PlacesExact : Type 0 where
  -- the first pair of a table stands at 1, and with one pair more before them all stand one place further on
  pub first : (t : Table) (p : Pair) → AtPlace (p ∷ t) 1 p
  pub next : (t : Table) (k : ℕ) (p q : Pair) → AtPlace t k p → AtPlace (q ∷ t) (suc k) p
  -- 0 exactly where nothing matches; otherwise the place of the pair by which the image is made
  pub nowhere : (t : Table) (w : Word) → (place_of (froms t) w ≡ 0) ↔ (image t w ≡ none)
  pub routes : (t : Table) (w v : Word) → image t w ≡ some v → RoutesAt t w v (place_of (froms t) w)
  -- of a kept plan no other pair routes the word, and so no pair has two places
  pub only : (a : Plan) → Kept a → (w v : Word) (k : ℕ) → RoutesAt a.rows w v k
      → (image a.rows w ≡ some v) × (k ≡ place_of (froms a.rows) w)
  -- the lines of a block are its pairs, as they stand there, each with its place
  pub pairs : (t : Table) (w : Word) → map (λ l. l.pair) (placed_block t w) ≡ block t w
  pub places : (t : Table) (w : Word) (l : Placed) → Memᴰ l (placed_block t w) → AtPlace t l.place l.pair
  -- the place in a table is the place among the M records of its listing
  pub listed : (a : Plan) (slot k : ℕ) (p : Pair) → AtPlace a.rows k p ↔ ListedAt a slot k p

-- "`ok⇥1212⇥2`": 1122 goes by the second pair; 12, which is the third from-word; and 11, which no from-word begins
place_of_example : map (place_of (froms ψ)) (spell 1122 ∷ spell 12 ∷ spell 11 ∷ []) ≡ 2 ∷ 3 ∷ 0 ∷ []
unfolding place_of
place_of_example = refl

-- "`B⇥111⇥11⇥1`, `B⇥112⇥121⇥2`"; and a block that begins at the second place
placed_block_example : (placed_block ψ (spell 11) ≡ record { place = 1; pair = row 111 11 } ∷ record { place = 2; pair = row 112 121 } ∷ [])
    × (placed_block (row 11 121 ∷ row 121 122 ∷ row 122 11 ∷ []) (spell 12)
    ≡ record { place = 2; pair = row 121 122 } ∷ record { place = 3; pair = row 122 11 } ∷ [])
unfolding placed_block
placed_block_example = (refl, refl)

-- 112 stands at the second place of ψ
at_place_example : AtPlace ψ 2 (row 112 121)
at_place_example = record { before = row 111 11 ∷ []; behind = row 12 122 ∷ []; parts = refl; counted = refl }
