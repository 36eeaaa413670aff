-- Tables as they are kept (document 01, "Plans"; document 004, Lemma 4.3), by tests that take one pass each. In a table whose from-words
-- are in order, n pairs that join stand next to each other, so that a pass over the places finds a join if there is one.
use Rattle.std.specs.Prelude.{ℕ, ◌≡◌, refl, Bool, true, false, ◌&&◌, ◌||◌, not, [], ◌∷◌, map, take}
use Rattle.higman.specs.Words.{Word}
use Rattle.higman.specs.Tables.{Table, froms, same_table, row, ψ}
use Rattle.higman.specs.Normal.{parent, parts, ordered}
use Rattle.words.specs.Packed.{or_empty}
use Rattle.tables.specs.Reduction.{prefixed}

-- a word of at least a belt
abbrev pub is_rooted : Word → Bool
is_rooted [] = false
is_rooted (a ∷ w) = true

-- the word without its last digit; the empty word where no digit is left
abbrev pub above : Word → Word
above w = or_empty (parent w)

-- "n pairs have from-words w1, .., wn and to-words v1, .., vn in the same order, w and v being words of at least a belt": the first n
-- pairs of a table are these, w and v being the words above those of its first pair.
unfoldable pub joins_first : ℕ → Table → Bool
joins_first n [] = false
joins_first n (p ∷ t) =
    is_rooted (above p.from) && is_rooted (above p.to) && same_table (take n (p ∷ t)) (prefixed (above p.from) (parts n (above p.to)))

-- the n pairs from some place on join
abbrev pub has_join : ℕ → Table → Bool
has_join n [] = false
has_join n (p ∷ t) = joins_first n (p ∷ t) || has_join n t

-- "Kept plans are reduced, with from-words in order of the first digit that differs."
unfoldable pub is_normal : ℕ → Table → Bool
is_normal n t = ordered (froms t) && not (has_join n t)

-- parts of 1 with the parts of 12; with the same in another order; and of no word of at least a belt, in either column
joins_first_example : map (joins_first 2) ((row 11 121 ∷ row 12 122 ∷ []) ∷ (row 11 122 ∷ row 12 121 ∷ []) ∷ (row 1 11 ∷ row 2 12 ∷ []) ∷ (row 11 1 ∷ row 12 2 ∷ []) ∷ []) ≡ true ∷ false ∷ false ∷ false ∷ []
unfolding joins_first
joins_first_example = refl

-- ψ is reduced; behind its first pair two pairs join
has_join_example : map (has_join 2) (ψ ∷ (row 11 12 ∷ row 121 111 ∷ row 122 112 ∷ []) ∷ []) ≡ false ∷ true ∷ []
unfolding joins_first
has_join_example = refl

-- ψ; its pairs in another order; and a table in order that is not reduced
is_normal_example : map (is_normal 2) (ψ ∷ (row 12 122 ∷ row 111 11 ∷ row 112 121 ∷ []) ∷ (row 11 11 ∷ row 12 12 ∷ []) ∷ []) ≡ true ∷ false ∷ false ∷ []
unfolding is_normal joins_first
is_normal_example = refl
