-- Packed columns: the words that a list of packed numbers holds, the table that two such lists hold, and the order in which columns
-- are sorted, the first digit that differs, a word before those that it begins.
use Rattle.std.specs.Prelude.{ℕ, ◌≡◌, refl, Bool, true, false, ◌&&◌, ◌||◌, List, [], ◌∷◌, map, take, drop}
use Rattle.higman.specs.Words.{Word, begins, spell}
use Rattle.higman.specs.Bases.{all}
use Rattle.higman.specs.Tables.{Pair, Table, row}
use Rattle.higman.specs.Normal.{before}
use Rattle.words.specs.Packed.{unpack_in, unpack}

abbrev pub words_of : List ℕ → List Word
words_of column = map unpack column

-- the pair that two numbers hold
abbrev pub pair_of : ℕ → ℕ → Pair
pair_of from to = record { from = unpack from; to = unpack to }

-- the pairs of two columns, place by place
abbrev pub table : List ℕ → List ℕ → Table
table [] to = []
table (f ∷ from) [] = []
table (f ∷ from) (t ∷ to) = pair_of f t ∷ table from to

-- the first k pairs of two columns
abbrev pub rows : ℕ → List ℕ → List ℕ → Table
rows k from to = table (take k from) (take k to)

-- k pairs of two columns, from a place on
abbrev pub rows_at : ℕ → ℕ → List ℕ → List ℕ → Table
rows_at at k from to = rows k (drop at from) (drop at to)

-- a word stands before another by the first digit that differs, or begins it
abbrev pub in_order : Word → Word → Bool
in_order u v = before u v || begins u v

-- each word in order with all that follow it
abbrev pub sorted : List Word → Bool
sorted [] = true
sorted (w ∷ c) = all (in_order w) c && sorted c

table_example : table (0x11 ∷ 0x12 ∷ []) (0x12 ∷ 0x11 ∷ []) ≡ row 11 12 ∷ row 12 11 ∷ []
unfolding unpack unpack_in
table_example = refl

sorted_example : map sorted ((spell 1 ∷ spell 11 ∷ spell 2 ∷ []) ∷ (spell 11 ∷ spell 1 ∷ []) ∷ []) ≡ true ∷ false ∷ []
sorted_example = refl

rows_at_example : rows_at 1 1 (0x11 ∷ 0x12 ∷ []) (0x12 ∷ 0x11 ∷ []) ≡ row 12 11 ∷ []
unfolding unpack unpack_in
rows_at_example = refl
