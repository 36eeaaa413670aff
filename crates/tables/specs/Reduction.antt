-- Reduction over blocks (document 01, "Plans"): how the pairs of a table in order lie, block by block, what a step of the
-- reduction reads and writes, and what may be reduced. What is right to write is `normal` and `keep` of the crate `higman`.
use Rattle.std.specs.Prelude.{ℕ, suc, ◌≤◌, ◌≡◌, refl, true, T, length, drop}
use mathlib.Core.List.{List, [], ◌∷◌, ◌++◌, map, Memᴰ}
use Rattle.higman.specs.Words.{Shape, Word, count, digits, is_word, spell}
use Rattle.higman.specs.Bases.{Column, all}
use Rattle.higman.specs.Tables.{Table, froms, tos, image, row}
use Rattle.higman.specs.Normal.{gather, whole, normal, ordered}
use Rattle.columns.specs.Packed.{table, rows}

-- a table of the block w, as a table of the whole
abbrev pub prefixed : Word → Table → Table
prefixed w t = map (λ p. record { from = w ++ p.from; to = p.to }) t

-- "A block is covered if it is listed or if each of its n parts is covered", here with the pairs that cover it: one pair, or the pairs
-- of its parts in digit order, at most d ways deep.
pub data Cut (n : ℕ) : ℕ → Table → Type 0 where
  listed : {d : ℕ} {t : Table} (v : Word) → t ≡ whole v → Cut n d t
  split : {d : ℕ} {t : Table} (g : ℕ → Table) → ((i : ℕ) → Memᴰ i (digits n) → Cut n d (g i)) → t ≡ gather (digits n) g → Cut n (suc d) t

-- the pairs l begin with those of the block w
pub record Block (n d : ℕ) (w : Word) (l : Table) : Type 0 where
  pub pairs : Table
  pub rest : Table
  pub cut : Cut n d pairs
  pub stands : l ≡ prefixed w pairs ++ rest

-- the pairs l begin with those of m parts of the block w, from the a-th part on
pub record Parts (n d : ℕ) (w : Word) (a m : ℕ) (l : Table) : Type 0 where
  pub pairs : ℕ → Table
  pub rest : Table
  pub cut : (i : ℕ) → Memᴰ i (count a m) → Cut n d (pairs i)
  pub stands : l ≡ prefixed w (gather (count a m) pairs) ++ rest

-- two columns to read and two to write, with the places of the next pair to read and of the next pair to write
pub record State : Type 0 where
  pub from : List ℕ
  pub to : List ℕ
  pub out_from : List ℕ
  pub out_to : List ℕ
  pub read : ℕ
  pub write : ℕ

abbrev pub state : List ℕ → List ℕ → List ℕ → List ℕ → ℕ → ℕ → State
state f t of ot k j = record { from = f; to = t; out_from = of; out_to = ot; read = k; write = j }

-- the pairs that are left to read
abbrev pub ahead : State → Table
ahead s = drop s.read (table s.from s.to)

-- the pairs that are written
abbrev pub done : State → Table
done s = rows s.write s.out_from s.out_to

-- the places are within columns that have room
pub record Places (s : State) : Type 0 where
  pub paired : length s.from ≡ length s.to
  pub from_room : length s.from ≤ length s.out_from
  pub to_room : length s.from ≤ length s.out_to
  pub within : s.read ≤ length s.from
  pub behind : s.write ≤ s.read

-- from one state to another only the rest is left to read, and the reduced pairs are written behind those before
pub record Step (s s' : State) (rest reduced : Table) : Type 0 where
  pub remains : ahead s' ≡ rest
  pub written : done s' ≡ done s ++ reduced

-- the block w is read, and its reduced pairs are written
abbrev pub ReducesBlock : ℕ → ℕ → Word → State → State → Type 0
ReducesBlock n d w s s' = (b : Block n d w (ahead s)) → Step s s' b.rest (prefixed w (normal n d (image b.pairs)))

-- m parts of the block w, from the a-th on, are read, and their reduced pairs are written
abbrev pub ReducesParts : ℕ → ℕ → Word → ℕ → ℕ → State → State → Type 0
ReducesParts n d w a m s s' =
    (b : Parts n d w a m (ahead s)) → Step s s' b.rest (prefixed w (gather (count a m) (λ i. normal n d (image (b.pairs i)))))

-- what may be reduced: a table in order whose from column is a basis and whose to-words are words
pub record Reducible (s : Shape) (t : Table) : Type 0 where
  pub in_order : ordered (froms t) ≡ true
  pub column : Column s (froms t)
  pub to_words : T (all (is_word s) (tos t))

prefixed_example : prefixed (spell 11) (row 2 12 ∷ []) ≡ row 112 12 ∷ []
prefixed_example = refl

-- document 01, "Plans to try": 11→11, 12→12
reducible_example : Reducible (record { arity = 2; roots = 1 }) (row 11 11 ∷ row 12 12 ∷ [])
reducible_example = record { in_order = refl; column = record { words = tt; apart = refl; covers = refl }; to_words = tt }
