-- What the code of "a then b" writes: pairs behind those that two columns already hold, or that a word of them is too long for a
-- plan. Each function answers for the pairs that are its own, and the answers compose.
use Rattle.std.specs.Prelude.{ℕ, ◌+◌, ◌≤◌, ◌≡◌, true, false, List, ◌++◌, T, length, take, Option, Some, None}
use Rattle.higman.specs.Bases.{all, overlap}
use Rattle.higman.specs.Words.{Word}
use Rattle.higman.specs.Tables.{Pair, Table}
use Rattle.higman.specs.Limits.{pair_fits}
use Rattle.words.specs.Packed.{unpack, is_packed}
use Rattle.columns.specs.Packed.{words_of, table, sorted}
use Rattle.columns.specs.Columns.{begun_at}

-- all words of a column are packed
abbrev pub packed_words : List ℕ → Type 0
packed_words column = T (all is_packed column)

-- two columns of one length, all words packed
pub record Plain (from to : List ℕ) : Type 0 where
  pub long : length from ≡ length to
  pub from_packed : packed_words from
  pub to_packed : packed_words to

-- the columns of a plan in which words are looked up
pub record Operand (from to : List ℕ) : Type 0 where
  pub plain : Plain from to
  pub in_order : sorted (words_of from) ≡ true
  pub apart : overlap (words_of from) ≡ false

-- no word of the column begins w
abbrev pub Unbegun : List ℕ → ℕ → Type 0
Unbegun column w = begun_at (words_of column) (unpack w) ≡ None

-- two columns with room for the pairs of t behind n others
abbrev pub Room : ℕ → Table → List ℕ → List ℕ → Type 0
Room n t from to = (n + length t ≤ length from) × (n + length t ≤ length to)

abbrev pub pair : Word → Word → Pair
pair u v = record { from = u; to = v }

-- two columns of n pairs, then with the pairs of t behind them, r in all
pub record Extended (t : Table) (n : ℕ) (from to from' to' : List ℕ) (r : ℕ) : Type 0 where
  pub rows : r ≡ n + length t
  pub pairs : table (take r from') (take r to') ≡ table (take n from) (take n to) ++ t
  pub from_packed : packed_words (take n from) → packed_words (take r from')
  pub to_packed : packed_words (take n to) → packed_words (take r to')

-- the pairs of t are written behind the first n, if a plan has room for each of their words, and otherwise one is too long
abbrev pub Spreads : Table → ℕ → List ℕ → List ℕ → List ℕ → List ℕ → Option ℕ → Type 0
Spreads t n from to from' to' (Some r) = (all pair_fits t ≡ true) × Extended t n from to from' to' r
Spreads t n from to from' to' None = all pair_fits t ≡ false
