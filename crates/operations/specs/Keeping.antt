-- Inner contracts of closing and keeping: what is found in pairs that are left sorted, what is asked of them then, and what is left in
-- the lent columns.
use Rattle.std.specs.Prelude.{ℕ, ◌-◌, ◌≤◌, ◌≡◌, List, ◌++◌, map, T, length, replicate, Result}
use Rattle.higman.specs.Words.{Shape}
use Rattle.higman.specs.Tables.{Table, froms, tos}
use Rattle.higman.specs.Normal.{keep}
use Rattle.higman.specs.Limits.{shape_in_range, max_pairs}
use Rattle.words.specs.Packed.{pack}
use Rattle.higman.specs.Answers.{fault}
use Rattle.columns.specs.Packed.{words_of, table}
use Rattle.columns.specs.Sorts.{SortedPairs}
use Rattle.tables.specs.Reduction.{Reducible}
use Rattle.operations.specs.declared.Reason.{Reason}
use Rattle.operations.specs.Closing.{fault_of}

-- the verdict on a column by the keys of some pairs, which are left sorted by them
pub record SortedFault (s : Shape) (keys values keys' values' : List ℕ) (r : Result (Unit {0}) Reason) : Type 0 where
  pub found : r ≡ fault_of (fault s (words_of keys))
  pub sorts : SortedPairs keys values keys' values'

-- two columns of pairs in order that may be reduced, no more than a plan has
pub record ReducibleColumns (s : Shape) (keys values : List ℕ) : Type 0 where
  pub paired : length keys ≡ length values
  pub few : length keys ≤ max_pairs
  pub in_range : T (shape_in_range s)
  pub reducible : Reducible s (table keys values)

-- the columns of what is kept of a table, with zeros behind, in columns as long as they were
pub record KeptColumns (s : Shape) (t : Table) (from to from' to' : List ℕ) (pairs : ℕ) : Type 0 where
  pub count : pairs ≡ length (keep s t)
  pub from_words : from' ≡ map pack (froms (keep s t)) ++ replicate (length from - pairs) 0
  pub to_words : to' ≡ map pack (tos (keep s t)) ++ replicate (length to - pairs) 0
