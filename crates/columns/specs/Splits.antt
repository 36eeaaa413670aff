-- What is asked of a column whose words are moved up or split. What is right is said by `expanded_at` of higman's Exercises.antt.
use Rattle.std.specs.Prelude.{ℕ, ◌+◌, ◌-◌, ◌≤◌, ◌<◌, List, length}
use Rattle.higman.specs.Limits.{max_pairs, max_digits}
use Rattle.columns.specs.Columns.{word_at}

-- words from the place behind up to the place count may be moved up to another place
pub record Moved (behind count to : ℕ) : Type 0 where
  pub forward : behind ≤ count
  pub upward : behind ≤ to
  pub room : to + (count - behind) ≤ max_pairs

-- the word at a place may be split into n parts: it is one of the words, with room for one more digit, and there is room for the parts
pub record Splittable (column : List ℕ) (count place n : ℕ) : Type 0 where
  pub listed : place < count
  pub shorter : length (word_at column place) < max_digits
  pub some_parts : 1 ≤ n
  pub digits : n ≤ 9
  pub room : count + (n - 1) ≤ max_pairs
