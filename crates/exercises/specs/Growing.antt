-- What is asked of a column of words that is grown or shuffled, and what comes of growing one. What is right is said by higman's
-- Exercises.antt: `grown` and `shuffled`.
use Rattle.std.specs.Prelude.{ℕ, ◌≤◌, ◌≡◌, true, false, T, length, take, Result, Ok, Err}
use Rattle.higman.specs.Words.{Shape}
use Rattle.higman.specs.Bases.{all}
use Rattle.higman.specs.Limits.{shape_in_range, seed_in_range, fits, max_pairs}
use Rattle.higman.specs.Exercises.{drawn, grown}
use Rattle.columns.specs.Packed.{words_of}
use Rattle.operations.specs.declared.refusals.Refusal.{Refusal}
use Rattle.operations.specs.declared.refusals.Refusal.TheVariants.{BadWord}
use Rattle.exercises.specs.declared.splits.Grown.{Grown}

-- the belts may be split so many times by the draws that follow one: there is room for the words
pub record Growable (s : Shape) (x k : ℕ) : Type 0 where
  pub in_range : T (shape_in_range s)
  pub seed : T (seed_in_range x)
  pub room : length (grown s x k) ≤ max_pairs

-- What is left then, where the words are short enough for a plan: the words and the last draw.
pub record Grows (s : Shape) (x k : ℕ) (g : Grown) : Type 0 where
  pub short : all fits (grown s x k) ≡ true
  pub column : words_of (take (length (grown s x k)) g.words) ≡ grown s x k
  pub draws : g.last ≡ drawn x k

-- and 4 where one is too long
abbrev pub GrownBy : Shape → ℕ → ℕ → Result Grown Refusal → Type 0
GrownBy s x k (Ok g) = Grows s x k g
GrownBy s x k (Err e) = (e ≡ BadWord) × (all fits (grown s x k) ≡ false)

-- so many words may be shuffled by the draws that follow one
pub record Shufflable (count x : ℕ) : Type 0 where
  pub some_word : 1 ≤ count
  pub room : count ≤ max_pairs
  pub seed : T (seed_in_range x)
