-- Words that a plan may hold: a word of the shape, of few enough digits, and each digit one from 1 to 9, since the shape is in range.
use Prim.Native.Nat.{ℕ, ◌≤◌}
use mathlib.Core.List.{[], ◌∷◌}
use native.Mathlib.Nat.{le_trans}
use lib.Dec.{T, leb→le}
use lib.ListN.{length}
use Rattle.higman.specs.Words.{Shape, Word, is_word}
use Rattle.higman.specs.Limits.{shape_in_range, max_digits, fits, is_plan_word}
use Rattle.higman.proofs.Tests.{and_left, and_right, and_intro, Ways, IsWord, word_of_test}
use Rattle.higman.proofs.KeptPlans.{in_range}

pub more_ways : {m n : ℕ} (w : Word) → m ≤ n → Ways m w → Ways n w
more_ways [] h k = tt
more_ways (a ∷ w) h k = ((k.0.0, le_trans k.0.1 h), more_ways w h k.1)

-- a word of a shape of digits up to n is made of digits up to n
pub ways_of_word : {n : ℕ} (s : Shape) (w : Word) → s.arity ≤ n → s.roots ≤ n → IsWord s w → Ways n w
ways_of_word s [] a r h = absurd h
ways_of_word s (i ∷ w) a r h = ((h.0.0, le_trans h.0.1 r), more_ways w a h.1)

pub plan_word_of : (s : Shape) (w : Word) → T (is_word s w) → T (fits w) → T (is_plan_word s w)
unfolding is_plan_word
plan_word_of s w h k = and_intro (is_word s w) (fits w) h k

module _ (s : Shape) (w : Word) (h : T (is_plan_word s w)) where
  pub word_of_plan_word : T (is_word s w)
  unfolding is_plan_word
  word_of_plan_word = and_left (is_word s w) (fits w) h

  pub plan_word_fits : T (fits w)
  unfolding is_plan_word
  plan_word_fits = and_right (is_word s w) (fits w) h

  pub plan_word_length : length w ≤ max_digits
  plan_word_length = leb→le (length w) max_digits plan_word_fits

  pub plan_word_ways : T (shape_in_range s) → Ways 9 w
  plan_word_ways r = let range = in_range s r in ways_of_word s w range.arity_high range.roots_high (word_of_test s w word_of_plan_word)
