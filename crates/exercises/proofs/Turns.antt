-- One turn of the loop that grows a column: what its columns hold after some splits, where the next one is, and what they hold after it.
use Prim.Native.Nat.{ℕ, suc, ◌+◌, ◌-◌, ◌%◌, ◌≤◌, ◌<◌}
use mathlib.Core.Path.{◌≡◌, sym, ◌∙◌, ap, ap₂, subst}
use mathlib.Core.Bool.{false}
use mathlib.Core.List.{List, []}
use native.Mathlib.Numerals.{add-one}
use native.Mathlib.Nat.{mod-lt}
use native.Mathlib.Omega.{arith}
use lib.Dec.{T}
use lib.ListN.{length, get_or, take}
use Rattle.higman.specs.Words.{Shape}
use Rattle.higman.specs.Bases.{all, longest}
use Rattle.higman.specs.Limits.{max_digits, fits, shape_in_range, seed_in_range}
use Rattle.higman.specs.Exercises.{next_draw, drawn, expanded_at, grown}
use Rattle.higman.proofs.Draws.{draws_in_range}
use Rattle.higman.proofs.KeptPlans.{in_range, arity_of_range}
use Rattle.higman.proofs.Splits.{grown_nonempty}
use Rattle.columns.specs.Packed.{words_of}
use Rattle.columns.specs.Columns.{word_at}
use Rattle.columns.proofs.Splitting.{word_at_lem}
use Rattle.exercises.proofs.Growing.{next_column, next_draw_lem, next_size, next_fit, next_outgrown, size_below}

-- a column, the number of its words and the last draw, after k splits
pub record Growing (s : Shape) (x : ℕ) (column : List ℕ) (words last k : ℕ) : Type 0 where
  pub counted : words ≡ length (grown s x k)
  pub draws : last ≡ drawn x k
  pub holds : words_of (take words column) ≡ grown s x k
  pub short : longest (grown s x k) ≤ max_digits

-- What a turn of the loop may count on: there is a word, and room for one more split.
pub record Turn (s : Shape) (words : ℕ) : Type 0 where
  pub some_ways : 1 ≤ s.arity
  pub few_ways : s.arity ≤ 9
  pub some_word : 0 < words
  pub room : words + (s.arity - 1) ≤ 128
  pub inside : (y : ℕ) → y % words < words

module _ (s : Shape) (range : T (shape_in_range s)) (x : ℕ) (column : List ℕ) (words last k : ℕ) (g : Growing s x column words last k) where
  ways : 1 ≤ s.arity
  ways = arity_of_range s range

  belts : 1 ≤ s.roots
  belts = (in_range s range).roots_low

  some : 0 < words
  some = omega (arith, g.counted, grown_nonempty s ways belts x k)

  -- there is room for the next split where there is for all
  pub turn : (m : ℕ) → k < m → length (grown s x m) ≤ 128 → Turn s words
  turn m l h =
      let all_of_them : suc k + (m - suc k) ≡ m = omega arith in
      record {
        some_ways = ways;
        few_ways = (in_range s range).arity_high;
        some_word = some;
        room = omega (arith, g.counted, next_size s ways belts x k, size_below s ways belts x (suc k) (m - suc k), ap (λ i. length (grown s x i)) all_of_them);
        inside = λ y. mod-lt y some;
      }

  pub seed_now : T (seed_in_range x) → T (seed_in_range last)
  seed_now t = subst (λ z. T (seed_in_range z)) (sym g.draws) (draws_in_range x t k)

  module _ (y : ℕ) (e : y ≡ next_draw last) where
    drawn_next : y ≡ next_draw (drawn x k)
    drawn_next = e ∙ ap next_draw g.draws

    same_word_lem : get_or (grown s x k) (y % length (grown s x k)) [] ≡ word_at column (y % words)
    same_word_lem =
        ap₂ (λ c n. get_or c (y % n) []) (sym g.holds) (sym g.counted) ∙ word_at_lem column words (y % words) (mod-lt y some)

    -- the word at the next place has no room
    pub outgrown_now : max_digits ≤ length (word_at column (y % words)) → (m : ℕ) → k < m → all fits (grown s x m) ≡ false
    outgrown_now h m l = next_outgrown s ways belts x k y drawn_next (omega (arith, ap length same_word_lem)) m l

    -- it is split
    pub grown_on : length (word_at column (y % words)) < max_digits → (column' : List ℕ)
        → words_of (take (words + (s.arity - 1)) column') ≡ expanded_at s.arity (words_of (take words column)) (y % words)
        → Growing s x column' (words + (s.arity - 1)) y (k + 1)
    grown_on h column' split =
        let after : Growing s x column' (words + (s.arity - 1)) y (suc k) = record {
          counted = ap (λ n. n + (s.arity - 1)) g.counted ∙ sym (next_size s ways belts x k);
          draws = next_draw_lem s ways belts x k y drawn_next;
          holds = split ∙ ap₂ (λ c n. expanded_at s.arity c (y % n)) g.holds g.counted ∙ sym (next_column s ways belts x k y drawn_next);
          short = next_fit s ways belts x k y drawn_next g.short (omega (arith, ap length same_word_lem));
        } in
        subst (Growing s x column' (words + (s.arity - 1)) y) (sym (add-one k)) after
