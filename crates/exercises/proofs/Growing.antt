-- A column that is grown split by split: its next split, how many words it then has, and how long they are.
use Prim.Native.Nat.{ℕ, zero, suc, ◌+◌, ◌-◌, ◌%◌, ◌≤◌, ◌<◌, max}
use mathlib.Core.Path.{◌≡◌, sym, ap}
use mathlib.Core.Bool.{true, false}
use mathlib.Core.List.{List, [], ◌∷◌, ◌++◌, map}
use native.Mathlib.Nat.{suc-mul}
use native.Mathlib.Omega.{arith}
use lib.ListN.{length, get_or, take, drop, length-append}
use lib.Seq.{split_at}
use Rattle.higman.specs.Words.{Shape, Word, count, child, children}
use Rattle.higman.specs.Bases.{all, longest}
use Rattle.higman.specs.Limits.{max_digits, fits}
use Rattle.higman.specs.Exercises.{next_draw, drawn, expanded_at, grown}
use Rattle.higman.proofs.Tests.{so, T_of}
use Rattle.higman.proofs.Columns.{fails}
use Rattle.higman.proofs.Lengths.{longest_of_fits, fits_of_longest}
use Rattle.higman.proofs.Splits.{grown_size, grown_longest, place_inside}
use Rattle.words.proofs.Limit.{limit}

longest_append : (a b : List Word) → longest (a ++ b) ≡ max (longest a) (longest b)
longest_append [] b = omega arith
longest_append (w ∷ a) b = omega (arith, longest_append a b)

-- the parts of a word have one digit more
parts_short : (w : Word) (a m : ℕ) → longest (map (child w) (count a m)) ≤ suc (length w)
parts_short w a zero = omega arith
parts_short w a (suc m) = omega (arith, length-append w (a ∷ []), parts_short w (suc a) m)

parts_long : (w : Word) (n : ℕ) → 1 ≤ n → suc (length w) ≤ longest (children n w)
parts_long w zero h = absurd (omega arith)
parts_long w (suc m) h = omega (arith, length-append w (1 ∷ []))

-- the longest word of a column that is split at a place
module _ (n : ℕ) (c : List Word) (place : ℕ) where
  abbrev there : Word
  there = get_or c place []

  split_lengths : longest (expanded_at n c place) ≡ max (max (longest (take place c)) (longest (children n there))) (longest (drop (suc place) c))
  split_lengths =
      let front = take place c ++ children n there in
      omega (arith, longest_append front (drop (suc place) c), longest_append (take place c) (children n there))

  split_short : place < length c → longest (expanded_at n c place) ≤ max (longest c) (suc (length there))
  split_short h =
      let whole : longest c ≡ longest (take place c ++ there ∷ drop (suc place) c) = ap longest (split_at c place [] h) in
      omega (arith, split_lengths, whole, longest_append (take place c) (there ∷ drop (suc place) c), parts_short there 1 n)

  split_long : 1 ≤ n → suc (length there) ≤ longest (expanded_at n c place)
  split_long h = omega (arith, split_lengths, parts_long there n h)

-- the belts fit
belts_short : (a m : ℕ) → longest (map (λ i. i ∷ []) (count a m)) ≤ 1
belts_short a zero = omega arith
belts_short a (suc m) = omega (arith, belts_short (suc a) m)

pub belts_fit : (s : Shape) (x : ℕ) → longest (grown s x 0) ≤ max_digits
unfolding grown
belts_fit s x = omega (arith, limit, belts_short 1 s.roots)

module _ (s : Shape) (n : 1 ≤ s.arity) (r : 1 ≤ s.roots) (x k : ℕ) where
  -- the place of the next split, where y is the next draw
  pub next_column : (y : ℕ) → y ≡ next_draw (drawn x k) → grown s x (suc k) ≡ expanded_at s.arity (grown s x k) (y % length (grown s x k))
  unfolding grown drawn
  next_column y e = ap (λ z. expanded_at s.arity (grown s x k) (z % length (grown s x k))) (sym e)

  pub next_draw_lem : (y : ℕ) → y ≡ next_draw (drawn x k) → y ≡ drawn x (suc k)
  unfolding drawn
  next_draw_lem y e = e

  pub next_size : length (grown s x (suc k)) ≡ length (grown s x k) + (s.arity - 1)
  next_size = omega (arith, grown_size s n r x (suc k), grown_size s n r x k, suc-mul k (s.arity - 1))

  -- the next words fit where the word that is split has room for one digit more
  pub next_fit : (y : ℕ) → y ≡ next_draw (drawn x k) → longest (grown s x k) ≤ max_digits
      → length (get_or (grown s x k) (y % length (grown s x k)) []) < max_digits → longest (grown s x (suc k)) ≤ max_digits
  next_fit y e h room =
      let place = y % length (grown s x k) in
      omega (arith, ap longest (next_column y e), split_short s.arity (grown s x k) place (place_inside s n r x k y))

  -- and where it has none, the words do not fit now, nor after any splits that follow
  pub next_outgrown : (y : ℕ) → y ≡ next_draw (drawn x k) → max_digits ≤ length (get_or (grown s x k) (y % length (grown s x k)) [])
      → (m : ℕ) → k < m → all fits (grown s x m) ≡ false
  next_outgrown y e long m l =
      let later : suc k + (m - suc k) ≡ m = omega arith in
      let longer : longest (grown s x (suc k)) ≤ longest (grown s x m) = rw later at (grown_longest s n r x (suc k) (m - suc k)) in
      let outgrown = split_long s.arity (grown s x k) (y % length (grown s x k)) n in
      fails (all fits (grown s x m)) (λ t. omega (arith, ap longest (next_column y e), longest_of_fits (grown s x m) (T_of t)))

-- a column has no fewer words after more splits
pub size_below : (s : Shape) → 1 ≤ s.arity → 1 ≤ s.roots → (x k j : ℕ) → length (grown s x k) ≤ length (grown s x (k + j))
size_below s n r x k zero = let same : k ≡ k + 0 = omega arith in omega (arith, ap (λ i. length (grown s x i)) same)
size_below s n r x k (suc j) =
    let same : suc (k + j) ≡ k + suc j = omega arith in
    omega (arith, ap (λ i. length (grown s x i)) same, next_size s n r x (k + j), size_below s n r x k j)

pub fitting : (c : List Word) → longest c ≤ max_digits → all fits c ≡ true
fitting c h = so (all fits c) (fits_of_longest c h)
