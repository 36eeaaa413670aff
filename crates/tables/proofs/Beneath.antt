-- The words of a column that a word begins are those that it begins and does not equal, if no word of the column begins it; and what
-- the pairs beneath a word are, place by place.
use Prim.Native.Nat.{ℕ, zero, suc, ◌+◌, ◌≤◌, ◌<◌}
use mathlib.Core.Path.{◌≡◌, refl, ◌∙◌, ap, subst}
use mathlib.Core.Logic.{⊎_elim}
use mathlib.Core.Bool.{true, false}
use mathlib.Core.List.{List, [], ◌∷◌, ◌++◌, append-nil}
use mathlib.Core.Option.{none, some}
use native.Mathlib.Omega.{arith}
use lib.ListN.{length, drop, length-drop}
use lib.Seq.{get_or-drop}
use Rattle.higman.specs.Words.{Word, after, begins, begins_properly}
use Rattle.higman.specs.Tables.{Table, image}
use Rattle.higman.proofs.Tests.{passes, clash}
use Rattle.higman.proofs.Matches.{after_none}
use Rattle.words.specs.Packed.{unpack}
use Rattle.columns.specs.Packed.{table}
use Rattle.columns.specs.Columns.{word_at, Extending}
use Rattle.tables.specs.Spread.{beneath, spread_pair}
use Rattle.tables.specs.Spreading.{pair, Unbegun}
use Rattle.columns.proofs.Search.{first_of_unbegun}
use Rattle.higman.proofs.Prefixes.{begins_append, tail_of_begins, proper_of_tail}
use Rattle.tables.proofs.Lookup.{table_left}

-- in a column of which no word begins w, a word that w begins is longer than w
module _ (column : List ℕ) (w start end : ℕ) (x : Extending column (unpack w) start end) (n : Unbegun column w) where
  none_at : (k : ℕ) → k < length column → begins_properly (unpack w) (word_at column k) ≡ false
      → begins (unpack w) (word_at column k) ≡ false
  none_at k h e =
      let u = word_at column k in
      ⊎_elim (λ t. by_tail (tail_of_begins (unpack w) u t)) (λ f. f) (passes (begins (unpack w) u))
    where
      same : word_at column k ≡ unpack w → begins (word_at column k) (unpack w) ≡ true
      same q = subst (λ u. begins (word_at column k) u ≡ true) (append-nil (word_at column k) ∙ q) (begins_append (word_at column k) [])

      by_tail : (y : Word) × (word_at column k ≡ unpack w ++ y) → begins (unpack w) (word_at column k) ≡ false
      by_tail ([], q) = absurd (clash (same (q ∙ append-nil (unpack w))) ((first_of_unbegun column (unpack w) n).earlier k h))
      by_tail (i ∷ y, q) = absurd (clash (proper_of_tail (unpack w) (word_at column k) i y q) e)

  -- so the column has none before the words that w begins and does not equal, and none behind them
  pub none_before : (k : ℕ) → k < start → begins (unpack w) (word_at column k) ≡ false
  none_before k h = none_at k (omega (arith, x.forward, x.within)) (x.front k h)

  pub none_behind : (k : ℕ) → end ≤ k → k < length column → begins (unpack w) (word_at column k) ≡ false
  none_behind k h l = none_at k l (x.back k h l)

module _ (p q : Word) where
  -- a pair of b that is not beneath q
  beneath_pass : (f t : ℕ) (from to : List ℕ) → begins q (unpack f) ≡ false → beneath p q (table (f ∷ from) (t ∷ to)) ≡ beneath p q (table from to)
  beneath_pass f t from to e = rw (after_none q (unpack f) e, beneath) refl

  pub beneath_skip : (i : ℕ) (from to : List ℕ) → length from ≡ length to → ((k : ℕ) → k < i → begins q (word_at from k) ≡ false) → i ≤ length from → beneath p q (table from to) ≡ beneath p q (table (drop i from) (drop i to))
  beneath_skip zero from to l h b = refl
  beneath_skip (suc i) [] to l h b = absurd (omega arith)
  beneath_skip (suc i) (f ∷ from) [] l h b = absurd (omega arith)
  beneath_skip (suc i) (f ∷ from) (t ∷ to) l h b =
      beneath_pass f t from to (h 0 (omega arith)) ∙ beneath_skip i from to (omega arith) (λ k m. h (suc k) (omega arith)) (omega arith)

  beneath_none : (from to : List ℕ) → ((k : ℕ) → k < length from → begins q (word_at from k) ≡ false) → beneath p q (table from to) ≡ []
  beneath_none [] to h = refl
  beneath_none (f ∷ from) [] h = refl
  beneath_none (f ∷ from) (t ∷ to) h =
      beneath_pass f t from to (h 0 (omega arith)) ∙ beneath_none from to (λ k m. h (suc k) (omega arith))

  module _ (from to : List ℕ) (i : ℕ) where
    pub beneath_stop : ((k : ℕ) → i ≤ k → k < length from → begins q (word_at from k) ≡ false) → beneath p q (table (drop i from) (drop i to)) ≡ []
    beneath_stop h =
        beneath_none
        (drop i from)
        (drop i to)
        (λ k m. ap (λ x. begins q (unpack x)) (get_or-drop i from k 0) ∙ h (i + k) (omega arith) (omega (arith, length-drop i from)))

    pub beneath_take : (x : Word) → i < length from → i < length to → after q (word_at from i) ≡ some x → beneath p q (table (drop i from) (drop i to)) ≡ pair (p ++ x) (word_at to i) ∷ beneath p q (table (drop (i + 1) from) (drop (i + 1) to))
    beneath_take x h k e = ap (beneath p q) (table_left from to i h k) ∙ rw (e, beneath) refl

-- what a pair gives, by the image of its to-word
module _ (b : Table) (u v : Word) where
  pub spread_whole : (z : Word) → image b v ≡ some z → spread_pair b (pair u v) ≡ pair u z ∷ []
  spread_whole z e = ap (λ o. elim o as (λ _. Table) [ none ↦ beneath u v b | some z ↦ pair u z ∷ [] ]) e

  pub spread_parts : image b v ≡ none → spread_pair b (pair u v) ≡ beneath u v b
  spread_parts e = ap (λ o. elim o as (λ _. Table) [ none ↦ beneath u v b | some z ↦ pair u z ∷ [] ]) e
