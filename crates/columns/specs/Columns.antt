-- What a search in a sorted column finds, the place that parts its words at a word, the word of it that begins a word and the words that
-- a word begins, and what a walk over the words of a block finds.
use Rattle.std.specs.Prelude.{ℕ, zero, suc, ◌+◌, ◌-◌, ◌≤◌, ◌<◌, ◌≡◌, refl, ◌⊎◌, Bool, true, false}
use Rattle.std.specs.Prelude.{List, [], ◌∷◌, map, T, length, get_or, ltb, Option, Some, None, if◌then◌else◌, MatchOption}
use Rattle.std.proofs.Common.{inr, arith}
use Rattle.std.proofs.Math.Option as Match
use Rattle.higman.specs.Words.{Word, count, is_word, begins, begins_properly, child, spell}
use Rattle.higman.specs.Bases.{all, covered, overlap}
use Rattle.higman.specs.Tables.{first_match}
use Rattle.higman.specs.Normal.{before}
use Rattle.words.specs.Packed.{unpack_in, unpack}
use Rattle.words.specs.Bytes.{shape}
use Rattle.columns.specs.Packed.{words_of, in_order, sorted}

-- the word at a place of a column; the empty word past its end
abbrev pub word_at : List ℕ → ℕ → Word
word_at column k = unpack (get_or column k 0)

-- The words before the place r are in order with w, and those from r on are not.
pub record PartedAt (column : List ℕ) (w r : ℕ) : Type 0 where
  pub within : r ≤ length column
  pub front : (k : ℕ) → k < r → in_order (word_at column k) (unpack w) ≡ true
  pub back : (k : ℕ) → r ≤ k → k < length column → in_order (word_at column k) (unpack w) ≡ false

-- The place of the first word of a column that begins w, counted from 0, or the length of the column where no word of it does.
unfoldable pub place_in : List Word → Word → ℕ
place_in c w = Match.get_or (first_match (λ u. u) (λ place u tail. place) c w) (length c)

-- The same place, or None where no word of the column begins w.
abbrev pub begun_at : List Word → Word → Option ℕ
begun_at c w = if ltb (place_in c w) (length c) then Some (place_in c w) else None

-- The words from the place start up to the place end, which is not among them, are those that w begins and does not equal. (Where there is
-- no such word the two places are equal, and any place is right.)
pub record Extending (column : List ℕ) (w : Word) (start end : ℕ) : Type 0 where
  pub forward : start ≤ end
  pub within : end ≤ length column
  pub front : (k : ℕ) → k < start → begins_properly w (word_at column k) ≡ false
  pub inside : (k : ℕ) → start ≤ k → k < end → begins_properly w (word_at column k) ≡ true
  pub back : (k : ℕ) → end ≤ k → k < length column → begins_properly w (word_at column k) ≡ false

-- What a walk asks of a column: sorted words of n ways at every switch, of which none begins another.
pub record Walkable (n : ℕ) (column : List ℕ) : Type 0 where
  pub in_order : sorted (words_of column) ≡ true
  pub apart : overlap (words_of column) ≡ false
  pub roots : ℕ
  pub words : T (all (is_word (shape n roots)) (words_of column))

-- The words before the place r stand before the block w, and the one at r, if there is one, does not.
pub record AtBlock (column : List ℕ) (w : Word) (r : ℕ) : Type 0 where
  pub within : r ≤ length column
  pub front : (k : ℕ) → k < r → before (word_at column k) w ≡ true
  pub back : r < length column → before (word_at column r) w ≡ false

-- The words before the place r stand before the block w or in it, and the one at r, if there is one, does neither.
pub record PastBlock (column : List ℕ) (w : Word) (r : ℕ) : Type 0 where
  pub within : r ≤ length column
  pub front : (k : ℕ) → k < r → (before (word_at column k) w ≡ true) ⊎ (begins w (word_at column k) ≡ true)
  pub back : r < length column → (before (word_at column r) w ≡ false) × (begins w (word_at column r) ≡ false)

-- What a walk over the words of the block w answers, where c is what it looks for: the place it came to if all is covered, and None if
-- there is a gap.
abbrev pub Walked : List ℕ → Word → Bool → Option ℕ → Type 0
Walked column w c answer = MatchOption answer (c ≡ false) (λ r. (c ≡ true) × PastBlock column w r)

-- "To cover the parts is to cover way 1 and then the ways after it": the ways from the i-th to the n-th, looked at d ways below them.
abbrev pub covered_from : ℕ → List Word → ℕ → Word → ℕ → Bool
covered_from n c d w i = all (λ j. covered n c d (child w j)) (count i (n + 1 - i))

-- 12 begins 1211; nothing begins 21
place_in_example : map (place_in (spell 11 ∷ spell 12 ∷ [])) (spell 1211 ∷ spell 21 ∷ []) ≡ 1 ∷ 2 ∷ []
unfolding place_in
place_in_example = refl

begun_at_example : map (begun_at (spell 11 ∷ spell 12 ∷ [])) (spell 1211 ∷ spell 21 ∷ []) ≡ Some 1 ∷ None ∷ []
unfolding place_in
begun_at_example = refl

-- of 11, 111 and 12, only 111 is begun by 11 and longer
extending_example : Extending (0x11 ∷ 0x111 ∷ 0x12 ∷ []) (spell 11) 1 2
unfolding unpack unpack_in
extending_example = record { forward = omega arith; within = omega arith; front = front; inside = inside; back = back }
  where
    front : (k : ℕ) → k < 1 → begins_properly (spell 11) (word_at (0x11 ∷ 0x111 ∷ 0x12 ∷ []) k) ≡ false
    front zero h = refl
    front (suc k) h = absurd (omega arith)

    inside : (k : ℕ) → 1 ≤ k → k < 2 → begins_properly (spell 11) (word_at (0x11 ∷ 0x111 ∷ 0x12 ∷ []) k) ≡ true
    inside zero l h = absurd (omega arith)
    inside (suc zero) l h = refl
    inside (suc (suc k)) l h = absurd (omega arith)

    back : (k : ℕ) → 2 ≤ k → k < 3 → begins_properly (spell 11) (word_at (0x11 ∷ 0x111 ∷ 0x12 ∷ []) k) ≡ false
    back zero l h = absurd (omega arith)
    back (suc zero) l h = absurd (omega arith)
    back (suc (suc zero)) l h = refl
    back (suc (suc (suc k))) l h = absurd (omega arith)

-- of the block 12 the first way is covered and the second is not; behind the last there is nothing to cover
covered_from_example : map (λ i. covered_from 2 (spell 11 ∷ spell 121 ∷ []) 1 (spell 12) i) (1 ∷ 2 ∷ 3 ∷ []) ≡ false ∷ false ∷ true ∷ []
covered_from_example = refl

abbrev short_column : List ℕ
short_column = 0x11 ∷ 0x12 ∷ 0x2 ∷ []

-- its first two words cover the block 1 and stand before the block 2, whose word is the third
walked_example : Walked short_column (spell 1) (covered 2 (words_of short_column) 1 (spell 1)) (Some 2)
unfolding unpack unpack_in
walked_example = (refl, record { within = omega arith; front = front; back = λ k. (refl, refl) })
  where
    front : (k : ℕ) → k < 2 → (before (word_at short_column k) (spell 1) ≡ true) ⊎ (begins (spell 1) (word_at short_column k) ≡ true)
    front zero h = inr refl
    front (suc zero) h = inr refl
    front (suc (suc k)) h = absurd (omega arith)

at_block_example : AtBlock short_column (spell 2) 2
unfolding unpack unpack_in
at_block_example = record { within = omega arith; front = front; back = λ h. refl }
  where
    front : (k : ℕ) → k < 2 → before (word_at short_column k) (spell 2) ≡ true
    front zero h = refl
    front (suc zero) h = refl
    front (suc (suc k)) h = absurd (omega arith)

-- the block 2 has no part 1
gap_walked_example : Walked short_column (spell 21) (covered 2 (words_of short_column) 1 (spell 21)) None
unfolding unpack unpack_in
gap_walked_example = refl
