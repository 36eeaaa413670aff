-- The words that a word w begins and does not equal, in a sorted column: none is in order with w, so they stand behind the place that
-- parts the column at w, side by side from there on. The pairs of two columns whose first words they are make up the block of w, with
-- places that count on from there.
use Prim.Native.Nat.{ℕ, zero, suc, ◌+◌, ◌-◌, ◌≤◌, ◌<◌}
use mathlib.Core.Path.{◌≡◌, refl, sym, ◌∙◌, ap, subst}
use mathlib.Core.Logic.{⊎_elim}
use mathlib.Core.Bool.{true, false}
use mathlib.Core.List.{List, [], ◌∷◌, ◌++◌, append-nil}
use native.Mathlib.Nat.{zero-add}
use native.Mathlib.Omega.{arith}
use lib.ListN.{length, get_or, drop, length-append, length-drop}
use lib.Seq.{get_or-drop}
use Rattle.std.specs.List.Sorted.{IsPartitionedBy, IsPartitionPoint}
use Rattle.std.proofs.lemmas.List.{get_or_default}
use Rattle.higman.specs.Words.{Word, begins, begins_properly}
use Rattle.higman.specs.Places.{Placed, placed_from, extending_in, placed_block}
use Rattle.higman.proofs.Tests.{passes, clash}
use Rattle.higman.proofs.Prefixes.{tail_of_begins, proper_tail, begins_of_proper, proper_of_tail}
use Rattle.higman.proofs.Places.{line_taken, line_passed}
use Rattle.words.specs.Packed.{unpack}
use Rattle.columns.specs.Packed.{words_of, pair_of, table, rows, rows_at, in_order, sorted}
use Rattle.columns.specs.Columns.{word_at, PartedAt, Extending}
use Rattle.columns.proofs.InOrder.{in_order_of_test, test_of_in_order, in_order_of_begins, in_order_refl}
use Rattle.columns.proofs.InOrder.{in_order_antisym, begins_between}
use Rattle.columns.proofs.WordOrder.{in_order_total}
use Rattle.columns.proofs.Places.{sorted_at}

module _ (w u : Word) where
  -- a longer word that w begins is not in order with w
  proper_apart : in_order u w ≡ true → begins_properly w u ≡ false
  proper_apart o = ⊎_elim (λ e. absurd (never (proper_tail w u e) e)) (λ e. e) (passes (begins_properly w u))
    where
      never : (i : ℕ) × (x : Word) × (u ≡ w ++ i ∷ x) → begins_properly w u ≡ true → ⊥
      never (i, x, f) e =
          let same = in_order_antisym u w (in_order_of_test u w o) (in_order_of_begins w u (begins_of_proper w u e)) in
          omega (arith, ap length (sym same ∙ f), length-append w (i ∷ x))

  -- and one that is not in order with w is longer, if w begins it
  proper_behind : in_order u w ≡ false → begins w u ≡ true → begins_properly w u ≡ true
  proper_behind o b = by_tail (tail_of_begins w u b)
    where
      by_tail : (x : Word) × (u ≡ w ++ x) → begins_properly w u ≡ true
      by_tail ([], f) =
          absurd (clash (subst (λ v. in_order u v ≡ true) (f ∙ append-nil w) (test_of_in_order u u (in_order_refl u))) o)
      by_tail (i ∷ x, f) = proper_of_tail w u i x f

  not_proper : begins w u ≡ false → begins_properly w u ≡ false
  not_proper b = ⊎_elim (λ e. absurd (clash (begins_of_proper w u e) b)) (λ e. e) (passes (begins_properly w u))

module _ (column : List ℕ) (s : sorted (words_of column) ≡ true) (w start : ℕ) (p : PartedAt column w start) where
  -- between the parting and a word that w begins there are only such words
  begun_down : (j k : ℕ) → start ≤ j → j ≤ k → k < length column → begins (unpack w) (word_at column k) ≡ true → begins (unpack w) (word_at column j) ≡ true
  begun_down j k m l h e =
      let behind = in_order_total (word_at column j) (unpack w) (p.back j m (omega arith)) in
      begins_between (unpack w) (word_at column j) (word_at column k) (in_order_of_test (unpack w) (word_at column j) behind) (sorted_at column s j k l h) e

  -- the word at a place of what stands from the parting on
  behind_at : (k d : ℕ) → k < length (drop start column) → unpack (get_or (drop start column) k d) ≡ word_at column (start + k)
  behind_at k d h =
      ap unpack (get_or_default (drop start column) k d 0 h ∙ get_or-drop start column k 0)

  -- so that `partition_point` finds where the run ends
  pub run_partitioned : IsPartitionedBy (λ x. begins (unpack w) (unpack x)) (drop start column)
  run_partitioned j k d l h e =
      ap (begins (unpack w)) (behind_at j d (omega arith))
      ∙ begun_down (start + j) (start + k) (omega arith) (omega arith) (omega (arith, length-drop start column)) (sym (ap (begins (unpack w)) (behind_at k d h)) ∙ e)

  pub run_found : (n : ℕ) → n ≤ length (drop start column) → IsPartitionPoint (λ x. begins (unpack w) (unpack x) ≡ true) (λ x. begins (unpack w) (unpack x) ≡ false) (drop start column) n → Extending column (unpack w) start (start + n)
  run_found n h (begun, others) = record {
    forward = omega arith;
    within = omega (arith, p.within, length-drop start column);
    front = λ k l. proper_apart (unpack w) (word_at column k) (p.front k l);
    inside = inside;
    back = back;
  }
    where
      there : (k : ℕ) → start ≤ k → k < length column → begins (unpack w) (word_at column k) ≡ begins (unpack w) (unpack (get_or (drop start column) (k - start) 0))
      there k m l = let e : k ≡ start + (k - start) = omega arith in
          ap (λ i. begins (unpack w) (word_at column i)) e ∙ sym (ap (begins (unpack w)) (behind_at (k - start) 0 (omega (arith, length-drop start column))))

      inside : (k : ℕ) → start ≤ k → k < start + n → begins_properly (unpack w) (word_at column k) ≡ true
      inside k m l =
          let room : k < length column = omega (arith, length-drop start column) in
          proper_behind (unpack w) (word_at column k) (p.back k m room) (there k m room ∙ begun (k - start) 0 (omega arith) (omega arith))

      back : (k : ℕ) → start + n ≤ k → k < length column → begins_properly (unpack w) (word_at column k) ≡ false
      back k m l = not_proper (unpack w) (word_at column k) (there k (omega arith) l ∙ others (k - start) 0 (omega arith) (omega (arith, length-drop start column)))

-- the lines of a word's block under two columns, whose first pair has the place p: where no word is begun, where the first words are, and
-- where those of a run are
module _ (w : Word) where
  abbrev lines_in : ℕ → List ℕ → List ℕ → List Placed
  lines_in p from to = extending_in (placed_from p (table from to)) w

  abbrev line : ℕ → ℕ → ℕ → Placed
  line p f t = record { place = p; pair = pair_of f t }

  none_begun : (p : ℕ) (from to : List ℕ) → ((k : ℕ) → k < length from → begins_properly w (word_at from k) ≡ false)
      → lines_in p from to ≡ []
  none_begun p [] to h = refl
  none_begun p (f ∷ from) [] h = refl
  none_begun p (f ∷ from) (t ∷ to) h =
      line_passed (line p f t) (placed_from (suc p) (table from to)) w (h 0 (omega arith))
      ∙ none_begun (suc p) from to (λ k l. h (suc k) (omega arith))

  first_begun : (p n : ℕ) (from to : List ℕ) → length from ≡ length to → Extending from w 0 n
      → lines_in p from to ≡ placed_from p (rows n from to)
  first_begun p zero from to e x = none_begun p from to (λ k l. x.back k (omega arith) l)
  first_begun p (suc n) [] to e x = absurd (omega (arith, x.within))
  first_begun p (suc n) (f ∷ from) [] e x = absurd (omega arith)
  first_begun p (suc n) (f ∷ from) (t ∷ to) e x =
      line_taken (line p f t) (placed_from (suc p) (table from to)) w (x.inside 0 (omega arith) (omega arith))
      ∙ ap (λ u. line p f t ∷ u) (first_begun (suc p) n from to (omega arith) rest)
    where
      rest : Extending from w 0 n
      rest =
          record {
            forward = omega arith;
            within = omega (arith, x.within);
            front = λ k l. absurd (omega arith);
            inside = λ k l h. x.inside (suc k) (omega arith) (omega arith);
            back = λ k l h. x.back (suc k) (omega arith) (omega arith);
          }

  run_begun : (p start n : ℕ) (from to : List ℕ) → length from ≡ length to → Extending from w start (start + n)
      → lines_in p from to ≡ placed_from (p + start) (rows_at start n from to)
  run_begun p zero n from to e x =
      first_begun p n from to e (subst (Extending from w 0) (zero-add n) x) ∙ ap (λ k. placed_from k (rows n from to)) (omega arith)
  run_begun p (suc s) n [] to e x = absurd (omega (arith, x.within))
  run_begun p (suc s) n (f ∷ from) [] e x = absurd (omega arith)
  run_begun p (suc s) n (f ∷ from) (t ∷ to) e x =
      line_passed (line p f t) (placed_from (suc p) (table from to)) w (x.front 0 (omega arith))
      ∙ run_begun (suc p) s n from to (omega arith) rest
      ∙ ap (λ k. placed_from k (rows_at s n from to)) (omega arith)
    where
      rest : Extending from w s (s + n)
      rest =
          record {
            forward = omega arith;
            within = omega (arith, x.within);
            front = λ k l. x.front (suc k) (omega arith);
            inside = λ k l h. x.inside (suc k) (omega arith) (omega arith);
            back = λ k l h. x.back (suc k) (omega arith) (omega arith);
          }

  pub block_run : (from to : List ℕ) (start end : ℕ) → length from ≡ length to → Extending from w start end
      → placed_block (table from to) w ≡ placed_from (start + 1) (rows_at start (end - start) from to)
  unfolding placed_block
  block_run from to start end e x =
      let whole : end ≡ start + (end - start) = omega (arith, x.forward) in
      run_begun 1 start (end - start) from to e (subst (Extending from w start) whole x)
      ∙ ap (λ k. placed_from k (rows_at start (end - start) from to)) (omega arith)
