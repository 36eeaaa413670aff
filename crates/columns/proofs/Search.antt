-- Search in a sorted column: the place that parts the column at a word w, as a binary search finds it, what `place_in` says of the
-- words of a column, and that the word before the parting begins w if a word of a column without overlap does.
use Prim.Native.Nat.{ℕ, zero, suc, ◌+◌, ◌-◌, ◌≤◌, ◌<◌}
use mathlib.Core.Path.{◌≡◌, refl, sym, ◌∙◌, ap, subst}
use mathlib.Core.Logic.{◌⊎◌, inl, inr, ⊎_elim}
use mathlib.Core.Bool.{Bool, true, false, ◌||◌}
use mathlib.Core.List.Memᴰ
use mathlib.Core.List.{List, [], ◌∷◌, Memᴰ}
use mathlib.Core.Option.{Option, get_or}
use native.Mathlib.Omega.{arith}
use lib.Dec.{ltb}
use lib.ListN.{length, length-map}
use borrow.Author.Tests.{ltb-true, ltb-false, lt-ltb, le-ltb}
use Rattle.std.specs.List.Sorted.{IsPartitionedBy, IsPartitionPoint}
use Rattle.std.proofs.lemmas.List.{get_or_default}
use Rattle.higman.specs.Words.{Word, begins}
use Rattle.higman.specs.Bases.{meets, overlap}
use Rattle.higman.specs.Tables.{first_match}
use Rattle.higman.proofs.Tests.{passes, clash, or_left_false, or_right_false}
use Rattle.higman.proofs.Matches.{FirstAt, first_place, match_found, match_nowhere, match_map}
use Rattle.words.specs.Packed.{unpack}
use Rattle.words.proofs.Codes.{after_drop}
use Rattle.columns.specs.Packed.{words_of, in_order, sorted}
use Rattle.columns.specs.Columns.{word_at, PartedAt, place_in, begun_at}
use Rattle.std.specs.Prelude.{Some, None}
use Rattle.std.specs.Bool.{then_some}
use Rattle.std.proofs.lemmas.Option.{cond_some, none-some}
use Rattle.columns.proofs.InOrder.{InOrder, in_order_of_test, test_of_in_order, in_order_of_begins, in_order_trans, begins_between}
use Rattle.columns.proofs.Places.{mem_at, sorted_at}

module _ (column : List ℕ) (s : sorted (words_of column) ≡ true) (w : ℕ) where
  -- what stands before a word that is in order with w is in order with w
  in_order_down : (j k : ℕ) → j ≤ k → k < length column → in_order (word_at column k) (unpack w) ≡ true → in_order (word_at column j) (unpack w) ≡ true
  in_order_down j k l h e =
      test_of_in_order
      (word_at column j)
      (unpack w)
      (in_order_trans (word_at column j) (word_at column k) (unpack w) (sorted_at column s j k l h) (in_order_of_test (word_at column k) (unpack w) e))

  -- so that the words in order with w stand at the front, and `partition_point` finds where they end
  pub partitioned : IsPartitionedBy (λ x. in_order (unpack x) (unpack w)) column
  partitioned j k d l h e =
      let test = λ (x : ℕ). in_order (unpack x) (unpack w) in
      ap test (get_or_default column j d 0 (omega arith)) ∙ in_order_down j k l h (ap test (get_or_default column k 0 d h) ∙ e)

  module _ (r : ℕ) (p : PartedAt column w r) where
    before_parting : (k : ℕ) → k < length column → InOrder (word_at column k) (unpack w) → k < r
    before_parting k l h = go (passes (ltb k r))
      where
        go : (ltb k r ≡ true) ⊎ (ltb k r ≡ false) → k < r
        go (inl t) = ltb-true k r t
        go (inr f) = absurd (clash (test_of_in_order (word_at column k) (unpack w) h) (p.back k (ltb-false k r f) l))

    -- the word before the place has all words before it in order with it
    up_to_last : (k : ℕ) → k < r → InOrder (word_at column k) (word_at column (r - 1))
    up_to_last k h = sorted_at column s k (r - 1) (omega arith) (omega (arith, p.within))

pub parted_at : (column : List ℕ) (w r : ℕ) → r ≤ length column → IsPartitionPoint (λ x. in_order (unpack x) (unpack w) ≡ true) (λ x. in_order (unpack x) (unpack w) ≡ false) column r → PartedAt column w r
parted_at column w r h (front, back) = record { within = h; front = λ k l. front k 0 (omega arith) l; back = λ k l m. back k 0 l m }

-- a word that w does not meet is not begun by w, and does not begin it
pub unmet : (w : Word) (c : List Word) → meets w c ≡ false → (u : Word) → Memᴰ u c → (begins w u ≡ false) × (begins u w ≡ false)
unmet w [] e u m = absurd (Memᴰ.not-nil m)
unmet w (v ∷ c) e u m =
    let pair = begins w v || begins v w in
    go (or_left_false pair (meets w c) e) (Memᴰ.cases_cons m) (λ k. unmet w c (or_right_false pair (meets w c) e) u k)
  where
    go : (begins w v || begins v w) ≡ false → (u ≡ v) ⊎ Memᴰ u c → (Memᴰ u c → (begins w u ≡ false) × (begins u w ≡ false)) → (begins w u ≡ false) × (begins u w ≡ false)
    go f (inl p) rest =
        (ap (begins w) p ∙ or_left_false (begins w v) (begins v w) f, ap (λ x. begins x w) p ∙ or_right_false (begins w v) (begins v w) f)
    go f (inr k) rest = rest k

pub apart_at : (column : List ℕ) → overlap (words_of column) ≡ false → (j k : ℕ) → j < k → k < length column → begins (word_at column j) (word_at column k) ≡ false
apart_at [] o j k h l = absurd (omega arith)
apart_at (x ∷ column) o j zero h l = absurd (omega arith)
apart_at (x ∷ column) o zero (suc k) h l =
    (unmet (unpack x) (words_of column) (or_left_false (meets (unpack x) (words_of column)) (overlap (words_of column)) o) (word_at column k) (mem_at column k (omega arith))).0
apart_at (x ∷ column) o (suc j) (suc k) h l =
    apart_at column (or_right_false (meets (unpack x) (words_of column)) (overlap (words_of column)) o) j k (omega arith) (omega arith)

-- r is the place of the first word of a packed column that begins w, or the length of the column where none does
abbrev pub FirstIn : List ℕ → Word → ℕ → Type 0
FirstIn column w r = FirstAt unpack 0 column w r

-- `place_in` is that place, and only that place is `place_in`
pub place_of_first : (column : List ℕ) (w : Word) (r : ℕ) → FirstIn column w r → r ≡ place_in (words_of column) w
unfolding place_in
place_of_first column w r f = by_end (passes (ltb r (length column)))
  where
    search : first_match (λ u. u) (λ place u tail. place) (words_of column) w ≡ first_match unpack (λ place x tail. place) column w
    search = match_map (λ u. u) unpack (λ place u tail. place) column w

    or_length : Option ℕ → ℕ
    or_length o = get_or o (length (words_of column))

    by_end : (ltb r (length column) ≡ true) ⊎ (ltb r (length column) ≡ false) → r ≡ place_in (words_of column) w
    by_end (inl t) =
        let h = ltb-true r (length column) t in
        let tail = after_drop (word_at column r) w (f.found h) in
        sym (ap or_length (search ∙ match_found unpack 0 (λ place x tail. place) column w r f h _ tail))
    by_end (inr t) =
        let e : r ≡ length column = omega (arith, f.within, ltb-false r (length column) t) in
        e ∙ sym (length-map column unpack) ∙ sym (ap or_length (search ∙ match_nowhere unpack 0 (λ place x tail. place) column w r f e))

pub first_of_place : (column : List ℕ) (w : Word) (r : ℕ) → r ≡ place_in (words_of column) w → FirstIn column w r
first_of_place column w r e =
    let (k, f) = first_place unpack 0 column w in
    subst (FirstIn column w) (place_of_first column w k f ∙ sym e) f

-- what `begun_at` answers where the place is known
module _ (column : List ℕ) (w : Word) (r : ℕ) (e : r ≡ place_in (words_of column) w) where
  pub begun_some : r < length column → begun_at (words_of column) w ≡ Some r
  begun_some h = rw (← e, lt-ltb r (length (words_of column)) (omega (arith, length-map column unpack)))

  pub begun_none : length column ≤ r → begun_at (words_of column) w ≡ None
  begun_none h = rw (← e, le-ltb r (length (words_of column)) (omega (arith, length-map column unpack)))

-- and what its answers say of the place
module _ (column : List ℕ) (w : Word) where
  pub first_of_begun : (k : ℕ) → begun_at (words_of column) w ≡ Some k → FirstIn column w k × (k < length column)
  first_of_begun k e =
      let (t, p) = cond_some (ltb (place_in (words_of column) w) (length (words_of column))) _ k e in
      (first_of_place column w k (sym p), omega (arith, p, ltb-true _ _ t, length-map column unpack))

  pub first_of_unbegun : begun_at (words_of column) w ≡ None → FirstIn column w (length column)
  first_of_unbegun e = let (k, f) = first_place unpack 0 column w in go k f (place_of_first column w k f) (passes (ltb k (length column)))
    where
      go : (k : ℕ) → FirstIn column w k → k ≡ place_in (words_of column) w → (ltb k (length column) ≡ true) ⊎ (ltb k (length column) ≡ false) → FirstIn column w (length column)
      go k f p (inl t) = absurd (none-some k (sym e ∙ begun_some column w k p (ltb-true _ _ t)))
      go k f p (inr t) = subst (FirstIn column w) (omega (arith, f.within, ltb-false _ _ t)) f

module _
    (column : List ℕ)
    (s : sorted (words_of column) ≡ true)
    (o : overlap (words_of column) ≡ false)
    (w r : ℕ)
    (p : PartedAt column w r) where
  -- only the last word before the place that parts the column at w may begin w
  begun_last : (k : ℕ) → k < length column → begins (word_at column k) (unpack w) ≡ true → suc k ≡ r
  begun_last k l b = by_place (passes (ltb k (r - 1)))
    where
      h : k < r
      h = before_parting column s w r p k l (in_order_of_begins (word_at column k) (unpack w) b)

      by_place : (ltb k (r - 1) ≡ true) ⊎ (ltb k (r - 1) ≡ false) → suc k ≡ r
      by_place (inl t) =
          let last = in_order_of_test (word_at column (r - 1)) (unpack w) (p.front (r - 1) (omega (arith, h))) in
          let begun = begins_between (word_at column k) (word_at column (r - 1)) (unpack w) (up_to_last column s w r p k h) last b in
          absurd (clash begun (apart_at column o k (r - 1) (ltb-true k (r - 1) t) (omega (arith, h, p.within))))
      by_place (inr f) = omega (arith, h, ltb-false k (r - 1) f)

  unbegun : (k : ℕ) → k < length column → (suc k ≡ r → begins (word_at column k) (unpack w) ≡ false)
      → begins (word_at column k) (unpack w) ≡ false
  unbegun k l f = ⊎_elim (λ t. f (begun_last k l t)) (λ n. n) (passes (begins (word_at column k) (unpack w)))

  pub begun_found : 0 < r → begins (word_at column (r - 1)) (unpack w) ≡ true → r - 1 ≡ place_in (words_of column) (unpack w)
  begun_found h b =
      place_of_first column (unpack w) (r - 1)
      record {
        within = omega (arith, p.within);
        earlier = λ j l. unbegun j (omega (arith, p.within)) (λ e. absurd (omega arith));
        found = λ l. b;
      }

  pub begun_nowhere : (0 < r → begins (word_at column (r - 1)) (unpack w) ≡ false) → length column ≡ place_in (words_of column) (unpack w)
  begun_nowhere f =
      place_of_first column (unpack w) (length column)
      record {
        within = omega arith;
        earlier = λ j l. unbegun j l (λ e. ap (λ k. begins (word_at column k) (unpack w)) (omega arith) ∙ f (omega arith));
        found = λ l. absurd (omega arith);
      }

  -- so the last word before the parting decides
  pub begun_or_not : (last : ℕ) → r ≡ last + 1 → then_some (begins (word_at column last) (unpack w)) last ≡ begun_at (words_of column) (unpack w)
  begun_or_not last e = go (begins (word_at column last) (unpack w)) refl
    where
      here : last ≡ r - 1
      here = omega arith

      go : (b : Bool) → begins (word_at column last) (unpack w) ≡ b → then_some b last ≡ begun_at (words_of column) (unpack w)
      go true f =
          let found = begun_found (omega arith) (ap (λ k. begins (word_at column k) (unpack w)) (sym here) ∙ f) in
          sym (begun_some column (unpack w) last (here ∙ found) (omega (arith, p.within)))
      go false f = sym (begun_none column (unpack w) (length column) (begun_nowhere (λ h. ap (λ k. begins (word_at column k) (unpack w)) (sym here) ∙ f)) (omega arith))
