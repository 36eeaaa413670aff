-- In a sorted column a word that begins another begins its right neighbour too, which stands between the two. So a pass over
-- neighbours finds an overlap if there is one.
use Prim.Native.Nat.{ℕ, zero, suc, ◌+◌, ◌-◌, ◌≤◌, ◌<◌}
use mathlib.Core.Path.{◌≡◌, refl, sym, ◌∙◌, ap, ap₂, subst}
use mathlib.Core.Logic.{◌⊎◌, inl, inr}
use mathlib.Core.Bool.{Bool, true, false, ◌||◌, or-true}
use mathlib.Core.List.{List, [], ◌∷◌, Memᴰ}
use native.Mathlib.Numerals.{add-one}
use native.Mathlib.Omega.{arith}
use lib.ListN.{length, get_or}
use Rattle.std.proofs.Common.{MatchBool, Bor}
use Rattle.std.specs.Prelude.{Option, Some, None, IfSome, IsSomeAnd, option_map}
use Rattle.std.specs.List.{IsSubsliceAt}
use Rattle.std.proofs.lemmas.Option.{none-some}
use Rattle.higman.specs.Words.{Word, begins}
use Rattle.higman.specs.Bases.{meets, overlap}
use Rattle.higman.proofs.Tests.{passes, clash, or_cases}
use Rattle.words.specs.Packed.{unpack}
use Rattle.columns.specs.Packed.{words_of, sorted}
use Rattle.columns.specs.Columns.{word_at}
use Rattle.columns.proofs.InOrder.{InOrder, in_order_of_begins, in_order_antisym, begins_between}
use Rattle.columns.proofs.Places.{sorted_first, sorted_tail}

-- the word of the column that a word meets
met : (w : Word) (c : List Word) → meets w c ≡ true → (u : Word) × Memᴰ u c × ((begins w u ≡ true) ⊎ (begins u w ≡ true))
met w [] e = absurd (clash e refl)
met w (v ∷ c) e = go (or_cases (begins w v || begins v w) (meets w c) e) (λ k. met w c k)
  where
    go : ((begins w v || begins v w) ≡ true) ⊎ (meets w c ≡ true) → (meets w c ≡ true → (u : Word) × Memᴰ u c × ((begins w u ≡ true) ⊎ (begins u w ≡ true))) → (u : Word) × Memᴰ u (v ∷ c) × ((begins w u ≡ true) ⊎ (begins u w ≡ true))
    go (inl p) rest = (v, Memᴰ.head refl, or_cases (begins w v) (begins v w) p)
    go (inr p) rest = let (u, m, b) = rest p in (u, Memᴰ.tail m, b)

-- words in order of which the second begins the first are the same
turned : (w u : Word) → InOrder w u → begins u w ≡ true → begins w u ≡ true
turned w u h b = let e = in_order_antisym w u h (in_order_of_begins u w b) in subst (λ x. begins x u ≡ true) (sym e) (subst (λ x. begins u x ≡ true) e b)

module _ (w v : Word) (c : List Word) (s : sorted (w ∷ v ∷ c) ≡ true) where
  first : InOrder w v
  first = sorted_first w (v ∷ c) s v (Memᴰ.head refl)

  -- a word that w meets further on has w's neighbour between
  neighbour_of_meets : meets w (v ∷ c) ≡ true → begins w v ≡ true
  neighbour_of_meets e = go (or_cases (begins w v || begins v w) (meets w c) e)
    where
      near : (begins w v ≡ true) ⊎ (begins v w ≡ true) → begins w v ≡ true
      near (inl b) = b
      near (inr b) = turned w v first b

      onward : (u : Word) → Memᴰ u c → begins w u ≡ true → begins w v ≡ true
      onward u m b = begins_between w v u first (sorted_first v c (sorted_tail w (v ∷ c) s) u m) b

      far : (u : Word) → Memᴰ u c → (begins w u ≡ true) ⊎ (begins u w ≡ true) → begins w v ≡ true
      far u m (inl b) = onward u m b
      far u m (inr b) = onward u m (turned w u (sorted_first w (v ∷ c) s u (Memᴰ.tail m)) b)

      go : ((begins w v || begins v w) ≡ true) ⊎ (meets w c ≡ true) → begins w v ≡ true
      go (inl p) = near (or_cases (begins w v) (begins v w) p)
      go (inr p) = let (u, m, b) = met w c p in far u m b

  neighbours : overlap (w ∷ v ∷ c) ≡ (begins w v || overlap (v ∷ c))
  neighbours = go (passes (meets w (v ∷ c))) (passes (begins w v))
    where
      go : (meets w (v ∷ c) ≡ true) ⊎ (meets w (v ∷ c) ≡ false) → (begins w v ≡ true) ⊎ (begins w v ≡ false) → (meets w (v ∷ c) || overlap (v ∷ c)) ≡ (begins w v || overlap (v ∷ c))
      go m (inl b) = rw b
      go (inl m) (inr b) = absurd (clash (neighbour_of_meets m) b)
      go (inr m) (inr b) = ap (λ t. t || overlap (v ∷ c)) (m ∙ sym b)

one_begins : (column : List ℕ) (k : ℕ) → sorted (words_of column) ≡ true → suc k < length column → begins (word_at column k) (word_at column (suc k)) ≡ true
    → overlap (words_of column) ≡ true
one_begins [] k s h e = absurd (omega arith)
one_begins (x ∷ []) k s h e = absurd (omega arith)
one_begins (x ∷ y ∷ column) zero s h e = neighbours (unpack x) (unpack y) (words_of column) s ∙ ap (λ t. t || overlap (words_of (y ∷ column))) e
one_begins (x ∷ y ∷ column) (suc k) s h e =
    neighbours (unpack x) (unpack y) (words_of column) s
    ∙ ap (λ t. begins (unpack x) (unpack y) || t) (one_begins (y ∷ column) k (sorted_tail (unpack x) (words_of (y ∷ column)) s) (omega arith) e)
    ∙ or-true (begins (unpack x) (unpack y))

none_begins : (column : List ℕ) → sorted (words_of column) ≡ true → ((k : ℕ) → suc k < length column → begins (word_at column k) (word_at column (suc k)) ≡ false)
    → overlap (words_of column) ≡ false
none_begins [] s h = refl
none_begins (x ∷ []) s h = refl
none_begins (x ∷ y ∷ column) s h =
    neighbours (unpack x) (unpack y) (words_of column) s
    ∙ ap₂ (λ a b. a || b) (h zero (omega arith)) (none_begins (y ∷ column) (sorted_tail (unpack x) (words_of (y ∷ column)) s) (λ k p. h (suc k) (omega arith)))

-- some word of a column begins its right neighbour, and none does
abbrev pub SomeBegins : List ℕ → Type 0
SomeBegins column = (k : ℕ) × (k + 1 < length column) × (begins (word_at column k) (word_at column (k + 1)) ≡ true)

abbrev pub NoneBegins : List ℕ → Type 0
NoneBegins column = (k : ℕ) → k + 1 < length column → begins (word_at column k) (word_at column (k + 1)) ≡ false

-- whether a column overlaps, by what is known of its neighbours
pub overlap_by_neighbours : (column : List ℕ) (r : Bool) → sorted (words_of column) ≡ true → MatchBool r (SomeBegins column) (NoneBegins column) → r ≡ overlap (words_of column)
overlap_by_neighbours column true s (k, p, h) = sym (one_begins column k s (omega arith) (rw (← add-one) h))
overlap_by_neighbours column false s h = sym (none_begins column s (λ k p. rw (← add-one) (h k (omega arith))))

-- what a run over the windows of n numbers reads
abbrev pub Windows : ℕ → List ℕ → ℕ → Bool → (ℕ → Option (Bor (List ℕ))) → Type 0
Windows n column len whole at = (whole ≡ true → len ≡ length column + 1 - n)
    × ((k : ℕ) → IfSome (at k) (λ x. (length x.now ≡ n) × (k + n ≤ length column) × IsSubsliceAt n column k x.now))
    × ((k d : ℕ) → k < len → option_map (λ x. get_or x.now 0 d) (at k) ≡ Some (get_or column k d))

-- What `any` over the windows of two says of the neighbours, where the test gives Yes or No at a window.
module _
    (column : List ℕ)
    (len : ℕ)
    (whole : Bool)
    (at : ℕ → Option (Bor (List ℕ)))
    (read : Windows 2 column len whole at)
    (Keeps : Type 0)
    (keeps : Keeps)
    (Yes No : Bor (List ℕ) → Type 0)
    (yes : (x : Bor (List ℕ)) → Yes x → begins (unpack (get_or x.now 0 0)) (unpack (get_or x.now 1 0)) ≡ true)
    (no : (x : Bor (List ℕ)) → No x → begins (unpack (get_or x.now 0 0)) (unpack (get_or x.now 1 0)) ≡ false) where
  window_begins : (k : ℕ) (x : Bor (List ℕ)) → IsSubsliceAt 2 column k x.now → begins (word_at column k) (word_at column (k + 1)) ≡ begins (unpack (get_or x.now 0 0)) (unpack (get_or x.now 1 0))
  window_begins k x sub =
      let here : k + 0 ≡ k = omega arith in
      sym (ap₂ (λ m n. begins (unpack m) (unpack n)) (sub.2 0 0 (omega arith) ∙ ap (λ i. get_or column i 0) here) (sub.2 1 0 (omega arith)))

  pub told_by_windows : (r : Bool) → MatchBool r (Keeps → (k : ℕ) × (k < len) × IsSomeAnd (at k) Yes) ((whole ≡ true) × (Keeps → (k : ℕ) → IfSome (at k) No)) → MatchBool r (SomeBegins column) (NoneBegins column)
  told_by_windows true m = let (k, h, g) = m keeps in go k (at k) g (read.1 k)
    where
      go : (k : ℕ) (o : Option (Bor (List ℕ))) → IsSomeAnd o Yes → IfSome o (λ x. (length x.now ≡ 2) × (k + 2 ≤ length column) × IsSubsliceAt 2 column k x.now) → SomeBegins column
      go k None g w = absurd g
      go k (Some x) g w = (k, omega (arith, w.1), window_begins k x w.2 ∙ yes x g)
  told_by_windows false m = λ k h. go k (at k) (read.2 k 0 (omega (arith, read.0 m.0))) (m.1 keeps k) (read.1 k)
    where
      go : (k : ℕ) (o : Option (Bor (List ℕ))) → option_map (λ x. get_or x.now 0 0) o ≡ Some (get_or column k 0) → IfSome o No → IfSome o (λ x. (length x.now ≡ 2) × (k + 2 ≤ length column) × IsSubsliceAt 2 column k x.now) → begins (word_at column k) (word_at column (k + 1)) ≡ false
      go k None f g w = absurd (none-some _ f)
      go k (Some x) f g w = window_begins k x w.2 ∙ no x g
