-- Places of a column: each word of it stands at a place, and in a sorted column the words at two places are in order as the places
-- are. What is left of a sorted column behind a place is sorted.
use Prim.Native.Nat.{ℕ, zero, suc, ◌≤◌, ◌<◌}
use mathlib.Core.Path.{◌≡◌, refl}
use mathlib.Core.Logic.{◌⊎◌, inl, inr}
use mathlib.Core.Bool.{true}
use mathlib.Core.List.Memᴰ
use mathlib.Core.List.{List, [], ◌∷◌, Memᴰ}
use native.Mathlib.Omega.{arith}
use lib.ListN.{length, drop}
use Rattle.higman.specs.Words.{Word}
use Rattle.higman.specs.Bases.{all}
use Rattle.higman.proofs.Tests.{so, T_of, and_left, and_right, all_at}
use Rattle.words.specs.Packed.{unpack}
use Rattle.columns.specs.Packed.{words_of, in_order, sorted}
use Rattle.columns.specs.Columns.{word_at}
use Rattle.columns.proofs.InOrder.{InOrder, in_order_of_test, in_order_refl}

pub mem_at : (column : List ℕ) (k : ℕ) → k < length column → Memᴰ (word_at column k) (words_of column)
mem_at [] k h = absurd (omega arith)
mem_at (x ∷ column) zero h = Memᴰ.head refl
mem_at (x ∷ column) (suc k) h = Memᴰ.tail (mem_at column k (omega arith))

pub place_of_lem : (column : List ℕ) (u : Word) → Memᴰ u (words_of column) → (k : ℕ) × (k < length column) × (u ≡ word_at column k)
place_of_lem [] u m = absurd (Memᴰ.not-nil m)
place_of_lem (x ∷ column) u m = go (Memᴰ.cases_cons m) (λ l. place_of_lem column u l)
  where
    go : (u ≡ unpack x) ⊎ Memᴰ u (words_of column) → (Memᴰ u (words_of column) → (k : ℕ) × (k < length column) × (u ≡ word_at column k)) → (k : ℕ) × (k < suc (length column)) × (u ≡ word_at (x ∷ column) k)
    go (inl e) rest = (0, omega arith, e)
    go (inr l) rest = let (k, h, e) = rest l in (suc k, omega arith, e)

pub sorted_tail : (w : Word) (c : List Word) → sorted (w ∷ c) ≡ true → sorted c ≡ true
sorted_tail w c s = so (sorted c) (and_right (all (in_order w) c) (sorted c) (T_of s))

-- the first word is in order with each that follows
pub sorted_first : (w : Word) (c : List Word) → sorted (w ∷ c) ≡ true → (u : Word) → Memᴰ u c → InOrder w u
sorted_first w c s u m =
    in_order_of_test w u (so (in_order w u) (all_at (in_order w) c (and_left (all (in_order w) c) (sorted c) (T_of s)) u m))

pub sorted_drop : (i : ℕ) (column : List ℕ) → sorted (words_of column) ≡ true → sorted (words_of (drop i column)) ≡ true
sorted_drop zero column s = s
sorted_drop (suc i) [] s = s
sorted_drop (suc i) (x ∷ column) s = sorted_drop i column (sorted_tail (unpack x) (words_of column) s)

pub sorted_at : (column : List ℕ) → sorted (words_of column) ≡ true → (j k : ℕ) → j ≤ k → k < length column → InOrder (word_at column j) (word_at column k)
sorted_at [] s j k h l = absurd (omega arith)
sorted_at (x ∷ column) s zero zero h l = in_order_refl (unpack x)
sorted_at (x ∷ column) s zero (suc k) h l =
    sorted_first (unpack x) (words_of column) s (word_at column k) (mem_at column k (omega arith))
sorted_at (x ∷ column) s (suc j) zero h l = absurd (omega arith)
sorted_at (x ∷ column) s (suc j) (suc k) h l =
    sorted_at column (sorted_tail (unpack x) (words_of column) s) j k (omega arith) (omega arith)
