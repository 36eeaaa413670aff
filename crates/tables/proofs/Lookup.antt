-- Looking a word up in a table of two columns: the pairs place by place, the image of a word by the place of the from-word that begins
-- it, and the words that a packed column holds.
use Prim.Native.Nat.{ℕ, zero, suc, ◌+◌, ◌≤◌, ◌<◌}
use mathlib.Core.Path.{◌≡◌, refl, sym, ◌∙◌, ap, ap₂, subst}
use mathlib.Core.List.{List, [], ◌∷◌, ◌++◌, Memᴰ}
use mathlib.Core.Option.{none, some}
use native.Mathlib.Numerals.{add-one}
use native.Mathlib.Omega.{arith}
use lib.Dec.{T}
use lib.ListN.{length, get_or, drop, length-append}
use lib.Seq.{drop-cons}
use Rattle.higman.specs.Words.{Word, after, begins}
use Rattle.higman.specs.Tables.{image}
use Rattle.higman.specs.Limits.{max_digits}
use Rattle.higman.proofs.Tests.{all_at, Ways}
use Rattle.higman.proofs.Prefixes.{after_some_lem, ways_append, ways_right}
use Rattle.higman.proofs.Matches.{FirstAt, match_found, match_nowhere}
use Rattle.words.specs.Packed.{unpack, is_packed}
use Rattle.words.proofs.Packing.{unpack_zero}
use Rattle.words.proofs.Packed.{packed_ways, packed_length, packed_of, packed_as}
use Rattle.columns.specs.Packed.{pair_of, table}
use Rattle.columns.specs.Columns.{word_at}
use Rattle.tables.specs.Spreading.{packed_words, pair}
use Rattle.columns.proofs.Rows.{table_length}
use Rattle.columns.proofs.Search.{FirstIn}

-- what is left of a table: its first pair, and what is left after it
pub table_left : (from to : List ℕ) (i : ℕ) → i < length from → i < length to → table (drop i from) (drop i to) ≡ pair (word_at from i) (word_at to i) ∷ table (drop (i + 1) from) (drop (i + 1) to)
table_left from to i h k =
    ap₂ table (drop-cons from i 0 h) (drop-cons to i 0 k) ∙ ap (λ n. pair (word_at from i) (word_at to i) ∷ table (drop n from) (drop n to)) (sym (add-one i))

-- the pair at a place
pub pair_at_lem : (from to : List ℕ) → length from ≡ length to → (k : ℕ)
    → get_or (table from to) k (pair_of 0 0) ≡ pair_of (get_or from k 0) (get_or to k 0)
pair_at_lem [] [] l k = refl
pair_at_lem [] (t ∷ to) l k = absurd (omega arith)
pair_at_lem (f ∷ from) [] l k = absurd (omega arith)
pair_at_lem (f ∷ from) (t ∷ to) l zero = refl
pair_at_lem (f ∷ from) (t ∷ to) l (suc k) = pair_at_lem from to (omega arith) k

-- the image of w, by the place of the from-word that begins w
module _ (from to : List ℕ) (l : length from ≡ length to) (w : Word) (k : ℕ) (f : FirstIn from w k) where
  first_pair : FirstAt (λ p. p.from) (pair_of 0 0) (table from to) w k
  first_pair =
      record {
        within = omega (arith, f.within, table_length from to l);
        earlier = λ j h. ap (λ p. begins p.from w) (pair_at_lem from to l j) ∙ f.earlier j h;
        found = λ h. ap (λ p. begins p.from w) (pair_at_lem from to l k) ∙ f.found (omega (arith, table_length from to l));
      }

  pub image_at_lem : k < length from → (x : Word) → after (word_at from k) w ≡ some x → image (table from to) w ≡ some (word_at to k ++ x)
  image_at_lem h x e =
      let at = pair_at_lem from to l k in
      match_found (λ p. p.from) _ (λ place p tail. p.to ++ tail) (table from to) w k first_pair (omega (arith, table_length from to l)) x
      (ap (λ p. after p.from w) at ∙ e)
      ∙ ap (λ p. some (p.to ++ x)) at

  pub image_nowhere : k ≡ length from → image (table from to) w ≡ none
  image_nowhere e =
      match_nowhere (λ p. p.from) _ (λ place p tail. p.to ++ tail) (table from to) w k first_pair (e ∙ sym (table_length from to l))

pub mem_number : (column : List ℕ) (k : ℕ) → k < length column → Memᴰ (get_or column k 0) column
mem_number [] k h = absurd (omega arith)
mem_number (x ∷ column) zero h = Memᴰ.head refl
mem_number (x ∷ column) (suc k) h = Memᴰ.tail (mem_number column k (omega arith))

pub packed_at : (column : List ℕ) → packed_words column → (k : ℕ) → k < length column → T (is_packed (get_or column k 0))
packed_at column t k h = all_at is_packed column t (get_or column k 0) (mem_number column k h)

pub packed_zero : T (is_packed 0)
packed_zero = packed_as 0 unpack_zero tt (omega arith)

pub packed_tail : (p : Word) (w r : ℕ) → T (is_packed w) → after p (unpack w) ≡ some (unpack r) → T (is_packed r)
packed_tail p w r t e =
    let f = after_some_lem p (unpack w) (unpack r) e in
    packed_of r (ways_right 9 p (unpack r) (subst (Ways 9) f (packed_ways w t))) (omega (arith, ap length f, length-append p (unpack r), packed_length w t))

pub packed_append : (u x r : ℕ) → T (is_packed u) → T (is_packed x) → length (unpack u) + length (unpack x) ≤ max_digits → unpack r ≡ unpack u ++ unpack x → T (is_packed r)
packed_append u x r s t l e =
    packed_as r e (ways_append 9 (unpack u) (unpack x) (packed_ways u s) (packed_ways x t)) (omega (arith, length-append (unpack u) (unpack x)))
