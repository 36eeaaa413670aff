-- Pairs written behind others: a single pair, none, and two lots one after the other; and that a list of pairs has room in a plan
-- if both of its parts have.
use Prim.Native.Nat.{ℕ, ◌+◌, ◌≤◌, ◌<◌}
use mathlib.Core.Path.{◌≡◌, refl, sym, ◌∙◌, ap, ap₂, subst}
use mathlib.Core.Bool.{Bool, true, false, ◌&&◌, and-false}
use mathlib.Core.List.{List, [], ◌∷◌, ◌++◌, append-nil, append_assoc}
use native.Mathlib.Numerals.{add-one}
use native.Mathlib.Omega.{arith}
use lib.Dec.{T}
use lib.ListN.{length, take, set, length-append}
use lib.Seq.{take-suc-set, length-take-le}
use borrow.Author.Tests.{le-leb, lt-leb}
use Rattle.higman.specs.Words.{Word}
use Rattle.higman.specs.Bases.{all}
use Rattle.higman.specs.Tables.{Table}
use Rattle.higman.specs.Limits.{max_digits, fits, pair_fits}
use Rattle.higman.proofs.Tests.{and_intro, all_cons}
use Rattle.words.specs.Packed.{unpack, is_packed}
use Rattle.columns.specs.Packed.{table}
use Rattle.tables.specs.Spreading.{packed_words, pair, Room, Extended}

all_append : {A : Type 0} (f : A → Bool) (l m : List A) → all f (l ++ m) ≡ (all f l && all f m)
all_append f [] m = refl
all_append f (a ∷ l) m = go (f a) (all_append f l m)
  where
    go : (b : Bool) → all f (l ++ m) ≡ (all f l && all f m) → elim b as (λ _. Bool) [ true ↦ all f (l ++ m) | false ↦ false ] ≡ (elim b as (λ _. Bool) [ true ↦ all f l | false ↦ false ] && all f m)
    go true e = e
    go false e = refl

module _ (t u : Table) where
  fits_both : all pair_fits t ≡ true → all pair_fits u ≡ true → all pair_fits (t ++ u) ≡ true
  fits_both e f = all_append pair_fits t u ∙ ap₂ ◌&&◌ e f

  fits_not : all pair_fits t ≡ true → all pair_fits u ≡ false → all pair_fits (t ++ u) ≡ false
  fits_not e f = all_append pair_fits t u ∙ ap₂ ◌&&◌ e f

  fits_not_first : all pair_fits t ≡ false → all pair_fits (t ++ u) ≡ false
  fits_not_first e = all_append pair_fits t u ∙ ap (λ b. b && all pair_fits u) e

-- one pair, by the lengths of its words
module _ (u v : Word) where
  by_words : {a b : Bool} → fits u ≡ a → fits v ≡ b → all pair_fits (pair u v ∷ []) ≡ elim (a && b) as (λ _. Bool) [ true ↦ true | false ↦ false ]
  by_words e f = ap₂ {C = Bool} (λ a b. elim (a && b) as (λ _. Bool) [ true ↦ true | false ↦ false ]) e f

  pub pair_fits_lem : length u ≤ max_digits → length v ≤ max_digits → all pair_fits (pair u v ∷ []) ≡ true
  pair_fits_lem h k = by_words (le-leb (length u) max_digits h) (le-leb (length v) max_digits k)

  pub from_too_long : max_digits < length u → all pair_fits (pair u v ∷ []) ≡ false
  from_too_long h = by_words (lt-leb (length u) max_digits h) refl

  pub to_too_long : max_digits < length v → all pair_fits (pair u v ∷ []) ≡ false
  to_too_long h = by_words refl (lt-leb (length v) max_digits h) ∙ ap (λ b. elim b as (λ _. Bool) [ true ↦ true | false ↦ false ]) (and-false (fits u))

-- one more pair behind a table
table_more : (from to : List ℕ) (f t : ℕ) → length from ≡ length to → table (from ++ (f ∷ [])) (to ++ (t ∷ [])) ≡ table from to ++ (pair (unpack f) (unpack t) ∷ [])
table_more [] [] f t l = refl
table_more [] (b ∷ to) f t l = absurd (omega arith)
table_more (a ∷ from) [] f t l = absurd (omega arith)
table_more (a ∷ from) (b ∷ to) f t l = ap (λ r. pair (unpack a) (unpack b) ∷ r) (table_more from to f t (omega arith))

packed_more : (column : List ℕ) (x : ℕ) → T (is_packed x) → packed_words column → packed_words (column ++ (x ∷ []))
packed_more column x h t =
    subst T (sym (all_append is_packed column (x ∷ []))) (and_intro (all is_packed column) (all is_packed (x ∷ [])) t (all_cons is_packed x [] h tt))

module _ (from to : List ℕ) (n : ℕ) where
  pub extend_one : (x y : ℕ) → n < length from → n < length to → T (is_packed x) → T (is_packed y) → Extended (pair (unpack x) (unpack y) ∷ []) n from to (set from n x) (set to n y) (n + 1)
  extend_one x y h k p q =
      record {
        rows = refl;
        pairs =
            ap₂ table (front from x h) (front to y k)
            ∙ table_more (take n from) (take n to) x y (omega (arith, length-take-le n from (omega arith), length-take-le n to (omega arith)));
        from_packed = λ t. subst packed_words (sym (front from x h)) (packed_more (take n from) x p t);
        to_packed = λ t. subst packed_words (sym (front to y k)) (packed_more (take n to) y q t);
      }
    where
      front : (l : List ℕ) (a : ℕ) → n < length l → take (n + 1) (set l n a) ≡ take n l ++ (a ∷ [])
      front l a i = ap (λ m. take m (set l n a)) (add-one n) ∙ take-suc-set l n a i

  extend_none : Extended [] n from to from to n
  extend_none =
      record {
        rows = omega arith;
        pairs = sym (append-nil (table (take n from) (take n to)));
        from_packed = λ t. t;
        to_packed = λ t. t;
      }

  extend_both : {t u : Table} {from' to' from'' to'' : List ℕ} {r s : ℕ} → Extended t n from to from' to' r → Extended u r from' to' from'' to'' s → Extended (t ++ u) n from to from'' to'' s
  extend_both {t} {u} e f =
      record {
        rows = omega (arith, e.rows, f.rows, length-append t u);
        pairs = f.pairs ∙ ap (λ l. l ++ u) e.pairs ∙ append_assoc (table (take n from) (take n to)) t u;
        from_packed = λ p. f.from_packed (e.from_packed p);
        to_packed = λ p. f.to_packed (e.to_packed p);
      }

-- the next lot of the pairs that are left, and the rest behind it
pub record Lot (left t rest : Table) : Type 0 where
  pub split : left ≡ t ++ rest

-- The turns of a loop that writes the pairs of a table in lots: those that stand behind the first n, and those that are left.
pub record Filling (whole left : Table) (n : ℕ) (from₀ to₀ from to : List ℕ) (rows : ℕ) : Type 0 where
  pub done : Table
  pub split : whole ≡ done ++ left
  pub fit : all pair_fits done ≡ true
  pub extended : Extended done n from₀ to₀ from to rows
  pub from_long : length from ≡ length from₀
  pub to_long : length to ≡ length to₀

pub filling_start : (whole left : Table) (n : ℕ) (from to : List ℕ) → whole ≡ left → Filling whole left n from to from to n
filling_start whole left n from to e =
    record { done = []; split = e; fit = refl; extended = extend_none from to n; from_long = refl; to_long = refl }

module _ {whole left : Table} {n : ℕ} {from₀ to₀ from to : List ℕ} {rows : ℕ} (f : Filling whole left n from₀ to₀ from to rows) where
  pub filling_end : left ≡ [] → (all pair_fits whole ≡ true) × Extended whole n from₀ to₀ from to rows
  filling_end e =
      let same : f.done ≡ whole = sym (f.split ∙ ap (λ t. f.done ++ t) e ∙ append-nil f.done) in
      subst (λ t. (all pair_fits t ≡ true) × Extended t n from₀ to₀ from to rows) same (f.fit, f.extended)

  -- the next lot
  module _ {t rest : Table} (lot : Lot left t rest) where
    pub filling_room : Room n whole from₀ to₀ → Room rows t from to
    filling_room r =
        let l : length whole ≡ length f.done + (length t + length rest) =
        ap length (f.split ∙ ap (λ u. f.done ++ u) lot.split)
        ∙ length-append f.done (t ++ rest)
        ∙ ap (λ k. length f.done + k) (length-append t rest) in
        (omega (arith, f.extended.rows, f.from_long), omega (arith, f.extended.rows, f.to_long))

    pub filling_broken : all pair_fits t ≡ false → all pair_fits whole ≡ false
    filling_broken b =
        ap (all pair_fits) (f.split ∙ ap (λ u. f.done ++ u) lot.split) ∙ fits_not f.done (t ++ rest) f.fit (fits_not_first t rest b)

    pub filling_step : {from' to' : List ℕ} {r : ℕ} → (all pair_fits t ≡ true) × Extended t rows from to from' to' r → length from' ≡ length from → length to' ≡ length to → Filling whole rest n from₀ to₀ from' to' r
    filling_step g h k =
        record {
          done = f.done ++ t;
          split = f.split ∙ ap (λ u. f.done ++ u) lot.split ∙ sym (append_assoc f.done t rest);
          fit = fits_both f.done t f.fit g.0;
          extended = extend_both from₀ to₀ n f.extended g.1;
          from_long = h ∙ f.from_long;
          to_long = k ∙ f.to_long;
        }
