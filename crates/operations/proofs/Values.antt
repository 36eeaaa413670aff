-- The values that hold plans: their pairs by place; a column of packed words with zeros behind; and a value that holds a plan gives the
-- plan back.
use Prim.Native.Nat.{ℕ, zero, suc, ◌-◌, ◌≤◌}
use mathlib.Core.Path.{◌≡◌, refl, sym, ◌∙◌, ap, ap₂}
use mathlib.Core.Bool.{◌&&◌}
use mathlib.Core.List.Memᴰ
use mathlib.Core.List.{List, [], ◌∷◌, ◌++◌, map, append-nil, Memᴰ}
use native.Mathlib.Omega.{arith}
use lib.Dec.{T, leb, leb→le}
use Rattle.std.proofs.lemmas.List.{drop_all}
use lib.ListN.{length, get_or, take, drop, replicate, length-map, length-take, length-drop}
use lib.Seq.{length-take-le, take_at}
use Rattle.higman.specs.Words.{Shape, Word, count}
use Rattle.higman.specs.Tables.{Pair, Table, froms, tos}
use Rattle.higman.specs.Normal.{keep}
use Rattle.higman.specs.Limits.{max_pairs, shape_in_range}
use Rattle.higman.proofs.Tests.{Ways, IsWord, and_left, pair_path}
use Rattle.higman.proofs.KeptPlans.{in_range}
use Rattle.higman.proofs.Elements.{Element}
use Rattle.words.specs.Packed.{pack}
use Rattle.words.proofs.Packing.{pack_unpack, unpack_pack}
use Rattle.higman.proofs.PlanWords.{ways_of_word}
use Rattle.operations.specs.declared.Plan.{Plan}
use Rattle.columns.specs.Packed.{pair_of, words_of, table, rows}
use Rattle.operations.specs.Plans.{rows_of, pair_at, zeros, in_table, column, packed}
use Rattle.operations.specs.Keeping.{KeptColumns}
use Rattle.columns.proofs.Rearranged.{froms_table, tos_table}
use Rattle.columns.proofs.Rows.{rows_length}

-- the pairs of two columns by their places
count_shifted : {A : Type 0} (g : ℕ → A) (a m : ℕ) → map g (count (suc a) m) ≡ map (λ i. g (suc i)) (count a m)
count_shifted g a zero = refl
count_shifted g a (suc m) = ap (λ l. g (suc a) ∷ l) (count_shifted g (suc a) m)

rows_by_place : (n : ℕ) (f t : List ℕ) → n ≤ length f → n ≤ length t
    → rows n f t ≡ map (λ i. pair_of (get_or f i 0) (get_or t i 0)) (count 0 n)
rows_by_place zero f t h k = refl
rows_by_place (suc n) [] t h k = absurd (omega arith)
rows_by_place (suc n) (x ∷ f) [] h k = absurd (omega arith)
rows_by_place (suc n) (x ∷ f) (y ∷ t) h k =
    ap (λ l. pair_of x y ∷ l)
    (rows_by_place n f t (omega arith) (omega arith) ∙ sym (count_shifted (λ i. pair_of (get_or (x ∷ f) i 0) (get_or (y ∷ t) i 0)) 0 n))

-- the pairs that a value holds stand at its first places, from-words in the one column and to-words in the other
pub pairs_by_place : (p : Plan) → p.pairs ≤ length p.from → p.pairs ≤ length p.to → rows_of p ≡ map (pair_at p) (count 0 p.pairs)
pairs_by_place p h k = rows_by_place p.pairs p.from p.to h k

-- a column that is filled with zeros from a place on
pub cleared : (place : ℕ) (l zeros : List ℕ) → zeros ≡ replicate (length (take (length l - place) (drop place l))) 0
    → take place l ++ (zeros ++ drop (length l - place) (drop place l)) ≡ take place l ++ replicate (length l - place) 0
cleared place l zeros e =
    let long : length (take (length l - place) (drop place l)) ≡ length l - place = simp (length-take, length-drop) (omega arith) in
    let none : length (drop place l) ≤ length l - place = simp length-drop (omega arith) in
    ap (λ x. take place l ++ x)
    (ap₂ ◌++◌ (e ∙ ap (λ n. replicate n 0) long) (drop_all (length l - place) (drop place l) none)
    ∙ append-nil (replicate (length l - place) 0))

pub packed_again : (l : List ℕ) → map pack (words_of l) ≡ l
packed_again [] = refl
packed_again (x ∷ l) = ap₂ (λ y k. y ∷ k) (pack_unpack x) (packed_again l)

-- the packed columns of the table that two columns hold at their first places
module _ (k : ℕ) (f t : List ℕ) (h : k ≤ length f) (h' : k ≤ length t) where
  paired : length (take k f) ≡ length (take k t)
  paired = length-take-le k f h ∙ sym (length-take-le k t h')

  pub packed_froms : map pack (froms (rows k f t)) ≡ take k f
  packed_froms = ap (map pack) (froms_table (take k f) (take k t) paired) ∙ packed_again (take k f)

  pub packed_tos : map pack (tos (rows k f t)) ≡ take k t
  packed_tos = ap (map pack) (tos_table (take k f) (take k t) paired) ∙ packed_again (take k t)

-- the columns that a reduction has written, once they are cleared behind its pairs
pub kept_columns : (s : Shape) (t : Table) (of ot of₀ ot₀ of' ot' : List ℕ) (r : ℕ) → r ≤ length of → r ≤ length ot → rows r of ot
    ≡ keep s t
    → length of ≡ length of₀ → length ot ≡ length ot₀ → of' ≡ take r of ++ replicate (length of - r) 0
    → ot' ≡ take r ot ++ replicate (length ot - r) 0
    → KeptColumns s t of₀ ot₀ of' ot' r
kept_columns s t of ot of₀ ot₀ of' ot' r h h' e l l' p q =
    record {
      count = sym (rows_length r of ot h h') ∙ ap length e;
      from_words = p ∙ ap₂ (λ x k. x ++ replicate (k - r) 0) (sym (packed_froms r of ot h h') ∙ ap (λ u. map pack (froms u)) e) l;
      to_words = q ∙ ap₂ (λ x k. x ++ replicate (k - r) 0) (sym (packed_tos r of ot h h') ∙ ap (λ u. map pack (tos u)) e) l';
    }

-- as many packed words as there are pairs, with zeros behind, are a column
column_is : (c : List Word) (l l₀ : List ℕ) (r : ℕ) → length l₀ ≡ max_pairs → length c ≡ r → l ≡ map pack c ++ replicate (length l₀ - r) 0
    → l ≡ column c
column_is c l l₀ r k e p = p ∙ ap₂ (λ j m. map pack c ++ replicate (j - m) 0) k (sym e)

pub kept_value : (s : Shape) (t : Table) (f₀ t₀ f t' : List ℕ) (r : ℕ) → length f₀ ≡ max_pairs → length t₀ ≡ max_pairs
    → KeptColumns s t f₀ t₀ f t' r
    → ◌≡◌ {A = Plan} (record { arity = s.arity; roots = s.roots; pairs = r; from = f; to = t' }) (packed (record { shape = s; rows = keep s t }))
unfolding packed
kept_value s t f₀ t₀ f t' r h h' k =
    let u = keep s t in
    let from = column_is (froms u) f f₀ r h (length-map u (λ p. p.from) ∙ sym k.count) k.from_words in
    let to = column_is (tos u) t' t₀ r h' (length-map u (λ p. p.to) ∙ sym k.count) k.to_words in
    λ i. record { arity = s.arity; roots = s.roots; pairs = k.count i; from = from i; to = to i }

-- a value with zeros behind its pairs has no more of them than there are places
pub few_in_table : (p : Plan) → T (in_table p) → p.pairs ≤ max_pairs
unfolding in_table
few_in_table p h =
    let few = leb p.pairs max_pairs in
    let from = zeros (drop p.pairs p.from) in
    let to = zeros (drop p.pairs p.to) in
    leb→le p.pairs max_pairs (and_left few from (and_left (few && from) to h))

-- words of digits of four bits
abbrev Spelt : Table → Type 0
Spelt t = (p : Pair) → Memᴰ p t → Ways 15 p.from × Ways 15 p.to

table_packed : (t : Table) → Spelt t → table (map pack (froms t)) (map pack (tos t)) ≡ t
table_packed [] h = refl
table_packed (p ∷ t) h =
    let (a, b) = h p (Memᴰ.head refl) in
    ap₂ (λ q u. q ∷ u) (pair_path (unpack_pack p.from a) (unpack_pack p.to b)) (table_packed t (λ q m. h q (Memᴰ.tail m)))

-- words of a shape
abbrev pub Worded : Shape → Table → Type 0
Worded s t = (p : Pair) → Memᴰ p t → IsWord s p.from × IsWord s p.to

spelt : (s : Shape) (t : Table) → T (shape_in_range s) → Worded s t → Spelt t
spelt s t r w p m =
    let range = in_range s r in
    let a : s.arity ≤ 15 = omega (arith, range.arity_high) in
    let b : s.roots ≤ 15 = omega (arith, range.roots_high) in
    let (from, to) = w p m in
    (ways_of_word s p.from a b from, ways_of_word s p.to a b to)

-- the pairs of the value that holds words of a shape
pub rows_of_words : (s : Shape) (t : Table) → T (shape_in_range s) → Worded s t → rows_of (packed (record { shape = s; rows = t })) ≡ t
unfolding packed
rows_of_words s t r w =
    ap₂ table
    (take_at (map pack (froms t)) (replicate (max_pairs - length (froms t)) 0) (length t) (length-map (froms t) pack ∙ length-map t (λ p. p.from)))
    (take_at (map pack (tos t)) (replicate (max_pairs - length (tos t)) 0) (length t) (length-map (tos t) pack ∙ length-map t (λ p. p.to)))
    ∙ table_packed t (spelt s t r w)

-- and of that which holds a plan
pub rows_of_packed : (s : Shape) (t : Table) → T (shape_in_range s) → Element s t → rows_of (packed (record { shape = s; rows = t })) ≡ t
rows_of_packed s t r E =
    rows_of_words s t r
    (λ p m. (E.from_proper.words p.from (Memᴰ.map (λ q. q.from) m), E.to_proper.words p.to (Memᴰ.map (λ q. q.to) m)))
