-- What the test of a kept plan says of a value: its pairs are few, its plan is kept, and the first places of its columns may be lent.
-- Lent columns are those that words are looked up in, packed and in order.
use Prim.Native.Nat.{ℕ, ◌≤◌}
use mathlib.Core.Path.{◌≡◌, sym, ◌∙◌, ap, subst}
use mathlib.Core.Bool.{true, false}
use mathlib.Core.List.Memᴰ
use mathlib.Core.List.{List, map, Memᴰ}
use native.Mathlib.Omega.{arith}
use lib.Dec.{T, leb, leb→le}
use lib.ListN.{length, length-map}
use Rattle.higman.specs.Words.{Shape, Word, is_word}
use Rattle.higman.specs.Bases.{Basis, all, overlap}
use Rattle.higman.specs.Tables.{Pair, Table, froms, tos}
use Rattle.higman.specs.Normal.{ordered}
use Rattle.higman.specs.Limits.{Kept, shape_in_range, granted, fits, pair_fits, max_pairs, is_plan_word}
use Rattle.higman.specs.Answers.{is_kept}
use Rattle.higman.proofs.Tests.{so, T_of, and_left, and_right, and_intro, all_at, all_of}
use Rattle.higman.proofs.Columns.{column_is_basis}
use Rattle.higman.proofs.KeptPlans.{arity_of_range}
use Rattle.higman.proofs.Statements.{answers_exact}
use Rattle.words.specs.Packed.{unpack, is_packed}
use Rattle.words.proofs.Packed.{packed_word}
use Rattle.columns.specs.Packed.{words_of}
use Rattle.columns.proofs.WordOrder.{sorted_of_ordered}
use Rattle.tables.specs.Spreading.{packed_words, Plain, Operand}
use Rattle.columns.proofs.Rearranged.{froms_table, tos_table}
use Rattle.operations.specs.declared.Plan.{Plan}
use Rattle.operations.specs.declared.lent.Lent.{Lent}
use Rattle.operations.specs.Plans.{plan_of, in_table, is_plan, lent_plan}
use Rattle.operations.proofs.Values.{few_in_table}

-- numbers that hold words of a shape in range are packed
packed_column : (s : Shape) (l : List ℕ) → T (shape_in_range s) → ((w : Word) → Memᴰ w (words_of l) → T (is_plan_word s w)) → packed_words l
packed_column s l r h = all_of is_packed l (λ x m. packed_word s x r (h (unpack x) (Memᴰ.map unpack m)))

-- a kept plan is a value in a table that holds one
pub kept_plan : (p : Plan) → T (is_plan p) → T (in_table p) × Kept (plan_of p)
unfolding is_plan
kept_plan p h = (
  and_left (in_table p) (is_kept (plan_of p)) h,
  (answers_exact.kept_test (plan_of p)).0 (and_right (in_table p) (is_kept (plan_of p)) h),
)

module _ (p : Plan) (h : is_plan p ≡ true) where
  pub pairs_few : p.pairs ≤ max_pairs
  pairs_few = few_in_table p (kept_plan p (T_of h)).0

  pub pairs_inside : p.pairs ≤ 128
  unfolding max_pairs
  pairs_inside = pairs_few

  pub kept : Kept (plan_of p)
  kept = (kept_plan p (T_of h)).1

  pub is_kept_plan : is_kept (plan_of p) ≡ true
  is_kept_plan = so (is_kept (plan_of p)) ((answers_exact.kept_test (plan_of p)).1 kept)

-- what is lent of a kept plan: words of the shape, packed and in order
module _ (lent : Lent) where
  abbrev s : Shape
  s = (lent_plan lent).shape

  abbrev t : Table
  t = (lent_plan lent).rows

  abbrev from : List ℕ
  from = lent.from.now

  abbrev to : List ℕ
  to = lent.to.now

  pub lent_kept : Kept (lent_plan lent)
  lent_kept = (answers_exact.kept_test (lent_plan lent)).0 (T_of lent.kept)

  K : Kept (lent_plan lent)
  K = lent_kept

  arity_low : 1 ≤ s.arity
  arity_low = arity_of_range s K.in_range

  pub lent_pairs : length t ≤ max_pairs
  unfolding granted
  lent_pairs = leb→le (length t) max_pairs (and_left (leb (length t) max_pairs) (all pair_fits t) K.within)

  pub lent_few : length from ≤ max_pairs
  lent_few =
      let long = sym (length-map t (λ q. q.from)) ∙ ap length (froms_table from to lent.paired) ∙ length-map from unpack in
      omega (arith, long, lent_pairs)

  row_fits : (q : Pair) → Memᴰ q t → T (pair_fits q)
  unfolding granted
  row_fits = all_at pair_fits t (and_right (leb (length t) max_pairs) (all pair_fits t) K.within)

  -- the words of a column that is a basis
  column_words : (column : Pair → Word) → ((q : Pair) → T (pair_fits q) → T (fits (column q))) → Basis s (map column t)
      → (w : Word) → Memᴰ w (map column t) → T (is_plan_word s w)
  unfolding is_plan_word
  column_words column fit basis w m =
      let (q, k, e) = Memᴰ.of_map column t m in
      and_intro (is_word s w) (fits w)
      (all_at (is_word s) (map column t) ((column_is_basis s arity_low (map column t)).0 basis).words w m)
      (subst (λ u. T (fits u)) e (fit q (row_fits q k)))

  from_words : (w : Word) → Memᴰ w (froms t) → T (is_plan_word s w)
  from_words = column_words (λ q. q.from) (λ q. and_left (fits q.from) (fits q.to)) K.bases.from_basis

  to_words : (w : Word) → Memᴰ w (tos t) → T (is_plan_word s w)
  to_words = column_words (λ q. q.to) (λ q. and_right (fits q.from) (fits q.to)) K.bases.to_basis

  pub lent_plain : Plain from to
  lent_plain =
      record {
        long = lent.paired;
        from_packed = packed_column s from K.in_range (λ w m. from_words w (subst (Memᴰ w) (sym (froms_table from to lent.paired)) m));
        to_packed = packed_column s to K.in_range (λ w m. to_words w (subst (Memᴰ w) (sym (tos_table from to lent.paired)) m));
      }

  pub lent_operand : Operand from to
  lent_operand =
      let words = froms_table from to lent.paired in
      record {
        plain = lent_plain;
        in_order = sorted_of_ordered (words_of from) (subst (λ c. ordered c ≡ true) words K.in_order);
        apart = subst (λ c. overlap c ≡ false) words ((column_is_basis s arity_low (froms t)).0 K.bases.from_basis).apart;
      }
