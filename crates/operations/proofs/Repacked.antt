-- The value that holds a kept plan is a plan, and the plan that it holds is that one.
use Prim.Native.Nat.{ℕ, zero, suc, ◌-◌, ◌≤◌}
use mathlib.Core.Path.{◌≡◌, sym, ◌∙◌, subst}
use mathlib.Core.Bool.{true, ◌&&◌}
use mathlib.Core.List.{map}
use lib.Dec.{T, leb, leb→le, le→leb}
use lib.ListN.{length, drop, replicate, length-map}
use lib.Seq.{drop_at}
use Rattle.higman.specs.Bases.{all}
use Rattle.higman.specs.Tables.{Table, froms, tos}
use Rattle.higman.specs.Limits.{Plan, Kept, granted, pair_fits, max_pairs}
use Rattle.higman.specs.Answers.{is_kept}
use Rattle.higman.proofs.Tests.{so, and_left, and_intro}
use Rattle.higman.proofs.KeptPlans.{member_of_kept}
use Rattle.higman.proofs.Statements.{answers_exact}
use Rattle.words.specs.Packed.{pack}
use Rattle.operations.specs.Plans.{column, zeros, in_table, is_plan, packed, plan_of}
use Rattle.operations.proofs.Values.{rows_of_packed}

all_zero : (m : ℕ) → T (zeros (replicate m 0))
all_zero zero = tt
all_zero (suc m) = all_zero m

-- the value that holds a table has zeros behind its pairs
module _ (q : Plan) (few : length q.rows ≤ max_pairs) where
  abbrev t : Table
  t = q.rows

  from_count : length (map pack (froms t)) ≡ length t
  from_count = length-map (froms t) pack ∙ length-map t (λ p. p.from)

  to_count : length (map pack (tos t)) ≡ length t
  to_count = length-map (tos t) pack ∙ length-map t (λ p. p.to)

  pub packed_in_table : T (in_table (packed q))
  unfolding in_table packed
  packed_in_table =
      let small = leb (length t) max_pairs in
      let from = zeros (drop (length t) (column (froms t))) in
      let to = zeros (drop (length t) (column (tos t))) in
      let from-rest = subst (λ l. T (zeros l)) (sym (drop_at (map pack (froms t)) (replicate (max_pairs - length (froms t)) 0) (length t) from_count)) (all_zero (max_pairs - length (froms t))) in
      let to-rest = subst (λ l. T (zeros l)) (sym (drop_at (map pack (tos t)) (replicate (max_pairs - length (tos t)) 0) (length t) to_count)) (all_zero (max_pairs - length (tos t))) in
      and_intro (small && from) to (and_intro small from (le→leb (length t) max_pairs few) from-rest) to-rest

module _ (q : Plan) (K : Kept q) where
  pub holds : plan_of (packed q) ≡ q
  unfolding packed
  holds = λ i. record { shape = q.shape; rows = rows_of_packed q.shape q.rows K.in_range (member_of_kept q K).element i }

  pub packed_is_plan : is_plan (packed q) ≡ true
  unfolding is_plan granted
  packed_is_plan =
      let few = leb→le (length q.rows) max_pairs (and_left (leb (length q.rows) max_pairs) (all pair_fits q.rows) K.within) in
      so (is_plan (packed q))
      (and_intro (in_table (packed q)) (is_kept (plan_of (packed q))) (packed_in_table q few)
      (subst (λ p. T (is_kept p)) (sym holds) ((answers_exact.kept_test q).1 K)))
