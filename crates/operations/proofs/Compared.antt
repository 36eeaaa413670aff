-- What a comparison answers: 10 where shapes differ, and then whether the pairs are the same.
use Prim.Native.Nat.{ℕ}
use mathlib.Core.Path.{◌≡◌, sym, ◌∙◌, ap}
use mathlib.Core.Logic.{◌⊎◌, inl, inr}
use mathlib.Core.Bool.{true, false}
use mathlib.Core.List.{List}
use lib.ListN.{length, length-map}
use Rattle.std.specs.Prelude.{Ok, Err}
use Rattle.higman.specs.Tables.{Table, same_table}
use Rattle.higman.specs.Answers.{same_shape, same}
use Rattle.higman.proofs.Tests.{passes, T_of, same_table_lem}
use Rattle.words.specs.Packed.{unpack}
use Rattle.columns.specs.Packed.{table}
use Rattle.columns.proofs.Rearranged.{froms_table}
use Rattle.operations.specs.declared.lent.Lent.{Lent}
use Rattle.operations.specs.declared.refusals.Refusal.TheVariants.{ShapesDiffer}
use Rattle.operations.specs.Plans.{lent_plan}
use Rattle.operations.specs.Answers.{likeness}

-- a table has as many pairs as its columns have places
table_length : (from to : List ℕ) → length from ≡ length to → length (table from to) ≡ length from
table_length from to e =
    sym (length-map (table from to) (λ q. q.from)) ∙ ap length (froms_table from to e) ∙ length-map from unpack

-- tables of different lengths are not the same
pub lengths_differ : (t u : Table) → (length t ≡ length u → ⊥) → false ≡ same_table t u
lengths_differ t u h = go (passes (same_table t u))
  where
    go : (same_table t u ≡ true) ⊎ (same_table t u ≡ false) → false ≡ same_table t u
    go (inl e) = absurd (h (ap length (same_table_lem t u (T_of e))))
    go (inr e) = sym e

module _ (a b : Lent) where
  pub not_compared : same_shape (lent_plan a).shape (lent_plan b).shape ≡ false
      → Err ShapesDiffer ≡ likeness (same (lent_plan a) (lent_plan b))
  unfolding same
  not_compared h = sym (rw (h, same))

  pub compared : same_shape (lent_plan a).shape (lent_plan b).shape ≡ true
      → Ok (same_table (table a.from.now a.to.now) (table b.from.now b.to.now)) ≡ likeness (same (lent_plan a) (lent_plan b))
  unfolding same
  compared h = sym (rw (h, same))

  -- plans of different numbers of pairs are not the same
  pub pairs_differ : (length a.from.now ≡ length b.from.now → ⊥) → false ≡ same_table (table a.from.now a.to.now) (table b.from.now b.to.now)
  pairs_differ d =
      lengths_differ (table a.from.now a.to.now) (table b.from.now b.to.now)
      (λ l. d (sym (table_length a.from.now a.to.now a.paired) ∙ l ∙ table_length b.from.now b.to.now b.paired))
