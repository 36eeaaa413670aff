-- The inverse of a plan is what is kept of its columns exchanged, which are bases too.
use Prim.Native.Nat.{ℕ}
use mathlib.Core.Path.{◌≡◌, refl, sym, ◌∙◌, ap, subst}
use mathlib.Core.Bool.{true}
use mathlib.Core.List.{List, [], ◌∷◌}
use lib.ListN.{take}
use Rattle.higman.specs.Tables.{swapped}
use Rattle.higman.specs.Normal.{inverse, keep}
use Rattle.higman.specs.Limits.{Bases}
use Rattle.higman.specs.Answers.{inverted}
use Rattle.higman.proofs.Elements.{element_swapped}
use Rattle.higman.proofs.KeptPlans.{arity_of_range, element_of_bases, bases_of_element}
use Rattle.words.specs.Packed.{unpack}
use Rattle.columns.specs.Packed.{table}
use Rattle.operations.specs.declared.Plan.{Plan}
use Rattle.operations.specs.Plans.{shape_of, rows_of, plan_of, is_plan, packed}
use Rattle.std.specs.Prelude.{Ok}
use Rattle.operations.specs.Answers.{making}
use Rattle.operations.proofs.KeptValues.{kept}

-- the table of two columns exchanged
table_swapped : (f t : List ℕ) → table t f ≡ swapped (table f t)
table_swapped [] [] = refl
table_swapped [] (y ∷ t) = refl
table_swapped (x ∷ f) [] = refl
table_swapped (x ∷ f) (y ∷ t) = ap (λ l. record { from = unpack y; to = unpack x } ∷ l) (table_swapped f t)

-- a plan with its columns exchanged
abbrev pub turned : Plan → Plan
turned a = record { arity = a.arity; roots = a.roots; pairs = a.pairs; from = a.to; to = a.from }

module _ (a : Plan) where
  exchanged : rows_of (turned a) ≡ swapped (rows_of a)
  exchanged = table_swapped (take a.pairs a.from) (take a.pairs a.to)

  pub exchanged_bases : is_plan a ≡ true → Bases (shape_of a) (rows_of (turned a))
  exchanged_bases e =
      let s = shape_of a in
      let K = kept a e in
      let n = arity_of_range s K.in_range in
      let E = element_of_bases s (rows_of a) n K.bases in
      subst (Bases s) (sym exchanged) (bases_of_element s (swapped (rows_of a)) n (element_swapped s (rows_of a) E))

  pub inverse_kept : (q : Plan) → q ≡ packed (record { shape = shape_of a; rows = keep (shape_of a) (rows_of (turned a)) })
      → Ok q ≡ making (inverted (plan_of a))
  unfolding inverted inverse
  inverse_kept q h = ap Ok (h ∙ ap (λ u. packed (record { shape = shape_of a; rows = keep (shape_of a) u })) exchanged)
