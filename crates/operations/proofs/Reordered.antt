-- What is kept does not depend on the order of the pairs: two tables with the same pairs act alike. So the pairs of two columns may be
-- sorted before they are reduced, and sorted they may be reduced. So it is for the pairs of a draft.
use Prim.Native.Nat.{ℕ, ◌≤◌}
use mathlib.Core.Path.{◌≡◌, sym, ◌∙◌, ap, subst}
use mathlib.Core.Bool.{true}
use mathlib.Core.List.Permᴰ
use mathlib.Core.List.{List, Permᴰ}
use mathlib.Core.Option.{some}
use native.Mathlib.Omega.{arith}
use lib.Dec.{T}
use lib.ListN.{length, take, length-take}
use Rattle.higman.specs.Words.{Shape, Word}
use Rattle.higman.specs.Tables.{Table, froms, tos, image}
use Rattle.higman.specs.Normal.{keep, ordered}
use Rattle.higman.specs.Limits.{Bases, shape_in_range, max_pairs}
use Rattle.higman.proofs.Proper.{Apart}
use Rattle.higman.proofs.Images.{row_of_image, image_of_row}
use Rattle.higman.proofs.Expansions.{mem_of_perm}
use Rattle.higman.proofs.Columns.{column_of_proper}
use Rattle.higman.proofs.Elements.{Element, element_action}
use Rattle.higman.proofs.Group.{keep_acts, keep_member, by_common}
use Rattle.higman.proofs.KeptPlans.{element_of_bases, arity_of_range}
use Rattle.higman.proofs.Joins.{element_of_perm}
use Rattle.columns.specs.Packed.{table}
use Rattle.columns.specs.Sorts.{SortedPairs}
use Rattle.tables.specs.Reduction.{Reducible}
use Rattle.columns.proofs.Rearranged.{froms_table, ordered_keys}
use Rattle.operations.specs.declared.Plan.{Plan}
use Rattle.operations.specs.Plans.{shape_of, rows_of, packed}
use Rattle.operations.specs.Keeping.{ReducibleColumns}

image_of_perm : (t u : Table) → Permᴰ t u → Apart (froms u) → (w v : Word) → image t w ≡ some v → image u w ≡ some v
image_of_perm t u h a w v e =
    let (p, x, m, f, g) = row_of_image t w v e in
    ap (image u) f ∙ image_of_row u a p (mem_of_perm h m) x ∙ ap some (sym g)

pub keep_of_perm : (s : Shape) → 1 ≤ s.arity → (t u : Table) → Permᴰ t u → Element s t → keep s t ≡ keep s u
keep_of_perm s n t u h E =
    let U = element_of_perm s h E in
    by_common s n (keep s t) (keep s u) (keep_member s n t E) (keep_member s n u U) (image t) (element_action s t n E).0
    (λ w v y e. (keep_acts s n t E w v y e, keep_acts s n u U w v y (image_of_perm t u h U.from_proper.apart w v e)))

-- two columns of a table with bases for columns, and the same pairs sorted
module _ (s : Shape) (n : 1 ≤ s.arity) (ks vs ks' vs' : List ℕ) (same : length ks ≡ length vs) (sorts : SortedPairs ks vs ks' vs')
    (b : Bases s (table ks vs)) where
  element : Element s (table ks vs)
  element = element_of_bases s (table ks vs) n b

  sorted_element : Element s (table ks' vs')
  sorted_element = element_of_perm s (Permᴰ.symm sorts.rearranged.same_pairs) element

  sorted_in_order : ordered (froms (table ks' vs')) ≡ true
  sorted_in_order =
      ap ordered (froms_table ks' vs' (omega (arith, sorts.rearranged.keys_long, sorts.rearranged.values_long)))
      ∙ ordered_keys same sorts (subst Apart (froms_table ks vs same) element.from_proper.apart)

  pub reducible_sorted : Reducible s (table ks' vs')
  reducible_sorted =
      record {
        in_order = sorted_in_order;
        column = column_of_proper s (froms (table ks' vs')) n sorted_element.from_proper;
        to_words = (column_of_proper s (tos (table ks' vs')) n sorted_element.to_proper).words;
      }

  pub keep_sorted : keep s (table ks' vs') ≡ keep s (table ks vs)
  keep_sorted = sym (keep_of_perm s n (table ks vs) (table ks' vs') (Permᴰ.symm sorts.rearranged.same_pairs) element)

-- the pairs of a draft, sorted
module _ (p : Plan) (few : p.pairs ≤ max_pairs) (range : T (shape_in_range (shape_of p))) (b : Bases (shape_of p) (rows_of p)) where
  abbrev front : List ℕ → List ℕ
  front column = take p.pairs column

  module _ (same : length (front p.from) ≡ length (front p.to)) {ks vs : List ℕ}
      (sorts : SortedPairs (front p.from) (front p.to) ks vs) where
    arity_low : 1 ≤ (shape_of p).arity
    arity_low = arity_of_range (shape_of p) range

    pub draft_reducible : ReducibleColumns (shape_of p) ks vs
    draft_reducible =
        let r = sorts.rearranged in
        record {
          paired = omega (arith, r.keys_long, r.values_long);
          few = omega (arith, r.keys_long, length-take p.pairs p.from);
          in_range = range;
          reducible = reducible_sorted (shape_of p) arity_low (front p.from) (front p.to) ks vs same sorts b;
        }

    draft_kept : keep (shape_of p) (table ks vs) ≡ keep (shape_of p) (rows_of p)
    draft_kept = keep_sorted (shape_of p) arity_low (front p.from) (front p.to) ks vs same sorts b

    -- the plan that is kept of the sorted pairs, by a shape that is the draft's
    pub draft_plan : {u : Shape} → u ≡ shape_of p → {q : Plan} → q ≡ packed (record { shape = u; rows = keep u (table ks vs) })
        → q ≡ packed (record { shape = shape_of p; rows = keep (shape_of p) (rows_of p) })
    draft_plan same e =
        e ∙ ap (λ u. packed (record { shape = u; rows = keep u (table ks vs) })) same
        ∙ ap (λ t. packed (record { shape = shape_of p; rows = t })) draft_kept
