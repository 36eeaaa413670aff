-- A value that holds a kept plan, as a slot holds it: it has pairs, so that the slot is not empty. And what keeps it there is done.
use Prim.Native.Nat.{ℕ, ◌*◌, ◌-◌, ◌≤◌, ◌<◌}
use mathlib.Core.Path.{◌≡◌, refl, sym, ◌∙◌, ap, subst}
use mathlib.Core.Bool.{true, false}
use mathlib.Core.List.{List}
use mathlib.Core.Option.{none, some}
use native.Mathlib.Nat.{le-add_right}
use native.Mathlib.Omega.{arith}
use borrow.Author.Tests.{ne_eqb}
use lib.Dec.{T}
use lib.ListN.{length, length-map}
use Rattle.std.specs.Prelude.{Result}
use Rattle.higman.specs.Limits.{Plan as PlanOf, Kept, max_pairs, slot_count}
use Rattle.higman.specs.Listing.{is_slot, slot_number}
use Rattle.higman.specs.Tables.{froms}
use Rattle.higman.proofs.Tests.{T_of}
use Rattle.higman.proofs.Columns.{basis_size}
use Rattle.higman.proofs.KeptPlans.{in_range}
use Rattle.desk.specs.Desk.{Desk, changed}
use Rattle.desk.specs.Records.{Record, is_change}
use Rattle.desk.specs.Replies.{pass, ok_number, admission, job, keep_in}
use Rattle.columns.proofs.Rows.{rows_length}
use Rattle.operations.specs.declared.Plan.{Plan}
use Rattle.operations.specs.Plans.{plan_of, rows_of, in_table, is_plan}
use Rattle.operations.proofs.KeptValues.{kept_plan}
use Rattle.operations.proofs.Values.{few_in_table}
use Rattle.slots.specs.declared.Head.{Head}
use Rattle.slots.specs.declared.Refused.{Refused}
use Rattle.slots.specs.declared.Reply.TheVariants.{Number}
use Rattle.slots.specs.Desks.{held_by, desk_of, HoldsDesk}
use Rattle.slots.specs.Works.{Work, Done}
use Rattle.slots.proofs.Steps.{slot_below}
use Rattle.changing.specs.Filling.{filled, filled_columns, Keepable, ToKeep}
use Rattle.changing.proofs.Filling.{replying, done_filling}

-- its from-words are a basis, which has at least as many words as there are belts
some_pairs : (p : PlanOf) → Kept p → length p.rows ≡ 0 → ⊥
some_pairs p k e =
    let range = in_range p.shape k.in_range in
    let basis = k.bases.from_basis in
    let size = basis_size p.shape (omega (arith, range.arity_low)) (froms p.rows) basis in
    let least : p.shape.roots ≤ length (froms p.rows) =
    subst (λ n. p.shape.roots ≤ n) (sym size) (le-add_right p.shape.roots (basis.folds * (p.shape.arity - 1))) in
    let count : length (froms p.rows) ≡ length p.rows = length-map p.rows (λ q. q.from) in
    omega (arith, range.roots_low)

module _ (v : Plan) (k : is_plan v ≡ true) where
  pub kept_table : T (in_table v)
  kept_table = (kept_plan v (T_of k)).0

  pub kept_few : v.pairs ≤ max_pairs
  kept_few = few_in_table v kept_table

  pub is_kept_plan : Kept (plan_of v)
  is_kept_plan = (kept_plan v (T_of k)).1

  module _ (from : length v.from ≡ max_pairs) (to : length v.to ≡ max_pairs) where
    pub kept_count : length (rows_of v) ≡ v.pairs
    kept_count = rows_length v.pairs v.from v.to (omega (arith, kept_few, from)) (omega (arith, kept_few, to))

    pub kept_held : held_by v ≡ some (plan_of v)
    kept_held =
        ap (λ b. elim b [ true ↦ none | false ↦ some (plan_of v) ])
        (ne_eqb v.pairs 0 (λ e. some_pairs (plan_of v) is_kept_plan (kept_count ∙ e)))

-- it may be kept in the slot that a byte names, and a record whose job asks for that keeps it there
module _ (a i : ℕ) (q : i ≡ slot_number a) (v : Plan) where
  pub keepable : (h : Head) (columns : List ℕ) → HoldsDesk h columns → is_slot a ≡ true → is_plan v ≡ true → Keepable h columns i v
  keepable h columns H named k =
      record { holds = H; slot = subst (λ i. i < slot_count) (sym q) (slot_below a named); is_plan_fact = k }

  pub to_keep : (d : Desk) (r : Record) → admission d r ≡ pass tt → is_change r ≡ true
      → job d r ≡ pass (keep_in d (slot_number a) (plan_of v)) → ToKeep r d i v
  to_keep d r admitted changes keeps =
      record { admitted = admitted; changes = changes; keeps = keeps ∙ ap (λ n. pass (keep_in d n (plan_of v))) (sym q) }

-- whatever record asks for it
module _ (h : Head) (columns : List ℕ) (i : ℕ) (v : Plan) (k : Keepable h columns i v) (from : length v.from ≡ max_pairs)
    (to : length v.to ≡ max_pairs) where
  pub done_keeping : (r : Record) → ToKeep r (desk_of h columns) i v → (out : List ℕ) (w : Result Head Refused) → w ≡ filled h i v
      → (columns' : List ℕ) → columns' ≡ filled_columns h columns i v → (result : Result Work Refused)
      → result ≡ replying (Number v.pairs) w → Done r h columns out result columns' out
  done_keeping r t out w e columns' q result s =
      let pairs = length (rows_of v) in
      let held = kept_held v k.is_plan_fact from to in
      let fills = t.keeps ∙ ap (λ p. pass (changed (desk_of h columns) i p, ok_number pairs)) (sym held) in
      let tells = ap (λ n. pass (Number n)) (sym (kept_count v k.is_plan_fact from to)) in
      done_filling h columns k.holds i k.slot v from to (kept_table v k.is_plan_fact) r t.admitted t.changes (ok_number pairs) fills refl
      (Number v.pairs) tells out w e columns' q result s
