-- The laws of demand 3 on values. A value that a call grants holds the plan that the answer of higman grants (`Made`), so each law of
-- higman's `Demand3` carries over.
use mathlib.Core.Path.{◌≡◌, sym, ◌∙◌, ap, subst}
use mathlib.Core.Logic.{◌↔◌, ◌⊎◌, inl, inr}
use mathlib.Core.Bool.{Bool, true, false}
use Rattle.std.proofs.Common.{Result, Ok}
use lib.Dec.{T}
use lib.IntN.{ℤ, pos, negsuc, ◌+ℤ◌, ◌*ℤ◌}
use Rattle.higman.specs.Tables.{same_table}
use Rattle.higman.specs.Limits.{Kept}
use Rattle.higman.specs.Answers as Of
use Rattle.higman.specs.Theorems.{ActAlike}
use Rattle.higman.proofs.Tests.{passes, so, T_of, clash, same_table_lem, same_table_refl}
use Rattle.higman.proofs.Demand3.{demand3, alike_rows}
use Rattle.higman.proofs.Listing.{listing_faithful}
use Rattle.operations.specs.declared.Plan.{Plan}
use Rattle.operations.specs.declared.refusals.Refusal.{Refusal}
use Rattle.operations.specs.Plans.{shape_of, plan_of, packed}
use Rattle.operations.specs.Answers.{making}
use Rattle.plans.specs.Answers.{following, inverting, raising, alike}
use Rattle.plans.specs.Theorems.{Handed, Compared, identity_of, ValueDemand3}
use Rattle.plans.proofs.Answered.{both_compared, rows_compared}
use Rattle.operations.proofs.Repacked.{holds}
use Rattle.plans.proofs.Powered.{raising_plan}
use Rattle.plans.proofs.Handed.{packed_handed, held_packed}
use Rattle.plans.proofs.Made.{Made, granting_of, plan_kept, inverting_is, inverse_made, power_made, following_is, follow_made}

-- two values one after the other, where their plans are granted
follows : (v w u : Plan) → Handed v → Handed w → Handed u → Of.followed (plan_of v) (plan_of w) ≡ Of.Granted (plan_of u)
    → following v w ≡ Ok u
follows v w u h k l e = following_is v w h k ∙ granting_of (Of.followed (plan_of v) (plan_of w)) u l e

associative : (v w u vw wu : Plan) → Handed v → Handed w → Handed u → following v w ≡ Ok vw → following w u ≡ Ok wu
    → following vw u ≡ following v wu
associative v w u vw wu h k l e f =
    let left = follow_made v w h k vw e in
    let right = follow_made w u k l wu f in
    let law = demand3.associative (plan_of v) (plan_of w) (plan_of u) (plan_of vw) (plan_of wu) in
    following_is vw u left.handed l
    ∙ ap making (law (plan_kept v h) (plan_kept w k) (plan_kept u l) left.grants right.grants)
    ∙ sym (following_is v wu h right.handed)

module _ (v : Plan) (h : Handed v) where
  identity_kept : Kept (Of.identity_plan (shape_of v))
  identity_kept =
      let kept = plan_kept v h in
      demand3.powered_kept (plan_of v) (Of.identity_plan (shape_of v)) (pos 0) kept (demand3.power_zero (plan_of v))

  identity_handed : Handed (identity_of v)
  identity_handed = packed_handed (Of.identity_plan (shape_of v)) identity_kept

  identity_held : plan_of (identity_of v) ≡ Of.identity_plan (shape_of v)
  identity_held = holds (Of.identity_plan (shape_of v)) identity_kept

  power_zero : raising v (pos 0) ≡ Ok (identity_of v)
  power_zero = raising_plan v h.taken (pos 0) ∙ ap making (demand3.power_zero (plan_of v))

  identity_left : following (identity_of v) v ≡ Ok v
  identity_left =
      follows (identity_of v) v v identity_handed h h
      (ap (λ p. Of.followed p (plan_of v)) identity_held ∙ demand3.identity_left (plan_of v) (plan_kept v h))

  identity_right : following v (identity_of v) ≡ Ok v
  identity_right =
      follows v (identity_of v) v h identity_handed h
      (ap (Of.followed (plan_of v)) identity_held ∙ demand3.identity_right (plan_of v) (plan_kept v h))

  power_one : raising v (pos 1) ≡ Ok v
  power_one =
      raising_plan v h.taken (pos 1)
      ∙ granting_of (Of.powered (plan_of v) (pos 1)) v h (demand3.power_one (plan_of v) (plan_kept v h))

  power_minus_one : raising v (negsuc 0) ≡ inverting v
  power_minus_one =
      raising_plan v h.taken (negsuc 0)
      ∙ ap making (demand3.power_minus_one (plan_of v) (plan_kept v h))
      ∙ sym (inverting_is v h)

  module _ (u : Plan) (e : inverting v ≡ Ok u) where
    abbrev i : Made (Of.inverted (plan_of v)) u
    i = inverse_made v h u e

    inverse_left : following u v ≡ Ok (identity_of v)
    inverse_left = following_is u v i.handed h ∙ ap making (demand3.inverse_left (plan_of v) (plan_of u) (plan_kept v h) i.grants)

    inverse_right : following v u ≡ Ok (identity_of v)
    inverse_right = following_is v u h i.handed ∙ ap making (demand3.inverse_right (plan_of v) (plan_of u) (plan_kept v h) i.grants)

  power_sum : (p q u : Plan) (j k : ℤ) → raising v j ≡ Ok p → raising v k ≡ Ok q → raising v (j +ℤ k) ≡ Ok u
      → following p q ≡ Ok u
  power_sum p q u j k e f g =
      let P = power_made v h j p e in
      let Q = power_made v h k q f in
      let U = power_made v h (j +ℤ k) u g in
      follows p q u P.handed Q.handed U.handed
      (demand3.power_sum (plan_of v) (plan_of p) (plan_of q) (plan_of u) j k (plan_kept v h) P.grants Q.grants U.grants)

  power_product : (p q u : Plan) (j k : ℤ) → raising v j ≡ Ok p → raising p k ≡ Ok q → raising v (j *ℤ k) ≡ Ok u → q ≡ u
  power_product p q u j k e f g =
      let P = power_made v h j p e in
      let Q = power_made p P.handed k q f in
      let U = power_made v h (j *ℤ k) u g in
      let law = demand3.power_product (plan_of v) (plan_of p) (plan_of q) (plan_of u) j k in
      sym (held_packed q Q.handed)
      ∙ ap packed (law (plan_kept v h) P.grants Q.grants U.grants)
      ∙ held_packed u U.handed

injects : {a b : Bool} → ◌≡◌ {A = Result Bool Refusal} (Ok a) (Ok b) → a ≡ b
injects e = cc

-- S compares the pairs, which are the same where the records, the actions or the values are
module _ (v w : Plan) (h : Handed v) (k : Handed w) (e : shape_of v ≡ shape_of w) where
  abbrev test : Bool
  test = same_table (plan_of v).rows (plan_of w).rows

  alike_is : alike v w ≡ Ok test
  alike_is = sym (rows_compared v w e ∙ both_compared v w h.taken k.taken)

  says : (b : Bool) → (alike v w ≡ Ok b) ↔ (test ≡ b)
  says b = (λ a. injects (sym alike_is ∙ a), λ t. alike_is ∙ ap Ok t)

  same_rows : (alike v w ≡ Ok true) ↔ ((plan_of v).rows ≡ (plan_of w).rows)
  same_rows = (
    λ a. same_table_lem (plan_of v).rows (plan_of w).rows (T_of ((says true).0 a)),
    λ r. (says true).1 (so test (subst (λ t. T (same_table (plan_of v).rows t)) r (same_table_refl (plan_of v).rows))),
  )

  acts_alike : ((plan_of v).rows ≡ (plan_of w).rows) ↔ ActAlike (plan_of v) (plan_of w)
  acts_alike = alike_rows (plan_of v) (plan_of w) (plan_kept v h) (plan_kept w k) e

  value_of_rows : (plan_of v).rows ≡ (plan_of w).rows → v ≡ w
  value_of_rows r = sym (held_packed v h) ∙ (λ i. packed (record { shape = e i; rows = r i })) ∙ held_packed w k

  compared : Compared v w
  compared =
      let records = listing_faithful.records (plan_of v).rows (plan_of w).rows in
      record {
        acts = (λ a. acts_alike.0 (same_rows.0 a), λ a. same_rows.1 (acts_alike.1 a));
        records = (λ a. records.1 (same_rows.0 a), λ r. same_rows.1 (records.0 r));
        values = (λ a. value_of_rows (same_rows.0 a), λ p. same_rows.1 (ap (λ x. (plan_of x).rows) p));
        otherwise = (λ a b. clash ((says true).0 (same_rows.1 (acts_alike.1 b))) ((says false).0 a), λ n. differ n (passes test));
      }
    where
      differ : (ActAlike (plan_of v) (plan_of w) → ⊥) → (test ≡ true) ⊎ (test ≡ false) → alike v w ≡ Ok false
      differ n (inl t) = absurd (n (acts_alike.0 (same_rows.0 ((says true).1 t))))
      differ n (inr t) = (says false).1 t

pub value_demand3 : ValueDemand3
value_demand3 =
    record {
      followed_handed = λ v w u h k e. (follow_made v w h k u e).handed;
      inverted_handed = λ v u h e. (inverse_made v h u e).handed;
      raised_handed = λ v u k h e. (power_made v h k u e).handed;
      associative = associative;
      power_zero = power_zero;
      identity_left = identity_left;
      identity_right = identity_right;
      power_one = power_one;
      power_minus_one = power_minus_one;
      inverse_left = λ v u h e. inverse_left v h u e;
      inverse_right = λ v u h e. inverse_right v h u e;
      power_sum = λ v p q u j k h. power_sum v h p q u j k;
      power_product = λ v p q u j k h. power_product v h p q u j k;
      compared = compared;
    }
