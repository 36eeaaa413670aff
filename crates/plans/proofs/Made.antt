-- What the calls make of values: the value of what the answer of higman makes of the plans that they hold (`Made`). When it is granted,
-- and what it does to codes.
use Prim.Native.Nat.{ℕ, suc, ◌≤◌}
use mathlib.Core.Path.{◌≡◌, refl, sym, ◌∙◌, ap, subst}
use mathlib.Core.Logic.{◌⊎◌, inl, inr}
use mathlib.Core.Bool.{true, false}
use mathlib.Core.Option.{Option, none, some}
use borrow.Author.Tests.{leb-false}
use Rattle.std.specs.Prelude.{Result, Ok, Err, IsOk}
use lib.Dec.{T, leb, leb→le}
use lib.IntN.{ℤ, pos, negsuc, nat_abs}
use Rattle.higman.specs.Words.{Shape, Word, is_word}
use Rattle.higman.specs.Tables.{Table, BlockMap, image}
use Rattle.higman.specs.Normal.{and_then, times, compose, inverse}
use Rattle.higman.specs.Limits.{Plan as PlanOf, Bases, Kept, granted, max_power}
use Rattle.higman.specs.Answers as Of
use Rattle.higman.proofs.Tests.{passes, T_of, clash}
use Rattle.higman.proofs.KeptPlans.{arity_of_range}
use Rattle.higman.proofs.Answers.{followed_is, grant_of, followed_cases, inverted_cases, powered_cases, Raised, raised_cases}
use Rattle.higman.proofs.Demand3.{demand3}
use Rattle.higman.proofs.Statements.{group_acts}
use Rattle.operations.specs.declared.Plan.{Plan}
use Rattle.operations.specs.declared.refusals.Refusal.{Refusal}
use Rattle.operations.specs.Refusals.{refusal}
use Rattle.operations.specs.Plans.{shape_of, rows_of, plan_of, packed}
use Rattle.operations.specs.Answers.{making, repeated}
use Rattle.plans.specs.Answers.{following, inverting, raising}
use Rattle.plans.specs.Theorems.{Handed, sends, SendsAs, PowerWithin, ValuesGranted, ValuesAct}
use Rattle.operations.proofs.KeptValues.{kept}
use Rattle.plans.proofs.Answered.{both_plans}
use Rattle.operations.proofs.Repacked.{holds}
use Rattle.plans.proofs.Powered.{inverting_plan, raising_plan, raising_outside, raising_within}
use Rattle.plans.proofs.Handed.{packed_handed, held_packed}

-- an answer that grants the plan that a value holds
pub record Made (o : Of.Answer) (u : Plan) : Type 0 where
  pub grants : o ≡ Of.Granted (plan_of u)
  pub handed : Handed u

made : (o : Of.Answer) (u : Plan) → ((c : PlanOf) → o ≡ Of.Granted c → Kept c) → making o ≡ Ok u → Made o u
made (Of.Refused r) u K e = absurd (refused e)
  where
    refused : Err (refusal r) ≡ Ok u → ⊥
    refused f = cc
made (Of.Granted c) u K e =
    let held : packed c ≡ u = cc in
    record {
      grants = ap Of.Granted (sym (holds c (K c refl)) ∙ ap plan_of held);
      handed = subst Handed held (packed_handed c (K c refl));
    }

-- and the other way round
pub granting_of : (o : Of.Answer) (u : Plan) → Handed u → o ≡ Of.Granted (plan_of u) → making o ≡ Ok u
granting_of o u h e = ap making e ∙ ap Ok (held_packed u h)

-- an answer that is no refusal has a plan
plan_in : (m : Result Plan Refusal) → IsOk m → (u : Plan) × (m ≡ Ok u)
plan_in (Ok u) k = (u, refl)
plan_in (Err e) k = absurd (clash k refl)

answered : {m : Result Plan Refusal} {u : Plan} → m ≡ Ok u → IsOk m
answered e = subst IsOk (sym e) refl

module _ (v : Plan) (h : Handed v) where
  pub plan_kept : Kept (plan_of v)
  plan_kept = kept v h.taken

  arity_low : 1 ≤ (shape_of v).arity
  arity_low = arity_of_range (shape_of v) plan_kept.in_range

  pub inverting_is : inverting v ≡ making (Of.inverted (plan_of v))
  inverting_is = inverting_plan v h.taken

  pub inverse_made : (u : Plan) → inverting v ≡ Ok u → Made (Of.inverted (plan_of v)) u
  inverse_made u e = made (Of.inverted (plan_of v)) u (λ c. demand3.inverted_kept (plan_of v) c plan_kept) (sym inverting_is ∙ e)

  pub power_made : (k : ℤ) (u : Plan) → raising v k ≡ Ok u → Made (Of.powered (plan_of v) k) u
  power_made k u e =
      made
      (Of.powered (plan_of v) k)
      u
      (λ c. demand3.powered_kept (plan_of v) c k plan_kept)
      (sym (raising_plan v h.taken k) ∙ e)

module _ (v w : Plan) (h : Handed v) (k : Handed w) where
  pub following_is : following v w ≡ making (Of.followed (plan_of v) (plan_of w))
  following_is = sym (both_plans v w h.taken k.taken)

  pub follow_made : (u : Plan) → following v w ≡ Ok u → Made (Of.followed (plan_of v) (plan_of w)) u
  follow_made u e =
      made
      (Of.followed (plan_of v) (plan_of w))
      u
      (λ c. demand3.followed_kept (plan_of v) (plan_of w) c (plan_kept v h) (plan_kept w k))
      (sym following_is ∙ e)

  followed_within : IsOk (following v w) → T (granted (compose (shape_of v) (rows_of v) (rows_of w)))
  followed_within g =
      let (u, e) = plan_in (following v w) g in
      (followed_cases (plan_of v) (plan_of w) (plan_of u) (follow_made u e).grants).1

  within_followed : shape_of v ≡ shape_of w → T (granted (compose (shape_of v) (rows_of v) (rows_of w))) → IsOk (following v w)
  within_followed e g =
      let one = followed_is (plan_of v) (plan_of w) e in
      answered (following_is ∙ ap making (one ∙ grant_of (shape_of v) (compose (shape_of v) (rows_of v) (rows_of w)) g))

-- a power is granted exactly where every power on the way is within the limits
module _ (v : Plan) (h : Handed v) (k : ℤ) where
  abbrev s : Shape
  s = shape_of v

  abbrev base : Table
  base = Of.repeatable (plan_of v) k

  raised_within : IsOk (raising v k) → PowerWithin (plan_of v) k
  raised_within g = go (passes (leb (nat_abs k) max_power))
    where
      go : (leb (nat_abs k) max_power ≡ true) ⊎ (leb (nat_abs k) max_power ≡ false) → PowerWithin (plan_of v) k
      go (inl l) =
          let (u, e) = plan_in (raising v k) g in
          let power = (power_made v h k u e).grants in
          record { size = T_of l; powers = (powered_cases (plan_of v) (plan_of u) k power).1 }
      go (inr l) =
          absurd (clash (subst IsOk (sym (raising_outside v h.taken k (leb-false (nat_abs k) max_power l))) g) refl)

  within_raised : PowerWithin (plan_of v) k → IsOk (raising v k)
  within_raised w = go (Of.raised s base (nat_abs k)) refl (raised_cases s base (nat_abs k))
    where
      go : (o : Option Table) → Of.raised s base (nat_abs k) ≡ o → Raised s base (nat_abs k) o → IsOk (raising v k)
      go none e (j, low, high, broken) = absurd (clash (w.powers j low high) broken)
      go (some u) e p =
          let all = raising_within v h.taken k (leb→le (nat_abs k) max_power w.size) in
          answered (all ∙ ap (λ o. repeated o s) e)

inverse_granted : (v : Plan) → Handed v → IsOk (inverting v)
unfolding Rattle.higman.specs.Answers.inverted
inverse_granted v h = answered (inverting_is v h)

pub values_granted : ValuesGranted
values_granted =
    record {
      follow_granted = λ v w h k e. (followed_within v w h k, within_followed v w h k e);
      inverse_granted = inverse_granted;
      power_granted = λ v k h. (raised_within v h k, within_raised v h k);
    }

-- a value sends codes where the plan does that it holds
sends_as : (u : Plan) (q : PlanOf) (f : BlockMap) → plan_of u ≡ q
    → ((c x : Word) → T (is_word q.shape c) → f c ≡ some x → image q.rows c ≡ some x) → SendsAs u f
sends_as u q f e = subst (λ p. (c x : Word) → T (is_word p.shape c) → f c ≡ some x → image p.rows c ≡ some x) (sym e)

follow_acts : (v w u : Plan) → Handed v → Handed w → following v w ≡ Ok u → SendsAs u (and_then (sends v) (sends w))
follow_acts v w u h k e =
    let (same, within, held) = followed_cases (plan_of v) (plan_of w) (plan_of u) (follow_made v w h k u e).grants in
    let bases = subst (λ z. Bases z (rows_of w)) (sym same) (plan_kept w k).bases in
    sends_as u _ (and_then (sends v) (sends w)) held
    (group_acts.compose_acts (shape_of v) (arity_low v h) (rows_of v) (rows_of w) (plan_kept v h).bases bases)

module _ (v i : Plan) (h : Handed v) (e : inverting v ≡ Ok i) where
  inverse_rows : (plan_of i).rows ≡ inverse (shape_of v) (rows_of v)
  inverse_rows = ap (λ p. p.rows) (inverted_cases (plan_of v) (plan_of i) (inverse_made v h i e).grants)

  inverse_acts : (c x : Word) → T (is_word (shape_of v) c) → sends v c ≡ some x → sends i x ≡ some c
  inverse_acts c x y f =
      ap (λ u. image u x) inverse_rows ∙ group_acts.inverse_acts (shape_of v) (arity_low v h) (rows_of v) (plan_kept v h).bases c x y f

  inverse_times : (k : ℕ) (c : Word) → times k (image (inverse (shape_of v) (rows_of v))) c ≡ times k (sends i) c
  inverse_times k c = ap (λ z. times k (image z) c) (sym inverse_rows)

  power_acts_below : (u : Plan) (k : ℕ) → raising v (negsuc k) ≡ Ok u → SendsAs u (times (suc k) (sends i))
  power_acts_below u k g =
      let held = (powered_cases (plan_of v) (plan_of u) (negsuc k) (power_made v h (negsuc k) u g).grants).0 in
      let law = group_acts.power_acts_below (shape_of v) (arity_low v h) (rows_of v) (plan_kept v h).bases k in
      sends_as u _ (times (suc k) (sends i)) held (λ c x y f. law c x y (inverse_times (suc k) c ∙ f))

power_acts : (v u : Plan) (k : ℕ) → Handed v → raising v (pos k) ≡ Ok u → SendsAs u (times k (sends v))
power_acts v u k h e =
    let held = (powered_cases (plan_of v) (plan_of u) (pos k) (power_made v h (pos k) u e).grants).0 in
    sends_as u _ (times k (sends v)) held (group_acts.power_acts (shape_of v) (arity_low v h) (rows_of v) (plan_kept v h).bases k)

pub values_act : ValuesAct
values_act =
    record {
      follow_acts = follow_acts;
      inverse_acts = λ v u h e. inverse_acts v u h e;
      power_acts = power_acts;
      power_acts_below = λ v i u k h e. power_acts_below v i h e u k;
    }
