-- Powers by repetition: the value that holds the power reached so far, how a turn takes it to the next power, and that the first power
-- that breaks a limit decides the answer.
use Prim.Native.Nat.{ℕ, zero, suc, ◌+◌, ◌≤◌, ◌<◌}
use mathlib.Core.Path.{◌≡◌, refl, sym, ◌∙◌, ap, subst}
use mathlib.Core.Logic.{◌⊎◌, inl, inr}
use mathlib.Core.Bool.{Bool, true, false}
use mathlib.Core.Option.{Option, none, some}
use native.Mathlib.Numerals.{add-one}
use native.Mathlib.Omega.{arith}
use lib.Dec.{leb}
use borrow.Author.Tests.{leb-true, leb-false}
use Rattle.higman.specs.Words.{Shape}
use Rattle.higman.specs.Tables.{Table}
use Rattle.higman.specs.Normal.{compose, identity}
use Rattle.higman.specs.Limits.{Kept, granted, Plan as PlanOf}
use Rattle.higman.specs.Answers as Of
use Rattle.higman.specs.Answers.{Answer as HigmanAnswer, grant, followed, raised, identity_plan}
use Rattle.higman.proofs.Tests.{passes, T_of}
use Rattle.higman.proofs.Group.{compose_member, identity_member}
use Rattle.higman.proofs.KeptPlans.{arity_of_range, member_of_kept, kept_of_member}
use Rattle.higman.proofs.Demand3.{identity_granted}
use Rattle.higman.proofs.Answers.{followed_is}
use Rattle.operations.specs.declared.Plan.{Plan}
use Rattle.std.specs.Prelude.{Result, Ok, Err}
use Rattle.operations.specs.declared.refusals.Refusal.{Refusal}
use Rattle.operations.specs.Plans.{shape_of, rows_of, plan_of, is_plan, packed}
use Rattle.operations.specs.Answers.{making, composing, repeated, repeating}
use Rattle.operations.proofs.KeptValues.{kept}
use Rattle.operations.proofs.Repacked.{holds, packed_is_plan}

raised_next : (s : Shape) (a t : Table) (k : ℕ) → raised s a k ≡ some t → (b : Bool) → granted (compose s t a) ≡ b
    → raised s a (suc k) ≡ elim b as (λ _. Option Table) [ true ↦ some (compose s t a) | false ↦ none ]
unfolding raised
raised_next s a t k e b g = rw (e, raised) (ap (λ b. elim b as (λ _. Option Table) [ true ↦ some (compose s t a) | false ↦ none ]) g)

-- a power that is broken stays so
raised_stays : (s : Shape) (a : Table) (k n : ℕ) → k ≤ n → raised s a k ≡ none → raised s a n ≡ none
unfolding raised
raised_stays s a k zero l e = let q : k ≡ 0 = omega arith in subst (λ j. raised s a j ≡ none) q e
raised_stays s a k (suc n) l e = go (passes (leb k n)) (λ m. raised_stays s a k n m e)
  where
    later : raised s a n ≡ none → raised s a (suc n) ≡ none
    later q = rw (q, raised)

    go : (leb k n ≡ true) ⊎ (leb k n ≡ false) → (k ≤ n → raised s a n ≡ none) → raised s a (suc n) ≡ none
    go (inl x) rest = later (rest (leb-true k n x))
    go (inr x) rest = let q : k ≡ suc n = omega (arith, leb-false k n x) in subst (λ j. raised s a j ≡ none) q e

module _ (a : Plan) (h : is_plan a ≡ true) where
  abbrev s : Shape
  s = shape_of a

  abbrev shaped : Table → PlanOf
  shaped t = record { shape = s; rows = t }

  -- the value p holds the i-th power
  pub record Reached (p : Plan) (i : ℕ) : Type 0 where
    pub pairs : Table
    pub raises : raised s (rows_of a) i ≡ some pairs
    pub held : p ≡ packed (shaped pairs)
    pub keeps : Kept (shaped pairs)

  K : Kept (plan_of a)
  K = kept a h

  pub reached_none : (p : Plan) → p ≡ packed (identity_plan s) → Reached p 0
  unfolding raised identity_plan
  reached_none p e =
      record {
        pairs = identity s;
        raises = refl;
        held = e;
        keeps =
            kept_of_member (shaped (identity s)) K.in_range (identity_granted s K.in_range)
            (identity_member s (arity_of_range s K.in_range));
      }

  module _ (p : Plan) (i : ℕ) (r : Reached p i) where
    pub reached_plan : is_plan p ≡ true
    reached_plan = ap is_plan r.held ∙ packed_is_plan (shaped r.pairs) r.keeps

    pub reached_shape : shape_of p ≡ shape_of a
    reached_shape = ap (λ q. (plan_of q).shape) r.held ∙ ap (λ q. q.shape) (holds (shaped r.pairs) r.keeps)

    abbrev next : Table
    next = compose s r.pairs (rows_of a)

    answered : composing p a ≡ making (grant s next)
    answered =
        ap (λ q. making (followed q (plan_of a))) (ap plan_of r.held ∙ holds (shaped r.pairs) r.keeps)
        ∙ ap making (followed_is (shaped r.pairs) (plan_of a) refl)

    module _ (m : Result Plan Refusal) (e : m ≡ composing p a) where
      -- what was made, by whether the next power keeps the limits
      made : (b : Bool) → granted next ≡ b
          → m ≡ making (elim b as (λ _. HigmanAnswer) [ true ↦ Of.Granted (shaped next) | false ↦ Of.Refused Of.LimitBroken ])
      made b g =
          e ∙ answered
          ∙ ap (λ b. making (elim b as (λ _. HigmanAnswer) [ true ↦ Of.Granted (shaped next) | false ↦ Of.Refused Of.LimitBroken ])) g

      pub reached_next : (q : Plan) → m ≡ Ok q → Reached q (i + 1)
      reached_next q f = go (passes (granted next))
        where
          go : (granted next ≡ true) ⊎ (granted next ≡ false) → Reached q (i + 1)
          go (inl g) =
              let k : Ok q ≡ Ok (packed (shaped next)) = sym f ∙ made true g in
              record {
                pairs = next;
                raises = ap (raised s (rows_of a)) (add-one i) ∙ raised_next s (rows_of a) r.pairs i r.raises true g;
                held = cc;
                keeps =
                    kept_of_member (shaped next) K.in_range (T_of g)
                    (compose_member s (arity_of_range s K.in_range) r.pairs (rows_of a) (member_of_kept (shaped r.pairs) r.keeps).element
                    (member_of_kept (plan_of a) K).element);
              }
          go (inr g) = let k = sym f ∙ made false g in cc

      pub stopped : (x : Refusal) → m ≡ Err x → (n : ℕ) → i < n → Err x ≡ repeating (plan_of a) n
      stopped x f n l = go (passes (granted next))
        where
          go : (granted next ≡ true) ⊎ (granted next ≡ false) → Err x ≡ repeating (plan_of a) n
          go (inl g) = let k = sym f ∙ made true g in cc
          go (inr g) =
              let none = raised_next s (rows_of a) r.pairs i r.raises false g in
              sym f ∙ made false g ∙ sym (ap (λ o. repeated o s) (raised_stays s (rows_of a) (suc i) n (omega arith) none))

  -- the power that was asked for
  pub reached_all : (p : Plan) (n : ℕ) → Reached p n → Ok p ≡ repeating (plan_of a) n
  reached_all p n r = ap Ok r.held ∙ sym (ap (λ o. repeated o s) r.raises)
