-- The jobs of the records that change a slot, step by step: what is read of a slot, the refusals, and what is kept.
use Prim.Native.Nat.{ℕ}
use mathlib.Core.Path.{◌≡◌, refl, ap}
use mathlib.Core.Bool.{true, false}
use mathlib.Core.List.{List}
use mathlib.Core.Option.{Option, none, some}
use lib.IntN.{ℤ}
use Rattle.higman.specs.Words.{Shape}
use Rattle.higman.specs.Limits.{Plan as PlanOf, shape_in_range, power_in_range}
use Rattle.higman.specs.Answers.{Granted, followed, inverted, powered, Accepted, verdict}
use Rattle.higman.specs.Exercises.{exercise}
use Rattle.higman.specs.Refusals.{shape_outside, slot_empty, power_outside, Letter}
use Rattle.higman.specs.Listing.{is_slot, slot_number}
use Rattle.desk.specs.Desk.{Draft, Desk, changed}
use Rattle.desk.specs.Records.{E, F, I, K, C, X}
use Rattle.desk.specs.Replies.{◌>>=◌, refuse, pass, ok, job, plan_in, of_answer, of_verdict, keep_in, closed}
use Rattle.slots.specs.declared.Head.{Head}
use Rattle.slots.specs.Blocks.{value_at}
use Rattle.slots.specs.Desks.{desk_of, HoldsDesk}
use Rattle.slots.proofs.Held.{slot_empty_lem, slot_full, slot_plan}
use Rattle.slots.proofs.Steps.{slot_below}
use Rattle.changing.specs.Operands.{HeldPlan}

module _ (h : Head) (columns : List ℕ) (a : ℕ) (named : is_slot a ≡ true) where
  pub read_none : (value_at h columns (slot_number a)).pairs ≡ 0 → plan_in (desk_of h columns) a ≡ refuse slot_empty none
  unfolding value_at
  read_none e =
      ap (λ x. elim x [ none ↦ refuse slot_empty none | some p ↦ pass p ]) (slot_empty_lem h columns (slot_number a) (slot_below a named) e)

  pub read_plan : HoldsDesk h columns → ((value_at h columns (slot_number a)).pairs ≡ 0 → ⊥)
      → HeldPlan (desk_of h columns) a (value_at h columns (slot_number a))
  unfolding value_at
  read_plan H e =
      let below = slot_below a named in
      record {
        there = ap (λ x. elim x [ none ↦ refuse slot_empty none | some p ↦ pass p ]) (slot_full h columns (slot_number a) below e);
        is_plan_fact = slot_plan h columns H (slot_number a) below e;
      }

-- F
module _ (d : Desk) (a b c : ℕ) where
  pub follow_first : {n : ℕ} {l : Option Letter} → plan_in d a ≡ refuse n l → job d (F a b c) ≡ refuse n l
  unfolding job ◌>>=◌
  follow_first e = rw e refl

  module _ (p : PlanOf) (e : plan_in d a ≡ pass p) where
    pub follow_second : {n : ℕ} {l : Option Letter} → plan_in d b ≡ refuse n l → job d (F a b c) ≡ refuse n l
    unfolding job ◌>>=◌
    follow_second f = rw (e, f) refl

    module _ (q : PlanOf) (f : plan_in d b ≡ pass q) where
      pub follow_refused : {n : ℕ} {l : Option Letter} → of_answer (followed p q) ≡ refuse n l → job d (F a b c) ≡ refuse n l
      unfolding job ◌>>=◌
      follow_refused g = rw (e, f, g) refl

      pub follow_keeps : (r : PlanOf) → followed p q ≡ Granted r → job d (F a b c) ≡ pass (keep_in d (slot_number c) r)
      unfolding job ◌>>=◌
      follow_keeps r g = rw (e, f, g) refl

-- I
module _ (d : Desk) (a c : ℕ) where
  pub invert_none : {n : ℕ} {l : Option Letter} → plan_in d a ≡ refuse n l → job d (I a c) ≡ refuse n l
  unfolding job ◌>>=◌
  invert_none e = rw e refl

  pub invert_keeps : (p r : PlanOf) → plan_in d a ≡ pass p → inverted p ≡ Granted r → job d (I a c) ≡ pass (keep_in d (slot_number c) r)
  unfolding job ◌>>=◌
  invert_keeps p r e g = rw (e, g) refl

-- K
module _ (d : Desk) (a : ℕ) (k : ℤ) (c : ℕ) where
  pub power_beyond : power_in_range k ≡ false → job d (K a k c) ≡ refuse power_outside none
  unfolding job ◌>>=◌
  power_beyond i = rw i refl

  module _ (i : power_in_range k ≡ true) where
    pub power_none : {n : ℕ} {l : Option Letter} → plan_in d a ≡ refuse n l → job d (K a k c) ≡ refuse n l
    unfolding job ◌>>=◌
    power_none e = rw (i, e) refl

    module _ (p : PlanOf) (e : plan_in d a ≡ pass p) where
      pub power_refused : {n : ℕ} {l : Option Letter} → of_answer (powered p k) ≡ refuse n l → job d (K a k c) ≡ refuse n l
      unfolding job ◌>>=◌
      power_refused g = rw (i, e, g) refl

      pub power_keeps : (r : PlanOf) → powered p k ≡ Granted r → job d (K a k c) ≡ pass (keep_in d (slot_number c) r)
      unfolding job ◌>>=◌
      power_keeps r g = rw (i, e, g) refl

-- X
module _ (d : Desk) (a : ℕ) (s : Shape) (k seed : ℕ) where
  pub exercise_outside : shape_in_range s ≡ false → job d (X a s.arity s.roots k seed) ≡ refuse shape_outside none
  unfolding job ◌>>=◌
  exercise_outside i = rw i refl

  module _ (i : shape_in_range s ≡ true) where
    pub exercise_refused : {n : ℕ} {l : Option Letter} → of_answer (exercise s k seed) ≡ refuse n l
        → job d (X a s.arity s.roots k seed) ≡ refuse n l
    unfolding job ◌>>=◌
    exercise_refused g = rw (i, g) refl

    pub exercise_keeps : (p : PlanOf) → exercise s k seed ≡ Granted p
        → job d (X a s.arity s.roots k seed) ≡ pass (keep_in d (slot_number a) p)
    unfolding job ◌>>=◌
    exercise_keeps p g = rw (i, g) refl

-- C
module _ (d : Desk) (a : ℕ) where
  pub empty_none : {n : ℕ} {l : Option Letter} → plan_in d a ≡ refuse n l → job d (C a) ≡ refuse n l
  unfolding job ◌>>=◌
  empty_none e = rw e refl

  pub empty_done : (p : PlanOf) → plan_in d a ≡ pass p → job d (C a) ≡ pass (changed d (slot_number a) none, ok)
  unfolding job ◌>>=◌
  empty_done p e = rw e refl

-- E
module _ (d : Desk) (o : Draft) (opened : d.draft ≡ some o) where
  pub close_refused : {n : ℕ} {l : Option Letter} → of_verdict (verdict o.shape o.rows) ≡ refuse n l → job d E ≡ refuse n l
  unfolding job ◌>>=◌
  close_refused g = rw (opened, g) refl

  pub close_keeps : verdict o.shape o.rows ≡ Accepted → job d E ≡ pass (keep_in d o.slot (closed o))
  unfolding job ◌>>=◌
  close_keeps g = rw (opened, g) refl
