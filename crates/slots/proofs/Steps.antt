-- An operation step by step: with which of the tests around its job it ends, in the terms of a desk in code, and that a refusal changes
-- nothing of the head and its columns.
use Prim.Native.Nat.{ℕ, ◌<◌}
use mathlib.Core.Path.{◌≡◌, refl, sym, ◌∙◌, ap, ap₂, subst}
use mathlib.Core.Bool.{Bool, true, false, ◌&&◌, not}
use mathlib.Core.List.{List, map, Memᴰ}
use mathlib.Core.Option.{Option, none}
use Rattle.std.specs.Prelude.{Option as Opened, Some, None, is_some, ok_or, Result, Ok, Err, IsErrAnd}
use Rattle.higman.specs.Bases.{all}
use Rattle.higman.specs.Limits.{slot_count}
use Rattle.higman.specs.Listing.{is_slot, slot_number}
use Rattle.higman.specs.Refusals.{wrong_state, slot_outside, count_full, station_outside, right_missing, Letter}
use Rattle.higman.specs.Buffers.{written}
use Rattle.higman.proofs.Tests.{T_of, so, all_at}
use Rattle.words.proofs.Checks.{check_map, check_append}
use Rattle.desk.specs.Desk.{Desk, IsDesk}
use Rattle.desk.specs.Records.{Record, SlotUse, reading, writing, Kind, kind, of_slots, of_open_plan, needs_open, stations_named, slots_named}
use Rattle.desk.specs.Records.{needed_right, is_change}
use Rattle.desk.specs.Replies.{◌>>=◌, ◌when◌, Outcome, refuse, pass, Effect}
use Rattle.desk.specs.Replies.{open_amiss, no_station, outside, may_use, denied, at_limit, job, admission, operation}
use Rattle.desk.proofs.Outcomes.{passed, admitted}
use Rattle.desk.proofs.Stays.{operation_stays, slot_below as below}
use Rattle.slots.specs.declared.Head.{Head}
use Rattle.operations.specs.declared.refusals.Refusal.{Refusal}
use Rattle.operations.specs.declared.refusals.Refusal.TheVariants as The
use Rattle.operations.specs.Refusals.{number_of}
use Rattle.slots.specs.declared.Reply.{Reply}
use Rattle.slots.specs.declared.Refused.{Refused}
use Rattle.slots.specs.Desks.{desk_of, HoldsDesk, allowed_in}
use Rattle.slots.specs.Refused.{refused_for, refusing, letter_of, outcome_of}
use Rattle.slots.specs.Works.{Work, uses_of, AdmittedAs, direct, told, reply_to, desk_after, work_of, DoneBy, Done, ToldBy, Tells}
use Rattle.slots.proofs.Held.{open_is}

module _ (d : Desk) (r : Record) where
  pub at_admission : (n : ℕ) (c : Option Letter) → admission d r ≡ refuse n c → operation d r ≡ refuse n c
  unfolding operation ◌>>=◌
  at_admission n c a = rw a refl

  module _ (a : admission d r ≡ pass tt) where
    pub at_job : (n : ℕ) (c : Option Letter) → job d r ≡ refuse n c → operation d r ≡ refuse n c
    unfolding operation ◌>>=◌
    at_job n c j = rw (a, j) refl

    pub at_limit_lem : (e : Effect) → job d r ≡ pass e → is_change r ≡ true → at_limit d ≡ true → operation d r ≡ refuse count_full none
    unfolding operation ◌>>=◌
    at_limit_lem e j c l = rw (a, j, c, l) refl

    pub at_end : (e : Effect) → job d r ≡ pass e → (is_change r && at_limit d) ≡ false → operation d r ≡ pass e
    unfolding operation ◌>>=◌
    at_end e j l = rw (a, j, l) refl

-- whether the state is amiss for a record, by the head
pub amiss_closed : (h : Head) (columns : List ℕ) (r : Record) → needs_open r ≡ false → open_amiss (desk_of h columns) r ≡ is_some h.draft
amiss_closed h columns r e = rw (open_amiss, e) (open_is h columns)

pub amiss_open : (h : Head) (columns : List ℕ) (r : Record) → needs_open r ≡ true → open_amiss (desk_of h columns) r ≡ not (is_some h.draft)
amiss_open h columns r e = rw (open_amiss, e) (ap not (open_is h columns))

-- the tests that all records have in common, by what they find
module _ (h : Head) (columns : List ℕ) (r : Record) where
  abbrev tests : Bool → Bool → Bool → Bool → Outcome (Unit {0})
  tests b s c m = (wrong_state when b) >>= λ _. (station_outside when s) >>= λ _. (slot_outside when c) >>= λ _. right_missing when m

  -- in this order: 2, 18, 8, 20
  pub tested : {b s c m : Bool} → open_amiss (desk_of h columns) r ≡ b → no_station (stations_named r) ≡ s → outside (slots_named r) ≡ c
      → denied (desk_of h columns) (slots_named r) ≡ m → admission (desk_of h columns) r ≡ tests b s c m
  unfolding admission
  tested {b} {s} {c} {m} o n u a =
      ap (λ x. tests x (no_station (stations_named r)) (outside (slots_named r)) (denied (desk_of h columns) (slots_named r))) o
      ∙ ap (λ x. tests b x (outside (slots_named r)) (denied (desk_of h columns) (slots_named r))) n
      ∙ ap (λ x. tests b s x (denied (desk_of h columns) (slots_named r))) u
      ∙ ap (tests b s c) a

  -- of a record of some slots
  admission_is : (us : List SlotUse) (change : Bool) → kind r ≡ of_slots us change → {b c m : Bool} → is_some h.draft ≡ b → outside us ≡ c
      → denied (desk_of h columns) us ≡ m → admission (desk_of h columns) r ≡ tests b false c m
  admission_is us change k o s a =
      tested (amiss_closed h columns r (ap (λ (z : Kind). z.open_plan) k) ∙ o) (ap no_station (ap (λ (z : Kind). z.stations) k))
      (ap outside (ap (λ (z : Kind). z.slots) k) ∙ s) (ap (denied (desk_of h columns)) (ap (λ (z : Kind). z.slots) k) ∙ a)

  -- and of one of the open plan
  module _ (change : Bool) (k : kind r ≡ of_open_plan change) where
    plan_tested : {b : Bool} → is_some h.draft ≡ b → admission (desk_of h columns) r ≡ tests (not b) false false false
    plan_tested o =
        tested (amiss_open h columns r (ap (λ (z : Kind). z.open_plan) k) ∙ ap not o) (ap no_station (ap (λ (z : Kind). z.stations) k))
        (ap outside (ap (λ (z : Kind). z.slots) k)) (ap (denied (desk_of h columns)) (ap (λ (z : Kind). z.slots) k))

    pub no_plan_open : is_some h.draft ≡ false → admission (desk_of h columns) r ≡ refuse wrong_state none
    unfolding ◌>>=◌
    no_plan_open o = plan_tested o

    pub plan_open : is_some h.draft ≡ true → admission (desk_of h columns) r ≡ pass tt
    unfolding ◌>>=◌
    plan_open o = plan_tested o

-- the slots that a record reads and its targets, by their bytes
outside_uses : (reads targets : List ℕ) → {b c : Bool} → all is_slot reads ≡ b → all is_slot targets ≡ c
    → outside (uses_of reads targets) ≡ not (b && c)
outside_uses reads targets e f =
    let named : SlotUse → Bool = λ u. is_slot u.slot in
    ap not (check_append named (map reading reads) (map writing targets)
    ∙ ap₂ ◌&&◌ (check_map named reading reads ∙ e) (check_map named writing targets ∙ f))

-- and the rights that they need
denied_uses : (h : Head) (columns reads targets : List ℕ) → {b c : Bool} → allowed_in h.control 1 reads
    ≡ b → allowed_in h.control 2 targets ≡ c
    → denied (desk_of h columns) (uses_of reads targets) ≡ not (b && c)
unfolding allowed_in desk_of needed_right
denied_uses h columns reads targets e f =
    let may : SlotUse → Bool = may_use (desk_of h columns) in
    ap not (check_append may (map reading reads) (map writing targets)
    ∙ ap₂ ◌&&◌ (check_map may reading reads ∙ e) (check_map may writing targets ∙ f))

-- what a head says to every record of these slots
pub admission_open : (h : Head) (reads targets : List ℕ) → is_some h.draft ≡ true → AdmittedAs h reads targets (refusing The.WrongState)
unfolding ◌>>=◌
admission_open h reads targets o = λ r change columns k. admission_is h columns r (uses_of reads targets) change k o refl refl

module _ (h : Head) (reads targets : List ℕ) (o : is_some h.draft ≡ false) where
  pub admission_outside : {b c : Bool} → all is_slot reads ≡ b → all is_slot targets ≡ c → (b && c) ≡ false
      → AdmittedAs h reads targets (refusing The.SlotOutside)
  unfolding ◌>>=◌
  admission_outside e f n =
      λ r change columns k. admission_is h columns r (uses_of reads targets) change k o (outside_uses reads targets e f ∙ ap not n) refl

  module _ (e : all is_slot reads ≡ true) (f : all is_slot targets ≡ true) where
    pub admission_denied : {b c : Bool} → allowed_in h.control 1 reads ≡ b → allowed_in h.control 2 targets ≡ c → (b && c) ≡ false
        → AdmittedAs h reads targets (refusing The.RightMissing)
    unfolding ◌>>=◌
    admission_denied a m n =
        λ r change columns k. admission_is h columns r (uses_of reads targets) change k o (outside_uses reads targets e f)
        (denied_uses h columns reads targets a m ∙ ap not n)

    pub admission_passed : allowed_in h.control 1 reads ≡ true → allowed_in h.control 2 targets ≡ true → AdmittedAs h reads targets (Ok tt)
    unfolding ◌>>=◌
    admission_passed a m =
        λ r change columns k. admission_is h columns r (uses_of reads targets) change k o (outside_uses reads targets e f)
        (denied_uses h columns reads targets a m)

pub slot_below : (a : ℕ) → is_slot a ≡ true → slot_number a < slot_count
slot_below a e = below a (T_of e)

-- a record that is admitted names slots
pub admitted_named : (d : Desk) (r : Record) → admission d r ≡ pass tt → (u : SlotUse) → Memᴰ u (slots_named r)
    → is_slot u.slot ≡ true
admitted_named d r a u m =
    so (is_slot u.slot) (all_at (λ (u : SlotUse). is_slot u.slot) (slots_named r) (passed (admitted d r) tt a).slots_named_fact u m)

-- what the exit of a `?` returns
pub returned : {A : Type 0} (w : Result A Refused) (f : Refused) → IsErrAnd w (λ e. e ≡ f) → w ≡ Err f
returned (Ok a) f h = absurd h
returned (Err e) f h = ap Err h

-- and with what, where `ok_or` gave the refusal
pub refused_with : {A : Type 0} (o : Opened A) (n m : Refusal) → ◌≡◌ {A = Result A Refusal} (Err n) (ok_or o m)
    → refused_for n ≡ refused_for m
refused_with None n m e = cc
refused_with (Some x) n m e = cc

-- a refusal leaves the desk as it is, whatever it is that is refused
pub told_refusal : (d : Desk) (o : Outcome Effect) (f : Refused) → o ≡ outcome_of (Err f) → (out : List ℕ) (p : Result Reply Refused)
    → p ≡ Err f → ToldBy d o out p out
told_refusal d o f e out p q =
    record {
      desk = ap (desk_after d) e;
      reply = ap outcome_of q ∙ ap (λ x. told (reply_to x)) (sym e);
      output = ap (λ x. written out 0 (direct (reply_to x))) (sym e);
    }

-- and its head and columns
pub done_refusal : (h : Head) (columns : List ℕ) → HoldsDesk h columns → (o : Outcome Effect) (f : Refused) → o ≡ outcome_of (Err f)
    → (out : List ℕ) (w : Result Work Refused) → w ≡ Err f → DoneBy (desk_of h columns) o out h w columns out
done_refusal h columns H o f e out w q =
    let t = told_refusal (desk_of h columns) o f e out (Err f) refl in
    subst (λ x. DoneBy (desk_of h columns) o out h x columns out) (sym q)
    (record { holds = H; desk = sym t.desk; reply = t.reply; output = t.output })

-- what is told of a desk is done where the head and the columns are left as they are
pub done_told : (h : Head) (columns : List ℕ) → HoldsDesk h columns → (o : Outcome Effect) (out : List ℕ) (p : Result Reply Refused)
    (out' : List ℕ) → ToldBy (desk_of h columns) o out p out' → (w : Result Work Refused) → w ≡ work_of h p
    → DoneBy (desk_of h columns) o out h w columns out'
done_told h columns H o out p out' t w e =
    subst (λ x. DoneBy (desk_of h columns) o out h x columns out') (sym e) (by p t)
  where
    by : (p : Result Reply Refused) → ToldBy (desk_of h columns) o out p out'
        → DoneBy (desk_of h columns) o out h (work_of h p) columns out'
    by (Ok p) t = record { holds = H; desk = sym t.desk; reply = t.reply; output = t.output }
    by (Err f) t = record { holds = H; desk = sym t.desk; reply = t.reply; output = t.output }

-- with what a record is refused: by the tests that all records have in common, and by its own
module _ (d : Desk) (r : Record) where
  pub operation_admission : (f : Refused) → admission d r ≡ outcome_of (Err f) → operation d r ≡ outcome_of (Err f)
  operation_admission f a = at_admission d r (number_of f.refusal) (letter_of f.column) a

  pub operation_job : admission d r ≡ pass tt → (f : Refused) → job d r ≡ outcome_of (Err f) → operation d r ≡ outcome_of (Err f)
  operation_job a f j = at_job d r a (number_of f.refusal) (letter_of f.column) j

-- what is told where a record is refused
module _ (h : Head) (columns : List ℕ) (r : Record) (out : List ℕ) where
  abbrev d : Desk
  d = desk_of h columns

  pub tells_admission : (f : Refused) → admission d r ≡ outcome_of (Err f) → (p : Result Reply Refused) → p ≡ Err f
      → Tells r h columns out p out
  tells_admission f a p q = told_refusal d (operation d r) f (operation_admission d r f a) out p q

  pub tells_by : (reads targets : List ℕ) (change : Bool) → kind r ≡ of_slots (uses_of reads targets) change → (f : Refused)
      → AdmittedAs h reads targets (Err f) → (p : Result Reply Refused) → p ≡ Err f → Tells r h columns out p out
  tells_by reads targets change k f a p q = tells_admission f (a r change columns k) p q

  pub tells_job : admission d r ≡ pass tt → (f : Refused) → job d r ≡ outcome_of (Err f) → (p : Result Reply Refused) → p ≡ Err f
      → Tells r h columns out p out
  tells_job a f j p q = told_refusal d (operation d r) f (operation_job d r a f j) out p q

-- and what is done then
module _ (h : Head) (columns : List ℕ) (H : HoldsDesk h columns) (r : Record) (out : List ℕ) where
  abbrev o : Outcome Effect
  o = operation (desk_of h columns) r

  pub done_refused : (f : Refused) → o ≡ outcome_of (Err f) → (w : Result Work Refused) → w ≡ Err f → Done r h columns out w columns out
  done_refused f e w q = done_refusal h columns H o f e out w q

  pub refused_admission : (f : Refused) → admission (desk_of h columns) r ≡ outcome_of (Err f) → (w : Result Work Refused) → w ≡ Err f
      → Done r h columns out w columns out
  refused_admission f a w q = done_refused f (operation_admission (desk_of h columns) r f a) w q

  pub refused_by : (reads targets : List ℕ) (change : Bool) → kind r ≡ of_slots (uses_of reads targets) change → (f : Refused)
      → AdmittedAs h reads targets (Err f) → (w : Result Work Refused) → w ≡ Err f → Done r h columns out w columns out
  refused_by reads targets change k f a w q = refused_admission f (a r change columns k) w q

  -- also where it names a column
  pub refused_job : admission (desk_of h columns) r ≡ pass tt → (f : Refused) → job (desk_of h columns) r ≡ outcome_of (Err f)
      → (w : Result Work Refused) → w ≡ Err f → Done r h columns out w columns out
  refused_job a f j w q = done_refused f (operation_job (desk_of h columns) r a f j) w q

  -- an operation that is done
  pub done_passed : (e : Effect) → o ≡ pass e → (w : Work) (columns' out' : List ℕ)
      → (IsDesk e.0 → HoldsDesk w.head columns') → desk_of w.head columns' ≡ e.0 → pass w.reply ≡ told e.1
      → out' ≡ written out 0 (direct e.1) → Done r h columns out (Ok w) columns' out'
  done_passed e p w columns' out' holds same reply output =
      record {
        holds = holds (passed (operation_stays (desk_of h columns) H.is_desk_lem r) e p);
        desk = same ∙ ap (desk_after (desk_of h columns)) (sym p);
        reply = reply ∙ ap (λ o. told (reply_to o)) (sym p);
        output = output ∙ ap (λ o. written out 0 (direct (reply_to o))) (sym p);
      }
