-- The desk after a right was given, and with which of its tests G ends: 1, then 2, 18 and 8, and 19 of its own.
use Prim.Native.Nat.{ℕ, zero, suc, ◌+◌, ◌≤◌, ◌<◌, zero-le}
use native.Mathlib.Omega.{arith}
use Rattle.std.specs.Prelude.{is_some, Result}
use mathlib.Core.Path.{◌≡◌, refl, sym, ◌∙◌, ap, subst}
use mathlib.Core.Bool.{Bool, true, false, ◌||◌, not}
use mathlib.Core.List.{List, [], ◌∷◌}
use mathlib.Core.Option.{Option, none, some}
use borrow.Author.Tests.{le-leb, lt-leb, eq-eqb, ne_eqb}
use lib.Dec.{leb, eqb}
use Rattle.higman.specs.Listing.{is_slot, slot_number}
use Rattle.higman.specs.Refusals.{no_record, wrong_state, station_outside, slot_outside, station_refused}
use Rattle.desk.specs.Limits.{station_count, max_right}
use Rattle.desk.specs.Desk.{Desk, IsDesk, own_right, with_right}
use Rattle.desk.specs.Records.{Right, no_right, may_read, may_write, right_number, right_numbered, Record, G, mentioning, needed_right, kind}
use Rattle.desk.specs.Replies.{Outcome, refuse, pass, ◌>>=◌, ◌when◌, Effect, ok, no_station, outside, denied, job, admission, operation}
use Rattle.desk.specs.Replies.{grant_by}
use Rattle.slots.specs.declared.Head.{Head}
use Rattle.operations.specs.declared.refusals.Refusal.TheVariants as The
use Rattle.slots.specs.declared.Refused.{Refused}
use Rattle.slots.specs.Blocks.{value_at, given_in}
use Rattle.slots.specs.Desks.{desk_of, HoldsDesk}
use Rattle.slots.specs.Refused.{refused_for, refusing}
use Rattle.slots.specs.Works.{Work, DoneBy, Done}
use Rattle.slots.proofs.Held.{control_held}
use Rattle.slots.proofs.Rows.{given_control}
use Rattle.slots.proofs.Steps.{amiss_closed, tested, done_refusal}
use Rattle.stations.proofs.Naming.{with_control, unknown}

-- a right by its number, and none above 2
pub record Numbered (x : ℕ) : Type 0 where
  pub right : Right
  pub by_number : right_numbered x ≡ some right
  pub number : right_number right ≡ x

pub numbered : (x : ℕ) → x ≤ 2 → Numbered x
unfolding right_number
numbered zero h = record { right = no_right; by_number = refl; number = refl }
numbered (suc zero) h = record { right = may_read; by_number = refl; number = refl }
numbered (suc (suc zero)) h = record { right = may_write; by_number = refl; number = refl }
numbered (suc (suc (suc x))) h = absurd (omega arith)

not_numbered : (x : ℕ) → 2 < x → right_numbered x ≡ none
not_numbered zero h = absurd (omega arith)
not_numbered (suc zero) h = absurd (omega arith)
not_numbered (suc (suc zero)) h = absurd (omega arith)
not_numbered (suc (suc (suc x))) h = refl

module _ (h : Head) (columns : List ℕ) (H : HoldsDesk h columns) (s a x : ℕ) (out : List ℕ) where
  abbrev d : Desk
  d = desk_of h columns

  -- what the numbers mean, by whether there is such a right
  abbrev meant : Option Right → Outcome Effect
  meant o = (elim o as (λ _. _) [ none ↦ refuse no_record none | some y ↦ pass (G s a y) ]) >>= operation d

  pub no_such_right : 2 < x → (w : Result Work Refused) → w ≡ refusing The.NoRecord
      → DoneBy d (grant_by s a x >>= operation d) out h w columns out
  unfolding ◌>>=◌
  no_such_right k w q = done_refusal h columns H (meant (right_numbered x)) (refused_for The.NoRecord) (ap meant (not_numbered x k)) out w q

  pub as_record : (n : Numbered x) (w : Result Work Refused) → Done (G s a n.right) h columns out w columns out
      → DoneBy d (grant_by s a x >>= operation d) out h w columns out
  unfolding ◌>>=◌
  as_record n w done = subst (λ o. DoneBy d (meant o) out h w columns out) (sym n.by_number) done

-- the tests of G
module _ (h : Head) (columns : List ℕ) (s a : ℕ) (y : Right) where
  abbrev r : Record
  r = G s a y

  -- it needs no right
  not_denied : denied (desk_of h columns) (mentioning a ∷ []) ≡ false
  unfolding needed_right
  not_denied = by (leb 0 (own_right (desk_of h columns) (slot_number a))) (le-leb 0 (own_right (desk_of h columns) (slot_number a)) zero-le)
    where
      by : (b : Bool) → b ≡ true → not (elim b as (λ _. Bool) [ true ↦ true | false ↦ false ]) ≡ false
      by b e = ap (λ b. not (elim b as (λ _. Bool) [ true ↦ true | false ↦ false ])) e

  not_slot : (b : Bool) → is_slot a ≡ b → outside (mentioning a ∷ []) ≡ not b
  not_slot true e = ap (λ b. not (elim b as (λ _. Bool) [ true ↦ true | false ↦ false ])) e
  not_slot false e = ap (λ b. not (elim b as (λ _. Bool) [ true ↦ true | false ↦ false ])) e

  pub grant_open : is_some h.draft ≡ true → admission (desk_of h columns) r ≡ refuse wrong_state none
  unfolding kind ◌>>=◌
  grant_open o = tested h columns r (amiss_closed h columns r refl ∙ o) refl refl refl

  module _ (o : is_some h.draft ≡ false) where
    pub grant_station : 8 ≤ s → admission (desk_of h columns) r ≡ refuse station_outside none
    unfolding kind ◌>>=◌ station_count
    grant_station k =
        tested h columns r (amiss_closed h columns r refl ∙ o) (unknown h columns s false (lt-leb (s + 1) 8 (omega arith))) refl refl

    known : s < 8 → no_station (s ∷ []) ≡ false
    unfolding station_count
    known k = unknown h columns s true (le-leb (s + 1) 8 (omega arith))

    pub grant_slot : s < 8 → is_slot a ≡ false → admission (desk_of h columns) r ≡ refuse slot_outside none
    unfolding kind ◌>>=◌
    grant_slot k e = tested h columns r (amiss_closed h columns r refl ∙ o) (known k) (not_slot false e) refl

    pub grant_passed : s < 8 → is_slot a ≡ true → admission (desk_of h columns) r ≡ pass tt
    unfolding kind ◌>>=◌
    grant_passed k e = tested h columns r (amiss_closed h columns r refl ∙ o) (known k) (not_slot true e) not_denied

  -- its own
  abbrev refused : Bool → Outcome Effect
  refused b = (station_refused when b) >>= λ _. pass (with_right (desk_of h columns) s (slot_number a) (right_number y), ok)

  pub from_another : (h.control.station ≡ 0 → ⊥) → job (desk_of h columns) r ≡ refuse station_refused none
  unfolding job desk_of ◌>>=◌
  from_another n = ap (λ b. refused (not b || eqb s 0)) (ne_eqb h.control.station 0 n)

  pub for_first : s ≡ 0 → job (desk_of h columns) r ≡ refuse station_refused none
  unfolding job desk_of ◌>>=◌
  for_first e = ap (λ b. refused (not (eqb h.control.station 0) || b)) (eq-eqb s 0 e) ∙ either (not (eqb h.control.station 0))
    where
      either : (b : Bool) → refused (b || true) ≡ refuse station_refused none
      either true = refl
      either false = refl

  pub from_first : h.control.station ≡ 0 → (s ≡ 0 → ⊥)
      → job (desk_of h columns) r ≡ pass (with_right (desk_of h columns) s (slot_number a) (right_number y), ok)
  unfolding job desk_of ◌>>=◌
  from_first e n =
      ap (λ b. refused (not b || eqb s 0)) (eq-eqb h.control.station 0 e) ∙ ap (λ b. refused (false || b)) (ne_eqb s 0 n)

-- the head after a right was given
module _ (h : Head) (columns : List ℕ) (H : HoldsDesk h columns) (s i x : ℕ) (other : 1 ≤ s) (known : s < station_count)
    (fits : x ≤ max_right) where
  abbrev pub right_given : Head
  right_given = with_control h (given_in h.control s i x)

  pub given_desk : desk_of right_given columns ≡ with_right (desk_of h columns) s i x
  unfolding desk_of value_at with_right
  given_desk =
      let control = given_control h.control (control_held h columns H) s i x other known fits in
      λ j. record { slots = (desk_of h columns).slots; draft = (desk_of h columns).draft; control = control j }

  pub holds_given : IsDesk (with_right (desk_of h columns) s i x) → HoldsDesk right_given columns
  unfolding value_at
  holds_given D =
      record { sized = H.sized; headed = H.headed; is_desk_lem = subst IsDesk (sym given_desk) D; in_tables = H.in_tables; few = H.few }
