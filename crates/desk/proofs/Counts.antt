-- The counts of the stations (change request E5): a change that is done is counted for the station that is named and for no other, every
-- other line counts none, and so each station's count is the number of its changes. A refusal asks of the counts no other than the named
-- station's, by the table of refusals.
use Prim.Native.Nat.{ℕ, ◌+◌, ◌≤◌, ◌<◌}
use native.Mathlib.Omega.{arith}
use mathlib.Core.Path.{◌≡◌, refl, sym, ◌∙◌, ap, subst}
use mathlib.Core.Bool.{Bool, true, false, ◌&&◌}
use mathlib.Core.List.{[], ◌∷◌}
use mathlib.Core.Option.{Option, none}
use borrow.Author.Tests.{eqb-true, eqb-false}
use lib.Dec.{eqb}
use lib.ListN.{get_or}
use Rattle.higman.specs.Limits.{Plan}
use Rattle.higman.specs.Text.{Bytes}
use Rattle.higman.specs.Refusals.{Letter}
use Rattle.higman.specs.Words.{given}
use Rattle.higman.proofs.Tests.{all_head, all_cons}
use Rattle.desk.specs.Limits.{station_count}
use Rattle.desk.specs.Desk.{Desk, fresh_desk, station_of, changes_of, count_of, IsDesk, raised_counts, changed, with_draft, dropped}
use Rattle.desk.specs.Desk.{at_station, is_station, with_right}
use Rattle.desk.specs.Records.{Record, P, M, E, F, I, K, S, W, L, C, T, U, X, Z, stations_named, is_change, kind, Right, G, H}
use Rattle.desk.specs.Replies.{ok, ok_number, Outcome, refuse, pass, ◌>>=◌, Effect, bit, job, operation, record_of, line_operation}
use Rattle.desk.specs.Replies.{settle, respond_line}
use Rattle.desk.specs.Conditions.{conditions, first_of, refusal_of}
use Rattle.desk.specs.Stations.{is_done, made_change, OwnCountAgrees}
use Rattle.desk.proofs.Outcomes.{Passes, passes, any_then, passes_operation, operation_pass}
use Rattle.desk.proofs.Desks.{station_test}
use Rattle.desk.proofs.Stays.{counted_own, counted_other}
use Rattle.desk.proofs.Conditions.{first_condition}

-- what a line does to the count of a station
module _ (d : Desk) (D : IsDesk d) (s : ℕ) where
  abbrev pub made : Desk → ℕ
  made c = changes_of c.control s

  abbrev Counts : Bool → Effect → Type 0
  Counts b e = made e.0 ≡ bit (b && eqb (station_of d) s) + made d

  changed_adds : (i : ℕ) (x : Option Plan) → made (changed d i x) ≡ bit (eqb (station_of d) s) + made d
  unfolding changed
  changed_adds i x = by (eqb (station_of d) s) refl
    where
      by : (b : Bool) → eqb (station_of d) s ≡ b → get_or (raised_counts d.control) s 0 ≡ bit b + made d
      by true e =
          subst (λ k. get_or (raised_counts d.control) k 0 ≡ 1 + changes_of d.control k) (eqb-true (station_of d) s e)
          (omega (arith, counted_own d.control D.control))
      by false e = omega (arith, counted_other d.control s (eqb-false (station_of d) s e))

  none_added : made d ≡ 0 + made d
  none_added = omega arith

  job_adds : (r : Record) → Passes (Counts (is_change r)) (job d r)
  unfolding job kind with_draft at_station with_right
  job_adds (P a n r) = any_then _ (λ _. passes none_added)
  job_adds (M from to) = any_then _ (λ _. any_then _ (λ _. any_then _ (λ _. passes none_added)))
  job_adds E = any_then _ (λ _. any_then _ (λ _. passes (changed_adds _ _)))
  job_adds (F a b c) = any_then _ (λ _. any_then _ (λ _. any_then _ (λ _. passes (changed_adds _ _))))
  job_adds (I a c) = any_then _ (λ _. any_then _ (λ _. passes (changed_adds _ _)))
  job_adds (K a k c) = any_then _ (λ _. any_then _ (λ _. any_then _ (λ _. passes (changed_adds _ _))))
  job_adds (S a b) = any_then _ (λ _. any_then _ (λ _. any_then _ (λ _. passes none_added)))
  job_adds (W a code) = any_then _ (λ _. any_then _ (λ _. passes none_added))
  job_adds (L a) = any_then _ (λ _. passes none_added)
  job_adds (C a) = any_then _ (λ _. passes (changed_adds _ _))
  job_adds T = passes none_added
  job_adds U = passes none_added
  job_adds (X a n r k seed) = any_then _ (λ _. any_then _ (λ _. passes (changed_adds _ _)))
  job_adds (Z k) = passes none_added
  job_adds (G k a x) = any_then _ (λ _. passes none_added)
  job_adds H = any_then _ (λ _. passes none_added)

  pub line_adds : (l : Bytes) → made (respond_line d l).0 ≡ bit (made_change d l && eqb (station_of d) s) + made d
  unfolding respond_line line_operation ◌>>=◌ dropped
  line_adds l = by_record (record_of l)
    where
      by_outcome : (b : Bool) (o : Outcome Effect) → Passes (Counts b) o
          → made (settle d o).0 ≡ bit ((b && is_done o) && eqb (station_of d) s) + made d
      by_outcome true (refuse n c) h = none_added
      by_outcome false (refuse n c) h = none_added
      by_outcome true (pass e) (passes h) = h
      by_outcome false (pass e) (passes h) = h

      changes : Outcome Record → Bool
      changes o = elim o [ refuse n c ↦ false | pass r ↦ is_change r && is_done (operation d r) ]

      by_record : (o : Outcome Record) → made (settle d (o >>= operation d)).0 ≡ bit (changes o && eqb (station_of d) s) + made d
      by_record (refuse n c) = none_added
      by_record (pass r) = by_outcome (is_change r) (operation d r) (passes_operation d r (λ _. job_adds r))

-- Z and T are done wherever no plan is open and, of Z, the station is one
pub named_done : (d : Desk) (s : ℕ) → d.draft ≡ none → s ≤ 7 → operation d (Z s) ≡ pass (at_station d s, ok)
unfolding job kind station_count
named_done d s o k =
    let known = all_cons is_station s [] ((station_test s).1 (omega arith)) tt in
    operation_pass d (Z s) (at_station d s, ok)
    (record { admitted = record { open_fits = ap given o; stations_known = known; slots_named_fact = tt; allowed = tt }; room = refl }) refl

pub told_done : (d : Desk) → d.draft ≡ none → operation d T ≡ pass (d, ok_number (count_of d))
unfolding job kind
told_done d o =
    operation_pass d T (d, ok_number (count_of d))
    (record { admitted = record { open_fits = ap given o; stations_known = tt; slots_named_fact = tt; allowed = tt }; room = refl }) refl

pub names_own : (s : ℕ) → stations_named (Z s) ≡ s ∷ []
unfolding kind
names_own s = refl

pub names_none : (r : Record) → ((s : ℕ) → r ≡ Z s → ⊥) → ((s a : ℕ) (x : Right) → r ≡ G s a x → ⊥) → stations_named r ≡ []
unfolding kind
names_none (P a n r) h k = refl
names_none (M from to) h k = refl
names_none E h k = refl
names_none (F a b c) h k = refl
names_none (I a c) h k = refl
names_none (K a j c) h k = refl
names_none (S a b) h k = refl
names_none (W a code) h k = refl
names_none (L a) h k = refl
names_none (C a) h k = refl
names_none T h k = refl
names_none U h k = refl
names_none (X a n r s seed) h k = refl
names_none (Z s) h k = absurd (h s refl)
names_none (G s a x) h k = absurd (k s a x refl)
names_none H h k = refl

pub name_steps : (d : Desk) (s : ℕ) → Passes (λ e. (s < station_count) × (e ≡ (at_station d s, ok))) (operation d (Z s))
unfolding job kind
name_steps d s = passes_operation d (Z s) (λ t. passes ((station_test s).0 (all_head is_station s [] t.admitted.stations_known), refl))

pub stay_steps : (d : Desk) (r : Record) → ((s : ℕ) → r ≡ Z s → ⊥) → Passes (λ e. station_of e.0 ≡ station_of d) (job d r)
unfolding job changed with_draft with_right
stay_steps d (P a n r) h = any_then _ (λ _. passes refl)
stay_steps d (M from to) h = any_then _ (λ _. any_then _ (λ _. any_then _ (λ _. passes refl)))
stay_steps d E h = any_then _ (λ _. any_then _ (λ _. passes refl))
stay_steps d (F a b c) h = any_then _ (λ _. any_then _ (λ _. any_then _ (λ _. passes refl)))
stay_steps d (I a c) h = any_then _ (λ _. any_then _ (λ _. passes refl))
stay_steps d (K a k c) h = any_then _ (λ _. any_then _ (λ _. any_then _ (λ _. passes refl)))
stay_steps d (S a b) h = any_then _ (λ _. any_then _ (λ _. any_then _ (λ _. passes refl)))
stay_steps d (W a code) h = any_then _ (λ _. any_then _ (λ _. passes refl))
stay_steps d (L a) h = any_then _ (λ _. passes refl)
stay_steps d (C a) h = any_then _ (λ _. passes refl)
stay_steps d T h = passes refl
stay_steps d U h = passes refl
stay_steps d (X a n r s seed) h = any_then _ (λ _. any_then _ (λ _. passes refl))
stay_steps d (Z s) h = absurd (h s refl)
stay_steps d (G s a x) h = any_then _ (λ _. passes refl)
stay_steps d H h = any_then _ (λ _. passes refl)

pub refused_stays : (d : Desk) (l : Bytes) (n : ℕ) (c : Option Letter) → line_operation d l ≡ refuse n c
    → (respond_line d l).0.control ≡ d.control
unfolding respond_line dropped
refused_stays d l n c e = ap (λ o. (settle d o).0.control) e

-- the table of refusals asks of a desk what its slots hold, what is open, the count of the named station, and its rights
conditions_agree : (d c : Desk) → OwnCountAgrees d c → (r : Record) → conditions d r ≡ conditions c r
unfolding conditions
conditions_agree d c h (P a n r) = rw (h.draft, h.station, h.rights) refl
conditions_agree d c h (M from to) = rw h.draft refl
conditions_agree d c h E = rw (h.draft, h.own) refl
conditions_agree d c h (F a b x) = rw (h.slots, h.draft, h.own, h.station, h.rights) refl
conditions_agree d c h (I a x) = rw (h.slots, h.draft, h.own, h.station, h.rights) refl
conditions_agree d c h (K a k x) = rw (h.slots, h.draft, h.own, h.station, h.rights) refl
conditions_agree d c h (S a b) = rw (h.slots, h.draft, h.station, h.rights) refl
conditions_agree d c h (W a code) = rw (h.slots, h.draft, h.station, h.rights) refl
conditions_agree d c h (L a) = rw (h.slots, h.draft, h.station, h.rights) refl
conditions_agree d c h (C a) = rw (h.slots, h.draft, h.own, h.station, h.rights) refl
conditions_agree d c h T = rw h.draft refl
conditions_agree d c h U = rw h.draft refl
conditions_agree d c h (X a n r s seed) = rw (h.draft, h.own, h.station, h.rights) refl
conditions_agree d c h (Z s) = rw h.draft refl
conditions_agree d c h (G s a x) = rw (h.draft, h.station) refl
conditions_agree d c h H = rw (h.draft, h.station) refl

pub refused_alike : (d c : Desk) → IsDesk d → IsDesk c → OwnCountAgrees d c → (r : Record)
    → refusal_of (operation d r) ≡ refusal_of (operation c r)
refused_alike d c D D' h r = first_condition d D r ∙ ap first_of (conditions_agree d c h r) ∙ sym (first_condition c D' r)

pub first_station : station_of fresh_desk ≡ 0
unfolding fresh_desk
first_station = refl

pub named_below : (s : ℕ) → s < station_count → s ≤ 7
unfolding station_count
named_below s h = omega arith
