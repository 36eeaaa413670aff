-- The pairs that are held (change request E8): what a change kept and what it lost, record by record, so that the stored sum is the one
-- less the other; and what H tells, and to whom.
use Prim.Native.Nat.{ℕ, ◌+◌, ◌<◌}
use native.Mathlib.Omega.{arith}
use mathlib.Core.Path.{◌≡◌, refl, sym, ◌∙◌, ap, ap₂, subst}
use mathlib.Core.Logic.{◌⊎◌, inl, inr}
use mathlib.Core.Bool.{Bool, true, false, ◌&&◌, not}
use mathlib.Core.List.Memᴰ
use mathlib.Core.List.{List, [], ◌∷◌, Memᴰ}
use mathlib.Core.Option.{Option, none, some}
use borrow.Author.Tests.{eqb-true, ne_eqb, not-false}
use lib.Dec.{eqb}
use lib.ListN.{length}
use Rattle.higman.specs.Words.{given}
use Rattle.higman.specs.Limits.{Plan, slot_count}
use Rattle.higman.specs.Listing.{slot_number}
use Rattle.higman.specs.Refusals.{station_refused}
use Rattle.higman.specs.Text.{Bytes}
use Rattle.higman.proofs.Tests.{clash}
use Rattle.desk.specs.Desk.{Draft, Desk, station_of, held, pairs_of_slot, IsDesk, changed, with_draft, dropped, at_station}
use Rattle.desk.specs.Desk.{with_right}
use Rattle.desk.specs.Records.{Record, P, M, E, F, I, K, S, W, L, C, T, U, X, Z, G, H, needs_open, slots_named}
use Rattle.desk.specs.Records.{Use, reads, target, mentions, SlotUse, writing, is_change, kind}
use Rattle.desk.specs.Replies.{Reply, ok, ok_number, Outcome, refuse, pass, ◌>>=◌, ◌when◌, Effect, is_open, keep_in, closed, job}
use Rattle.desk.specs.Replies.{admission, operation, record_of, settle, line_operation, respond_line, run, desk_after}
use Rattle.desk.specs.Stations.{is_done, made_change}
use Rattle.desk.specs.Pairs.{pairs_told, target_slots, slots_changed, pairs_at, Tally, no_pairs, tally_of, tally, TallyExact}
use Rattle.desk.proofs.Outcomes.{Passes, passes, passes_then, any_then, plan_open, test_failed, Tested, passes_operation}
use Rattle.desk.proofs.Outcomes.{operation_pass}
use Rattle.desk.proofs.Replies.{desk_parts}
use Rattle.desk.proofs.Stays.{desk_stays, slot_of_record}
use Rattle.desk.proofs.Sums.{pairs_at_lem}
use Rattle.desk.proofs.Rights.{none_open}

abbrev sum : Desk → ℕ
sum d = d.control.pairs

-- what a change does: it writes to one slot, its reply tells what that holds, and the sum changes by its reply and by what the slot held
record Tallied (d : Desk) (r : Record) (e : Effect) : Type 0 where
  slot : ℕ
  only : slots_changed d r ≡ slot ∷ []
  told : pairs_told e.1 ≡ pairs_of_slot (held e.0 slot)
  moved : sum e.0 + pairs_at d (slots_changed d r) ≡ sum d + pairs_told e.1

-- the pairs that a slot holds after a line, and those that it held before
abbrev tally_at : Desk → Bytes → ℕ → Tally
tally_at d l i = record { kept = pairs_of_slot (held (respond_line d l).0 i); lost = pairs_of_slot (held d i) }

module _ (d : Desk) where
  -- the slots that a record changes, by whether a plan is open
  slots_closed : (r : Record) → d.draft ≡ none → slots_changed d r ≡ target_slots (slots_named r)
  slots_closed r e = rw e refl

  slot_open : (r : Record) (o : Draft) → d.draft ≡ some o → slots_changed d r ≡ o.slot ∷ []
  slot_open r o e = rw e refl

  -- whether a line made a change, by its record, and what is tallied of it, by its reply too
  abbrev made_by : Outcome Record → Bool
  made_by o = elim o as (λ _. Bool) [ refuse n c ↦ false | pass r ↦ is_change r && is_done (operation d r) ]

  abbrev change_by : Outcome Record → Reply → Tally
  change_by o y =
      elim o [ refuse n c ↦ no_pairs | pass r ↦ record { kept = pairs_told y; lost = pairs_at d (slots_changed d r) } ]

module _ (d : Desk) (D : IsDesk d) where
  -- no plan is open at a record of slots
  closed_at : (r : Record) → needs_open r ≡ false → Tested d r → slots_changed d r ≡ target_slots (slots_named r)
  closed_at r n t =
      let as-open = sym {A = Bool} (ap (λ b. elim b as (λ _. Bool) [ true ↦ not (is_open d) | false ↦ is_open d ]) n) in
      slots_closed d r (none_open d.draft (as-open ∙ t.admitted.open_fits))

  tallied : (r : Record) (i : ℕ) → i < slot_count → slots_changed d r ≡ i ∷ [] → (x : Option Plan) (y : Reply) → pairs_told y ≡ pairs_of_slot x
      → Tallied d r (changed d i x, y)
  tallied r i b e x y q =
      let within = pairs_at_lem d.slots i in
      let moved = desk_parts.changed_pairs d i x (omega (arith, within, D.summed)) in
      record {
        slot = i;
        only = e;
        told = q ∙ ap pairs_of_slot (sym (desk_parts.changed_here d i x D.eight b));
        moved = subst (λ is. sum (changed d i x) + pairs_at d is ≡ sum d + pairs_told y) (sym e) (omega (arith, moved, q));
      }

  kept_told : (r : Record) (i : ℕ) → i < slot_count → slots_changed d r ≡ i ∷ [] → (p : Plan) → Tallied d r (keep_in d i p)
  kept_told r i b e p = tallied r i b e (some p) (ok_number (length p.rows)) refl

  -- a record that is no change leaves the sum
  abbrev Told : Bool → Record → Effect → Type 0
  Told true r e = Tallied d r e
  Told false r e = sum e.0 ≡ sum d

  job_told : (r : Record) → Tested d r → Passes (Told (is_change r) r) (job d r)
  unfolding job kind with_draft at_station with_right
  job_told (P a n r) t = any_then _ (λ _. passes refl)
  job_told (M from to) t = any_then _ (λ _. any_then _ (λ _. any_then _ (λ _. passes refl)))
  job_told E t =
      passes_then (plan_open d) (λ o e. any_then _ (λ _. passes
      (kept_told E o.slot (D.drafted o e).slot_named (slot_open d E o e) (closed o))))
  job_told (F a b c) t =
      let named = slot_of_record d (F a b c) t (writing c) (Memᴰ.tail (Memᴰ.tail (Memᴰ.head refl))) in
      any_then _ (λ _. any_then _ (λ _. any_then _ (λ p. passes (kept_told (F a b c) _ named (closed_at (F a b c) refl t) p))))
  job_told (I a c) t =
      let named = slot_of_record d (I a c) t (writing c) (Memᴰ.tail (Memᴰ.head refl)) in
      any_then _ (λ _. any_then _ (λ p. passes (kept_told (I a c) _ named (closed_at (I a c) refl t) p)))
  job_told (K a k c) t =
      let named = slot_of_record d (K a k c) t (writing c) (Memᴰ.tail (Memᴰ.head refl)) in
      any_then _ (λ _. any_then _ (λ _. any_then _ (λ p. passes (kept_told (K a k c) _ named (closed_at (K a k c) refl t) p))))
  job_told (S a b) t = any_then _ (λ _. any_then _ (λ _. any_then _ (λ _. passes refl)))
  job_told (W a code) t = any_then _ (λ _. any_then _ (λ _. passes refl))
  job_told (L a) t = any_then _ (λ _. passes refl)
  job_told (C a) t =
      let named = slot_of_record d (C a) t (writing a) (Memᴰ.head refl) in
      any_then _ (λ _. passes (tallied (C a) _ named (closed_at (C a) refl t) none ok refl))
  job_told T t = passes refl
  job_told U t = passes refl
  job_told (X a n r s seed) t =
      let named = slot_of_record d (X a n r s seed) t (writing a) (Memᴰ.head refl) in
      any_then _ (λ _. any_then _ (λ p. passes (kept_told (X a n r s seed) _ named (closed_at (X a n r s seed) refl t) p)))
  job_told (Z s) t = passes refl
  job_told (G s a x) t = any_then _ (λ _. passes refl)
  job_told H t = any_then _ (λ _. passes refl)

  dropped_sum : sum (dropped d) ≡ sum d
  unfolding dropped
  dropped_sum = refl

  abbrev Step : Tally → Desk → Type 0
  Step y c = sum c + y.lost ≡ sum d + y.kept

  -- the tally of a line by its record, if it has one, and by what comes of it
  abbrev tally_of_done : Bool → Record → Reply → Tally
  tally_of_done b r y = elim b [ false ↦ no_pairs | true ↦ record { kept = pairs_told y; lost = pairs_at d (slots_changed d r) } ]

  abbrev tally_by : Outcome Record → Reply → Tally
  tally_by (refuse n c) y = no_pairs
  tally_by (pass r) y = tally_of_done (is_change r && is_done (operation d r)) r y

  tally_by_lem : (o : Outcome Record) (y : Reply)
      → elim (made_by d o) as (λ _. Tally) [ false ↦ no_pairs | true ↦ change_by d o y ] ≡ tally_by o y
  tally_by_lem (refuse n c) y = refl
  tally_by_lem (pass r) y = refl

  line_told : (l : Bytes) → Step (tally_of d l) (respond_line d l).0
  unfolding respond_line line_operation ◌>>=◌
  line_told l = subst (λ y. Step y (respond_line d l).0) (sym (tally_by_lem (record_of l) (respond_line d l).1)) (by (record_of l))
    where
      by_outcome : (b : Bool) (r : Record) (o : Outcome Effect) → Passes (Told b r) o
          → Step (tally_of_done (b && is_done o) r (settle d o).1) (settle d o).0
      by_outcome true r (refuse n c) k = omega (arith, dropped_sum)
      by_outcome false r (refuse n c) k = omega (arith, dropped_sum)
      by_outcome true r (pass e) (passes k) = k.moved
      by_outcome false r (pass e) (passes k) = omega (arith, k)

      by : (o : Outcome Record) → Step (tally_by o (settle d (o >>= operation d)).1) (settle d (o >>= operation d)).0
      by (refuse n c) = omega (arith, dropped_sum)
      by (pass r) = by_outcome (is_change r) r (operation d r) (passes_operation d r (job_told r))

  -- a line that made a change
  change_told : (l : Bytes) (r : Record) → record_of l ≡ pass r → made_change d l ≡ true → Tallied d r (respond_line d l)
  unfolding respond_line line_operation ◌>>=◌
  change_told l r e m =
      subst (λ o. made_by d o ≡ true → Tallied d r (settle d (o >>= operation d))) (sym e)
      (by (is_change r) (operation d r) (passes_operation d r (job_told r))) m
    where
      by : (b : Bool) (o : Outcome Effect) → Passes (Told b r) o → (b && is_done o) ≡ true → Tallied d r (settle d o)
      by true (refuse n c) k q = absurd (clash q refl)
      by true (pass e) (passes k) q = k
      by false o k q = absurd (clash q refl)

  -- and what is tallied of it
  change_tallied : (l : Bytes) (r : Record) → record_of l ≡ pass r → made_change d l ≡ true → (i : ℕ) → Memᴰ i (slots_changed d r)
      → tally_of d l ≡ tally_at d l i
  change_tallied l r e m i named =
      let t = change_told l r e m in
      let here = one_of i t.slot (subst (Memᴰ i) t.only named) in
      let kept = t.told ∙ ap (λ j. pairs_of_slot (held (respond_line d l).0 j)) (sym here) in
      let lost = ap (pairs_at d) t.only ∙ only_at t.slot ∙ ap (λ j. pairs_of_slot (held d j)) (sym here) in
      let reply = (respond_line d l).1 in
      tally_by_lem (record_of l) reply ∙ ap (λ o. tally_by o reply) e ∙ ap (λ b. tally_of_done b r reply) (subst (λ o. made_by d o ≡ true) e m)
      ∙ ap₂ (λ (k : ℕ) (n : ℕ). record { kept = k; lost = n }) kept lost
    where
      one_of : (i j : ℕ) → Memᴰ i (j ∷ []) → i ≡ j
      one_of i j named = by (Memᴰ.cases_cons named)
        where
          by : (i ≡ j) ⊎ Memᴰ i [] → i ≡ j
          by (inl q) = q
          by (inr none_left) = absurd (Memᴰ.not-nil none_left)

      only_at : (j : ℕ) → pairs_at d (j ∷ []) ≡ pairs_of_slot (held d j)
      only_at j = omega arith

pub lines_told : (ls : List Bytes) (d : Desk) → IsDesk d → sum (desk_after d (run d ls)) + (tally d ls).lost ≡ sum d + (tally d ls).kept
unfolding run tally
lines_told [] d D = refl
lines_told (l ∷ ls) d D =
    let here = line_told d D l in
    let rest = lines_told ls (respond_line d l).0 (desk_stays.line d l D) in
    omega (arith, here, rest)

pub lines_stay : (ls : List Bytes) (d : Desk) → IsDesk d → IsDesk (desk_after d (run d ls))
unfolding run
lines_stay [] d D = D
lines_stay (l ∷ ls) d D = lines_stay ls (respond_line d l).0 (desk_stays.line d l D)

-- H
sum_tested : (d : Desk) → d.draft ≡ none → Tested d H
unfolding kind
sum_tested d o = record { admitted = record { open_fits = ap given o; stations_known = tt; slots_named_fact = tt; allowed = tt }; room = refl }

pub tells : (d : Desk) → d.draft ≡ none → station_of d ≡ 0 → operation d H ≡ pass (d, ok_number (sum d))
unfolding job ◌>>=◌
tells d o e =
    operation_pass d H (d, ok_number (sum d)) (sum_tested d o)
    (ap (λ s. (station_refused when not (eqb s 0)) >>= λ _. pass (d, ok_number (sum d))) e)

pub told_steps : (d : Desk) → Passes (λ e. (station_of d ≡ 0) × (e ≡ (d, ok_number (sum d)))) (operation d H)
unfolding job
told_steps d =
    passes_operation d H (λ _. passes_then (test_failed station_refused (not (eqb (station_of d) 0)))
    (λ _ q. passes (eqb-true (station_of d) 0 (not-false _ q), refl)))

pub not_told : (d : Desk) → d.draft ≡ none → (station_of d ≡ 0 → ⊥) → operation d H ≡ refuse 19 none
unfolding operation admission job kind ◌>>=◌
not_told d o n = rw (ap given o, ne_eqb (station_of d) 0 n) refl

-- a target that a record names is among the slots that it changes
target_named : (us : List SlotUse) (u : SlotUse) → Memᴰ u us → u.does ≡ target → Memᴰ (slot_number u.slot) (target_slots us)
target_named (v ∷ us) u m e = by (Memᴰ.cases_cons m) (λ k. target_named us u k e)
  where
    with : Use → List ℕ
    with x = elim x [ reads ↦ target_slots us | target ↦ slot_number v.slot ∷ target_slots us | mentions ↦ target_slots us ]

    behind : (x : Use) → Memᴰ (slot_number u.slot) (target_slots us) → Memᴰ (slot_number u.slot) (with x)
    behind reads k = k
    behind target k = Memᴰ.tail k
    behind mentions k = k

    by : (u ≡ v) ⊎ Memᴰ u us → (Memᴰ u us → Memᴰ (slot_number u.slot) (target_slots us))
        → Memᴰ (slot_number u.slot) (target_slots (v ∷ us))
    by (inl q) rest =
        subst (λ x. Memᴰ (slot_number u.slot) (with x)) (sym e ∙ ap (λ w. w.does) q)
        (Memᴰ.head (ap (λ w. slot_number w.slot) q))
    by (inr k) rest = behind v.does (rest k)
target_named [] u m e = absurd (Memᴰ.not-nil m)

pub tally_exact : TallyExact
unfolding tally
tally_exact =
    record {
      no_lines = λ d. refl;
      lines = λ d l ls. (refl, refl);
      no_change = λ d l m. rw (m, tally_of) refl;
      target_changed = λ d l r D o e m u named t.
          change_tallied d D l r e m (slot_number u.slot)
          (subst (Memᴰ (slot_number u.slot)) (sym (slots_closed d r o)) (target_named (slots_named r) u named t));
      plan_closed = λ d l o D q m. closed_tallied d D l o q m (record_of l) refl;
      replied = λ d l n m e. rw (m, tally_of) (kept_replied d (respond_line d l).1 n e (record_of l) m);
    }
  where
    kept_replied : (d : Desk) (y : Reply) (n : ℕ) → y ≡ ok_number n → (o : Outcome Record) → made_by d o ≡ true → (change_by d o y).kept ≡ n
    kept_replied d y n e (refuse k c) m = absurd (clash m refl)
    kept_replied d y n e (pass r) m = ap pairs_told e

    closed_tallied : (d : Desk) → IsDesk d → (l : Bytes) (o : Draft) → d.draft ≡ some o → made_change d l ≡ true
        → (x : Outcome Record) → record_of l ≡ x → tally_of d l ≡ tally_at d l o.slot
    closed_tallied d D l o q m (pass r) e =
        change_tallied d D l r e m o.slot (subst (Memᴰ o.slot) (sym (slot_open d r o q)) (Memᴰ.head refl))
    closed_tallied d D l o q m (refuse n c) e = absurd (clash m (ap (made_by d) e))
