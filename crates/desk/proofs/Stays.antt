-- A desk stays one, whatever line it is given. What is kept is a kept plan by higman's theorems; the rest is that one slot is
-- written and the others are not.
use Prim.Native.Nat.{ℕ, zero, suc, ◌+◌, ◌-◌, ◌≤◌, ◌<◌}
use native.Mathlib.Omega.{arith}
use mathlib.Core.Path.{◌≡◌, refl, sym, ◌∙◌, subst}
use mathlib.Core.Logic.{◌⊎◌, inl, inr}
use mathlib.Core.Bool.{Bool, true, false, ◌&&◌}
use mathlib.Core.List.{List, [], ◌∷◌, ◌++◌, map-append, Memᴰ}
use mathlib.Core.Option.{Option, none, some, some-injective, none-ne-some}
use borrow.Author.Tests.{leb-false, eqb-true, eqb-false}
use lib.Dec.{T, leb, eqb, le→leb, nleb→lt, not_T, lit≤}
use lib.ListN.{length, get_or, set, length-set, length-append, length-replicate}
use Rattle.higman.specs.Words.{Shape, is_word}
use Rattle.higman.specs.Bases.{all}
use Rattle.higman.specs.Tables.{Pair, Table, froms, tos}
use Rattle.higman.specs.Limits.{Plan, Kept, shape_in_range, granted, fits, pair_fits, max_pairs, slot_count, is_plan_word}
use Rattle.higman.specs.Answers.{Verdict, Accepted, InFrom, InTo, verdict, Answer, Granted, Refused, followed, inverted, powered}
use Rattle.higman.proofs.Listing.{slots_exact}
use Rattle.higman.proofs.Demand3.{demand3}
use Rattle.higman.proofs.Statements.{answers_exact}
use Rattle.higman.specs.Exercises.{exercise}
use Rattle.higman.proofs.Exercises.{exercises_exact}
use Rattle.higman.proofs.Tests.{so, clash, and_left, and_right, and_intro, all_at, all_head, all_snoc}
use Rattle.higman.proofs.KeptPlans.{arity_of_range}
use Rattle.higman.specs.Text.{Bytes, word_of}
use Rattle.higman.proofs.PlanWords.{word_of_plan_word, plan_word_fits}
use Rattle.higman.specs.Refusals.{wrong_state, shape_outside, bad_word, pairs_full, slot_empty}
use Rattle.desk.specs.Limits.{station_count, max_right, max_changes}
use Rattle.desk.specs.Desk.{Draft, Control, Desk, fresh_control, fresh_desk, changes_of, count_in, count_of, held, IsDraft, IsControl}
use Rattle.desk.specs.Desk.{IsDesk, raised_counts, counted, giving, with_right}
use Rattle.desk.specs.Desk.{changed, with_draft, dropped, naming, at_station, with_pair, is_station}
use Rattle.desk.specs.Records.{Record, P, M, E, F, I, K, S, W, L, C, T as Tᴿ, U, X, Z, G, H, SlotUse, writing, slots_named}
use Rattle.desk.specs.Records.{Right, no_right, may_read, may_write, right_number, kind}
use Rattle.higman.specs.Listing.{slot_number, is_slot}
use Rattle.desk.specs.Replies.{Outcome, refuse, pass, open_plan, plan_in, at_limit, of_verdict, of_answer, Effect, new_draft, closed, job}
use Rattle.desk.specs.Replies.{operation, record_of, line_operation, settle, respond_line}
use Rattle.desk.specs.Theorems.{DeskStays}
use Rattle.desk.proofs.Desks.{station_test}
use Rattle.desk.proofs.Sums.{no_pairs_lem, pairs_set, pairs_at_lem}
use Rattle.desk.proofs.Outcomes.{Passes, stops, passes, passes_then, any_then, test_failed, test_held, Tested, passes_operation}
use Rattle.desk.proofs.Given.{set_here, set_elsewhere, replicated, given_rights, fresh_rights_lem}

-- what a slot holds after one was written: what was written, or what it held
held_set : (l : List (Option Plan)) (i j : ℕ) (x : Option Plan) (p : Plan) → get_or (set l i x) j none ≡ some p
    → (x ≡ some p) ⊎ (get_or l j none ≡ some p)
held_set [] i j x p e = inr e
held_set (y ∷ l) zero zero x p e = inl e
held_set (y ∷ l) zero (suc j) x p e = inr e
held_set (y ∷ l) (suc i) zero x p e = inr e
held_set (y ∷ l) (suc i) (suc j) x p e = held_set l i j x p e

pub below_limit : (d : Desk) → at_limit d ≡ false → count_of d < max_changes
below_limit d e = leb-false max_changes (count_of d) e

-- a change more, of the station that is named: its own count is one higher, and the others are what they were
module _ (c : Control) where
  pub counted_own : IsControl c → get_or (raised_counts c) c.station 0 ≡ count_in c + 1
  counted_own h = set_here c.changes c.station (count_in c + 1) 0 (omega (arith, h.named, h.each))

  pub counted_other : (s : ℕ) → (c.station ≡ s → ⊥) → get_or (raised_counts c) s 0 ≡ changes_of c s
  counted_other s n = set_elsewhere c.changes c.station s (count_in c + 1) 0 n

  pub counted_control : (lost kept : ℕ) → IsControl c → count_in c < max_changes → IsControl (counted c lost kept)
  counted_control lost kept h b =
      record {
        named = h.named;
        each = length-set c.changes c.station (count_in c + 1) ∙ h.each;
        within = λ s. by s (eqb c.station s) refl;
        rights = h.rights;
      }
    where
      by : (s : ℕ) (t : Bool) → eqb c.station s ≡ t → get_or (raised_counts c) s 0 ≤ max_changes
      by s true e = subst (λ k. get_or (raised_counts c) k 0 ≤ max_changes) (eqb-true c.station s e) (omega (arith, counted_own h))
      by s false e = omega (arith, counted_other s (eqb-false c.station s e), h.within s)

  pub naming_control : IsControl c → (s : ℕ) → s < station_count → IsControl (naming c s)
  naming_control h s k = record { named = k; each = h.each; within = h.within; rights = h.rights }

  pub giving_control : IsControl c → (s i x : ℕ) → x ≤ max_right → IsControl (giving c s i x)
  giving_control h s i x k =
      record { named = h.named; each = h.each; within = h.within; rights = given_rights c.rights h.rights s i x k }

some_station : 0 < station_count
unfolding station_count
some_station = omega arith

fresh_control_lem : IsControl fresh_control
fresh_control_lem =
    record {
      named = some_station;
      each = length-replicate station_count 0;
      within = λ s. omega (arith, replicated {A = ℕ} station_count s 0);
      rights = fresh_rights_lem;
    }

no_draft : {A : Type 0} {o : Draft} → none ≡ some o → A
no_draft q = absurd (none-ne-some _ q)

changed_desk : (d : Desk) → IsDesk d → at_limit d ≡ false → (i : ℕ) → i < slot_count → (x : Option Plan)
    → ((p : Plan) → x ≡ some p → Kept p) → IsDesk (changed d i x)
unfolding changed
changed_desk d h e i b x k =
    record {
      eight = length-set d.slots i x ∙ h.eight;
      kept = λ j p q. by j p (held_set d.slots i j x p q);
      drafted = λ o q. no_draft q;
      control = counted_control d.control _ _ h.control (below_limit d e);
      summed =
          let inside : i < length d.slots = omega (arith, h.eight) in
          omega (arith, pairs_set d.slots i x inside, pairs_at_lem d.slots i, h.summed);
    }
  where
    by : (j : ℕ) (p : Plan) → (x ≡ some p) ⊎ (held d j ≡ some p) → Kept p
    by j p (inl q) = k p q
    by j p (inr q) = h.kept j p q

pub dropped_desk : (d : Desk) → IsDesk d → IsDesk (dropped d)
unfolding dropped
dropped_desk d h = record { eight = h.eight; kept = h.kept; drafted = λ o q. no_draft q; control = h.control; summed = h.summed }

drafted_desk : (d : Desk) → IsDesk d → (o : Draft) → IsDraft o → IsDesk (with_draft d o)
unfolding with_draft
drafted_desk d h o k =
    record {
      eight = h.eight;
      kept = h.kept;
      drafted = λ o' q. subst IsDraft (some-injective o o' q) k;
      control = h.control;
      summed = h.summed;
    }

station_desk : (d : Desk) → IsDesk d → (s : ℕ) → s < station_count → IsDesk (at_station d s)
unfolding at_station
station_desk d h s k =
    let control = naming_control d.control h.control s k in
    record { eight = h.eight; kept = h.kept; drafted = h.drafted; control = control; summed = h.summed }

right_desk : (d : Desk) → IsDesk d → (s i : ℕ) (x : Right) → IsDesk (with_right d s i (right_number x))
unfolding with_right right_number max_right
right_desk d h s i x =
    record {
      eight = h.eight;
      kept = h.kept;
      drafted = h.drafted;
      control =
          giving_control d.control h.control s i (right_number x) (within x);
      summed = h.summed;
    }
  where
    within : (x : Right) → right_number x ≤ max_right
    within no_right = lit≤ tt
    within may_read = lit≤ tt
    within may_write = lit≤ tt

fresh_desk_lem : IsDesk fresh_desk
unfolding fresh_desk
fresh_desk_lem =
    record {
      eight = length-replicate slot_count none;
      kept = λ i p q. absurd (none-ne-some p (sym (replicated slot_count i none) ∙ q));
      drafted = λ o q. no_draft q;
      control = fresh_control_lem;
      summed = sym (no_pairs_lem slot_count);
    }

-- what each step passes on
plan_kept : (d : Desk) → IsDesk d → (b : ℕ) → Passes Kept (plan_in d b)
plan_kept d h b = by (held d (slot_number b)) refl
  where
    by : (x : Option Plan) → held d (slot_number b) ≡ x → Passes Kept (elim x [ none ↦ refuse slot_empty none | some p ↦ pass p ])
    by none q = stops
    by (some p) q = passes (h.kept (slot_number b) p q)

draft_open : (d : Desk) → IsDesk d → Passes IsDraft (open_plan d)
draft_open d h = by d.draft refl
  where
    by : (x : Option Draft) → d.draft ≡ x → Passes IsDraft (elim x [ none ↦ refuse wrong_state none | some o ↦ pass o ])
    by none q = stops
    by (some o) q = passes (h.drafted o q)

granted_kept : (a : Answer) → ((p : Plan) → a ≡ Granted p → Kept p) → Passes Kept (of_answer a)
granted_kept (Granted p) k = passes (k p refl)
granted_kept (Refused r) k = stops

pub verdict_accepted : (v : Verdict) → Passes (λ _. v ≡ Accepted) (of_verdict v)
verdict_accepted Accepted = passes refl
verdict_accepted (InFrom r) = stops
verdict_accepted (InTo r) = stops

pub slot_below : (a : ℕ) → T (is_slot a) → slot_number a < slot_count
slot_below a h = slots_exact.numbered a h

pub new_draft_lem : (a : ℕ) (s : Shape) → slot_number a < slot_count → T (shape_in_range s) → IsDraft (new_draft a s)
unfolding granted max_pairs
new_draft_lem a s h k = record { slot_named = h; in_range = k; within = tt; from_words = tt; to_words = tt }

granted_snoc : (t : Table) (p : Pair) → T (granted t) → T (pair_fits p) → leb max_pairs (length t) ≡ false → T (granted (t ++ (p ∷ [])))
unfolding granted
granted_snoc t p h k e =
    let room : length t < max_pairs = nleb→lt max_pairs (length t) (not_T (leb max_pairs (length t)) (λ b. clash (so (leb max_pairs (length t)) b) e)) in
    and_intro (leb (length (t ++ (p ∷ []))) max_pairs) (all pair_fits (t ++ (p ∷ [])))
    (le→leb (length (t ++ (p ∷ []))) max_pairs (simp length-append (omega arith)))
    (all_snoc pair_fits t p (and_right (leb (length t) max_pairs) (all pair_fits t) h) k)

pub longer_draft : (o : Draft) → IsDraft o → (p : Pair) → T (is_plan_word o.shape p.from && is_plan_word o.shape p.to)
    → leb max_pairs (length o.rows) ≡ false → IsDraft (with_pair o p)
longer_draft o h p k e =
    record {
      slot_named = h.slot_named;
      in_range = h.in_range;
      within = granted_snoc o.rows p h.within (and_intro (fits p.from) (fits p.to) (plan_word_fits s p.from from) (plan_word_fits s p.to to)) e;
      from_words = rw map-append (all_snoc (is_word s) (froms o.rows) p.from h.from_words (word_of_plan_word s p.from from));
      to_words = rw map-append (all_snoc (is_word s) (tos o.rows) p.to h.to_words (word_of_plan_word s p.to to));
    }
  where
    s : Shape
    s = o.shape

    from : T (is_plan_word s p.from)
    from = and_left (is_plan_word s p.from) (is_plan_word s p.to) k

    to : T (is_plan_word s p.to)
    to = and_right (is_plan_word s p.from) (is_plan_word s p.to) k

-- a desk is left behind
abbrev pub Stays : Effect → Type 0
Stays e = IsDesk e.0

none_kept : (p : Plan) → none ≡ some p → Kept p
none_kept p q = absurd (none-ne-some p q)

some_kept : (r : Plan) → Kept r → (p : Plan) → some r ≡ some p → Kept p
some_kept r k p q = subst Kept (some-injective r p q) k

pub closed_kept : (o : Draft) → IsDraft o → verdict o.shape o.rows ≡ Accepted → Kept (closed o)
closed_kept o h e = answers_exact.keeps o.shape h.in_range o.rows ((answers_exact.accepted o.shape (arity_of_range o.shape h.in_range) o.rows h.from_words h.to_words).0 e) h.within

-- a slot that a record names is one of the eight
pub slot_of_record : (d : Desk) (r : Record) → Tested d r → (u : SlotUse) → Memᴰ u (slots_named r) → slot_number u.slot < slot_count
slot_of_record d r t u m = slot_below u.slot (all_at (λ u. is_slot u.slot) (slots_named r) t.admitted.slots_named_fact u m)

job_stays : (d : Desk) → IsDesk d → (r : Record) → Tested d r → Passes Stays (job d r)
unfolding job kind
job_stays d h (P a n r) t =
    passes_then (test_held shape_outside (shape_in_range (record { arity = n; roots = r })))
    (λ _ y. passes (drafted_desk d h _ (new_draft_lem a _ (slot_of_record d (P a n r) t (writing a) (Memᴰ.head refl)) y)))
job_stays d h (M from to) t =
    passes_then (draft_open d h) (λ o k. passes_then
    (test_held bad_word (is_plan_word o.shape (word_of from) && is_plan_word o.shape (word_of to)))
    (λ _ x. passes_then (test_failed pairs_full _) (λ _ y. passes (drafted_desk d h _ (longer_draft o k _ x y)))))
job_stays d h E t =
    passes_then (draft_open d h) (λ o k. passes_then (verdict_accepted (verdict o.shape o.rows))
    (λ _ v. passes (changed_desk d h t.room o.slot k.slot_named _ (some_kept _ (closed_kept o k v)))))
job_stays d h (F a b c) t =
    passes_then (plan_kept d h a) (λ p x. passes_then (plan_kept d h b) (λ q y. passes_then
    (granted_kept (followed p q) (λ r e. demand3.followed_kept p q r x y e))
    (λ r k. passes (changed_desk d h t.room _
    (slot_of_record d (F a b c) t (writing c) (Memᴰ.tail (Memᴰ.tail (Memᴰ.head refl)))) _ (some_kept r k)))))
job_stays d h (I a c) t =
    passes_then (plan_kept d h a) (λ p x. passes_then (granted_kept (inverted p) (λ r e. demand3.inverted_kept p r x e))
    (λ r k. passes (changed_desk d h t.room _ (slot_of_record d (I a c) t (writing c) (Memᴰ.tail (Memᴰ.head refl))) _
    (some_kept r k))))
job_stays d h (K a k c) t =
    any_then _ (λ _. passes_then (plan_kept d h a) (λ p x. passes_then
    (granted_kept (powered p k) (λ r e. demand3.powered_kept p r k x e))
    (λ r y. passes (changed_desk d h t.room _ (slot_of_record d (K a k c) t (writing c) (Memᴰ.tail (Memᴰ.head refl))) _
    (some_kept r y)))))
job_stays d h (S a b) t = any_then _ (λ _. any_then _ (λ _. any_then _ (λ _. passes h)))
job_stays d h (W a code) t = any_then _ (λ _. any_then _ (λ _. passes h))
job_stays d h (L a) t = any_then _ (λ _. passes h)
job_stays d h (C a) t =
    let slot = slot_of_record d (C a) t (writing a) (Memᴰ.head refl) in
    any_then _ (λ _. passes (changed_desk d h t.room _ slot none none_kept))
job_stays d h Tᴿ t = passes h
job_stays d h U t = passes h
job_stays d h (Z s) t =
    passes (station_desk d h s ((station_test s).0 (all_head is_station s [] t.admitted.stations_known)))
job_stays d h (G s a x) t = any_then _ (λ _. passes (right_desk d h s (slot_number a) x))
job_stays d h H t = any_then _ (λ _. passes h)
job_stays d h (X a n r s seed) t =
    let shape : Shape = record { arity = n; roots = r } in
    passes_then (test_held shape_outside (shape_in_range shape)) (λ _ y. passes_then
    (granted_kept (exercise shape s seed) (λ p e. exercises_exact.kept shape y s seed p e))
    (λ p k. passes (changed_desk d h t.room _ (slot_of_record d (X a n r s seed) t (writing a) (Memᴰ.head refl)) _
    (some_kept p k))))

pub operation_stays : (d : Desk) → IsDesk d → (r : Record) → Passes Stays (operation d r)
operation_stays d h r = passes_operation d r (job_stays d h r)

settled : (d : Desk) → IsDesk d → (o : Outcome Effect) → Passes Stays o → IsDesk (settle d o).0
settled d h (refuse n c) k = dropped_desk d h
settled d h (pass e) (passes k) = k

line_stays : (d : Desk) (l : Bytes) → IsDesk d → IsDesk (respond_line d l).0
unfolding respond_line line_operation
line_stays d l h = settled d h (line_operation d l) (any_then (record_of l) (operation_stays d h))

pub desk_stays : DeskStays
desk_stays = record { fresh = fresh_desk_lem; line = line_stays }
