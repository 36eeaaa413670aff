-- Two desks that are alike to the station that is named answer its records alike (change request E6): a record reads a slot only behind
-- the right on it, U goes by what is seen, T and 16 by the station's own count, G by the station alone, and H by the sum, for station 0,
-- which sees all that is summed.
use Prim.Native.Nat.{ℕ, ◌+◌, ◌≤◌, ◌<◌}
use native.Mathlib.Omega.{arith}
use mathlib.Core.Path.{◌≡◌, refl, sym, ◌∙◌, ap, ap₂, subst}
use mathlib.Core.Bool.{Bool, true, false, ◌&&◌, ◌||◌, not}
use mathlib.Core.List.{List, [], ◌∷◌, Memᴰ}
use mathlib.Core.Option.{Option, none, some, none-ne-some}
use lib.Dec.{T as So, leb, leb→le, le→leb, eqb}
use borrow.Author.Tests.{not-false, eqb-true}
use lib.ListN.{length}
use Rattle.higman.specs.Words.{given, Shape}
use Rattle.higman.specs.Answers.{verdict, followed, inverted, powered, same, routed}
use Rattle.higman.specs.Text.{word_of}
use Rattle.higman.specs.Exercises.{exercise}
use Rattle.higman.specs.Bases.{all}
use Rattle.higman.specs.Limits.{Plan, slot_count, power_in_range, shape_in_range, is_plan_word, max_pairs}
use Rattle.higman.specs.Listing.{slot_number, is_slot}
use Rattle.higman.specs.Refusals.{Letter, wrong_state, station_outside, slot_outside, right_missing, slot_empty, power_outside}
use Rattle.higman.specs.Refusals.{shape_outside}
use Rattle.higman.specs.Refusals.{bad_word, pairs_full, station_refused}
use Rattle.higman.proofs.Tests.{T_of, all_at, all_head, all_tail}
use Rattle.desk.specs.Desk.{Draft, Desk, station_of, count_of, own_right, readable, held, seen, changed, with_draft, with_right}
use Rattle.desk.specs.Desk.{with_pair, is_station}
use Rattle.desk.specs.Records.{Record, P, M, E, F, I, K, S, W, L, C, T, U, X, Z, G, H, Use, reads, target, SlotUse, needed_right}
use Rattle.desk.specs.Records.{needs_open}
use Rattle.desk.specs.Records.{stations_named, slots_named, kind}
use Rattle.desk.specs.Replies.{Reply, silent, ok, ok_number, lists, surveys, Outcome, refuse, pass, ◌>>=◌, ◌when◌, Effect, open_amiss}
use Rattle.desk.specs.Replies.{open_plan}
use Rattle.desk.specs.Replies.{plan_in, may_use, no_station, outside, denied, held_from, arranged, comes_before, surveyed, keep_in}
use Rattle.desk.specs.Replies.{of_answer, of_verdict, of_comparison, of_route, bit, closed, new_draft, job, admission}
use Rattle.desk.specs.Sights.{hands_over}
use Rattle.desk.proofs.Outcomes.{Admitted}
use Rattle.desk.proofs.Stays.{slot_below}

-- what the named station of two desks has and sees
pub record Alike (d c : Desk) : Type 0 where
  pub station : station_of d ≡ station_of c
  pub draft : d.draft ≡ c.draft
  pub count : count_of d ≡ count_of c
  pub rights : (i : ℕ) → i < slot_count → own_right d i ≡ own_right c i
  pub reads : (i : ℕ) → i < slot_count → So (readable d i) → held d i ≡ held c i
  pub sees : seen d ≡ seen c
  pub sums : station_of d ≡ 0 → d.control.pairs ≡ c.control.pairs
  -- each counts a change of the named station
  pub counts : (i : ℕ) (x : Option Plan) → count_of (changed d i x) ≡ count_of d + 1
  pub counts' : (i : ℕ) (x : Option Plan) → count_of (changed c i x) ≡ count_of c + 1

-- two outcomes: the same refusal, or values that agree
pub data Agree {A B : Type 0} (Q : A → B → Type 0) : Outcome A → Outcome B → Type 0 where
  refuses : {n : ℕ} {c : Option Letter} → Agree Q (refuse n c) (refuse n c)
  passes : {a : A} {b : B} → Q a b → Agree Q (pass a) (pass b)

-- a step that is the same on both sides
same_then : {A B C : Type 0} {Q : B → C → Type 0} (o p : Outcome A) {f : A → Outcome B} {g : A → Outcome C} → o ≡ p
    → ((a : A) → Agree Q (f a) (g a)) → Agree Q (o >>= f) (p >>= g)
unfolding ◌>>=◌
same_then {Q = Q} o p {f} {g} e k = subst (λ x. Agree Q (o >>= f) (x >>= g)) e (go o)
  where
    go : (o : _) → Agree Q (o >>= f) (o >>= g)
    go (refuse n c) = refuses
    go (pass a) = k a

-- a test that is the same on both sides, and failed
test_fails : {Q : Type 0} (n : ℕ) (b b' : Bool) → b ≡ b' → (b ≡ false → Q) → Agree (λ _ _. Q) (n when b) (n when b')
test_fails {Q} n b b' e k = subst (λ x. Agree (λ _ _. Q) (n when b) (n when x)) e (go b k)
  where
    go : (b : Bool) → (b ≡ false → Q) → Agree (λ _ _. Q) (n when b) (n when b)
    go true k = refuses
    go false k = passes (k refl)

pub agree_then : {A B C D : Type 0} {R : A → B → Type 0} {Q : C → D → Type 0} {o : Outcome A} {p : Outcome B} {f : A → Outcome C} {g : B
    → Outcome D}
    → Agree R o p → ((a : A) (b : B) → R a b → Agree Q (f a) (g b)) → Agree Q (o >>= f) (p >>= g)
unfolding ◌>>=◌
agree_then refuses k = refuses
agree_then (passes {a} {b} h) k = k a b h

pub test_then : {B C : Type 0} {Q : B → C → Type 0} (n : ℕ) (b b' : Bool) {f : Unit {0} → Outcome B} {g : Unit {0} → Outcome C} → b ≡ b'
    → ((u v : Unit {0}) → b ≡ false → Agree Q (f u) (g v)) → Agree Q ((n when b) >>= f) ((n when b') >>= g)
test_then n b b' e k = agree_then (test_fails n b b' e (λ q. q)) k

-- what becomes of the two desks, to that station
pub record Same (e f : Effect) : Type 0 where
  pub reply : e.1 ≡ f.1
  pub draft : e.0.draft ≡ f.0.draft
  pub count : count_of e.0 ≡ count_of f.0
  pub station : station_of e.0 ≡ station_of f.0

-- a Z that was admitted hands over
pub no_Z : (d : Desk) (s : ℕ) → Admitted d (Z s) → hands_over (Z s) ≡ none → ⊥
unfolding hands_over kind
no_Z d s a e = by (is_station s) (all_head is_station s [] a.stations_known) e
  where
    by : (b : Bool) → So b → ◌≡◌ {A = Option ℕ} (elim b [ true ↦ some s | false ↦ none ]) none → ⊥
    by true u q = none-ne-some _ (sym q)
    by false u q = u

module _ (d c : Desk) (h : Alike d c) where
  same_changed : (i : ℕ) (p : Option Plan) (r : Reply) → Same (changed d i p, r) (changed c i p, r)
  unfolding changed
  same_changed i p r =
      record {
        reply = refl;
        draft = refl;
        count = h.counts i p ∙ ap (λ n. n + 1) h.count ∙ sym (h.counts' i p);
        station = h.station;
      }

  keeps : (i : ℕ) (p : Plan) → Agree Same (pass (keep_in d i p)) (pass (keep_in c i p))
  keeps i p = passes (same_changed i (some p) (ok_number (length p.rows)))

  same_asked : (r q : Reply) → r ≡ q → Same (d, r) (c, q)
  same_asked r q e = record { reply = e; draft = h.draft; count = h.count; station = h.station }

  asks : (r : Reply) → Agree Same (pass (d, r)) (pass (c, r))
  asks r = passes (same_asked r r refl)

  same_drafted : (o : Draft) (r : Reply) → Same (with_draft d o, r) (with_draft c o, r)
  unfolding with_draft
  same_drafted o r = record { reply = refl; draft = refl; count = h.count; station = h.station }

  -- what a record reads is the same plan
  plan_same : (r : Record) → Admitted d r → (a : ℕ) (u : Use) → 1 ≤ needed_right u → Memᴰ (record { slot = a; does = u }) (slots_named r)
      → plan_in d a ≡ plan_in c a
  plan_same r t a u need m =
      let named : SlotUse = record { slot = a; does = u } in
      let may = leb→le (needed_right u) (own_right d (slot_number a)) (all_at (may_use d) (slots_named r) t.allowed named m) in
      let slot = slot_below a (all_at (λ u. is_slot u.slot) (slots_named r) t.slots_named_fact named m) in
      ap (λ x. elim x as (λ _. Outcome Plan) [ none ↦ refuse slot_empty none | some p ↦ pass p ])
      (h.reads (slot_number a) slot (le→leb 1 (own_right d (slot_number a)) (omega (arith, may, need))))

  read_same : (r : Record) → Admitted d r → (a : ℕ) → Memᴰ (record { slot = a; does = reads }) (slots_named r) → plan_in d a ≡ plan_in c a
  unfolding needed_right
  read_same r t a m = plan_same r t a reads (omega arith) m

  open_same : open_plan d ≡ open_plan c
  open_same = ap (λ x. elim x as (λ _. Outcome Draft) [ none ↦ refuse wrong_state none | some o ↦ pass o ]) h.draft

  survey_same : surveyed d ≡ surveyed c
  unfolding surveyed
  survey_same = ap (λ l. arranged comes_before (held_from 0 l)) h.sees

  pub job_agrees : (r : Record) → hands_over r ≡ none → Admitted d r → Agree Same (job d r) (job c r)
  unfolding job kind needed_right with_right
  job_agrees (P a n r) e t =
      let w : Shape = record { arity = n; roots = r } in
      test_then shape_outside (not (shape_in_range w)) _ refl (λ _ _ _. passes (same_drafted (new_draft a w) silent))
  job_agrees (M from to) e t =
      same_then (open_plan d) (open_plan c) open_same (λ o.
      test_then bad_word (not (is_plan_word o.shape (word_of from) && is_plan_word o.shape (word_of to))) _ refl (λ _ _ _.
      test_then pairs_full (leb max_pairs (length o.rows)) _ refl (λ _ _ _.
      passes (same_drafted (with_pair o (record { from = word_of from; to = word_of to })) silent))))
  job_agrees E e t =
      same_then (open_plan d) (open_plan c) open_same (λ o.
      same_then (of_verdict (verdict o.shape o.rows)) _ refl (λ _. keeps o.slot (closed o)))
  job_agrees (F a b x) e t =
      same_then (plan_in d a) (plan_in c a) (read_same (F a b x) t a (Memᴰ.head refl)) (λ p.
      same_then (plan_in d b) (plan_in c b) (read_same (F a b x) t b (Memᴰ.tail (Memᴰ.head refl))) (λ q.
      same_then (of_answer (followed p q)) _ refl (λ y. keeps (slot_number x) y)))
  job_agrees (I a x) e t =
      same_then (plan_in d a) (plan_in c a) (read_same (I a x) t a (Memᴰ.head refl)) (λ p.
      same_then (of_answer (inverted p)) _ refl (λ y. keeps (slot_number x) y))
  job_agrees (K a k x) e t =
      test_then power_outside (not (power_in_range k)) _ refl (λ _ _ _.
      same_then (plan_in d a) (plan_in c a) (read_same (K a k x) t a (Memᴰ.head refl)) (λ p.
      same_then (of_answer (powered p k)) _ refl (λ y. keeps (slot_number x) y)))
  job_agrees (S a b) e t =
      same_then (plan_in d a) (plan_in c a) (read_same (S a b) t a (Memᴰ.head refl)) (λ p.
      same_then (plan_in d b) (plan_in c b) (read_same (S a b) t b (Memᴰ.tail (Memᴰ.head refl))) (λ q.
      same_then (of_comparison (same p q)) _ refl (λ y. asks (ok_number (bit y)))))
  job_agrees (W a code) e t =
      same_then (plan_in d a) (plan_in c a) (read_same (W a code) t a (Memᴰ.head refl)) (λ p.
      same_then (of_route p (word_of code) (routed p (word_of code))) _ refl (λ y. asks y))
  job_agrees (L a) e t = same_then (plan_in d a) (plan_in c a) (read_same (L a) t a (Memᴰ.head refl)) (λ p. asks (lists a p))
  job_agrees (C a) e t =
      same_then (plan_in d a) (plan_in c a) (plan_same (C a) t a target (omega arith) (Memᴰ.head refl))
      (λ p. passes (same_changed (slot_number a) none ok))
  job_agrees T e t = passes (same_asked (ok_number (count_of d)) _ (ap Reply.ok_number h.count))
  job_agrees U e t = passes (same_asked (surveys (surveyed d)) _ (ap Reply.surveys survey_same))
  job_agrees (X a n r s seed) e t =
      let w : Shape = record { arity = n; roots = r } in
      test_then shape_outside (not (shape_in_range w)) _ refl (λ _ _ _.
      same_then (of_answer (exercise w s seed)) _ refl (λ y. keeps (slot_number a) y))
  job_agrees (Z s) e t = absurd (no_Z d s t e)
  job_agrees (G s a x) e t =
      test_then station_refused (not (eqb (station_of d) 0) || eqb s 0) _ (ap (λ k. not (eqb k 0) || eqb s 0) h.station)
      (λ _ _ _. passes (record { reply = refl; draft = h.draft; count = h.count; station = h.station }))
  job_agrees H e t =
      test_then station_refused (not (eqb (station_of d) 0)) _ (ap (λ k. not (eqb k 0)) h.station) (λ _ _ q.
      let first = eqb-true (station_of d) 0 (not-false _ q) in
      passes (same_asked (ok_number d.control.pairs) _ (ap Reply.ok_number (h.sums first))))

  amiss_same : (r : Record) → open_amiss d r ≡ open_amiss c r
  amiss_same r = ap (λ (x : Option Draft). elim (needs_open r) [ true ↦ not (given x) | false ↦ given x ]) h.draft

  denied_same : (us : List SlotUse) → So (all (λ u. is_slot u.slot) us) → denied d us ≡ denied c us
  denied_same us t = ap not (go us t)
    where
      go : (us : List SlotUse) → So (all (λ u. is_slot u.slot) us) → all (may_use d) us ≡ all (may_use c) us
      go [] t = refl
      go (u ∷ us) t =
          let here = h.rights (slot_number u.slot) (slot_below u.slot (all_head (λ u. is_slot u.slot) u us t)) in
          let rest = go us (all_tail (λ u. is_slot u.slot) u us t) in
          ap₂ (λ (n : ℕ) (b : Bool). elim (leb (needed_right u.does) n) as (λ _. Bool) [ true ↦ b | false ↦ false ]) here rest

  held_test : (b : Bool) → not b ≡ false → So b
  held_test b e = T_of (not-false b e)

  pub admission_agrees : (r : Record) → Agree (λ _ _. Admitted d r) (admission d r) (admission c r)
  unfolding admission
  admission_agrees r =
      test_then wrong_state (open_amiss d r) (open_amiss c r) (amiss_same r) (λ _ _ o.
      test_then station_outside (no_station (stations_named r)) _ refl (λ _ _ z.
      test_then slot_outside (outside (slots_named r)) _ refl (λ _ _ s.
      let named = held_test (all (λ u. is_slot u.slot) (slots_named r)) s in
      test_fails right_missing (denied d (slots_named r)) (denied c (slots_named r)) (denied_same (slots_named r) named) (λ m.
      record {
        open_fits = o;
        stations_known = held_test (all is_station (stations_named r)) z;
        slots_named_fact = named;
        allowed = held_test (all (may_use d) (slots_named r)) m;
      }))))
