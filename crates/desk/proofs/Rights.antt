-- Rights (change request E6): what G gives and to whom, that no other record changes a right, that what is done had the rights it needs, and
-- that an open plan is for a slot that its station may write.
use Prim.Native.Nat.{ℕ, zero, suc, ◌≤◌, ◌<◌}
use native.Mathlib.Omega.{arith}
use mathlib.Core.Path.{◌≡◌, refl, sym, ◌∙◌, ap, subst}
use mathlib.Core.Bool.{Bool, true, false, ◌||◌, ◌&&◌, not}
use mathlib.Core.List.{List, [], ◌∷◌, Memᴰ}
use mathlib.Core.Option.{Option, none, some, none-ne-some, some-injective}
use lib.Dec.{T as So, eqb, leb→le, le→leb}
use borrow.Author.Tests.{eqb-true, eqb-false, ne_eqb, not-false}
use mathlib.Core.Logic.{◌⊎◌, inl, inr}
use mathlib.Core.List.Memᴰ
use Rattle.higman.specs.Bases.{all}
use Rattle.higman.specs.Words.{given}
use Rattle.higman.specs.Limits.{Plan}
use Rattle.higman.specs.Listing.{slot_number, is_slot}
use Rattle.higman.specs.Refusals.{station_refused, count_full}
use Rattle.higman.specs.Text.{Bytes}
use Rattle.higman.proofs.Tests.{all_at, all_head, all_cons, or_left_false, or_right_false, clash, T_of, so}
use Rattle.desk.specs.Limits.{station_count}
use Rattle.desk.specs.Desk.{Draft, Desk, fresh_desk, station_of, own_right, held, changed, with_draft, dropped, at_station, with_right}
use Rattle.desk.specs.Desk.{is_station}
use Rattle.desk.specs.Records.{Right, no_right, may_read, may_write, right_number, Record, P, M, E, F, I, K, S, W, L, C, T, U, X, Z, G, H}
use Rattle.desk.specs.Records.{needs_open, is_change, SlotUse, writing, mentioning, needed_right, slots_named, stations_named, kind}
use Rattle.desk.specs.Replies.{ok, Outcome, refuse, pass, ◌>>=◌, ◌when◌, Effect, open_amiss, may_use, at_limit, admission, grant_by}
use Rattle.desk.specs.Replies.{job, operation, record_of, line_operation, settle}
use Rattle.desk.specs.Replies.{respond_line, run, desk_after}
use Rattle.desk.proofs.Outcomes.{Passes, stops, passes, passes_then, any_then, test_failed, plan_open, Tested}
use Rattle.desk.proofs.Outcomes.{passes_operation}
use Rattle.desk.proofs.Outcomes.{operation_pass}
use Rattle.desk.proofs.Desks.{station_test}
use Rattle.desk.proofs.Replies.{desk_parts}

-- G is refused with 19 exactly where another station sends it or it is for station 0
abbrev refused : Desk → ℕ → Bool
refused d s = not (eqb (station_of d) 0) || eqb s 0

taken : (d : Desk) (s : ℕ) → station_of d ≡ 0 → 1 ≤ s → refused d s ≡ false
taken d s e h = rw (ap (λ k. eqb k 0) e, ne_eqb s 0 (λ z. omega (arith, z))) refl

not_zero : (s : ℕ) → (s ≡ 0 → ⊥) → 1 ≤ s
not_zero zero n = absurd (n refl)
not_zero (suc s) n = omega arith

nothing_below : {n : ℕ} → n < 0 → ⊥
nothing_below h = omega (arith, h)

pub numbered : (x : Right) (s a : ℕ) → grant_by s a (right_number x) ≡ pass (G s a x)
unfolding right_number
numbered no_right s a = refl
numbered may_read s a = refl
numbered may_write s a = refl

pub above_2 : (n : ℕ) → 2 < n → (s a : ℕ) → grant_by s a n ≡ refuse 1 none
above_2 zero h s a = absurd (omega (arith, h))
above_2 (suc zero) h s a = absurd (omega (arith, h))
above_2 (suc (suc zero)) h s a = absurd (omega (arith, h))
above_2 (suc (suc (suc n))) h s a = refl

pub refused_there : (d : Desk) (s : ℕ) → ((station_of d ≡ 0) × (1 ≤ s) → ⊥) → refused d s ≡ true
refused_there d s n = by (eqb (station_of d) 0) refl (eqb s 0) refl
  where
    by : (a : Bool) → eqb (station_of d) 0 ≡ a → (b : Bool) → eqb s 0 ≡ b → (not a || b) ≡ true
    by false e b f = refl
    by true e true f = refl
    by true e false f = absurd (n (eqb-true (station_of d) 0 e, not_zero s (eqb-false s 0 f)))

pub admitted_job : (d : Desk) (r : Record) → open_amiss d r ≡ false → all is_station (stations_named r)
    ≡ true → all (λ u. is_slot u.slot) (slots_named r) ≡ true
    → all (may_use d) (slots_named r) ≡ true → operation d r ≡ (job d r >>= λ e. (count_full when (is_change r && at_limit d)) >>= λ _. pass e)
unfolding operation admission ◌>>=◌
admitted_job d r a b c m = rw (a, b, c, m) refl

not_given_unused : ℕ
not_given_unused = 0

pub record Gave (d : Desk) (s a : ℕ) (x : Right) (e : Effect) : Type 0 where
  pub first : station_of d ≡ 0
  pub other : 1 ≤ s
  pub known : s < station_count
  pub slot : So (is_slot a)
  pub effect : e ≡ (with_right d s (slot_number a) (right_number x), ok)

pub give_steps : (d : Desk) (s a : ℕ) (x : Right) → Passes (Gave d s a x) (operation d (G s a x))
unfolding job kind
give_steps d s a x =
    passes_operation d (G s a x) (λ t. passes_then (test_failed station_refused (refused d s)) (λ _ f. passes (record {
      first = eqb-true (station_of d) 0 (not-false _ (or_left_false (not (eqb (station_of d) 0)) (eqb s 0) f));
      other = not_zero s (eqb-false s 0 (or_right_false (not (eqb (station_of d) 0)) (eqb s 0) f));
      known = (station_test s).0 (all_head is_station s [] t.admitted.stations_known);
      slot = all_head (λ u. is_slot u.slot) (mentioning a) [] t.admitted.slots_named_fact;
      effect = refl;
    })))

pub given_done : (d : Desk) (s a : ℕ) (x : Right) → d.draft ≡ none → station_of d ≡ 0 → 1 ≤ s → s < station_count → So (is_slot a)
    → operation d (G s a x) ≡ pass (with_right d s (slot_number a) (right_number x), ok)
unfolding job kind needed_right ◌>>=◌
given_done d s a x o e h k c =
    let next : Effect = (with_right d s (slot_number a) (right_number x), ok) in
    operation_pass d (G s a x) next
    (record {
      admitted = record {
        open_fits = ap given o;
        stations_known = all_cons is_station s [] ((station_test s).1 k) tt;
        slots_named_fact = all_cons (λ u. is_slot u.slot) (mentioning a) [] c tt;
        allowed = all_cons (may_use d) (mentioning a) [] (le→leb 0 (own_right d (slot_number a)) (omega arith)) tt;
      };
      room = refl;
    })
    (ap (λ b. (station_refused when b) >>= λ _. pass next) (taken d s e h))

-- no other record changes a right
pub job_rights : (d : Desk) (r : Record) → ((s a : ℕ) (x : Right) → r ≡ G s a x → ⊥)
    → Passes (λ e. e.0.control.rights ≡ d.control.rights) (job d r)
unfolding job changed with_draft at_station
job_rights d (P a n r) h = any_then _ (λ _. passes refl)
job_rights d (M from to) h = any_then _ (λ _. any_then _ (λ _. any_then _ (λ _. passes refl)))
job_rights d E h = any_then _ (λ _. any_then _ (λ _. passes refl))
job_rights d (F a b c) h = any_then _ (λ _. any_then _ (λ _. any_then _ (λ _. passes refl)))
job_rights d (I a c) h = any_then _ (λ _. any_then _ (λ _. passes refl))
job_rights d (K a k c) h = any_then _ (λ _. any_then _ (λ _. any_then _ (λ _. passes refl)))
job_rights d (S a b) h = any_then _ (λ _. any_then _ (λ _. any_then _ (λ _. passes refl)))
job_rights d (W a code) h = any_then _ (λ _. any_then _ (λ _. passes refl))
job_rights d (L a) h = any_then _ (λ _. passes refl)
job_rights d (C a) h = any_then _ (λ _. passes refl)
job_rights d T h = passes refl
job_rights d U h = passes refl
job_rights d (X a n r s seed) h = any_then _ (λ _. any_then _ (λ _. passes refl))
job_rights d (Z s) h = passes refl
job_rights d (G s a x) h = absurd (h s a x refl)
job_rights d H h = any_then _ (λ _. passes refl)

-- what the tests before a job found, whatever the job does
whatever : {A Q : Type 0} → Q → (o : Outcome A) → Passes (λ _. Q) o
whatever q (refuse n c) = stops
whatever q (pass a) = passes q

pub had_right : (d : Desk) (r : Record)
    → Passes (λ _. (u : SlotUse) → Memᴰ u (slots_named r) → needed_right u.does ≤ own_right d (slot_number u.slot)) (operation d r)
had_right d r =
    passes_operation d r (λ t. whatever (λ u m. leb→le (needed_right u.does) (own_right d (slot_number u.slot))
    (all_at (may_use d) (slots_named r) t.admitted.allowed u m)) (job d r))

-- whoever has a plan open may write to its slot
abbrev pub Owned : Desk → Type 0
Owned d = (o : Draft) → d.draft ≡ some o → 2 ≤ own_right d o.slot

pub none_open : (x : Option Draft) → given x ≡ false → x ≡ none
none_open none e = refl
none_open (some o) e = absurd (clash refl e)

no_draft : {A : Type 0} {o : Draft} → none ≡ some o → A
no_draft q = absurd (none-ne-some _ q)

job_owned : (d : Desk) → Owned d → (r : Record) → Tested d r → Passes (λ e. Owned e.0) (job d r)
unfolding job kind needed_right changed with_draft at_station with_right
job_owned d h (P a n r) t =
    let right = leb→le 2 (own_right d (slot_number a)) (all_head (may_use d) (writing a) [] t.admitted.allowed) in
    any_then _ (λ _. passes (λ o q. subst (λ o. 2 ≤ own_right d o.slot) (some-injective _ o q) right))
job_owned d h (M from to) t =
    passes_then (plan_open d) (λ p e. any_then _ (λ _. any_then _ (λ _. passes
    (λ o q. subst (λ o. 2 ≤ own_right d o.slot) (some-injective _ o q) (h p e)))))
job_owned d h E t = any_then _ (λ _. any_then _ (λ _. passes (λ o q. no_draft q)))
job_owned d h (F a b c) t = any_then _ (λ _. any_then _ (λ _. any_then _ (λ _. passes (λ o q. no_draft q))))
job_owned d h (I a c) t = any_then _ (λ _. any_then _ (λ _. passes (λ o q. no_draft q)))
job_owned d h (K a k c) t = any_then _ (λ _. any_then _ (λ _. any_then _ (λ _. passes (λ o q. no_draft q))))
job_owned d h (S a b) t = any_then _ (λ _. any_then _ (λ _. any_then _ (λ _. passes h)))
job_owned d h (W a code) t = any_then _ (λ _. any_then _ (λ _. passes h))
job_owned d h (L a) t = any_then _ (λ _. passes h)
job_owned d h (C a) t = any_then _ (λ _. passes (λ o q. no_draft q))
job_owned d h T t = passes h
job_owned d h U t = passes h
job_owned d h (X a n r s seed) t = any_then _ (λ _. any_then _ (λ _. passes (λ o q. no_draft q)))
job_owned d h (Z s) t = passes (λ o q. no_draft (sym (none_open d.draft t.admitted.open_fits) ∙ q))
job_owned d h (G s a x) t = any_then _ (λ _. passes (λ o q. no_draft (sym (none_open d.draft t.admitted.open_fits) ∙ q)))
job_owned d h H t = any_then _ (λ _. passes h)

line_owned : (d : Desk) → Owned d → (l : Bytes) → Owned (respond_line d l).0
unfolding respond_line line_operation dropped
line_owned d h l = settled (line_operation d l) (any_then (record_of l) (λ r. passes_operation d r (job_owned d h r)))
  where
    settled : (o : Outcome Effect) → Passes (λ e. Owned e.0) o → Owned (settle d o).0
    settled (refuse n c) k = λ o q. no_draft q
    settled (pass e) (passes k) = k

pub lines_owned : (ls : List Bytes) (d : Desk) → Owned d → Owned (desk_after d (run d ls))
unfolding run
lines_owned [] d h = h
lines_owned (l ∷ ls) d h = lines_owned ls (respond_line d l).0 (line_owned d h l)

module _ (d : Desk) (h : Owned d) (i : ℕ) (low : own_right d i < 2) where
  other_slot : (j : ℕ) → 2 ≤ own_right d j → j ≡ i → ⊥
  other_slot j r q = let at : 2 ≤ own_right d i = subst (λ k. 2 ≤ own_right d k) q r in omega (arith, at, low)

  may_write_lem : (r : Record) → Tested d r → (a : ℕ) → Memᴰ (writing a) (slots_named r) → 2 ≤ own_right d (slot_number a)
  unfolding needed_right
  may_write_lem r t a m = leb→le 2 (own_right d (slot_number a)) (all_at (may_use d) (slots_named r) t.admitted.allowed (writing a) m)

  spared : (r : Record) → Tested d r → (a : ℕ) → Memᴰ (writing a) (slots_named r) → (content : Option Plan)
      → held (changed d (slot_number a) content) i ≡ held d i
  spared r t a m content = desk_parts.changed_elsewhere d (slot_number a) i content (other_slot (slot_number a) (may_write_lem r t a m))

  pub job_untouched : (r : Record) → Tested d r → Passes (λ e. held e.0 i ≡ held d i) (job d r)
  unfolding job kind with_draft at_station with_right
  job_untouched (P a n r) t = any_then _ (λ _. passes refl)
  job_untouched (M from to) t = any_then _ (λ _. any_then _ (λ _. any_then _ (λ _. passes refl)))
  job_untouched E t =
      passes_then (plan_open d) (λ o e. any_then _ (λ _. passes
      (desk_parts.changed_elsewhere d o.slot i _ (other_slot o.slot (h o e)))))
  job_untouched (F a b c) t =
      any_then _ (λ _. any_then _ (λ _. any_then _ (λ p. passes
      (spared (F a b c) t c (Memᴰ.tail (Memᴰ.tail (Memᴰ.head refl))) (some p)))))
  job_untouched (I a c) t = any_then _ (λ _. any_then _ (λ p. passes (spared (I a c) t c (Memᴰ.tail (Memᴰ.head refl)) (some p))))
  job_untouched (K a k c) t =
      any_then _ (λ _. any_then _ (λ _. any_then _ (λ p. passes (spared (K a k c) t c (Memᴰ.tail (Memᴰ.head refl)) (some p)))))
  job_untouched (S a b) t = any_then _ (λ _. any_then _ (λ _. any_then _ (λ _. passes refl)))
  job_untouched (W a code) t = any_then _ (λ _. any_then _ (λ _. passes refl))
  job_untouched (L a) t = any_then _ (λ _. passes refl)
  job_untouched (C a) t = any_then _ (λ _. passes (spared (C a) t a (Memᴰ.head refl) none))
  job_untouched T t = passes refl
  job_untouched U t = passes refl
  job_untouched (X a n r s seed) t = any_then _ (λ _. any_then _ (λ p. passes (spared (X a n r s seed) t a (Memᴰ.head refl) (some p))))
  job_untouched (Z s) t = passes refl
  job_untouched (G s a x) t = any_then _ (λ _. passes refl)
  job_untouched H t = any_then _ (λ _. passes refl)

pub fresh_owned : Owned fresh_desk
unfolding fresh_desk
fresh_owned o q = no_draft q

-- 20 where a right is missing
module _ (d : Desk) where
  not_allowed : (us : List SlotUse) (u : SlotUse) → Memᴰ u us → own_right d (slot_number u.slot) < needed_right u.does
      → all (may_use d) us ≡ false
  not_allowed us u m h = by (all (may_use d) us) refl
    where
      by : (b : Bool) → all (may_use d) us ≡ b → b ≡ false
      by false e = refl
      by true e =
          let enough = leb→le (needed_right u.does) (own_right d (slot_number u.slot)) (all_at (may_use d) us (T_of e) u m) in
          absurd (omega (arith, enough, h))

  -- and 8 before it
  pub not_slots : (us : List SlotUse) (u : SlotUse) → Memᴰ u us → (So (is_slot u.slot) → ⊥) → all (λ u. is_slot u.slot) us ≡ false
  not_slots us u m h = by (all (λ u. is_slot u.slot) us) refl
    where
      by : (b : Bool) → all (λ u. is_slot u.slot) us ≡ b → b ≡ false
      by false e = refl
      by true e = absurd (h (all_at (λ u. is_slot u.slot) us (T_of e) u m))

  pub refused_8 : (r : Record) → needs_open r ≡ false → stations_named r ≡ [] → d.draft ≡ none → all (λ u. is_slot u.slot) (slots_named r)
      ≡ false
      → operation d r ≡ refuse 8 none
  unfolding operation admission ◌>>=◌
  refused_8 r n s o f =
      let fits : open_amiss d r ≡ false = rw (open_amiss, n) (ap given o) in
      rw (fits, ap (all is_station) s, f) refl

  refused_20 : (r : Record) → needs_open r ≡ false → stations_named r ≡ [] → d.draft ≡ none → So (all (λ u. is_slot u.slot) (slots_named r))
      → all (may_use d) (slots_named r) ≡ false → operation d r ≡ refuse 20 none
  unfolding operation admission ◌>>=◌
  refused_20 r n s o t f =
      let fits : open_amiss d r ≡ false = rw (open_amiss, n) (ap given o) in
      rw (fits, ap (all is_station) s, so (all (λ u. is_slot u.slot) (slots_named r)) t, f) refl

  none_named : {A : Type 0} {u : SlotUse} → Memᴰ u [] → A
  none_named m = absurd (Memᴰ.not-nil m)

  pub missing_right : (r : Record) → d.draft ≡ none → So (all (λ u. is_slot u.slot) (slots_named r)) → (u : SlotUse)
      → Memᴰ u (slots_named r)
      → own_right d (slot_number u.slot) < needed_right u.does → operation d r ≡ refuse 20 none
  unfolding kind needed_right
  missing_right (P a n r) o t u m h = refused_20 (P a n r) refl refl o t (not_allowed _ u m h)
  missing_right (M from to) o t u m h = none_named m
  missing_right E o t u m h = none_named m
  missing_right (F a b c) o t u m h = refused_20 (F a b c) refl refl o t (not_allowed _ u m h)
  missing_right (I a c) o t u m h = refused_20 (I a c) refl refl o t (not_allowed _ u m h)
  missing_right (K a k c) o t u m h = refused_20 (K a k c) refl refl o t (not_allowed _ u m h)
  missing_right (S a b) o t u m h = refused_20 (S a b) refl refl o t (not_allowed _ u m h)
  missing_right (W a code) o t u m h = refused_20 (W a code) refl refl o t (not_allowed _ u m h)
  missing_right (L a) o t u m h = refused_20 (L a) refl refl o t (not_allowed _ u m h)
  missing_right (C a) o t u m h = refused_20 (C a) refl refl o t (not_allowed _ u m h)
  missing_right T o t u m h = none_named m
  missing_right U o t u m h = none_named m
  missing_right (X a n r s seed) o t u m h = refused_20 (X a n r s seed) refl refl o t (not_allowed _ u m h)
  missing_right (Z s) o t u m h = none_named m
  missing_right H o t u m h = none_named m
  missing_right (G s a x) o t u m h = absurd (no_need (Memᴰ.cases_cons m))
    where
      no_need : (u ≡ mentioning a) ⊎ Memᴰ u [] → ⊥
      no_need (inl e) = nothing_below (subst (λ v. own_right d (slot_number v.slot) < needed_right v.does) e h)
      no_need (inr k) = Memᴰ.not-nil k
