-- What P, M, C, L, T and U do when they are not refused, which records change slots and counts, and what a change is.
use Prim.Native.Nat.{ℕ, ◌+◌, ◌<◌}
use native.Mathlib.Omega.{arith}
use mathlib.Core.Path.{◌≡◌, refl, sym, ◌∙◌, ap, subst}
use mathlib.Core.Bool.{Bool, true, false}
use mathlib.Core.List.Memᴰ
use mathlib.Core.List.{List, [], ◌∷◌, Memᴰ}
use mathlib.Core.Logic.{◌⊎◌, inl, inr}
use mathlib.Core.Option.{Option, none, some}
use lib.Dec.{T as So}
use Rattle.higman.specs.Words.{given}
use Rattle.higman.specs.Limits.{Plan, slot_count}
use Rattle.higman.proofs.Tests.{clash, all_head}
use Rattle.higman.specs.Text.{Bytes, word_of}
use Rattle.desk.specs.Limits.{station_count}
use Rattle.desk.specs.Desk.{Draft, Desk, fresh_desk, count_of, held, IsDesk, changed, with_draft, with_pair, dropped, at_station}
use Rattle.desk.specs.Desk.{with_right}
use Rattle.desk.specs.Records.{Record, P, M, E, F, I, K, S, W, L, C, T, U, X, Z, Use, reads, target, SlotUse, reading, writing}
use Rattle.desk.specs.Records.{mentions, kind}
use Rattle.desk.specs.Records.{needs_open, slots_named, is_change, G, H, mentioning}
use Rattle.higman.specs.Listing.{slot_number, is_slot}
use Rattle.desk.specs.Replies.{Effect, silent, ok, ok_number, lists, surveys, is_open, surveyed, new_draft, job, operation}
use Rattle.desk.specs.Demands.{RepliesExact, Written, DeskParts}
use Rattle.desk.proofs.Outcomes.{Passes, passes, passes_then, any_then, passed, plan_held, plan_open, passes_operation}
use Rattle.desk.proofs.Given.{set_here, set_elsewhere, replicated}
use Rattle.desk.proofs.Stays.{counted_own, counted_other}

-- no plan is open where the test says so
not_open : (d : Desk) → is_open d ≡ false → d.draft ≡ none
not_open d e = go d.draft e
  where
    go : (x : Option Draft) → given x ≡ false → x ≡ none
    go none h = refl
    go (some o) h = absurd (clash refl h)

abbrev Opens : Desk → ℕ → ℕ → ℕ → Effect → Type 0
Opens d a n r e = (d.draft ≡ none) × (e ≡ (with_draft d (new_draft a (record { arity = n; roots = r })), silent))

open_steps : (d : Desk) (a n r : ℕ) → Passes (Opens d a n r) (operation d (P a n r))
unfolding job kind
open_steps d a n r = passes_operation d (P a n r) (λ t. any_then _ (λ _. passes (not_open d t.admitted.open_fits, refl)))

abbrev Adds : Desk → Bytes → Bytes → Effect → Type 0
Adds d from to e = (o : Draft) × (d.draft ≡ some o) × (e ≡ (with_draft d (with_pair o (record { from = word_of from; to = word_of to })), silent))

add_steps : (d : Desk) (from to : Bytes) → Passes (Adds d from to) (operation d (M from to))
unfolding job
add_steps d from to =
    passes_operation d (M from to) (λ _. passes_then (plan_open d) (λ o x. any_then _ (λ _. any_then _ (λ _. passes (o, x, refl)))))

abbrev Empties : Desk → ℕ → Effect → Type 0
Empties d a e = (p : Plan) × (held d (slot_number a) ≡ some p) × (e ≡ (changed d (slot_number a) none, ok))

empty_steps : (d : Desk) (a : ℕ) → Passes (Empties d a) (operation d (C a))
unfolding job
empty_steps d a = passes_operation d (C a) (λ _. passes_then (plan_held d a) (λ p x. passes (p, x, refl)))

-- what L shows, and that its byte names a slot, which the P record of the listing names again
pub record Shows (d : Desk) (a : ℕ) (e : Effect) : Type 0 where
  pub named : So (is_slot a)
  pub plan : Plan
  pub in_slot : held d (slot_number a) ≡ some plan
  pub effect : e ≡ (d, lists a plan)

pub show_steps : (d : Desk) (a : ℕ) → Passes (Shows d a) (operation d (L a))
unfolding job kind
show_steps d a =
    passes_operation d (L a)
    (λ t. let slot = all_head (λ u. is_slot u.slot) (reading a) [] t.admitted.slots_named_fact in
    passes_then (plan_held d a) (λ p x. passes (record { named = slot; plan = p; in_slot = x; effect = refl })))

count_steps : (d : Desk) → Passes (λ e. e ≡ (d, ok_number (count_of d))) (operation d T)
unfolding job
count_steps d = passes_operation d T (λ _. passes refl)

find_steps : (d : Desk) → Passes (λ e. e ≡ (d, surveys (surveyed d))) (operation d U)
unfolding job
find_steps d = passes_operation d U (λ _. passes refl)

-- slots, counts and the sum of pairs: as they were, or the count of the named station one higher
abbrev Unchanged : Desk → Effect → Type 0
Unchanged d e = (e.0.slots ≡ d.slots) × (e.0.control.changes ≡ d.control.changes) × (e.0.control.pairs ≡ d.control.pairs)

abbrev Raised : Desk → Effect → Type 0
Raised d e = IsDesk d → count_of e.0 ≡ count_of d + 1

abbrev Counts : Bool → Desk → Effect → Type 0
Counts true d e = Raised d e
Counts false d e = Unchanged d e

raised : (d : Desk) (i : ℕ) (x : Option Plan) → IsDesk d → count_of (changed d i x) ≡ count_of d + 1
unfolding changed
raised d i x D = counted_own d.control D.control

count_of_lem : (d : Desk) (r : Record) → Passes (Counts (is_change r) d) (job d r)
unfolding job kind with_draft at_station with_right
count_of_lem d (P a n r) = any_then _ (λ _. passes (refl, refl, refl))
count_of_lem d (M from to) = any_then _ (λ _. any_then _ (λ _. any_then _ (λ _. passes (refl, refl, refl))))
count_of_lem d E = any_then _ (λ _. any_then _ (λ _. passes (raised d _ _)))
count_of_lem d (F a b c) = any_then _ (λ _. any_then _ (λ _. any_then _ (λ _. passes (raised d _ _))))
count_of_lem d (I a c) = any_then _ (λ _. any_then _ (λ _. passes (raised d _ _)))
count_of_lem d (K a k c) = any_then _ (λ _. any_then _ (λ _. any_then _ (λ _. passes (raised d _ _))))
count_of_lem d (S a b) = any_then _ (λ _. any_then _ (λ _. any_then _ (λ _. passes (refl, refl, refl))))
count_of_lem d (W a code) = any_then _ (λ _. any_then _ (λ _. passes (refl, refl, refl)))
count_of_lem d (L a) = any_then _ (λ _. passes (refl, refl, refl))
count_of_lem d (C a) = any_then _ (λ _. passes (raised d _ _))
count_of_lem d T = passes (refl, refl, refl)
count_of_lem d U = passes (refl, refl, refl)
count_of_lem d (X a n r s seed) = any_then _ (λ _. any_then _ (λ _. passes (raised d _ _)))
count_of_lem d (Z s) = passes (refl, refl, refl)
count_of_lem d (G s a x) = any_then _ (λ _. passes (refl, refl, refl))
count_of_lem d H = any_then _ (λ _. passes (refl, refl, refl))

operation_counts : (d : Desk) (r : Record) → Passes (Counts (is_change r) d) (operation d r)
operation_counts d r = passes_operation d r (λ _. count_of_lem d r)

pub replies_exact : RepliesExact
replies_exact =
    record {
      opens = λ d a n r e h. passed (open_steps d a n r) e h;
      adds = λ d from to e h. passed (add_steps d from to) e h;
      empties = λ d a e h. passed (empty_steps d a) e h;
      lists = λ d a e h. let s = passed (show_steps d a) e h in (s.plan, s.in_slot, s.effect);
      counts = λ d e h. passed (count_steps d) e h;
      surveys = λ d e h. passed (find_steps d) e h;
      only_changes = λ d r e b h. subst (λ x. Counts x d e) b (passed (operation_counts d r) e h);
      raises = λ d r e D b h. subst (λ x. Counts x d e) b (passed (operation_counts d r) e h) D;
    }

pub desk_parts : DeskParts
unfolding fresh_desk changed with_draft dropped at_station
desk_parts =
    record {
      fresh_slots = λ i. replicated slot_count i none;
      fresh_open = refl;
      fresh_counts = λ s. replicated station_count s 0;
      fresh_pairs = refl;
      changed_here = λ d i x e h. set_here d.slots i x none (subst (λ n. i < n) (sym e) h);
      changed_elsewhere = λ d i j x h. set_elsewhere d.slots i j x none h;
      changed_station = λ d i x. refl;
      changed_count = λ d i x D. counted_own d.control D.control;
      other_counts = λ d i s x n. counted_other d.control s n;
      changed_pairs = λ d i x h. omega (arith, h);
      changed_rights = λ d i x. refl;
      changed_open = λ d i x. refl;
      drafted = λ d o. (refl, refl, refl);
      dropped_parts = λ d. (refl, refl, refl);
      station_parts = λ d s. (refl, refl, refl, refl, refl, refl);
    }

-- a slot that is read holds a plan, at the first place of some uses and at the others
abbrev ReadsHeld : Desk → List SlotUse → Type 0
ReadsHeld d us = (u : SlotUse) → Memᴰ u us → u.does ≡ reads → (p : Plan) × (held d (slot_number u.slot) ≡ some p)

no_uses : (d : Desk) → ReadsHeld d []
no_uses d u m e = absurd (Memᴰ.not-nil m)

reading_held : (d : Desk) (a : ℕ) (us : List SlotUse) (p : Plan) → held d (slot_number a)
    ≡ some p → ReadsHeld d us → ReadsHeld d (reading a ∷ us)
reading_held d a us p x rest u m e = by_place (Memᴰ.cases_cons m)
  where
    by_place : (u ≡ reading a) ⊎ Memᴰ u us → (q : Plan) × (held d (slot_number u.slot) ≡ some q)
    by_place (inl h) = (p, subst (λ v. held d (slot_number v.slot) ≡ some p) (sym h) x)
    by_place (inr k) = rest u k e

abbrev ReadsNot : Use → Type 0
ReadsNot reads = ⊥
ReadsNot target = Unit {0}
ReadsNot mentions = Unit {0}

unread_held : (d : Desk) (v : SlotUse) → ReadsNot v.does → (us : List SlotUse) → ReadsHeld d us → ReadsHeld d (v ∷ us)
unread_held d v n us rest u m e = by_place (Memᴰ.cases_cons m)
  where
    by_place : (u ≡ v) ⊎ Memᴰ u us → (q : Plan) × (held d (slot_number u.slot) ≡ some q)
    by_place (inl h) = absurd (subst ReadsNot (sym (ap (λ v. v.does) h) ∙ e) n)
    by_place (inr k) = rest u k e

writing_held : (d : Desk) (a : ℕ) (us : List SlotUse) → ReadsHeld d us → ReadsHeld d (writing a ∷ us)
writing_held d a us rest = unread_held d (writing a) tt us rest

pub job_reads : (d : Desk) (r : Record) → Passes (λ _. ReadsHeld d (slots_named r)) (job d r)
unfolding job kind
job_reads d (P a n r) = any_then _ (λ _. passes (writing_held d a [] (no_uses d)))
job_reads d (M from to) = any_then _ (λ _. any_then _ (λ _. any_then _ (λ _. passes (no_uses d))))
job_reads d E = any_then _ (λ _. any_then _ (λ _. passes (no_uses d)))
job_reads d (F a b c) =
    passes_then (plan_held d a) (λ p x. passes_then (plan_held d b) (λ q y. any_then _ (λ _. passes
    (reading_held d a (reading b ∷ writing c ∷ []) p x (reading_held d b (writing c ∷ []) q y (writing_held d c [] (no_uses d)))))))
job_reads d (I a c) =
    passes_then (plan_held d a) (λ p x. any_then _ (λ _. passes (reading_held d a (writing c ∷ []) p x (writing_held d c [] (no_uses d)))))
job_reads d (K a k c) =
    any_then _ (λ _. passes_then (plan_held d a) (λ p x. any_then _ (λ _. passes
    (reading_held d a (writing c ∷ []) p x (writing_held d c [] (no_uses d))))))
job_reads d (S a b) =
    passes_then (plan_held d a) (λ p x. passes_then (plan_held d b) (λ q y. any_then _ (λ _. passes
    (reading_held d a (reading b ∷ []) p x (reading_held d b [] q y (no_uses d))))))
job_reads d (W a code) = passes_then (plan_held d a) (λ p x. any_then _ (λ _. passes (reading_held d a [] p x (no_uses d))))
job_reads d (L a) = passes_then (plan_held d a) (λ p x. passes (reading_held d a [] p x (no_uses d)))
job_reads d (C a) = any_then _ (λ _. passes (writing_held d a [] (no_uses d)))
job_reads d T = passes (no_uses d)
job_reads d U = passes (no_uses d)
job_reads d (X a n r s seed) = any_then _ (λ _. any_then _ (λ _. passes (writing_held d a [] (no_uses d))))
job_reads d (Z s) = passes (no_uses d)
job_reads d (G s a x) = any_then _ (λ _. passes (unread_held d (mentioning a) tt [] (no_uses d)))
job_reads d H = any_then _ (λ _. passes (no_uses d))

-- slots other than the targets are as they were
abbrev Spares : Desk → Record → Effect → Type 0
Spares d r e =
    needs_open r ≡ false → (j : ℕ) → ((u : SlotUse) → Memᴰ u (slots_named r) → u.does ≡ target → slot_number u.slot ≡ j → ⊥)
    → held e.0 j ≡ held d j

pub job_spares : (d : Desk) (r : Record) → Passes (Spares d r) (job d r)
unfolding job kind with_draft at_station with_right
job_spares d (P a n r) = any_then _ (λ _. passes (λ o j h. refl))
job_spares d (M from to) = any_then _ (λ _. any_then _ (λ _. any_then _ (λ _. passes (λ o. absurd (clash refl o)))))
job_spares d E = any_then _ (λ _. any_then _ (λ _. passes (λ o. absurd (clash refl o))))
job_spares d (F a b c) =
    any_then _ (λ _. any_then _ (λ _. any_then _ (λ r. passes (λ o j h. desk_parts.changed_elsewhere d (slot_number c) j (some r)
    (h (writing c) (Memᴰ.tail (Memᴰ.tail (Memᴰ.head refl))) refl)))))
job_spares d (I a c) =
    any_then _ (λ _. any_then _ (λ r. passes (λ o j h. desk_parts.changed_elsewhere d (slot_number c) j (some r)
    (h (writing c) (Memᴰ.tail (Memᴰ.head refl)) refl))))
job_spares d (K a k c) =
    any_then _ (λ _. any_then _ (λ _. any_then _ (λ r. passes (λ o j h. desk_parts.changed_elsewhere d (slot_number c) j (some r)
    (h (writing c) (Memᴰ.tail (Memᴰ.head refl)) refl)))))
job_spares d (S a b) = any_then _ (λ _. any_then _ (λ _. any_then _ (λ _. passes (λ o j h. refl))))
job_spares d (W a code) = any_then _ (λ _. any_then _ (λ _. passes (λ o j h. refl)))
job_spares d (L a) = any_then _ (λ _. passes (λ o j h. refl))
job_spares d (C a) =
    any_then _ (λ _. passes (λ o j h. desk_parts.changed_elsewhere d (slot_number a) j none (h (writing a) (Memᴰ.head refl) refl)))
job_spares d T = passes (λ o j h. refl)
job_spares d U = passes (λ o j h. refl)
job_spares d (X a n r s seed) =
    any_then _ (λ _. any_then _ (λ p. passes (λ o j h. desk_parts.changed_elsewhere d (slot_number a) j (some p)
    (h (writing a) (Memᴰ.head refl) refl))))
job_spares d (Z s) = passes (λ o j h. refl)
job_spares d (G s a x) = any_then _ (λ _. passes (λ o j h. refl))
job_spares d H = any_then _ (λ _. passes (λ o j h. refl))

-- a target is written
abbrev Writes : Desk → List SlotUse → Desk → Type 0
Writes d us c = (u : SlotUse) → Memᴰ u us → u.does ≡ target → Written d (slot_number u.slot) c

no_targets : (d : Desk) (e : Desk) → Writes d [] e
no_targets d e u m q = absurd (Memᴰ.not-nil m)

target_written : (d : Desk) (a : ℕ) (us : List SlotUse) (e : Desk) → Written d (slot_number a) e → Writes d us e
    → Writes d (writing a ∷ us) e
target_written d a us e x rest u m q = by_place (Memᴰ.cases_cons m)
  where
    by_place : (u ≡ writing a) ⊎ Memᴰ u us → Written d (slot_number u.slot) e
    by_place (inl h) = subst (λ v. Written d (slot_number v.slot) e) (sym h) x
    by_place (inr k) = rest u k q

abbrev WritesNot : Use → Type 0
WritesNot reads = Unit {0}
WritesNot target = ⊥
WritesNot mentions = Unit {0}

no_target : (d : Desk) (v : SlotUse) → WritesNot v.does → (us : List SlotUse) (e : Desk) → Writes d us e → Writes d (v ∷ us) e
no_target d v n us e rest u m q = by_place (Memᴰ.cases_cons m)
  where
    by_place : (u ≡ v) ⊎ Memᴰ u us → Written d (slot_number u.slot) e
    by_place (inl h) = absurd (subst WritesNot (sym (ap (λ v. v.does) h) ∙ q) n)
    by_place (inr k) = rest u k q

pub job_writes : (d : Desk) (r : Record) → Passes (λ e. Writes d (slots_named r) e.0) (job d r)
unfolding job kind
job_writes d (P a n r) = any_then _ (λ _. passes (target_written d a [] _ (inr (_, refl, refl)) (no_targets d _)))
job_writes d (M from to) = any_then _ (λ _. any_then _ (λ _. any_then _ (λ _. passes (no_targets d _))))
job_writes d E = any_then _ (λ _. any_then _ (λ _. passes (no_targets d _)))
job_writes d (F a b c) =
    any_then _ (λ _. any_then _ (λ _. any_then _ (λ r. passes (no_target d (reading a) tt _ _ (no_target d (reading b) tt _ _
    (target_written d c [] _ (inl (some r, refl)) (no_targets d _)))))))
job_writes d (I a c) = any_then _ (λ _. any_then _ (λ r. passes
    (no_target d (reading a) tt _ _ (target_written d c [] _ (inl (some r, refl)) (no_targets d _)))))
job_writes d (K a k c) =
    any_then _ (λ _. any_then _ (λ _. any_then _ (λ r. passes
    (no_target d (reading a) tt _ _ (target_written d c [] _ (inl (some r, refl)) (no_targets d _))))))
job_writes d (S a b) =
    any_then _ (λ _. any_then _ (λ _. any_then _ (λ _. passes
    (no_target d (reading a) tt _ _ (no_target d (reading b) tt _ _ (no_targets d _))))))
job_writes d (W a code) = any_then _ (λ _. any_then _ (λ _. passes (no_target d (reading a) tt _ _ (no_targets d _))))
job_writes d (L a) = any_then _ (λ _. passes (no_target d (reading a) tt _ _ (no_targets d _)))
job_writes d (C a) = any_then _ (λ _. passes (target_written d a [] _ (inl (none, refl)) (no_targets d _)))
job_writes d T = passes (no_targets d _)
job_writes d U = passes (no_targets d _)
job_writes d (X a n r s seed) = any_then _ (λ _. any_then _ (λ p. passes (target_written d a [] _ (inl (some p, refl)) (no_targets d _))))
job_writes d (Z s) = passes (no_targets d _)
job_writes d (G s a x) = any_then _ (λ _. passes (no_target d (mentioning a) tt _ _ (no_targets d _)))
job_writes d H = any_then _ (λ _. passes (no_targets d _))
