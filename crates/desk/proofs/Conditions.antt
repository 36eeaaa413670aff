-- Each number under its condition and no other: on a desk an operation is refused with the first condition of the paper's table that
-- holds, and done where none holds. The laws of the steps, applied step by step.
use Prim.Native.Nat.{ℕ, zero-le}
use mathlib.Core.Path.{◌≡◌, refl, ◌∙◌, ap}
use mathlib.Core.Bool.{Bool, true, false, ◌&&◌, ◌||◌, not}
use mathlib.Core.List.{List, [], ◌∷◌, ◌++◌}
use lib.Dec.{leb, eqb, le→leb}
use borrow.Author.Tests.{not-false}
use lib.IntN.{pos, nat_abs}
use lib.ListN.{length}
use Rattle.higman.specs.Words.{count}
use Rattle.higman.specs.Bases.{all, any_of, overlap, gap}
use Rattle.higman.specs.Tables.{froms, tos}
use Rattle.higman.specs.Normal.{compose, power}
use Rattle.higman.specs.Limits.{shape_in_range, seed_in_range, granted, pair_fits, is_code, max_pairs, max_power, is_plan_word}
use Rattle.higman.specs.Answers.{same_shape}
use Rattle.higman.specs.Exercises.{exercised}
use Rattle.higman.specs.Refusals.{shape_outside, pairs_full, power_outside, count_full, slot_outside, wrong_state, bad_word, words_overlap}
use Rattle.higman.specs.Refusals.{root_uncovered, slot_empty, shapes_differ, limit_broken, seed_outside, station_outside}
use Rattle.higman.specs.Refusals.{station_refused, right_missing, Letter}
use Rattle.higman.proofs.Tests.{so, clash}
use Rattle.desk.specs.Desk.{Desk, station_of, own_right, IsDesk, is_station}
use Rattle.desk.specs.Records.{Record, P, M, E, F, I, K, S, W, L, C, T as Tᴿ, U, X, Z, G, H, stations_named, slots_named}
use Rattle.desk.specs.Records.{needed_right, is_change, kind}
use Rattle.higman.specs.Listing.{slot_number}
use Rattle.higman.specs.Text.{word_of}
use Rattle.desk.specs.Replies.{Effect, Outcome, pass, ◌>>=◌, is_open, open_amiss, no_station, outside}
use Rattle.desk.specs.Replies.{denied, at_limit}
use Rattle.desk.specs.Replies.{job, operation, admission, ◌when◌}
use Rattle.desk.specs.Conditions.{Condition, in_column, outside_of, is_empty, of_plan, of_open, of_both, conditions, first_of, refusal_of}
use Rattle.desk.specs.Conditions.{◌if◌}
use Rattle.desk.proofs.Says.{Says, done, when_then, says_then, open_then, plan_then, plans_then, verdict_then, inverted_then}
use Rattle.desk.proofs.Says.{powered_then, routed_then, exercise_then, followed_says, same_says}

-- The conditions of a record's own, between 20 and 16.
own_conditions : Desk → Record → List Condition
own_conditions d (P a n r) = (shape_outside if not (shape_in_range (record { arity = n; roots = r }))) ∷ []
own_conditions d (M from to) =
    (bad_word if of_open d (λ o. not (is_plan_word o.shape (word_of from) && is_plan_word o.shape (word_of to)))) ∷
    (pairs_full if of_open d (λ o. leb max_pairs (length o.rows))) ∷
    []
own_conditions d E =
    in_column words_overlap Letter.F (of_open d (λ o. overlap (froms o.rows))) ∷
    in_column root_uncovered Letter.F (of_open d (λ o. gap o.shape (froms o.rows))) ∷
    in_column words_overlap Letter.T (of_open d (λ o. overlap (tos o.rows))) ∷
    in_column root_uncovered Letter.T (of_open d (λ o. gap o.shape (tos o.rows))) ∷
    []
own_conditions d (F a b c) =
    (slot_empty if is_empty d a || is_empty d b) ∷
    (shapes_differ if of_both d a b (λ p q. not (same_shape p.shape q.shape))) ∷
    (limit_broken if of_both d a b (λ p q. not (granted (compose p.shape p.rows q.rows)))) ∷
    []
own_conditions d (I a c) = (slot_empty if is_empty d a) ∷ []
own_conditions d (K a k c) =
    (power_outside if not (leb (nat_abs k) max_power)) ∷
    (slot_empty if is_empty d a) ∷
    (limit_broken if of_plan d a (λ p. any_of (λ j. not (granted (power p.shape p.rows (pos j)))) (count 1 (nat_abs k)))) ∷
    []
own_conditions d (S a b) =
    (slot_empty if is_empty d a || is_empty d b) ∷ (shapes_differ if of_both d a b (λ p q. not (same_shape p.shape q.shape))) ∷ []
own_conditions d (W a code) =
    (slot_empty if is_empty d a) ∷
    (bad_word if of_plan d a (λ p. not (is_code p.shape (word_of code)))) ∷
    []
own_conditions d (L a) = (slot_empty if is_empty d a) ∷ []
own_conditions d (C a) = (slot_empty if is_empty d a) ∷ []
own_conditions d Tᴿ = []
own_conditions d U = []
own_conditions d (X a n r s seed) =
    (shape_outside if not (shape_in_range (record { arity = n; roots = r }))) ∷
    (seed_outside if not (seed_in_range seed)) ∷
    (pairs_full if not (leb (length (exercised (record { arity = n; roots = r }) s seed)) max_pairs)) ∷
    (bad_word if not (all pair_fits (exercised (record { arity = n; roots = r }) s seed))) ∷
    []
own_conditions d (Z s) = []
own_conditions d (G s a x) = (station_refused if not (eqb (station_of d) 0) || eqb s 0) ∷ []
own_conditions d H = (station_refused if not (eqb (station_of d) 0)) ∷ []

own_says : (d : Desk) → IsDesk d → (r : Record) → open_amiss d r ≡ false → Says (job d r) (own_conditions d r)
unfolding job own_conditions kind
own_says d D (P a n r) o = when_then (not (shape_in_range (record { arity = n; roots = r }))) (λ _ _. done)
own_says d D (M from to) o =
    open_then d o (λ o e. rw e (when_then (not (is_plan_word o.shape (word_of from) && is_plan_word o.shape (word_of to)))
    (λ _ _. when_then (leb max_pairs (length o.rows)) (λ _ _. done))))
own_says d D E o = open_then d o (λ o e. rw e (verdict_then o.shape o.rows (λ _. done)))
own_says d D (F a b c) o = plans_then d a b (λ p q e f. followed_says d a b p q e f (λ r. done))
own_says d D (I a c) o = plan_then d a (λ p e. inverted_then p (λ r. done))
own_says d D (K a k c) o =
    when_then (not (leb (nat_abs k) max_power))
    (λ _ h. plan_then d a (λ p e. rw (e, of_plan) (powered_then p (D.kept (slot_number a) p e) k (not-false _ h) (λ r. done))))
own_says d D (S a b) o = plans_then d a b (λ p q e f. same_says d a b p q e f (λ b. done))
own_says d D (W a code) o =
    plan_then d a (λ p e. rw (e, of_plan) (routed_then p (word_of code) (λ reply. done)))
own_says d D (L a) o = plan_then d a (λ p e. done)
own_says d D (C a) o = plan_then d a (λ p e. done)
own_says d D Tᴿ o = done
own_says d D U o = done
own_says d D (X a n r s seed) o =
    when_then (not (shape_in_range (record { arity = n; roots = r }))) (λ _ _. exercise_then (record { arity = n; roots = r }) s seed (λ p. done))
own_says d D (Z s) o = done
own_says d D (G s a x) o = when_then (not (eqb (station_of d) 0) || eqb s 0) (λ _ _. done)
own_says d D H o = when_then (not (eqb (station_of d) 0)) (λ _ _. done)

-- the order of all operations
abbrev shared : Desk → Record → List Condition
shared d r =
    (wrong_state if open_amiss d r) ∷
    (station_outside if no_station (stations_named r)) ∷
    (slot_outside if outside (slots_named r)) ∷
    (right_missing if denied d (slots_named r)) ∷
    (own_conditions d r ++ (count_full if is_change r && at_limit d) ∷ [])

shared_says : (d : Desk) → IsDesk d → (r : Record) → Says (operation d r) (shared d r)
unfolding operation admission ◌>>=◌
shared_says d D r =
    steps (open_amiss d r) refl (no_station (stations_named r)) (outside (slots_named r)) (denied d (slots_named r))
  where
    rest : Unit {0} → Outcome Effect
    rest _ = job d r >>= λ e. (count_full when (is_change r && at_limit d)) >>= λ _. pass e

    own : open_amiss d r ≡ false → Says (rest tt) (own_conditions d r ++ (count_full if is_change r && at_limit d) ∷ [])
    own o = says_then (job d r) (own_says d D r o) (λ e. when_then (is_change r && at_limit d) (λ _ _. done))

    steps : (b : Bool) → open_amiss d r ≡ b → (s c m : Bool)
        → Says (((wrong_state when b) >>= λ _. (station_outside when s) >>= λ _. (slot_outside when c) >>= λ _. right_missing when m) >>= rest)
        ((wrong_state if b) ∷ (station_outside if s) ∷ (slot_outside if c) ∷ (right_missing if m)
        ∷ (own_conditions d r ++ (count_full if is_change r && at_limit d) ∷ []))
    steps true o s c m = record { says = refl }
    steps false o true c m = record { says = refl }
    steps false o false true m = record { says = refl }
    steps false o false false true = record { says = refl }
    steps false o false false false = record { says = (own o).says }

-- the rights on slots that are read and on a target, one after the other and in two tests
abbrev both : Bool → Bool → Bool
both x y = elim x [ true ↦ y | false ↦ false ]

one_and_target : (x z : Bool) → not (both x (both z true)) ≡ (not (both x true) || not (both z true))
one_and_target true z = refl
one_and_target false z = refl

two_and_target : (x y z : Bool) → not (both x (both y (both z true))) ≡ (not (both x (both y true)) || not (both z true))
two_and_target true y z = one_and_target y z
two_and_target false y z = refl

-- the named station has at least this right on a slot
abbrev has_right : Desk → ℕ → ℕ → Bool
has_right d right b = leb right (own_right d (slot_number b))

-- another way to say a condition
same_test : (w o : Condition) (n : ℕ) (p q : Bool) (cs : List Condition) → p ≡ q
    → first_of (w ∷ o ∷ (n if p) ∷ cs) ≡ first_of (w ∷ o ∷ (n if q) ∷ cs)
same_test w o n p q cs e = ap (λ b. first_of (w ∷ o ∷ (n if b) ∷ cs)) e

-- it gives the paper's table, record by record, but for an 18, an 8, a 20 and a 16 that never hold
shared_table : (d : Desk) (r : Record) → first_of (shared d r) ≡ first_of (conditions d r)
unfolding conditions own_conditions kind needed_right
shared_table d (P a n r) = refl
shared_table d (M from to) = refl
shared_table d E = refl
shared_table d (F a b c) =
    same_test (wrong_state if is_open d) (slot_outside if outside_of (a ∷ b ∷ c ∷ [])) right_missing _ _
    (own_conditions d (F a b c) ++ (count_full if at_limit d) ∷ []) (two_and_target (has_right d 1 a) (has_right d 1 b) (has_right d 2 c))
shared_table d (I a c) =
    same_test (wrong_state if is_open d) (slot_outside if outside_of (a ∷ c ∷ [])) right_missing _ _
    (own_conditions d (I a c) ++ (count_full if at_limit d) ∷ []) (one_and_target (has_right d 1 a) (has_right d 2 c))
shared_table d (K a k c) =
    same_test (wrong_state if is_open d) (slot_outside if outside_of (a ∷ c ∷ [])) right_missing _ _
    (own_conditions d (K a k c) ++ (count_full if at_limit d) ∷ []) (one_and_target (has_right d 1 a) (has_right d 2 c))
shared_table d (S a b) = refl
shared_table d (W a code) = refl
shared_table d (L a) = refl
shared_table d (C a) = refl
shared_table d Tᴿ = refl
shared_table d U = refl
shared_table d (X a n r s seed) = refl
shared_table d H = refl
shared_table d (Z s) = by (is_station s)
  where
    known : Bool → Bool
    known b = elim b [ true ↦ true | false ↦ false ]

    by : (b : Bool)
        → first_of ((wrong_state if is_open d) ∷ (station_outside if not (known b)) ∷ (slot_outside if false) ∷ (count_full if false) ∷ [])
        ≡ first_of ((wrong_state if is_open d) ∷ (station_outside if not b) ∷ [])
    by true = refl
    by false = refl
shared_table d (G s a x) = by (is_station s) (leb 0 (own_right d (slot_number a))) (so _ (le→leb 0 (own_right d (slot_number a)) zero-le))
  where
    known : Bool → Bool
    known b = elim b [ true ↦ true | false ↦ false ]

    refused : Bool
    refused = not (eqb (station_of d) 0) || eqb s 0

    by : (b m : Bool) → m ≡ true
        → first_of ((wrong_state if is_open d) ∷ (station_outside if not (known b)) ∷ (slot_outside if outside_of (a ∷ []))
        ∷ (right_missing if not (known m)) ∷ (station_refused if refused) ∷ (count_full if false) ∷ [])
        ≡ first_of ((wrong_state if is_open d) ∷ (station_outside if not b) ∷ (slot_outside if outside_of (a ∷ []))
        ∷ (station_refused if refused) ∷ [])
    by true true e = refl
    by false true e = refl
    by b false e = absurd (clash e refl)

pub first_condition : (d : Desk) → IsDesk d → (r : Record) → refusal_of (operation d r) ≡ first_of (conditions d r)
first_condition d D r = (shared_says d D r).says ∙ shared_table d r
