-- What a line does to whose turn it is (change request E6): one that hands over, with no plan open, names the next station and does nothing
-- else; every other leaves the station, and the counts of the others. So in whole turns the input tells whose turn it is.
use Prim.Native.Nat.{ℕ, ◌≤◌, ◌<◌}
use native.Mathlib.Omega.{arith}
use mathlib.Core.Path.{◌≡◌, refl, sym, ◌∙◌, ap, subst}
use mathlib.Core.Bool.{Bool, true, false, ◌&&◌, not}
use mathlib.Core.List.{List, [], ◌∷◌, ◌++◌}
use mathlib.Core.Option.{Option, none, some}
use lib.Dec.{T as So, eqb}
use borrow.Author.Tests.{ne_eqb}
use Rattle.higman.specs.Text.{Bytes}
use Rattle.higman.specs.Words.{given}
use Rattle.higman.proofs.Tests.{so, and_left, and_right, clash}
use Rattle.desk.specs.Limits.{station_count}
use Rattle.desk.specs.Desk.{Desk, fresh_desk, station_of, changes_of, IsDesk, dropped, at_station}
use Rattle.desk.specs.Records.{Record, Z}
use Rattle.desk.specs.Replies.{ok, Outcome, refuse, pass, ◌>>=◌, Effect, bit, is_open, operation, record_of, line_operation, settle}
use Rattle.desk.specs.Replies.{respond_line, run, desk_after}
use Rattle.desk.specs.Stations.{made_change}
use Rattle.desk.specs.Sights.{hands_over, turn_to, whole_turns, last_named}
use Rattle.desk.proofs.Outcomes.{Passes, passes, Admitted, passes_operation}
use Rattle.desk.proofs.Desks.{station_test}
use Rattle.desk.proofs.Counts.{stay_steps, line_adds}
use Rattle.desk.proofs.CountsOfStations.{counts_of_stations}
use Rattle.desk.proofs.Alike.{no_Z}
use Rattle.desk.proofs.HandsOver.{no_turn, hands_over_lem}

eight : (s : ℕ) → s < station_count → s ≤ 7
unfolding station_count
eight s h = omega arith

-- a line that hands over
pub turned : (d : Desk) (l : Bytes) (t : ℕ) → d.draft ≡ none → turn_to l ≡ some t → respond_line d l ≡ (at_station d t, ok)
unfolding respond_line line_operation ◌>>=◌
turned d l t o e = by (record_of l) e
  where
    by : (x : Outcome Record) → ◌≡◌ {A = Option ℕ} (elim x [ refuse n c ↦ none | pass r ↦ hands_over r ]) (some t)
        → settle d (x >>= operation d) ≡ (at_station d t, ok)
    by (refuse n c) q = no_turn q
    by (pass r) q =
        let (is-Z, known) = hands_over_lem r t q in
        ap (λ r. settle d (operation d r)) is-Z ∙ ap (settle d) (counts_of_stations.names d t o (eight t ((station_test t).0 known)))

-- a line that doesn't
pub stayed : (d : Desk) (l : Bytes) → turn_to l ≡ none → station_of (respond_line d l).0 ≡ station_of d
unfolding respond_line line_operation ◌>>=◌ dropped
stayed d l e = by (record_of l) e
  where
    settled : (o : Outcome Effect) → Passes (λ e. station_of e.0 ≡ station_of d) o → station_of (settle d o).0 ≡ station_of d
    settled (refuse n c) k = refl
    settled (pass e) (passes k) = k

    not_Z : (r : Record) → hands_over r ≡ none → Admitted d r → (s : ℕ) → r ≡ Z s → ⊥
    not_Z r q a s k = no_Z d s (subst (Admitted d) k a) (subst (λ r. hands_over r ≡ none) k q)

    by : (x : Outcome Record) → ◌≡◌ {A = Option ℕ} (elim x [ refuse n c ↦ none | pass r ↦ hands_over r ]) none
        → station_of (settle d (x >>= operation d)).0 ≡ station_of d
    by (refuse n c) q = refl
    by (pass r) q = settled (operation d r) (passes_operation d r (λ t. stay_steps d r (not_Z r q t.admitted)))

pub others_stay : (d : Desk) → IsDesk d → (l : Bytes) (s : ℕ) → (station_of d ≡ s → ⊥)
    → changes_of (respond_line d l).0.control s ≡ changes_of d.control s
others_stay d D l s n =
    let none_made : bit (made_change d l && eqb (station_of d) s) ≡ 0 = ap (λ b. bit (made_change d l && b)) (ne_eqb (station_of d) s n)
    ∙ none (made_change d l) in
    omega (arith, line_adds d D s l, none_made)
  where
    none : (b : Bool) → bit (b && false) ≡ 0
    none true = refl
    none false = refl

-- no plan is open where a whole turn ends
pub closed_at_turn : (d : Desk) (l : Bytes) (ls : List Bytes) (t : ℕ) → So (whole_turns d (l ∷ ls)) → turn_to l ≡ some t → d.draft ≡ none
unfolding whole_turns
closed_at_turn d l ls t w q =
    none_given d.draft (sym (ap (λ x. elim x as (λ _. Bool) [ none ↦ true | some t ↦ not (is_open d) ]) q)
    ∙ so turn (and_left turn (whole_turns (respond_line d l).0 ls) w))
  where
    turn : Bool
    turn = elim (turn_to l) [ none ↦ true | some t ↦ not (is_open d) ]

    none_given : {A : Type 0} (x : Option A) → not (given x) ≡ true → x ≡ none
    none_given none e = refl
    none_given (some a) e = absurd (clash e refl)

pub later_turns : (d : Desk) (l : Bytes) (ls : List Bytes) → So (whole_turns d (l ∷ ls)) → So (whole_turns (respond_line d l).0 ls)
unfolding whole_turns
later_turns d l ls w = and_right (elim (turn_to l) [ none ↦ true | some t ↦ not (is_open d) ]) (whole_turns (respond_line d l).0 ls) w

pub whole_turns_lem : (d : Desk) (ls : List Bytes) → So (whole_turns d ls)
    → (ms ns : List Bytes) (l : Bytes) (t : ℕ) → ls ≡ ms ++ l ∷ ns → turn_to l ≡ some t → (desk_after d (run d ms)).draft ≡ none
unfolding run
whole_turns_lem d ls w [] ns l t e q = closed_at_turn d l ns t (subst (λ k. So (whole_turns d k)) e w) q
whole_turns_lem d ls w (m ∷ ms) ns l t e q =
    whole_turns_lem (respond_line d m).0 (ms ++ l ∷ ns) (later_turns d m (ms ++ l ∷ ns) (subst (λ k. So (whole_turns d k)) e w)) ms ns l t refl q

pub turns_whole : (d : Desk) (ls : List Bytes)
    → ((ms ns : List Bytes) (l : Bytes) (t : ℕ) → ls ≡ ms ++ l ∷ ns → turn_to l ≡ some t → (desk_after d (run d ms)).draft ≡ none)
    → So (whole_turns d ls)
unfolding run whole_turns
turns_whole d [] h = tt
turns_whole d (l ∷ ls) h =
    by (turn_to l) refl (turns_whole (respond_line d l).0 ls (λ ms ns k t e q. h (l ∷ ms) ns k t (ap (λ r. l ∷ r) e) q))
  where
    by : (x : Option ℕ) → turn_to l ≡ x → So (whole_turns (respond_line d l).0 ls)
        → So ((elim x as (λ _. Bool) [ none ↦ true | some t ↦ not (is_open d) ]) && whole_turns (respond_line d l).0 ls)
    by none q w = w
    by (some t) q w = subst (λ (o : Option Rattle.desk.specs.Desk.Draft). So (not (given o) && whole_turns (respond_line d l).0 ls))
        (sym (h [] ls l t refl q)) w

last_named_lem : (ls : List Bytes) (d : Desk) → So (whole_turns d ls) → station_of (desk_after d (run d ls)) ≡ last_named (station_of d) ls
unfolding run at_station
last_named_lem [] d w = refl
last_named_lem (l ∷ ls) d w = by (turn_to l) refl (last_named_lem ls (respond_line d l).0 (later_turns d l ls w))
  where
    by : (x : Option ℕ) → turn_to l ≡ x
        → station_of (desk_after (respond_line d l).0 (run (respond_line d l).0 ls)) ≡ last_named (station_of (respond_line d l).0) ls
        → station_of (desk_after (respond_line d l).0 (run (respond_line d l).0 ls))
        ≡ elim x [ none ↦ last_named (station_of d) ls | some t ↦ last_named t ls ]
    by none q rest = rest ∙ ap (λ s. last_named s ls) (stayed d l q)
    by (some t) q rest = rest ∙ ap (λ e. last_named (station_of e.0) ls) (turned d l t (closed_at_turn d l ls t w q) q)

pub senders_named : (ls : List Bytes) → So (whole_turns fresh_desk ls) → station_of (desk_after fresh_desk (run fresh_desk ls)) ≡ last_named 0 ls
senders_named ls w = last_named_lem ls fresh_desk w ∙ ap (λ s. last_named s ls) counts_of_stations.first
