-- Change request E6's statement, that stations learn nothing of what they may not read: the replies of a station can be computed from what it
-- has of its own and what it saw, line by line (`replay`). So two sessions in which it sent and saw the same give it the same replies.
use Prim.Native.Nat.{ℕ}
use mathlib.Core.Path.{◌≡◌, refl, sym, ◌∙◌, ap, ap₂, subst}
use mathlib.Core.Logic.{◌⊎◌, inl, inr}
use mathlib.Core.Bool.{Bool, true, false, ◌&&◌, not}
use mathlib.Core.List.{List, [], ◌∷◌}
use mathlib.Core.Option.{Option, none, some}
use lib.Dec.{T as So, eqb}
use borrow.Author.Tests.{eqb-true, eqb-false}
use Rattle.higman.specs.Words.{given}
use Rattle.higman.specs.Text.{Bytes}
use Rattle.higman.proofs.Tests.{clash}
use Rattle.desk.specs.Desk.{Desk, fresh_desk, station_of, IsDesk, dropped, at_station}
use Rattle.desk.specs.Records.{Record}
use Rattle.desk.specs.Replies.{Reply, refuses, Outcome, refuse, pass, ◌>>=◌, Effect, operation, record_of, line_operation, settle}
use Rattle.desk.specs.Replies.{respond_line}
use Rattle.desk.specs.Sights.{hands_over, turn_to, whole_turns, sent_by, Sight, sight_of, sights, replies_to}
use Rattle.desk.proofs.Stays.{desk_stays}
use Rattle.desk.proofs.Alike.{Alike, Same, Agree}
use Rattle.desk.proofs.OperationsAlike.{operation_agrees}
use Rattle.desk.proofs.Turns.{turned, stayed, others_stay, closed_at_turn, later_turns}
use Rattle.desk.proofs.Rebuilt.{Own, own, own_here, own_away, own_closed, rebuilt}
use Rattle.desk.proofs.RebuiltAlike.{rebuilt_alike}

-- the replies from what a station has of its own and what it saw alone
replay : ℕ → Own → List Sight → List Reply
replay s o [] = []
replay s o (x ∷ xs) =
    let e = respond_line (rebuilt s o x) x.line in e.1 ∷ replay s (own s e.0) xs

-- a line that does not hand over is answered alike by desks that are alike
module _ (d c : Desk) (h : Alike d c) where
  same_refused : (r : Reply) → Same (dropped d, r) (dropped c, r)
  unfolding dropped
  same_refused r = record { reply = refl; draft = refl; count = h.count; station = h.station }

  settled_same : (o p : Outcome Effect) → Agree Same o p → Same (settle d o) (settle c p)
  settled_same o p (Agree.refuses {n} {c = a}) = same_refused (refuses n a)
  settled_same o p (Agree.passes q) = q

  line_same : (l : Bytes) → turn_to l ≡ none → Same (respond_line d l) (respond_line c l)
  unfolding respond_line line_operation ◌>>=◌
  line_same l e = by (record_of l) e
    where
      by : (o : Outcome Record) → ◌≡◌ {A = Option ℕ} (elim o [ refuse n c ↦ none | pass r ↦ hands_over r ]) none
          → Same (settle d (o >>= operation d)) (settle c (o >>= operation c))
      by (refuse n a) e = same_refused (refuses n a)
      by (pass r) e = settled_same (operation d r) (operation c r) (operation_agrees d c h r e)

-- what a station has of its own after a line: what it had, where the line hands over or another station is named
module _ (s : ℕ) (d : Desk) (l : Bytes) where
  abbrev next : Desk
  next = (respond_line d l).0

  own_turned : (t : ℕ) → d.draft ≡ none → turn_to l ≡ some t → own s next ≡ own s d
  unfolding at_station
  own_turned t n q =
      let step = ap (λ (e : Effect). e.0) (turned d l t n q) in
      ap (own s) step ∙ own_closed s (at_station d t) n ∙ sym (own_closed s d n)

  own_foreign : IsDesk d → (station_of d ≡ s → ⊥) → turn_to l ≡ none → own s next ≡ own s d
  own_foreign D n q =
      own_away s next (λ e. n (sym (stayed d l q) ∙ e))
      ∙ ap (λ k. record { count = k; draft = none }) (others_stay d D l s n)
      ∙ sym (own_away s d n)

own_same : (s : ℕ) (e f : Effect) → station_of e.0 ≡ s → Same e f → own s e.0 ≡ own s f.0
own_same s e f here h =
    own_here s e.0 here ∙ (λ i. record { count = h.count i; draft = h.draft i }) ∙ sym (own_here s f.0 (sym h.station ∙ here))

both_true : (a b : Bool) → (a && b) ≡ true → (a ≡ true) × (b ≡ true)
both_true true b q = (refl, q)
both_true false b q = absurd (clash q refl)

one_false : (a b : Bool) → (a && b) ≡ false → (a ≡ false) ⊎ (b ≡ false)
one_false true b q = inr q
one_false false b q = inl refl

none_given : {A : Type 0} (x : Option A) → not (given x) ≡ true → x ≡ none
none_given none e = refl
none_given (some a) e = absurd (clash e refl)

replayed : (s : ℕ) (d : Desk) → IsDesk d → (ls : List Bytes) → So (whole_turns d ls) → replies_to s d ls ≡ replay s (own s d) (sights s d ls)
unfolding replies_to sights replay
replayed s d D [] w = refl
replayed s d D (l ∷ ls) w = by (sent_by s d l) refl (replayed s e.0 (desk_stays.line d l D) ls (later_turns d l ls w))
  where
    e : Effect
    e = respond_line d l

    own_stays : sent_by s d l ≡ false → own s e.0 ≡ own s d
    own_stays q = at (turn_to l) refl (one_false (eqb (station_of d) s) (not (given (turn_to l))) q)
      where
        at : (x : Option ℕ) → turn_to l ≡ x → (eqb (station_of d) s ≡ false) ⊎ (not (given (turn_to l)) ≡ false) → own s e.0 ≡ own s d
        at (some t) k h = own_turned s d l t (closed_at_turn d l ls t w k) k
        at none k (inl h) = own_foreign s d l D (eqb-false (station_of d) s h) k
        at none k (inr h) = absurd (clash (ap (λ x. not (given x)) k) h)

    by : (b : Bool) → sent_by s d l ≡ b → replies_to s e.0 ls ≡ replay s (own s e.0) (sights s e.0 ls)
        → (elim b as (λ _. List Reply) [ true ↦ e.1 ∷ replies_to s e.0 ls | false ↦ replies_to s e.0 ls ])
        ≡ replay s (own s d) (elim b as (λ _. List Sight) [ true ↦ sight_of d l ∷ sights s e.0 ls | false ↦ sights s e.0 ls ])
    by false q rest = rest ∙ ap (λ o. replay s o (sights s e.0 ls)) (own_stays q)
    by true q rest =
        let (here, quiet) = both_true (eqb (station_of d) s) (not (given (turn_to l))) q in
        let at : station_of d ≡ s = eqb-true (station_of d) s here in
        let stays = none_given (turn_to l) quiet in
        let c = rebuilt s (own s d) (sight_of d l) in
        let alike : Alike d c = subst (λ t. Alike d (rebuilt t (own t d) (sight_of d l))) at (rebuilt_alike d D l) in
        let same = line_same d c alike l stays in
        ap₂ ◌∷◌ same.reply
        (rest ∙ ap (λ o. replay s o (sights s e.0 ls)) (own_same s e (respond_line c l) (stayed d l stays ∙ at) same))

pub same_replies : (s : ℕ) (ls ms : List Bytes) → So (whole_turns fresh_desk ls) → So (whole_turns fresh_desk ms)
    → sights s fresh_desk ls ≡ sights s fresh_desk ms → replies_to s fresh_desk ls ≡ replies_to s fresh_desk ms
same_replies s ls ms w v e =
    let from = replayed s fresh_desk desk_stays.fresh in
    from ls w ∙ ap (replay s (own s fresh_desk)) e ∙ sym (from ms v)

own_line : (s : ℕ) (d : Desk) (l : Bytes) → station_of d ≡ s → turn_to l ≡ none → sent_by s d l ≡ true
own_line s d l e q = ap₂ (λ (a b : Bool). a && b) (ap (eqb (station_of d)) (sym e)
    ∙ Rattle.higman.proofs.Tests.so _ (lib.Dec.eqb_refl (station_of d))) (ap (λ x. not (given x)) q)

other_line : (s : ℕ) (d : Desk) (l : Bytes) → ((station_of d ≡ s) × (turn_to l ≡ none) → ⊥) → sent_by s d l ≡ false
other_line s d l n = by (sent_by s d l) refl
  where
    by : (b : Bool) → sent_by s d l ≡ b → b ≡ false
    by false q = refl
    by true q =
        let (here, quiet) = both_true (eqb (station_of d) s) (not (given (turn_to l))) q in
        absurd (n (eqb-true (station_of d) s here, none_given (turn_to l) quiet))

pub replied : (s : ℕ) (d : Desk) (l : Bytes) (ls : List Bytes) → station_of d ≡ s → turn_to l ≡ none
    → replies_to s d (l ∷ ls) ≡ (respond_line d l).1 ∷ replies_to s (respond_line d l).0 ls
unfolding replies_to
replied s d l ls e q =
    ap (λ b. elim b as (λ _. List Reply) [
      | true ↦ (respond_line d l).1
          ∷ replies_to s (respond_line d l).0 ls
      | false ↦ replies_to s (respond_line d l).0 ls
    ])
    (own_line s d l e q)

pub unseen : (s : ℕ) (d : Desk) (l : Bytes) (ls : List Bytes) → ((station_of d ≡ s) × (turn_to l ≡ none) → ⊥)
    → sights s d (l ∷ ls) ≡ sights s (respond_line d l).0 ls
unfolding sights
unseen s d l ls n =
    ap (λ b. elim b as (λ _. List Sight) [
      | true ↦ sight_of d l
          ∷ sights s (respond_line d l).0 ls
      | false ↦ sights s (respond_line d l).0 ls
    ])
    (other_line s d l n)

pub seen_then : (s : ℕ) (d : Desk) (l : Bytes) (ls : List Bytes) → station_of d ≡ s → turn_to l ≡ none
    → sights s d (l ∷ ls) ≡ sight_of d l ∷ sights s (respond_line d l).0 ls
unfolding sights
seen_then s d l ls e q =
    ap (λ b. elim b as (λ _. List Sight) [
      | true ↦ sight_of d l
          ∷ sights s (respond_line d l).0 ls
      | false ↦ sights s (respond_line d l).0 ls
    ])
    (own_line s d l e q)
