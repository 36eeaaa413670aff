-- A plan typed in lines, P, an M for each pair and E, is kept exactly when all that the paper asks of it holds. A refusal drops the
-- open plan, and then every M and E that follows is refused too: the desk is as it was.
use Prim.Native.Nat.{ℕ, ◌+◌, ◌≤◌, ◌<◌}
use native.Mathlib.Omega.{arith}
use mathlib.Core.Path.{◌≡◌, refl, sym, ◌∙◌, ap, subst}
use mathlib.Core.Logic.{◌⊎◌, inl, inr}
use mathlib.Core.Bool.{Bool, true, false, ◌&&◌, not}
use mathlib.Core.List.{List, [], ◌∷◌, ◌++◌, map, append_assoc, append-nil}
use mathlib.Core.Option.{Option, none, some, some-injective, some-ne-none}
use lib.Dec.{T, leb, leb→le, lit≤}
use lib.ListN.{length, length-append, length-map}
use borrow.Author.Tests.{lt-leb, leb-true, leb-false}
use Rattle.higman.specs.Words.{Shape, given}
use Rattle.higman.specs.Text.{Bytes, digit_of, word_of, decimal}
use Rattle.higman.specs.Bases.{all}
use Rattle.higman.specs.Tables.{Pair, Table}
use Rattle.higman.specs.Normal.{keep}
use Rattle.higman.specs.Limits.{Bases, shape_in_range, granted, pair_fits, is_plan_word, max_pairs, max_digits}
use Rattle.higman.specs.Answers.{Accepted, verdict}
use Rattle.higman.specs.Refusals.{Letter}
use Rattle.higman.specs.Listing.{is_slot, slot_number}
use Rattle.higman.proofs.Tests.{passes, clash, and_left, and_right, all_cons, all_head, all_tail}
use Rattle.higman.proofs.PlanWords.{plan_word_length}
use Rattle.desk.specs.Limits.{max_changes, max_line}
use Rattle.desk.specs.Desk.{Draft, Desk, count_of, IsDraft, changed, with_draft, with_pair, dropped, own_right}
use Rattle.desk.specs.Records.{Record, P, M, E, record_fields, record_text, no_tab, has_digits, well_formed, needs_open, kind}
use Rattle.desk.specs.Conditions.{refusal_of}
use Rattle.desk.specs.Replies.{Outcome, refuse, pass, Effect, silent, is_open, open_amiss, keep_in, new_draft, closed, settle, job}
use Rattle.desk.specs.Replies.{operation, respond_line, run, desk_after}
use Rattle.desk.specs.Theorems.{TypedPair, typed_table, typed_records, Acceptable, AcceptedFromLines}
use Rattle.desk.proofs.Outcomes.{Passes, stops, passes as passes_on, passed, passes_operation}
use Rattle.desk.proofs.Stays.{below_limit, slot_below, new_draft_lem, longer_draft}
use Rattle.desk.proofs.OpenPlans.{typed_pair, are_words, open_pass, open_steps, pair_pass, pair_steps, close_pass, Closed}
use Rattle.desk.proofs.OpenPlans.{close_steps, draft_verdict}
use Rattle.desk.proofs.Lines.{respond_text, respond_overlong}

pub without_draft : (d : Desk) → d.draft ≡ none → dropped d ≡ d
unfolding dropped
without_draft d e = λ i. record { slots = d.slots; draft = sym e i; control = d.control }

-- what is left of a desk by the records that follow
abbrev left : Desk → List Record → Desk
left d rs = desk_after d (run d (map record_text rs))

left_cons : (d : Desk) (r : Record) (rs : List Record) (e : Desk) → (respond_line d (record_text r)).0 ≡ e → left d (r ∷ rs) ≡ left e rs
unfolding run
left_cons d r rs e h = ap (λ x. left x rs) h

-- a line that is too long, or that is refused, only drops the open plan
refused_drops : (d : Desk) (r : Record) → T (well_formed r) → ((e : Effect) → operation d r ≡ pass e → ⊥)
    → (respond_line d (record_text r)).0 ≡ dropped d
refused_drops d r w never = by_length (passes (leb (length (record_text r)) max_line))
  where
    by_outcome : (o : Outcome Effect) → operation d r ≡ o → (settle d o).0 ≡ dropped d
    by_outcome (refuse n c) h = refl
    by_outcome (pass e) h = absurd (never e h)

    by_length : (leb (length (record_text r)) max_line ≡ true) ⊎ (leb (length (record_text r)) max_line ≡ false)
        → (respond_line d (record_text r)).0 ≡ dropped d
    by_length (inl h) = ap (λ x. x.0) (respond_text d r w (leb-true (length (record_text r)) max_line h)) ∙ by_outcome (operation d r) refl
    by_length (inr h) = ap (λ x. x.0) (respond_overlong d (record_text r) (leb-false (length (record_text r)) max_line h))

-- where no plan is open, a record that needs one is refused
needs_open_refused : (d : Desk) → d.draft ≡ none → (r : Record) → T (needs_open r) → (e : Effect) → operation d r ≡ pass e → ⊥
needs_open_refused d h r n e o = clash (amiss (needs_open r) n) (passed fits e o)
  where
    amiss : (b : Bool) → T b → elim b as (λ _. Bool) [ true ↦ not (is_open d) | false ↦ is_open d ] ≡ true
    amiss true t = ap (λ x. not (given x)) h
    amiss false t = absurd t

    known : open_amiss d r ≡ false → (x : Outcome Effect) → Passes (λ _. open_amiss d r ≡ false) x
    known f (refuse m c) = stops
    known f (pass y) = passes_on f

    fits : Passes (λ _. open_amiss d r ≡ false) (operation d r)
    fits = passes_operation d r (λ t. known t.admitted.open_fits (job d r))

closed_left : (d : Desk) → d.draft ≡ none → (rs : List Record) → T (all needs_open rs) → T (all well_formed rs) → left d rs ≡ d
unfolding run
closed_left d h [] n w = refl
closed_left d h (r ∷ rs) n w =
    left_cons d r rs d (refused_drops d r (all_head well_formed r rs w) (needs_open_refused d h r (all_head needs_open r rs n)) ∙ without_draft d h)
    ∙ closed_left d h rs (all_tail needs_open r rs n) (all_tail well_formed r rs w)

-- the M and E records behind P
abbrev pairs_and_end : List TypedPair → List Record
pairs_and_end ps = map (λ p. M p.from p.to) ps ++ E ∷ []

all_need_open : (ps : List TypedPair) → T (all needs_open (pairs_and_end ps))
unfolding kind
all_need_open [] = tt
all_need_open (p ∷ ps) = all_need_open ps

-- whatever is refused, the desk is as it was before P
refused_left : (d : Desk) → d.draft ≡ none → (o : Draft) (r : Record) (rs : List Record) → T (well_formed r) → T (all well_formed rs)
    → T (all needs_open rs) → ((e : Effect) → operation (with_draft d o) r ≡ pass e → ⊥) → left (with_draft d o) (r ∷ rs) ≡ d
unfolding with_draft dropped
refused_left d h o r rs w ws n never =
    left_cons (with_draft d o) r rs d (refused_drops (with_draft d o) r w never ∙ without_draft d h) ∙ closed_left d h rs n ws

abbrev is_pair_of : Shape → Pair → Bool
is_pair_of s p = is_plan_word s p.from && is_plan_word s p.to

-- what is asked of the pairs that are still to be typed behind those of the open plan
record Completes (d : Desk) (o : Draft) (t : Table) : Type 0 where
  words : T (all (is_pair_of o.shape) t)
  few : length (o.rows ++ t) ≤ max_pairs
  bases : Bases o.shape (o.rows ++ t)
  room : count_of d < max_changes

-- the plan that is then kept
abbrev completed : Desk → Draft → Table → Desk
completed d o t = changed d o.slot (some (record { shape = o.shape; rows = keep o.shape (o.rows ++ t) }))

pair_line_fits : (s : Shape) (from to : Bytes) → T (are_words s from to) → length (record_text (M from to)) ≤ max_line
unfolding record_text max_line max_digits
pair_line_fits s from to h =
    let f = plan_word_length s (word_of from) (and_left (is_plan_word s (word_of from)) (is_plan_word s (word_of to)) h) in
    let t = plan_word_length s (word_of to) (and_right (is_plan_word s (word_of from)) (is_plan_word s (word_of to)) h) in
    simp length-append (omega (arith, length-map from digit_of, length-map to digit_of))

open_line_fits : (b : ℕ) (s : Shape) → T (well_formed (P b s.arity s.roots))
    → length (record_text (P b s.arity s.roots)) ≤ max_line
unfolding record_text well_formed max_line
open_line_fits b s w =
    let fit = and_right (all no_tab (record_fields (P b s.arity s.roots))) (has_digits 1 s.arity && has_digits 1 s.roots) w in
    let n = leb→le (length (decimal s.arity)) 1 (and_left (has_digits 1 s.arity) (has_digits 1 s.roots) fit) in
    let r = leb→le (length (decimal s.roots)) 1 (and_right (has_digits 1 s.arity) (has_digits 1 s.roots) fit) in
    simp length-append (omega (arith, n, r))

close_line_fits : length (record_text E) ≤ max_line
unfolding record_text max_line
close_line_fits = lit≤ tt

-- a record that is done
done_left : (d : Desk) (r : Record) (rs : List Record) (e : Effect) → T (well_formed r) → length (record_text r) ≤ max_line
    → operation d r ≡ pass e
    → left d (r ∷ rs) ≡ left e.0 rs
done_left d r rs e w h o = left_cons d r rs e.0 (ap (λ x. x.0) (respond_text d r w h ∙ ap (settle d) o))

refuse_not_pass : {A B : Type 0} {n : ℕ} {c : Option Letter} {e : A} → ◌≡◌ {A = Outcome A} (refuse n c) (pass e) → B
refuse_not_pass h = absurd (some-ne-none _ (ap refusal_of h))

-- a table with one pair more, in front of what is to come
row_behind : (o : Draft) (p : Pair) (t : Table) → (with_pair o p).rows ++ t ≡ o.rows ++ (p ∷ t)
row_behind o p t = append_assoc o.rows (p ∷ []) t

module _ (d : Desk) (none_open : d.draft ≡ none) where
  -- what becomes of the open plan o and of the pairs that follow it
  abbrev Kept : Draft → List TypedPair → Type 0
  Kept o ps = Completes d o (typed_table ps) → left (with_draft d o) (pairs_and_end ps) ≡ completed d o (typed_table ps)

  abbrev NotKept : Draft → List TypedPair → Type 0
  NotKept o ps = (Completes d o (typed_table ps) → ⊥) → left (with_draft d o) (pairs_and_end ps) ≡ d

  end_kept : (o : Draft) → IsDraft o → T (all well_formed (pairs_and_end [])) → Kept o []
  unfolding with_draft changed run
  end_kept o D w c =
      let whole : o.rows ++ [] ≡ o.rows = append-nil o.rows in
      let accepted = (draft_verdict o D).1 (subst (Bases o.shape) whole c.bases) in
      done_left (with_draft d o) E [] (keep_in (with_draft d o) o.slot (closed o)) (all_head well_formed E [] w) close_line_fits
      (close_pass (with_draft d o) o refl accepted (lt-leb max_changes (count_of d) c.room))
      ∙ ap (λ t. changed d o.slot (some (record { shape = o.shape; rows = keep o.shape t }))) (sym whole)

  end_not_kept : (o : Draft) → IsDraft o → T (all well_formed (pairs_and_end [])) → NotKept o []
  unfolding with_draft granted
  end_not_kept o D w c = refused_left d none_open o E [] (all_head well_formed E [] w) tt tt (λ e h. c (completes (passed (close_steps (with_draft d o)) e h)))
    where
      completes : {e : Effect} → Closed (with_draft d o) e → Completes d o []
      completes x =
          let here = some-injective o x.plan x.was_open in
          let accepted = subst (λ p. verdict p.shape p.rows ≡ Accepted) (sym here) x.accepted in
          let whole : o.rows ++ [] ≡ o.rows = append-nil o.rows in
          let few = leb→le (length o.rows) max_pairs (and_left (leb (length o.rows) max_pairs) (all pair_fits o.rows) D.within) in
          record {
            words = tt;
            few = subst (λ t. length t ≤ max_pairs) (sym whole) few;
            bases = subst (Bases o.shape) (sym whole) ((draft_verdict o D).0 accepted);
            room = below_limit (with_draft d o) x.room;
          }

  -- the pair p is added to o, and what was asked of both is asked of the pairs behind it
  later_completes : (o : Draft) (p : TypedPair) (ps : List TypedPair) → Completes d o (typed_table (p ∷ ps))
      → Completes d (with_pair o (typed_pair p.from p.to)) (typed_table ps)
  later_completes o p ps c =
      let behind = sym (row_behind o (typed_pair p.from p.to) (typed_table ps)) in
      record {
        words = all_tail (is_pair_of o.shape) (typed_pair p.from p.to) (typed_table ps) c.words;
        few = subst (λ t. length t ≤ max_pairs) behind c.few;
        bases = subst (Bases o.shape) behind c.bases;
        room = c.room;
      }

  earlier_completes : (o : Draft) (p : TypedPair) (ps : List TypedPair) → T (are_words o.shape p.from p.to)
      → Completes d (with_pair o (typed_pair p.from p.to)) (typed_table ps) → Completes d o (typed_table (p ∷ ps))
  earlier_completes o p ps h c =
      let behind = row_behind o (typed_pair p.from p.to) (typed_table ps) in
      record {
        words = all_cons (is_pair_of o.shape) (typed_pair p.from p.to) (typed_table ps) h c.words;
        few = subst (λ t. length t ≤ max_pairs) behind c.few;
        bases = subst (Bases o.shape) behind c.bases;
        room = c.room;
      }

  added_left : (o : Draft) (p : TypedPair) (ps : List TypedPair) → T (all well_formed (pairs_and_end (p ∷ ps)))
      → T (are_words o.shape p.from p.to) → length o.rows < max_pairs
      → left (with_draft d o) (pairs_and_end (p ∷ ps)) ≡ left (with_draft d (with_pair o (typed_pair p.from p.to))) (pairs_and_end ps)
  added_left o p ps w h k =
      done_left (with_draft d o) (M p.from p.to) (pairs_and_end ps) (with_draft d (with_pair o (typed_pair p.from p.to)), silent)
      (all_head well_formed (M p.from p.to) (pairs_and_end ps) w)
      (pair_line_fits o.shape p.from p.to h)
      (pair_pass d o p.from p.to h k)

  pairs_kept : (ps : List TypedPair) (o : Draft) → IsDraft o → T (all well_formed (pairs_and_end ps)) → Kept o ps
  pairs_kept [] o D w c = end_kept o D w c
  pairs_kept (p ∷ ps) o D w c =
      let q = typed_pair p.from p.to in
      let h = all_head (is_pair_of o.shape) q (typed_table ps) c.words in
      let room : length o.rows < max_pairs = omega (arith, c.few, length-append o.rows (q ∷ typed_table ps)) in
      added_left o p ps w h room
      ∙ pairs_kept ps (with_pair o q) (longer_draft o D q h (lt-leb max_pairs (length o.rows) room))
      (all_tail well_formed (M p.from p.to) (pairs_and_end ps) w) (later_completes o p ps c)
      ∙ ap (λ t. changed d o.slot (some (record { shape = o.shape; rows = keep o.shape t }))) (row_behind o q (typed_table ps))

  pairs_not_kept : (ps : List TypedPair) (o : Draft) → IsDraft o → T (all well_formed (pairs_and_end ps)) → NotKept o ps
  pairs_not_kept [] o D w c = end_not_kept o D w c
  pairs_not_kept (p ∷ ps) o D w c = by_outcome (operation (with_draft d o) m) refl (pairs_not_kept ps)
    where
      m : Record
      m = M p.from p.to

      ws : T (all well_formed (pairs_and_end ps))
      ws = all_tail well_formed m (pairs_and_end ps) w

      by_outcome : (x : Outcome Effect) → operation (with_draft d o) m ≡ x
          → ((o : Draft) → IsDraft o → T (all well_formed (pairs_and_end ps)) → NotKept o ps) → left (with_draft d o) (pairs_and_end (p ∷ ps)) ≡ d
      by_outcome (refuse n b) h next =
          refused_left d none_open o m (pairs_and_end ps) (all_head well_formed m (pairs_and_end ps) w) ws (all_need_open ps) (λ e g. refuse_not_pass (sym h ∙ g))
      by_outcome (pass e) h next =
          let a = passed (pair_steps d o p.from p.to) e h in
          added_left o p ps w a.words (leb-false max_pairs (length o.rows) a.few)
          ∙ next (with_pair o (typed_pair p.from p.to)) (longer_draft o D _ a.words a.few) ws (λ k. c (earlier_completes o p ps a.words k))

  module _ (b : ℕ) (s : Shape) (ps : List TypedPair) (w : T (all well_formed (typed_records b s ps))) where
    abbrev opening : Record
    opening = P b s.arity s.roots

    behind : T (all well_formed (pairs_and_end ps))
    behind = all_tail well_formed opening (pairs_and_end ps) w

    opened_left : T (is_slot b) → 2 ≤ own_right d (slot_number b) → T (shape_in_range s)
        → left d (typed_records b s ps) ≡ left (with_draft d (new_draft b s)) (pairs_and_end ps)
    opened_left h m k =
        done_left d opening (pairs_and_end ps) (with_draft d (new_draft b s), silent) (all_head well_formed opening (pairs_and_end ps) w)
        (open_line_fits b s (all_head well_formed opening (pairs_and_end ps) w)) (open_pass d none_open b s h m k)

    kept : Acceptable d b s (typed_table ps) → left d (typed_records b s ps) ≡ completed d (new_draft b s) (typed_table ps)
    kept a =
        opened_left a.slot_named a.right a.in_range
        ∙ pairs_kept ps (new_draft b s) (new_draft_lem b s (slot_below b a.slot_named) a.in_range) behind
        (record { words = a.words; few = a.few; bases = a.bases; room = a.room })

    not_kept : (Acceptable d b s (typed_table ps) → ⊥) → left d (typed_records b s ps) ≡ d
    not_kept never = by_outcome (operation d opening) refl
      where
        by_outcome : (x : Outcome Effect) → operation d opening ≡ x → left d (typed_records b s ps) ≡ d
        by_outcome (refuse n c) h =
            left_cons d opening (pairs_and_end ps) d (refused_drops d opening (all_head well_formed opening (pairs_and_end ps) w) (λ e g. refuse_not_pass (sym h ∙ g)) ∙ without_draft d none_open)
            ∙ closed_left d none_open (pairs_and_end ps) (all_need_open ps) behind
        by_outcome (pass e) h =
            let o = passed (open_steps d b s) e h in
            opened_left o.named o.right o.in_range
            ∙ pairs_not_kept ps (new_draft b s) (new_draft_lem b s (slot_below b o.named) o.in_range) behind
            (λ c. never (record {
              slot_named = o.named;
              right = o.right;
              in_range = o.in_range;
              words = c.words;
              few = c.few;
              bases = c.bases;
              room = c.room;
            }))

pub accepted_from_lines : AcceptedFromLines
accepted_from_lines = record { kept = λ d h b s ps w a. kept d h b s ps w a; not_kept = λ d h b s ps w a. not_kept d h b s ps w a }
