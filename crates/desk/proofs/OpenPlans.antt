-- P, M and E: what each of them does where its tests fail, and what the tests have found where it was done.
use Prim.Native.Nat.{ℕ, ◌<◌, ◌≤◌}
use mathlib.Core.Path.{◌≡◌, refl, ap}
use mathlib.Core.Logic.{◌↔◌}
use mathlib.Core.Bool.{Bool, true, false, ◌&&◌, not}
use mathlib.Core.List.{[]}
use mathlib.Core.Option.{none, some}
use lib.Dec.{T, leb, leb→le, le→leb}
use lib.ListN.{length}
use borrow.Author.Tests.{lt-leb}
use Rattle.higman.specs.Words.{Shape, given}
use Rattle.higman.specs.Text.{Bytes, word_of}
use Rattle.higman.specs.Tables.{Pair}
use Rattle.higman.specs.Limits.{Bases, shape_in_range, is_plan_word, max_pairs}
use Rattle.higman.specs.Refusals.{shape_outside, bad_word, pairs_full}
use Rattle.higman.specs.Answers.{Accepted, verdict}
use Rattle.higman.specs.Listing.{is_slot, slot_number}
use Rattle.higman.proofs.Tests.{all_cons, all_head}
use Rattle.higman.proofs.KeptPlans.{arity_of_range}
use Rattle.higman.proofs.Statements.{answers_exact}
use Rattle.desk.specs.Desk.{Draft, Desk, IsDraft, with_draft, with_pair, own_right}
use Rattle.desk.specs.Records.{P, M, E, writing, kind, needed_right}
use Rattle.desk.specs.Replies.{pass, ◌>>=◌, Effect, silent, at_limit, keep_in, new_draft, closed, job, operation, ◌when◌, may_use}
use Rattle.desk.proofs.Outcomes.{Passes, passes, passes_then, test_failed, test_held, plan_open, passes_operation, operation_pass}
use Rattle.desk.proofs.Stays.{verdict_accepted}

when_held : (n : ℕ) (t : Bool) → T t → (n when not t) ≡ pass tt
when_held n true h = refl
when_held n false h = absurd h

abbrev pub typed_pair : Bytes → Bytes → Pair
typed_pair from to = record { from = word_of from; to = word_of to }

abbrev pub are_words : Shape → Bytes → Bytes → Bool
are_words s from to = is_plan_word s (word_of from) && is_plan_word s (word_of to)

-- P
pub open_pass : (d : Desk) → d.draft ≡ none → (b : ℕ) (s : Shape) → T (is_slot b) → 2 ≤ own_right d (slot_number b) → T (shape_in_range s)
    → operation d (P b s.arity s.roots) ≡ pass (with_draft d (new_draft b s), silent)
unfolding job kind needed_right ◌>>=◌
open_pass d e b s h m k =
    operation_pass d (P b s.arity s.roots) (with_draft d (new_draft b s), silent)
    (record {
      admitted = record {
        open_fits = ap given e;
        stations_known = tt;
        slots_named_fact = all_cons (λ u. is_slot u.slot) (writing b) [] h tt;
        allowed = all_cons (may_use d) (writing b) [] (le→leb 2 (own_right d (slot_number b)) m) tt;
      };
      room = refl;
    })
    (rw (when_held shape_outside (shape_in_range s) k))

pub record Opened (d : Desk) (b : ℕ) (s : Shape) (e : Effect) : Type 0 where
  pub named : T (is_slot b)
  pub right : 2 ≤ own_right d (slot_number b)
  pub in_range : T (shape_in_range s)
  pub effect : e ≡ (with_draft d (new_draft b s), silent)

pub open_steps : (d : Desk) (b : ℕ) (s : Shape) → Passes (Opened d b s) (operation d (P b s.arity s.roots))
unfolding job kind needed_right
open_steps d b s =
    passes_operation d (P b s.arity s.roots) (λ t. passes_then (test_held shape_outside (shape_in_range s))
    (λ _ k. passes (record {
      named = all_head (λ u. is_slot u.slot) (writing b) [] t.admitted.slots_named_fact;
      right = leb→le 2 (own_right d (slot_number b)) (all_head (may_use d) (writing b) [] t.admitted.allowed);
      in_range = k;
      effect = refl;
    })))

-- M, on a desk with an open plan
pub pair_pass : (d : Desk) (o : Draft) (from to : Bytes) → T (are_words o.shape from to) → length o.rows < max_pairs
    → operation (with_draft d o) (M from to) ≡ pass (with_draft d (with_pair o (typed_pair from to)), silent)
unfolding job kind with_draft ◌>>=◌
pair_pass d o from to h k =
    operation_pass (with_draft d o) (M from to) (with_draft d (with_pair o (typed_pair from to)), silent)
    (record { admitted = record { open_fits = refl; stations_known = tt; slots_named_fact = tt; allowed = tt }; room = refl })
    (rw (when_held bad_word (are_words o.shape from to) h, lt-leb max_pairs (length o.rows) k))

pub record Added (d : Desk) (o : Draft) (from to : Bytes) (e : Effect) : Type 0 where
  pub words : T (are_words o.shape from to)
  pub few : leb max_pairs (length o.rows) ≡ false
  pub effect : e ≡ (with_draft d (with_pair o (typed_pair from to)), silent)

pub pair_steps : (d : Desk) (o : Draft) (from to : Bytes) → Passes (Added d o from to) (operation (with_draft d o) (M from to))
unfolding job with_draft ◌>>=◌
pair_steps d o from to =
    passes_operation (with_draft d o) (M from to) (λ _. passes_then (test_held bad_word (are_words o.shape from to))
    (λ _ h. passes_then (test_failed pairs_full (leb max_pairs (length o.rows)))
    (λ _ k. passes (record { words = h; few = k; effect = refl }))))

-- E
pub close_pass : (d : Desk) (o : Draft) → d.draft ≡ some o → verdict o.shape o.rows ≡ Accepted → at_limit d ≡ false
    → operation d E ≡ pass (keep_in d o.slot (closed o))
unfolding job kind ◌>>=◌
close_pass d o x v l =
    operation_pass d E (keep_in d o.slot (closed o))
    (record { admitted = record { open_fits = ap (λ y. not (given y)) x; stations_known = tt; slots_named_fact = tt; allowed = tt }; room = l })
    (rw (x, v))

pub record Closed (d : Desk) (e : Effect) : Type 0 where
  pub plan : Draft
  pub was_open : d.draft ≡ some plan
  pub accepted : verdict plan.shape plan.rows ≡ Accepted
  pub room : at_limit d ≡ false
  pub effect : e ≡ keep_in d plan.slot (closed plan)

pub close_steps : (d : Desk) → Passes (Closed d) (operation d E)
unfolding job kind
close_steps d =
    passes_operation d E (λ t. passes_then (plan_open d) (λ o x. passes_then (verdict_accepted (verdict o.shape o.rows))
    (λ _ v. passes (record { plan = o; was_open = x; accepted = v; room = t.room; effect = refl }))))

-- the verdict on an open plan
pub draft_verdict : (o : Draft) → IsDraft o → (verdict o.shape o.rows ≡ Accepted) ↔ Bases o.shape o.rows
draft_verdict o h =
    answers_exact.accepted o.shape (arity_of_range o.shape h.in_range) o.rows h.from_words h.to_words
