-- The term of RightsExact, of specs/Rights.antt: when a right is not given, what a line leaves, and the rest of Rights.antt together.
use Prim.Native.Nat.{ℕ, ◌≤◌, ◌<◌}
use native.Mathlib.Omega.{arith}
use mathlib.Core.Path.{◌≡◌, refl, ◌∙◌, ap}
use mathlib.Core.Bool.{true, false}
use mathlib.Core.List.{[]}
use mathlib.Core.Option.{none}
use lib.Dec.{T as So, le→leb}
use Rattle.higman.specs.Bases.{all}
use Rattle.higman.specs.Words.{given}
use Rattle.higman.specs.Listing.{slot_number, is_slot}
use Rattle.higman.specs.Refusals.{station_refused, count_full}
use Rattle.higman.specs.Text.{Bytes}
use Rattle.higman.proofs.Tests.{all_cons}
use Rattle.desk.specs.Limits.{station_count, max_right}
use Rattle.desk.specs.Desk.{Desk, fresh_desk, station_of, own_right, held, dropped, with_right}
use Rattle.desk.specs.Desk.{is_station}
use Rattle.desk.specs.Records.{Right, right_number, G}
use Rattle.desk.specs.Records.{mentioning, needed_right, slots_named, stations_named, kind}
use Rattle.desk.specs.Replies.{ok, Outcome, refuse, pass, ◌>>=◌, ◌when◌, Effect, open_amiss, may_use, admission}
use Rattle.desk.specs.Replies.{job, operation, record_of, line_operation, settle}
use Rattle.desk.specs.Replies.{respond_line}
use Rattle.desk.specs.Rights.{RightsExact}
use Rattle.desk.proofs.Outcomes.{Passes, passes, any_then, passed}
use Rattle.desk.proofs.Outcomes.{passes_operation}
use Rattle.desk.proofs.Desks.{station_test}
use Rattle.desk.proofs.Given.{fresh_right, given_here, given_elsewhere}
use Rattle.desk.proofs.Rights.{Owned, above_2, admitted_job, fresh_owned, give_steps, given_done, had_right, job_rights, job_untouched, lines_owned, missing_right, not_slots, numbered, refused_8, refused_there}

not_given_19 : (d : Desk) (s a : ℕ) (x : Right) → d.draft ≡ none → s < station_count → So (is_slot a) → ((station_of d ≡ 0) × (1 ≤ s) → ⊥)
    → operation d (G s a x) ≡ refuse 19 none
unfolding operation admission job kind needed_right ◌>>=◌
not_given_19 d s a x o h t n =
    let fits : open_amiss d (G s a x) ≡ false = ap given o in
    let known : all is_station (stations_named (G s a x)) ≡ true =
    Rattle.higman.proofs.Tests.so _ (all_cons is_station s [] ((station_test s).1 h) tt) in
    let named : all (λ u. is_slot u.slot) (slots_named (G s a x))
    ≡ true = Rattle.higman.proofs.Tests.so _ (all_cons (λ u. is_slot u.slot) (mentioning a) [] t tt) in
    let may : all (may_use d) (slots_named (G s a x)) ≡ true =
    Rattle.higman.proofs.Tests.so _ (all_cons (may_use d) (mentioning a) [] (le→leb 0 (own_right d (slot_number a)) (omega arith)) tt) in
    admitted_job d (G s a x) fits known named may ∙ ap (λ b.
    ((station_refused when b) >>= λ _. pass (with_right d s (slot_number a) (right_number x), ok)) >>= λ e. (count_full when false) >>=
    λ _. pass e) (refused_there d s n)

module _ (d : Desk) (h : Owned d) (i : ℕ) (low : own_right d i < 2) where
  line_untouched : (l : Bytes) → held (respond_line d l).0 i ≡ held d i
  unfolding respond_line line_operation dropped
  line_untouched l = settled (line_operation d l) (any_then (record_of l) (λ r. passes_operation d r (job_untouched d h i low r)))
    where
      settled : (o : Outcome Effect) → Passes (λ e. held e.0 i ≡ held d i) o → held (settle d o).0 i ≡ held d i
      settled (refuse n c) k = refl
      settled (pass e) (passes k) = k

pub rights_exact : RightsExact
unfolding fresh_desk station_count max_right with_right right_number needed_right kind
rights_exact =
    record {
      fresh = λ s i h k. fresh_right s i (omega arith) k;
      first = λ rights i. refl;
      numbers = (refl, refl, refl);
      within = λ d D s i. D.control.rights.within s i;
      gives = λ d s a x o e h k c. given_done d s a x o e h (omega arith) c;
      given = λ d s a x e h. let g = passed (give_steps d s a x) e h in (g.first, g.other, below s g.known, g.slot, g.effect);
      here = λ d D s i x h k b. given_here d.control.rights D.control.rights s i x h (omega arith) b;
      elsewhere = λ d s i x t j n. given_elsewhere d.control.rights s i x t j n;
      parts = λ d s i x. (refl, refl, refl, refl, refl);
      only = λ d r e n h. passed (passes_operation d r (λ _. job_rights d r n)) e h;
      needs = (refl, refl, refl);
      had = λ d r e h. passed (had_right d r) e h;
      opened = λ ls. lines_owned ls fresh_desk fresh_owned;
      own = λ d i. refl;
      outside_first = λ d r o n s u m h. refused_8 d r n s o (not_slots d (slots_named r) u m h);
      missing = missing_right;
      not_given = λ d s a x o h t n. not_given_19 d s a x o (omega arith) t n;
      by_number = λ s a x. numbered x s a;
      above = λ s a n h. above_2 n h s a;
      untouched = λ ls l i low. line_untouched _ (lines_owned ls fresh_desk fresh_owned) i low l;
      names = λ s a x. refl;
    }
  where
    below : (s : ℕ) → s < 8 → s ≤ 7
    below s h = omega arith
