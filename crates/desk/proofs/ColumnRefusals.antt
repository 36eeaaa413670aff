-- 6 and 7 of E by what is wrong with a column (`ColumnRefusals` of specs/Demands.antt): with a plan open, E is refused with the number and
-- the letter of the verdict, or else with 16 or not at all; and higman says what the verdict means.
use Prim.Native.Nat.{ℕ}
use native.Mathlib.Omega.{arith}
use mathlib.Core.Path.{◌≡◌, refl, sym, ◌∙◌, ap}
use mathlib.Core.Logic.Iff
use mathlib.Core.Logic.{◌↔◌}
use mathlib.Core.Bool.{Bool, true, false}
use mathlib.Core.Option.{Option, none, some}
use Rattle.higman.specs.Answers.{Reason, Overlap, Gap, Verdict, Accepted, InFrom, InTo, verdict, reason_number}
use Rattle.higman.specs.Refusals.{count_full, Letter}
use Rattle.higman.specs.Reasons.{WordsOf}
use Rattle.higman.proofs.Reasons.{reasons_exact}
use Rattle.higman.proofs.KeptPlans.{arity_of_range}
use Rattle.desk.specs.Desk.{Draft, Desk, IsDraft, IsDesk}
use Rattle.desk.specs.Records.{E, kind}
use Rattle.desk.specs.Replies.{Outcome, refuse, pass, ◌>>=◌, Effect, at_limit, keep_in, closed, of_verdict, job, operation, ◌when◌}
use Rattle.desk.specs.Replies.{admission}
use Rattle.desk.specs.Demands.{ColumnRefusals}

-- what E comes to after the verdict
judged : Desk → Draft → Verdict → Outcome Effect
judged d o v = (of_verdict v >>= λ _. pass (keep_in d o.slot (closed o))) >>= λ e. (count_full when at_limit d) >>= λ _. pass e

close_judged : (d : Desk) (o : Draft) → d.draft ≡ some o → operation d E ≡ judged d o (verdict o.shape o.rows)
unfolding operation admission job kind judged ◌>>=◌
close_judged d o x = rw x

-- the verdict on a column by its letter
abbrev in_column : Letter → Reason → Verdict
in_column Letter.F r = InFrom r
in_column Letter.T r = InTo r

same_reason : (q r : Reason) → reason_number q ≡ reason_number r → q ≡ r
same_reason Overlap Overlap e = refl
same_reason Overlap Gap e = absurd (omega arith)
same_reason Gap Overlap e = absurd (omega arith)
same_reason Gap Gap e = refl

module _ (d : Desk) (o : Draft) (c : Letter) (r : Reason) where
  refused : judged d o (in_column c r) ≡ refuse (reason_number r) (some c)
  unfolding judged ◌>>=◌
  refused = by_letter c
    where
      by_letter : (c : Letter) → judged d o (in_column c r) ≡ refuse (reason_number r) (some c)
      by_letter Letter.F = refl
      by_letter Letter.T = refl

  judged_so : (v : Verdict) → judged d o v ≡ refuse (reason_number r) (some c) → v ≡ in_column c r
  unfolding judged ◌>>=◌
  judged_so v e = by_verdict v c e
    where
      counted : (full : Bool) (c : Letter)
          → ((count_full when full) >>= λ _. pass (keep_in d o.slot (closed o))) ≡ refuse (reason_number r) (some c)
          → Accepted ≡ in_column c r
      counted true c e = cc
      counted false c e = cc

      by_verdict : (v : Verdict) (c : Letter) → judged d o v ≡ refuse (reason_number r) (some c) → v ≡ in_column c r
      by_verdict Accepted c e = counted (at_limit d) c e
      by_verdict (InFrom q) Letter.F e = ap InFrom (same_reason q r (cc))
      by_verdict (InFrom q) Letter.T e = cc
      by_verdict (InTo q) Letter.F e = cc
      by_verdict (InTo q) Letter.T e = ap InTo (same_reason q r (cc))

  -- E is refused for a column exactly where the verdict names it
  close_refused : d.draft ≡ some o → (operation d E ≡ refuse (reason_number r) (some c)) ↔ (verdict o.shape o.rows ≡ in_column c r)
  close_refused x = (
    λ e. judged_so (verdict o.shape o.rows) (sym (close_judged d o x) ∙ e),
    λ e. close_judged d o x ∙ ap (judged d o) e ∙ refused,
  )

words_of : (o : Draft) → IsDraft o → WordsOf o.shape o.rows
words_of o h = record { arity = arity_of_range o.shape h.in_range; from_words = h.from_words; to_words = h.to_words }

pub column_refusals : (d : Desk) (o : Draft) → IsDesk d → d.draft ≡ some o → ColumnRefusals d o
column_refusals d o D x =
    let s = o.shape in
    let t = o.rows in
    let w = words_of o (D.drafted o x) in
    record {
      from_overlap = Iff.trans (close_refused d o Letter.F Overlap x) (reasons_exact.from_overlap s t);
      from_gap = Iff.trans (close_refused d o Letter.F Gap x) (reasons_exact.from_gap s t w);
      to_overlap = Iff.trans (close_refused d o Letter.T Overlap x) (reasons_exact.to_overlap s t w);
      to_gap = Iff.trans (close_refused d o Letter.T Gap x) (reasons_exact.to_gap s t w);
    }
