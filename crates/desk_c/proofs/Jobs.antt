-- A record without text: what is told of its reply, and the value that is left.
use Prim.Native.Nat.{ℕ, ◌≤◌, ◌<◌}
use mathlib.Core.Path.{◌≡◌, refl, sym, ◌∙◌, ap, subst}
use mathlib.Core.Bool.{Bool, true, false}
use mathlib.Core.List.{List}
use mathlib.Core.Option.{none}
use native.Mathlib.Omega.{arith}
use Rattle.std.specs.Prelude.{Result, Ok, Err}
use Rattle.higman.specs.Refusals.{no_record}
use Rattle.higman.proofs.Tests.{so, T_of}
use Rattle.desk.specs.Limits.{max_splits_numeral}
use Rattle.desk.specs.Desk.{Desk as DeskOf, dropped}
use Rattle.desk.specs.Records.{Record, has_digits}
use Rattle.desk.specs.Replies as Of
use Rattle.desk.specs.Replies.{Outcome as OutcomeOf, refuse, pass, ◌>>=◌, operation}
use Rattle.desk.specs.Buffers.{plain_call}
use Rattle.desk.proofs.NumberFields.{digits_below}
use Rattle.desk.proofs.Outcomes.{Passes, Answered as Replying, any_then, operation_answers}
use Rattle.desk.proofs.Calls.{lent_calls_exact}
use Rattle.operations.specs.declared.refusals.Refusal.TheVariants.{NoRecord}
use Rattle.operations.specs.Refusals.{number_of}
use Rattle.slots.specs.declared.Head.{Head}
use Rattle.slots.specs.declared.Reply.{Reply}
use Rattle.slots.specs.declared.Reply.TheVariants as The
use Rattle.slots.specs.declared.Refused.{Refused}
use Rattle.slots.specs.Desks.{desk_of, HoldsDesk}
use Rattle.slots.specs.Refused.{refused_for, refusing, letter_of, outcome_of}
use Rattle.slots.specs.Works.{Work, told, reply_to, desk_after, work_of, DoneBy, Done, Tells}
use Rattle.slots.proofs.Steps.{done_refusal, done_told}
use Rattle.lines.specs.Lines.{dropped_head}
use Rattle.lines.proofs.Settled.{dropped_is}
use Rattle.desk_values.specs.declared.Desk.{Desk}
use Rattle.desk_values.specs.Values.{packed_desk}
use Rattle.desk_c.specs.declared.Job.{Job}
use Rattle.desk_c.specs.declared.Done.{Done as Told}
use Rattle.desk_c.specs.Calls.{reply_number, done_of, job_record, job_work, plain_of}
use Rattle.desk_c.specs.Settling.{JobDone, value_of}
use Rattle.desk_c.proofs.Lent.{passed_of, refused_of}

module _ (j : Job) (h : Head) (columns : List ℕ) where
  -- a job does what is meant by it
  pub job_meant : (w : Result Work Refused) (columns' : List ℕ) (o : OutcomeOf Record) → job_record j ≡ o
      → ((out : List ℕ) → DoneBy (desk_of h columns) (o >>= operation (desk_of h columns)) out h w columns' out) → JobDone j h columns w columns'
  unfolding job_work
  job_meant w columns' o e k out =
      let d = desk_of h columns in
      subst (λ (z : OutcomeOf Record). DoneBy d (z >>= operation d) out h w columns' out) (sym e) (k out)

  -- one whose record is known is done as the record is
  pub job_done : (w : Result Work Refused) (columns' : List ℕ) (r : Record) → job_record j ≡ pass r
      → ((out : List ℕ) → Done r h columns out w columns' out) → JobDone j h columns w columns'
  unfolding ◌>>=◌
  job_done w columns' r e k = job_meant w columns' (pass r) e k

  module _ (H : HoldsDesk h columns) (w : Result Work Refused) where
    -- one that asks
    pub job_told : (p : Result Reply Refused) (r : Record) → job_record j ≡ pass r → ((out : List ℕ) → Tells r h columns out p out)
        → w ≡ work_of h p → JobDone j h columns w columns
    job_told p r e t q =
        job_done w columns r e (λ out. done_told h columns H (operation (desk_of h columns) r) out p out (t out) w q)

    -- one that is no record's
    pub no_job : job_record j ≡ refuse no_record none → w ≡ refusing NoRecord → JobDone j h columns w columns
    unfolding job_work ◌>>=◌
    no_job e q out =
        let d = desk_of h columns in
        done_refusal h columns H (job_work j d) (refused_for NoRecord) (ap (λ (z : OutcomeOf Record). z >>= operation d) e) out w q

-- "s one or two digits": up to 99
pub few_splits : (s : ℕ) → s ≤ 99 → has_digits max_splits_numeral s ≡ true
unfolding max_splits_numeral
few_splits s h = so (has_digits 2 s) ((digits_below 1 s).1 (omega arith))

pub many_splits : (s : ℕ) → 99 < s → has_digits max_splits_numeral s ≡ false
unfolding max_splits_numeral
many_splits s h = by (has_digits 2 s) refl
  where
    by : (b : Bool) → has_digits 2 s ≡ b → b ≡ false
    by true e = absurd (omega (arith, (digits_below 1 s).0 (T_of e)))
    by false e = refl

job_answers : (j : Job) (d : DeskOf) → Passes Replying (job_work j d)
unfolding job_work
job_answers j d = any_then (job_record j) (operation_answers d)

written_value : (p : Reply) (n : ℕ) → pass p ≡ pass (The.Written n) → value_of p ≡ 0
written_value p n e = let k : p ≡ The.Written n = cc in ap value_of k

-- the number of a reply
told_value : (q : Of.Reply) (p : Reply) → pass p ≡ told q → value_of p ≡ reply_number q
told_value Of.silent p e = let k : p ≡ The.Silent = cc in ap value_of k
told_value Of.ok p e = let k : p ≡ The.Ok = cc in ap value_of k
told_value (Of.ok_number n) p e = let k : p ≡ The.Number n = cc in ap value_of k
told_value (Of.ok_image w place) p e = written_value p _ e
told_value (Of.ok_block ls) p e = written_value p _ e
told_value (Of.lists b v) p e = written_value p _ e
told_value (Of.surveys hs) p e = written_value p _ e
told_value (Of.refuses n c) p e = cc

-- a call that is lent nothing, by what its work leaves
module _ (h : Head) (columns : List ℕ) (H : HoldsDesk h columns) (j : Job) (columns' : List ℕ) (v : Desk) where
  abbrev d : DeskOf
  d = desk_of h columns

  pub plain_done : (w : Work) → JobDone j h columns (Ok w) columns' → v ≡ packed_desk (desk_of w.head columns') → (n : ℕ) → n ≡ value_of w.reply
      → record { desk = v; answer = record { number = 0; column = 0; value = n } } ≡ plain_of (plain_call d (job_work j))
  plain_done w k p n q =
      let done = k columns' in
      let (e, f) = passed_of (job_work j d) w.reply done.reply in
      let desk = p ∙ ap packed_desk (done.desk ∙ ap (desk_after d) f) in
      let value = q ∙ told_value e.1 w.reply (done.reply ∙ ap (λ o. told (reply_to o)) f) in
      (λ i. record { desk = desk i; answer = record { number = 0; column = 0; value = value i } })
      ∙ sym (ap plain_of (lent_calls_exact.plain_done d (job_work j) e H.is_desk_lem f))

  pub plain_refused : (f : Refused) → JobDone j h columns (Err f) columns' → v ≡ packed_desk (desk_of (dropped_head h) columns') → (a : Told)
      → a ≡ done_of (outcome_of (Err f)) → record { desk = v; answer = a } ≡ plain_of (plain_call d (job_work j))
  plain_refused f k p a q =
      let n = number_of f.refusal in
      let c = letter_of f.column in
      let done = k columns' in
      let o = refused_of (job_work j d) (job_answers j d) n c done.reply in
      let desk = p ∙ ap packed_desk (dropped_is h columns' ∙ ap dropped (done.desk ∙ ap (desk_after d) o)) in
      (λ i. record { desk = desk i; answer = q i }) ∙ sym (ap plain_of (lent_calls_exact.plain_refused d (job_work j) n c H.is_desk_lem o))
