-- What the calls answer, in figures: the calls of desk's Buffers.antt on the desk that a value holds, by what its line or its record is
-- refused with or does.
use Prim.Native.Nat.{ℕ, ◌+◌, ◌≤◌, ◌<◌}
use mathlib.Core.Path.{◌≡◌, refl, sym, ◌∙◌, ap, subst}
use mathlib.Core.Logic.{◌⊎◌, inl, inr}
use mathlib.Core.Bool.{Bool, true, false, not}
use mathlib.Core.List.{[], ◌++◌, Memᴰ, append_cancel_right}
use mathlib.Core.Option.{Option, none}
use native.Mathlib.Omega.{arith}
use borrow.Author.Tests.{leb-true, leb-false, eq-eqb}
use lib.Dec.{T, leb, eqb}
use lib.ListN.{length, take, drop, get_or}
use lib.Seq.{take_at, drop_at}
use Rattle.higman.specs.Text.{Bytes, bytes, decimal, spelled_out}
use Rattle.higman.specs.Refusals.{Letter}
use Rattle.higman.proofs.Tests.{so, all_at}
use Rattle.higman.proofs.Decimals.{decimal_read_back}
use Rattle.desk.specs.Desk.{Desk as DeskOf, IsDesk}
use Rattle.desk.specs.Records.{Record, record_text, well_formed}
use Rattle.desk.specs.Replies.{Reply, silent, ok, ok_number, ok_image, ok_block, lists, surveys, refuses, Outcome, refuse, pass, ◌>>=◌}
use Rattle.desk.specs.Replies.{Effect, operation, line_operation, respond_line}
use Rattle.desk.specs.Bytes.{reply_bytes}
use Rattle.desk.specs.Buffers.{plain_call}
use Rattle.desk.specs.Demands.{refusal_numbers, operation_numbers, DoneLine, RefusedLine}
use Rattle.desk.proofs.Calls.{lent_calls_exact}
use Rattle.desk.proofs.Demand1.{demand1}
use Rattle.desk.proofs.Outcomes.{passed}
use Rattle.replies.specs.Sizes.{max_reply}
use Rattle.replies.proofs.EveryReply.{replies_fit}
use Rattle.desk_values.specs.declared.Desk.{Desk}
use Rattle.desk_values.specs.Values.{desk_in, is_desk_value, packed_desk}
use Rattle.desk_values.proofs.Taken.{desk_values}
use Rattle.desk_c.specs.declared.Job.{Job}
use Rattle.desk_c.specs.declared.Written.{Written}
use Rattle.desk_c.specs.declared.Done.{Done}
use Rattle.desk_c.specs.declared.serving.Served.{Served}
use Rattle.desk_c.specs.Calls.{column_byte, reply_number, done_of, job_record, job_work, line_call, lent_of, served, buffer_after, plain_of}
use Rattle.desk_c.specs.Calls.{worked}
use Rattle.desk_c.specs.CallsExact.{TakenForDesk, plan_dropped, UnservedLine, ServedLine, LinesNumbered, IsJobOf, JobRefused}
use Rattle.desk_c.specs.CallsExact.{written_reply, ok_line_of, DoneAsLine, JobsExact, DeskCallsExact}
use Rattle.desk_c.proofs.PiecesExact.{pieces_exact}
use Rattle.desk_c.proofs.JobLines.{job_record_lem, Read, record_of_job, text_short, done_well_formed, Plain, replies_plainly}
use Rattle.desk_c.proofs.JobLines.{letter_known, splits_few, refusal_positive, none_above}

-- no desk
no_desk_line : (line : Bytes) (v : Desk) (out : Bytes) → is_desk_value v ≡ false → UnservedLine line v out v 15 0
unfolding served buffer_after
no_desk_line line v out e = record { call = rw (e, served); buffer = rw (e, buffer_after) }

no_desk_job : (j : Job) (v : Desk) → is_desk_value v ≡ false → JobRefused j v v 15 0
unfolding worked
no_desk_job j v e = rw (e, worked)

module _ (v : Desk) (t : TakenForDesk v) where
  abbrev d : DeskOf
  d = desk_in v

  is_desk_lem : IsDesk d
  is_desk_lem = desk_values.holds v t.whole t.passes

  served_by : (line out : Bytes) → served line v out ≡ lent_of (line_call d line out)
  unfolding served
  served_by line out = rw (so (is_desk_value v) t.passes, served)

  buffer_by : (line out : Bytes) → buffer_after line v out ≡ (line_call d line out).1.buffer
  unfolding buffer_after
  buffer_by line out = rw (so (is_desk_value v) t.passes, buffer_after)

  worked_by : (j : Job) → worked (job_work j) v ≡ plain_of (plain_call d (job_work j))
  unfolding worked
  worked_by j = rw (so (is_desk_value v) t.passes, worked)

  module _ (line out : Bytes) where
    line_refused : (n : ℕ) (c : Option Letter) → line_operation d line ≡ refuse n c → UnservedLine line v out (plan_dropped v) n (column_byte c)
    line_refused n c e =
        let call = lent_calls_exact.refused d (λ x. line_operation x line) out n c is_desk_lem e in
        record { call = served_by line out ∙ ap lent_of call; buffer = buffer_by line out ∙ ap (λ x. x.1.buffer) call }

    module _ (e : Effect) (p : line_operation d line ≡ pass e) where
      abbrev output : Bytes
      output = reply_bytes e.1

      line_without_room : length out < length output → UnservedLine line v out (plan_dropped v) 14 0
      line_without_room h =
          let call = lent_calls_exact.no_room d (λ x. line_operation x line) out e is_desk_lem p h in
          record { call = served_by line out ∙ ap lent_of call; buffer = buffer_by line out ∙ ap (λ x. x.1.buffer) call }

      line_done : length output ≤ length out → ServedLine line v out (packed_desk e.0) output
      line_done h =
          let call = lent_calls_exact.done d (λ x. line_operation x line) out e is_desk_lem p h in
          let behind : 0 + length output ≡ length output = omega arith in
          let buffer : buffer_after line v out ≡ output ++ drop (length output) out =
          buffer_by line out ∙ ap (λ x. x.1.buffer) call ∙ ap (λ k. output ++ drop k out) behind in
          record {
            call = served_by line out ∙ ap lent_of call;
            front = ap (take (length output)) buffer ∙ take_at output (drop (length output) out) (length output) refl;
            rest = ap (drop (length output)) buffer ∙ drop_at output (drop (length output) out) (length output) refl;
          }

    -- no line is refused with 14 for its own sake
    line_numbers : (n : ℕ) → Memᴰ n refusal_numbers → n ≡ 14 → ⊥
    unfolding refusal_numbers operation_numbers
    line_numbers n h e =
        let other : T (not (eqb n 14)) = all_at (λ k. not (eqb k 14)) refusal_numbers tt n h in
        subst (λ b. T (not b)) (eq-eqb n 14 e) other

    enough_room : 5_127 ≤ length out → (served line v out).answer.number ≡ 14 → ⊥
    unfolding max_reply respond_line
    enough_room h e = by_answer (demand1.answered d line)
      where
        by_answer : DoneLine d line ⊎ RefusedLine d line → ⊥
        by_answer (inl (x, p, q)) =
            let fits = replies_fit.every_reply d is_desk_lem line in
            let reply = ap (λ y. length (reply_bytes y.1)) q in
            let zero : (served line v out).answer.number ≡ 0 = ap (λ s. s.answer.number) (line_done x p (omega arith)).call in
            omega arith
        by_answer (inr r) =
            let number = ap (λ s. s.answer.number) (line_refused r.number r.column r.refused).call in
            line_numbers r.number r.numbered (sym number ∙ e)

  -- a job by what its work does
  module _ (j : Job) where
    job_refused : (n : ℕ) (c : Option Letter) → job_work j d ≡ refuse n c → JobRefused j v (plan_dropped v) n (column_byte c)
    job_refused n c e = worked_by j ∙ ap plain_of (lent_calls_exact.plain_refused d (job_work j) n c is_desk_lem e)

    job_done : (e : Effect) → job_work j d ≡ pass e
        → worked (job_work j) v ≡ record { desk = packed_desk e.0; answer = done_of (pass e.1) }
    job_done e p = worked_by j ∙ ap plain_of (lent_calls_exact.plain_done d (job_work j) e is_desk_lem p)

    no_record_lem : ((r : Record) → IsJobOf r j → ⊥) → JobRefused j v (plan_dropped v) 1 0
    unfolding job_work ◌>>=◌
    no_record_lem h = by (record_of_job j)
      where
        by : Read j (job_record j) → JobRefused j v (plan_dropped v) 1 0
        by (inl (r, e, k)) = absurd (h r k)
        by (inr e) = job_refused 1 none (ap (λ o. o >>= operation d) e)

  -- as the record that it is laid out as
  module _ (r : Record) (j : Job) (h : IsJobOf r j) where
    job_works : job_work j d ≡ operation d r
    unfolding job_work ◌>>=◌
    job_works = ap (λ o. o >>= operation d) (job_record_lem r j h)

    refused_as_record : (n : ℕ) (c : Option Letter) → operation d r ≡ refuse n c → JobRefused j v (plan_dropped v) n (column_byte c)
    refused_as_record n c e = job_refused j n c (job_works ∙ e)

    done_formed : (worked (job_work j) v).answer.number ≡ 0 → T (well_formed r)
    done_formed z = by (operation d r) refl
      where
        by : (o : Outcome Effect) → operation d r ≡ o → T (well_formed r)
        by (refuse n c) e =
            absurd (omega (arith, ap (λ w. w.answer.number) (refused_as_record n c e), refusal_positive d is_desk_lem r n c e))
        by (pass e) p = passed (done_well_formed d r j h) e p

-- a number is told by its line
number_of_line : (m n : ℕ) → reply_bytes (ok_number m) ≡ ok_line_of n → m ≡ n
unfolding reply_bytes
number_of_line m n e =
    let digits = append_cancel_right (decimal m) (decimal n) (bytes "\n") (ap (drop 3) e) in
    sym (decimal_read_back m) ∙ ap (spelled_out 0) digits ∙ decimal_read_back n

value_of_line : (d : DeskOf) (p : Reply) → Plain d p → (n : ℕ) → reply_bytes p ≡ ok_line_of n → reply_number p ≡ n
unfolding reply_bytes
value_of_line d silent h n e = absurd (omega (arith, ap length e))
value_of_line d ok h n e = absurd (omega (arith, ap (λ l. get_or l 2 0) e))
value_of_line d (ok_number m) h n e = number_of_line m n e
value_of_line d (ok_image w place) h n e = absurd h
value_of_line d (ok_block ls) h n e = absurd h
value_of_line d (lists b p) h n e = absurd h
value_of_line d (surveys hs) h n e = absurd h
value_of_line d (refuses m c) h n e = absurd h

no_value_of_line : (p : Reply) → ((n : ℕ) → reply_bytes p ≡ ok_line_of n → ⊥) → reply_number p ≡ 0
unfolding reply_bytes
no_value_of_line silent h = refl
no_value_of_line ok h = refl
no_value_of_line (ok_number m) h = absurd (h m refl)
no_value_of_line (ok_image w place) h = refl
no_value_of_line (ok_block ls) h = refl
no_value_of_line (lists b p) h = refl
no_value_of_line (surveys hs) h = refl
no_value_of_line (refuses n c) h = refl

-- a job beside a line: both refused, or both done
module _ (j : Job) (line : Bytes) (v : Desk) (out : Bytes) where
  both_refused : (left : Desk) (n c : ℕ) → JobRefused j v left n c → UnservedLine line v out left n c → DoneAsLine j line v out
  both_refused left n c w l =
      let nothing : written_reply line v out ≡ [] = ap (λ (s : Served Written). take s.answer.length (buffer_after line v out)) l.call in
      record {
        desk = ap (λ (x : Served Done). x.desk) w ∙ sym (ap (λ (x : Served Written). x.desk) l.call);
        number = ap (λ (x : Served Done). x.answer.number) w ∙ sym (ap (λ (x : Served Written). x.answer.number) l.call);
        column = ap (λ (x : Served Done). x.answer.column) w ∙ sym (ap (λ (x : Served Written). x.answer.column) l.call);
        value = λ m e. absurd (omega (arith, ap length (sym nothing ∙ e)));
        no_value = λ _. ap (λ (x : Served Done). x.answer.value) w;
      }

  both_done : (d : DeskOf) (e : Effect) → Plain d e.1
      → worked (job_work j) v ≡ record { desk = packed_desk e.0; answer = done_of (pass e.1) }
      → ServedLine line v out (packed_desk e.0) (reply_bytes e.1) → DoneAsLine j line v out
  both_done d e plain w l =
      let reply : written_reply line v out ≡ reply_bytes e.1 =
      ap (λ (s : Served Written). take s.answer.length (buffer_after line v out)) l.call ∙ l.front in
      let value = ap (λ (x : Served Done). x.answer.value) w in
      record {
        desk = ap (λ (x : Served Done). x.desk) w ∙ sym (ap (λ (x : Served Written). x.desk) l.call);
        number = ap (λ (x : Served Done). x.answer.number) w ∙ sym (ap (λ (x : Served Written). x.answer.number) l.call);
        column = ap (λ (x : Served Done). x.answer.column) w ∙ sym (ap (λ (x : Served Written). x.answer.column) l.call);
        value = λ n q. value ∙ value_of_line d e.1 plain n (sym reply ∙ q);
        no_value = λ none_written. value ∙ no_value_of_line e.1 (λ n q. none_written n (reply ∙ q));
      }

as_line : (r : Record) (j : Job) (v : Desk) (out : Bytes) → IsJobOf r j → T (well_formed r) → TakenForDesk v
    → ((served (record_text r) v out).answer.number ≡ 14 → ⊥) → DoneAsLine j (record_text r) v out
as_line r j v out h wf t room = by (operation (desk_in v) r) refl
  where
    line_works : line_operation (desk_in v) (record_text r) ≡ operation (desk_in v) r
    line_works = demand1.record_line (desk_in v) r wf (text_short r j h wf)

    by_room : (e : Effect) → operation (desk_in v) r ≡ pass e → (b : Bool) → leb (length (reply_bytes e.1)) (length out) ≡ b
        → DoneAsLine j (record_text r) v out
    by_room e p true q =
        both_done j (record_text r) v out (desk_in v) e (passed (replies_plainly (desk_in v) r j h) e p)
        (job_done v t j e (job_works v t r j h ∙ p)) (line_done v t (record_text r) out e (line_works ∙ p) (leb-true _ _ q))
    by_room e p false q =
        let short = line_without_room v t (record_text r) out e (line_works ∙ p) (leb-false _ _ q) in
        absurd (room (ap (λ (x : Served Written). x.answer.number) short.call))

    by : (o : Outcome Effect) → operation (desk_in v) r ≡ o → DoneAsLine j (record_text r) v out
    by (refuse n c) e =
        both_refused j (record_text r) v out (plan_dropped v) n (column_byte c) (refused_as_record v t r j h n c e)
        (line_refused v t (record_text r) out n c (line_works ∙ e))
    by (pass e) p = by_room e p (leb (length (reply_bytes e.1)) (length out)) refl

done_has_line : (j : Job) (v : Desk) → TakenForDesk v → (worked (job_work j) v).answer.number ≡ 0
    → (r : Record) × IsJobOf r j × T (well_formed r)
unfolding job_work ◌>>=◌
done_has_line j v t z = by (record_of_job j)
  where
    by : Read j (job_record j) → (r : Record) × IsJobOf r j × T (well_formed r)
    by (inl (r, e, h)) = (r, h, done_formed v t r j h z)
    by (inr e) =
        let one = job_refused v t j 1 none (ap (λ o. o >>= operation (desk_in v)) e) in
        absurd (omega (arith, ap (λ (w : Served Done). w.answer.number) one))

lines_numbered : LinesNumbered
lines_numbered =
    record {
      no_desk_lem = no_desk_line;
      refused = λ line v out n c t e. line_refused v t line out n c e;
      no_room = λ line v out e t p h. line_without_room v t line out e p h;
      done = λ line v out e t p h. line_done v t line out e p h;
      enough_room = λ line v out t h. enough_room v t line out h;
      columns = refl;
    }

jobs_exact : JobsExact
jobs_exact =
    record {
      no_desk_lem = no_desk_job;
      no_record = λ j v t h. no_record_lem v t j h;
      unknown_letter = λ j v t h. no_record_lem v t j (λ r k. h (letter_known r j k));
      many_splits = λ j v t e h. no_record_lem v t j (λ r k. omega (arith, splits_few r j k e));
      right_above = λ j v t e h. no_record_lem v t j (none_above j e h);
      as_line = as_line;
      refused = λ r j v n c h t e. refused_as_record v t r j h n c e;
      done_has_line = done_has_line;
    }

pub desk_calls_exact : DeskCallsExact
desk_calls_exact = record { lines = lines_numbered; jobs = jobs_exact; pieces = pieces_exact }
