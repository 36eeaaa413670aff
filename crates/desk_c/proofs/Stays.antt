-- What a call leaves is a desk: a refusal leaves the desk with no plan open, and an operation that is done leaves a desk.
use mathlib.Core.Path.{◌≡◌, refl, sym, ap, subst}
use mathlib.Core.Bool.{Bool, true, false}
use mathlib.Core.Option.{none}
use borrow.Author.Tests.{leb-true, leb-false, ltb-true, ltb-false}
use lib.Dec.{T, leb, ltb}
use lib.ListN.{length}
use Rattle.higman.specs.Text.{Bytes}
use Rattle.higman.specs.Buffers.{written}
use Rattle.higman.specs.Refusals.{invalid_value}
use Rattle.higman.proofs.Tests.{so}
use Rattle.desk.specs.Desk.{Desk as DeskOf, IsDesk, dropped}
use Rattle.desk.specs.Replies.{Outcome, refuse, pass, Effect, record_of, line_operation}
use Rattle.desk.specs.Bytes.{reply_bytes}
use Rattle.desk.specs.Buffers.{Work, lent_call, plain_call}
use Rattle.desk.proofs.Outcomes.{Passes, passed, any_then}
use Rattle.desk.proofs.Stays.{operation_stays, dropped_desk}
use Rattle.desk.proofs.Calls.{lent_calls_exact}
use Rattle.desk.proofs.Feeds.{feeds_exact}
use Rattle.replies.specs.Sizes.{max_reply}
use Rattle.desk_values.specs.declared.Desk.{Desk}
use Rattle.desk_values.specs.Values.{desk_in, is_desk_value, Whole}
use Rattle.desk_values.proofs.Taken.{desk_values}
use Rattle.desk_c.specs.declared.Job.{Job}
use Rattle.desk_c.specs.declared.Written.{Written}
use Rattle.desk_c.specs.declared.Done.{Done}
use Rattle.desk_c.specs.declared.Fed.{Fed}
use Rattle.desk_c.specs.declared.serving.Served.{Served}
use Rattle.desk_c.specs.Calls.{done_of, job_record, job_work, line_call, lent_of, refused_with, served, plain_of, worked}
use Rattle.desk_c.specs.Feeding.{fed_of, lines_of, piece_fed, FedInto}
use Rattle.desk_c.specs.Theorems.{DeskLeft}
use Rattle.desk_c.proofs.Pieces.{piece_no_room, piece_taken}

-- what a work does keeps a desk
abbrev Keeps : Work → DeskOf → Type 0
Keeps work d = Passes (λ (e : Effect). IsDesk e.0) (work d)

module _ (d : DeskOf) (D : IsDesk d) (work : Work) (k : Keeps work d) where
  lent_left : (out : Bytes) → IsDesk (lent_call d work out).0
  lent_left out = by (work d) refl
    where
      left : (x : DeskOf) → (lent_call d work out).0 ≡ x → IsDesk x → IsDesk (lent_call d work out).0
      left x e h = subst IsDesk (sym e) h

      by_room : (e : Effect) → work d ≡ pass e → (b : Bool) → leb (length (reply_bytes e.1)) (length out) ≡ b
          → IsDesk (lent_call d work out).0
      by_room e p true r = left e.0 (ap (λ c. c.0) (lent_calls_exact.done d work out e D p (leb-true _ _ r))) (passed k e p)
      by_room e p false r = left (dropped d) (ap (λ c. c.0) (lent_calls_exact.no_room d work out e D p (leb-false _ _ r)))
          (dropped_desk d D)

      by : (o : Outcome Effect) → work d ≡ o → IsDesk (lent_call d work out).0
      by (refuse n c) p = left (dropped d) (ap (λ c. c.0) (lent_calls_exact.refused d work out n c D p)) (dropped_desk d D)
      by (pass e) p = by_room e p (leb (length (reply_bytes e.1)) (length out)) refl

  plain_left_desk : IsDesk (plain_call d work).0
  plain_left_desk = by (work d) refl
    where
      by : (o : Outcome Effect) → work d ≡ o → IsDesk (plain_call d work).0
      by (refuse n c) p = subst IsDesk (sym (ap (λ c. c.0) (lent_calls_exact.plain_refused d work n c D p))) (dropped_desk d D)
      by (pass e) p = subst IsDesk (sym (ap (λ c. c.0) (lent_calls_exact.plain_done d work e D p))) (passed k e p)

line_keeps : (line : Bytes) (d : DeskOf) → IsDesk d → Keeps (λ x. line_operation x line) d
unfolding line_operation
line_keeps line d D = any_then (record_of line) (operation_stays d D)

job_keeps : (j : Job) (d : DeskOf) → IsDesk d → Keeps (job_work j) d
unfolding job_work
job_keeps j d D = any_then (job_record j) (operation_stays d D)

module _ (v : Desk) (whole : Whole v) (t : T (is_desk_value v)) where
  holds : IsDesk (desk_in v)
  holds = desk_values.holds v whole t

  -- the value that is left, by whether the test passes
  abbrev line_value : Bytes → Bytes → Bool → Served Written
  line_value line out b = elim b [ true ↦ lent_of (line_call (desk_in v) line out) | false ↦ refused_with v invalid_value 0 ]

  abbrev job_value : Job → Bool → Served Done
  job_value j b =
      elim b [ true ↦ plain_of (plain_call (desk_in v) (job_work j)) | false ↦ record { desk = v; answer = done_of (refuse invalid_value none) } ]

  line_left : (line out : Bytes) → T (is_desk_value (served line v out).desk)
  unfolding served
  line_left line out =
      subst (λ (b : Bool). T (is_desk_value (line_value line out b).desk))
      (sym (so (is_desk_value v) t))
      (desk_values.taken (line_call (desk_in v) line out).0 (lent_left (desk_in v) holds (λ x. line_operation x line) (line_keeps line
      (desk_in v) holds) out)).1

  piece_left : (overlong : Bool) (input out : Bytes) → T (is_desk_value (piece_fed overlong input v out).desk)
  piece_left overlong input out = by (ltb (length out) max_reply) refl
    where
      test : is_desk_value v ≡ true
      test = so (is_desk_value v) t

      left : (r : Served Fed) (out' : Bytes) → FedInto overlong input v out r out' → T (is_desk_value r.desk)
          → T (is_desk_value (piece_fed overlong input v out).desk)
      left r out' k h = subst (λ (x : Served Fed). T (is_desk_value x.desk)) k.left h

      by : (b : Bool) → ltb (length out) max_reply ≡ b → T (is_desk_value (piece_fed overlong input v out).desk)
      by true e = left _ _ (piece_no_room overlong input v out test (ltb-true (length out) max_reply e)) t
      by false e =
          let lines = lines_of overlong input v out in
          let stays = (feeds_exact max_reply).stays (length out) (desk_in v) overlong input holds in
          left (fed_of input lines) (written out 0 lines.output)
          (piece_taken overlong input v out test (ltb-false (length out) max_reply e) _ _ (record { left = refl; buffer = refl }))
          (desk_values.taken lines.desk stays).1

  job_left : (j : Job) → T (is_desk_value (worked (job_work j) v).desk)
  unfolding worked
  job_left j =
      subst (λ (b : Bool). T (is_desk_value (job_value j b).desk))
      (sym (so (is_desk_value v) t))
      (desk_values.taken (plain_call (desk_in v) (job_work j)).0 (plain_left_desk (desk_in v) holds (job_work j) (job_keeps j
      (desk_in v) holds))).1

pub desk_left_lem : DeskLeft
desk_left_lem = record { by_line = line_left; by_piece = piece_left; by_job = job_left }
