-- `desk_c::serving::work` meets its contract: a value that passes the test holds a desk.
use mathlib.Core.Path.{sym, ◌∙◌, ap}
use mathlib.Core.Bool.{Bool, true, false}
use mathlib.Core.Option.{none}
use Rattle.std.specs.Prelude.{Err}
use Rattle.higman.specs.Refusals.{invalid_value}
use Rattle.desk.specs.Replies.{refuse}
use Rattle.desk.specs.Buffers.{plain_call}
use Rattle.slots.specs.declared.Head.{Head}
use Rattle.slots.specs.declared.Refused.{Refused}
use Rattle.slots.specs.Desks.{desk_of}
use Rattle.slots.specs.Refused.{outcome_of}
use Rattle.desk_values.specs.declared.Desk.{Desk}
use Rattle.desk_values.specs.Values.{desk_in}
use Rattle.desk_values.proofs.Exact.{whole_of_good}
use Rattle.desk_c.specs.declared.Job.{Job}
use Rattle.desk_c.specs.declared.Done.{Done}
use Rattle.desk_c.specs.declared.serving.Served.{Served}
use Rattle.desk_c.specs.Calls.{done_of, job_work, plain_of, worked}
use Rattle.desk_c.proofs.Passing.{letter_passes, holds_value}
use Rattle.desk_c.proofs.serving.work.Goals as goal

-- the call, by whether the value passes
abbrev leaves : Job → Desk → Bool → Served Done
leaves j d b =
    elim b [ true ↦ plain_of (plain_call (desk_in d) (job_work j)) | false ↦ record { desk = d; answer = done_of (refuse invalid_value none) } ]

pub returns-then-not-is_desk : goal.returns-then-not-is_desk
unfolding worked
returns-then-not-is_desk c =
    let a = c.args in
    let no = sym c.is_desk.ensures ∙ c.if-not-is_desk.true in
    let answer = c.from-then-not-is_desk.ensures ∙ ap (λ (f : Refused). done_of (outcome_of (Err f))) c.from.ensures in
    ap (λ (x : Done). record { desk = a.desk; answer = x }) answer ∙ sym (ap (leaves a.job a.desk) no)

pub head_of-requires : goal.head_of-requires
head_of-requires c = letter_passes c.args.desk (whole_of_good c.args.desk _ c.well_formed.0) c.if-not-is_desk.ensures

pub done_on-requires : goal.done_on-requires
done_on-requires c =
    holds_value c.args.desk (whole_of_good c.args.desk _ c.well_formed.0) c.if-not-is_desk.ensures c.head_of.result c.head_of.ensures

pub returns : goal.returns
unfolding worked desk_in
returns c =
    let a = c.args in
    c.done_on.ensures
    ∙ ap (λ (x : Head). plain_of (plain_call (desk_of x a.desk.columns) (job_work a.job))) c.head_of.ensures
    ∙ ap (leaves a.job a.desk) c.if-not-is_desk.ensures
