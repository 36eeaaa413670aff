-- `desk_c::serving::lend` meets its contract, by what the line comes to and the room that there is.
use Prim.Native.Nat.{ℕ, ◌+◌, ◌≤◌}
use mathlib.Core.List.{◌++◌}
use lib.Seq.{length-take-le}
use mathlib.Core.Path.{◌≡◌, sym, ◌∙◌, ap, subst}
use native.Mathlib.Omega.{arith}
use lib.ListN.{length, length-replicate, take, drop}
use Rattle.replies.specs.Sizes.{max_reply}
use Rattle.slots.specs.declared.Head.{Head}
use Rattle.slots.specs.Desks.{desk_of, HoldsDesk}
use Rattle.lines.specs.declared.Stepped.{Stepped}
use Rattle.lines.proofs.Settled.{holds_dropped}
use Rattle.desk_values.specs.Values.{packed_desk}
use Rattle.desk_c.proofs.Lent.{call_refused, reply_fits, call_done}
use Rattle.desk_c.proofs.serving.lend.Goals as goal

pub answer-requires : goal.answer-requires
unfolding max_reply
answer-requires c = record { holds = c.requires; room = omega (arith, length-replicate {A = ℕ} 5127 0) }

pub packed-requires-in-Err : goal.packed-requires-in-Err
packed-requires-in-Err c =
    subst (λ (h : Head). HoldsDesk h c.args.columns) (sym c.dropped.ensures) (holds_dropped c.args.head c.args.columns c.requires)

pub returns-in-Err : goal.returns-in-Err
returns-in-Err c =
    let a = c.args in
    call_refused a.head a.columns c.requires a.line.now a.out.now c.in-Err.refused c.in-Err.ensures c.packed-in-Err.result
    (c.packed-in-Err.ensures ∙ ap (λ (h : Head). packed_desk (desk_of h a.columns)) c.dropped.ensures) c.into.result c.into.ensures

pub returns-in-Ok : goal.returns-in-Ok
unfolding max_reply
returns-in-Ok c =
    let a = c.args in
    let out = a.out.now in
    let n = c.in-Ok.n in
    let s : Stepped = record { head = c.answer.new.head; used = n } in
    let bytes = c.answer.new.out in
    let columns = c.answer.new.columns in
    let long = length-replicate {A = ℕ} 5127 0 in
    let fits : n ≤ 5127 = reply_fits a.head a.columns c.requires a.line.now out _ columns bytes s c.in-Ok.ensures in
    let size : n ≡ 0 + length (take n bytes) = omega (arith, length-take-le n bytes (omega (arith, c.answer.auto.out))) in
    call_done a.head a.columns c.requires a.line.now out _ columns bytes s c.in-Ok.ensures (omega arith) c.packed.result c.packed.ensures _
    (ap (λ l. l ++ drop n out) c.copy_from_slice.ensures.after ∙ ap (λ m. take n bytes ++ drop m out) size)
