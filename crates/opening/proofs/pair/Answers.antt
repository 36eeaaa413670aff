-- `opening::pair` meets its contract: each word is judged, and then the pair is set behind those of the open plan.
use mathlib.Core.Path.{refl, sym, ◌∙◌, ap}
use mathlib.Core.Bool.{false, not}
use Rattle.std.specs.Prelude.{Err}
use Rattle.words.specs.Bytes.{read_word}
use Rattle.desk.specs.Records.{M, kind}
use Rattle.operations.specs.declared.refusals.Refusal.TheVariants as The
use Rattle.slots.specs.Works.{work_of}
use Rattle.slots.specs.Refused.{refused_for}
use Rattle.slots.proofs.Held.{draft_slot}
use Rattle.slots.proofs.Steps.{no_plan_open, returned, refused_with, refused_admission, refused_job}
use Rattle.opening.proofs.Drafted.{pair_admitted, bad_from, bad_to, no_room, paired_done}
use Rattle.opening.proofs.pair.Goals as goal

pub returns-then-is_none-clause-done : goal.returns-then-is_none-clause-done
unfolding kind
returns-then-is_none-clause-done c = λ out.
    let a = c.args in
    refused_admission a.head.now a.columns.now c.requires (M a.from.now a.to.now) out (refused_for The.WrongState)
    (no_plan_open a.head.now a.columns.now (M a.from.now a.to.now) false refl (c.is_none.ensures ∙ ap not c.if-is_none.true)) _
    (ap Err c.into.ensures)

pub returns-in_err-from_word-clause-done : goal.returns-in_err-from_word-clause-done
returns-in_err-from_word-clause-done c = λ out.
    let a = c.args in
    let from = a.from.now in
    let (slot, e) = draft_slot a.head.now.draft (c.is_none.ensures ∙ ap not c.if-is_none.false) in
    let read = ap (λ s. read_word s from) (sym c.shape-shape.ensures) ∙ sym c.read.ensures ∙ c.in_err-from_word.ensures.ok_part in
    refused_job a.head.now a.columns.now c.requires (M from a.to.now) out
    (pair_admitted a.head.now a.columns.now c.requires slot e from a.to.now) (refused_for The.BadWord)
    (bad_from a.head.now a.columns.now c.requires slot e from a.to.now read) _
    (ap (work_of _) (returned _ _ c.from_residual.ensures.1 ∙ ap Err (refused_with c.read.result _ The.BadWord c.in_err-from_word.ensures.value)))

pub returns-in_err-to_word-clause-done : goal.returns-in_err-to_word-clause-done
returns-in_err-to_word-clause-done c = λ out.
    let a = c.args in
    let from = a.from.now in
    let to = a.to.now in
    let (slot, e) = draft_slot a.head.now.draft (c.is_none.ensures ∙ ap not c.if-is_none.false) in
    let first = ap (λ s. read_word s from) (sym c.shape-shape.ensures) ∙ sym c.read.ensures ∙ c.in_ok-from_word.ensures.ok_part in
    let second = ap (λ s. read_word s to) (sym c.shape-shape.ensures) ∙ sym c.read-2.ensures ∙ c.in_err-to_word.ensures.ok_part in
    refused_job a.head.now a.columns.now c.requires (M from to) out (pair_admitted a.head.now a.columns.now c.requires slot e from to)
    (refused_for The.BadWord) (bad_to a.head.now a.columns.now c.requires slot e from to _ first second) _
    (ap (work_of _) (returned _ _ c.from_residual-in_err-to_word.ensures.1
    ∙ ap Err (refused_with c.read-2.result _ The.BadWord c.in_err-to_word.ensures.value)))

pub returns-then-size-ge-MAX_PAIRS-clause-done : goal.returns-then-size-ge-MAX_PAIRS-clause-done
returns-then-size-ge-MAX_PAIRS-clause-done c = λ out.
    let a = c.args in
    let from = a.from.now in
    let to = a.to.now in
    let (slot, e) = draft_slot a.head.now.draft (c.is_none.ensures ∙ ap not c.if-is_none.false) in
    let first = ap (λ s. read_word s from) (sym c.shape-shape.ensures) ∙ sym c.read.ensures ∙ c.in_ok-from_word.ensures.ok_part in
    let second = ap (λ s. read_word s to) (sym c.shape-shape.ensures) ∙ sym c.read-2.ensures ∙ c.in_ok-to_word.ensures.ok_part in
    refused_job a.head.now a.columns.now c.requires (M from to) out (pair_admitted a.head.now a.columns.now c.requires slot e from to)
    (refused_for The.PairsFull)
    (no_room a.head.now a.columns.now c.requires slot e from to _ _ first second c.if-size-ge-MAX_PAIRS.true) _
    (ap Err c.into-then-size-ge-MAX_PAIRS.ensures)

pub returns-clause-done : goal.returns-clause-done
returns-clause-done c = λ out.
    let a = c.args in
    let from = a.from.now in
    let to = a.to.now in
    let (slot, e) = draft_slot a.head.now.draft (c.is_none.ensures ∙ ap not c.if-is_none.false) in
    let first = ap (λ s. read_word s from) (sym c.shape-shape.ensures) ∙ sym c.read.ensures ∙ c.in_ok-from_word.ensures.ok_part in
    let second = ap (λ s. read_word s to) (sym c.shape-shape.ensures) ∙ sym c.read-2.ensures ∙ c.in_ok-to_word.ensures.ok_part in
    paired_done a.head.now a.columns.now c.requires slot e from to _ _ first second c.if-size-ge-MAX_PAIRS.false out
