-- `opening::open` meets its contract.
use mathlib.Core.Path.{◌≡◌, refl, sym, ◌∙◌, ap, subst}
use mathlib.Core.Bool.{true, false}
use mathlib.Core.List.Memᴰ
use mathlib.Core.List.{[], ◌∷◌}
use native.Mathlib.Omega.{arith}
use Rattle.std.specs.Prelude.{Err}
use Rattle.higman.specs.Listing.{is_slot}
use Rattle.words.specs.Bytes.{shape_of}
use Rattle.desk.specs.Desk.{with_draft, IsDesk}
use Rattle.desk.specs.Records.{P, kind, writing}
use Rattle.desk.specs.Replies.{Effect, silent, new_draft}
use Rattle.operations.specs.declared.refusals.Refusal.TheVariants.{ShapeOutside}
use Rattle.slots.specs.Works.{work_of}
use Rattle.slots.specs.declared.Size.{Size}
use Rattle.slots.specs.Desks.{desk_of}
use Rattle.slots.specs.Refused.{refused_for}
use Rattle.slots.proofs.Held.{slots_eight}
use Rattle.slots.proofs.Steps.{slot_below, admitted_named, returned, refused_by, refused_job, at_end, done_passed}
use Rattle.opening.proofs.Drafted.{drafted, slots_untouched, drafted_size, drafted_desk, holds_drafted, draft_empty}
use Rattle.opening.proofs.Drafted.{open_outside, open_done}
use Rattle.opening.proofs.open.Goals.{Else-not-is_in_range}
use Rattle.opening.proofs.open.Goals as goal

-- the record is admitted, whatever the columns are, and so the byte names a slot
named : (c : Else-not-is_in_range) → is_slot c.args.slot ≡ true
unfolding kind
named c =
    let a = c.args in
    let columns = c.requires.0 in
    let r = P a.slot a.shape.arity a.shape.roots in
    admitted_named (desk_of a.head.now columns) r (c.in_ok-admission.ensures r false columns refl) (writing a.slot) (Memᴰ.head refl)

pub returns-in_err-admission-clause-done : goal.returns-in_err-admission-clause-done
unfolding kind
returns-in_err-admission-clause-done c = λ columns out H.
    let a = c.args in
    refused_by a.head.now columns H (P a.slot a.shape.arity a.shape.roots) out [] (a.slot ∷ []) false refl _ c.in_err-admission.ensures _
    (ap (work_of _) (returned _ _ c.from_residual.ensures.1))

pub returns-then-not-is_in_range-clause-done : goal.returns-then-not-is_in_range-clause-done
unfolding kind
returns-then-not-is_in_range-clause-done c = λ columns out H.
    let a = c.args in
    let r = P a.slot a.shape.arity a.shape.roots in
    let no = sym c.is_in_range.ensures ∙ c.if-not-is_in_range.true in
    refused_job a.head.now columns H r out (c.in_ok-admission.ensures r false columns refl) (refused_for ShapeOutside)
    (open_outside (desk_of a.head.now columns) a.slot a.shape.arity a.shape.roots no) _ (ap Err c.into.ensures)

pub slot_number-requires : goal.slot_number-requires
slot_number-requires c = named (goal.at.slot_number-requires c).Else-not-is_in_range

pub overflow_cast-head : goal.overflow_cast-head
overflow_cast-head c =
    let named = named (goal.at.overflow_cast-head c).Else-not-is_in_range in
    record { fits = omega (arith, c.slot_number.ensures, slot_below c.args.slot named, slots_eight) }

pub returns-clause-done : goal.returns-clause-done
unfolding kind
returns-clause-done c = λ columns out H.
    let a = c.args in
    let h = a.head.now in
    let d = desk_of h columns in
    let r = P a.slot a.shape.arity a.shape.roots in
    let slot = c.slot_number.result in
    let size : Size = record { arity = a.shape.arity; roots = a.shape.roots; pairs = 0 } in
    let yes = sym c.is_in_range.ensures ∙ c.if-not-is_in_range.false in
    let same = slots_untouched columns in
    let next : Effect = (with_draft d (new_draft a.slot (shape_of a.shape)), silent) in
    let desk : desk_of (drafted h slot size) columns ≡ next.0 =
    drafted_desk h columns columns H same slot size
    ∙ ap (with_draft d) (draft_empty (drafted h slot size) columns slot a.shape.arity a.shape.roots
    (drafted_size h columns columns H same slot size)
    ∙ ap (λ n. record { slot = n; shape = shape_of a.shape; rows = [] }) c.slot_number.ensures) in
    let step = at_end d r (c.in_ok-admission.ensures r false columns refl) next (open_done d a.slot a.shape.arity a.shape.roots yes) refl in
    done_passed h columns H r out next step _ columns out
    (λ k. holds_drafted h columns columns H same slot size (omega arith) (subst IsDesk (sym desk) k)) desk refl refl
