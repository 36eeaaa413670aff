-- `asking::survey` meets its contract.
use Prim.Native.Nat.{◌≤◌}
use mathlib.Core.Path.{refl, sym, ◌∙◌, ap, subst}
use mathlib.Core.Bool.{false}
use mathlib.Core.List.{[], ◌∷◌}
use native.Mathlib.Nat.{zero-add}
use native.Mathlib.Omega.{arith}
use lib.ListN.{length, take, get_or}
use Rattle.higman.specs.Words.{Shape}
use Rattle.higman.specs.Text.{decimal}
use Rattle.higman.specs.Listing.{slot_byte}
use Rattle.words.specs.Writing.{Wrote}
use Rattle.desk.specs.Bytes.{line_of}
use Rattle.desk.specs.Records.{U, kind}
use Rattle.desk.specs.Replies.{surveyed, surveys, pass, job}
use Rattle.replies.specs.Lines.{HeldFits}
use Rattle.replies.proofs.Sizes.{ok_number_size}
use Rattle.slots.specs.declared.Reply.TheVariants.{Written}
use Rattle.slots.specs.Blocks.{size_at}
use Rattle.slots.specs.Desks.{desk_of}
use Rattle.slots.proofs.Held.{slots_eight, control_held}
use Rattle.slots.proofs.Steps.{returned, tells_by}
use Rattle.asking.proofs.Answered.{asks_by, answered}
use Rattle.asking.proofs.Surveyed.{line_fits, survey_room, next_named, next_full, survey_next}
use Rattle.asking.proofs.Surveyed.{all_few, all_taken, survey_ends}
use Rattle.asking.proofs.survey.Goals as goal

pub returns-in_err-admission : goal.returns-in_err-admission
unfolding kind
returns-in_err-admission c = λ columns H.
    tells_by c.args.head.now columns U c.args.out.now [] [] false refl _ c.in_err-admission.ensures _ (returned _ _ c.from_residual.ensures.1)

pub arrange-held-requires : goal.arrange-held-requires
arrange-held-requires c =
    record { is_control = control_held c.args.head.now c.requires.0 c.requires.1.holds; room = omega (arith, slots_eight) }

pub offset_bounds-head-slot : goal.offset_bounds-head-slot
offset_bounds-head-slot c =
    let below = next_named c.args.head.now (all_taken c.args.head.now c.arrange-held.ensures) c.loop-slot-test.true in
    record { fits = omega (arith, below) }

pub bounds-head-slot : goal.bounds-head-slot
bounds-head-slot c = omega (arith, next_named c.args.head.now (all_taken c.args.head.now c.arrange-held.ensures) c.loop-slot-test.true)

pub overflow_cast-slot : goal.overflow_cast-slot
overflow_cast-slot c =
    let below = next_named c.args.head.now (all_taken c.args.head.now c.arrange-held.ensures) c.loop-slot-test.true in
    record { fits = omega (arith, below) }

pub overflow_add-slot : goal.overflow_add-slot
overflow_add-slot c =
    let below = next_named c.args.head.now (all_taken c.args.head.now c.arrange-held.ensures) c.loop-slot-test.true in
    record { fits = omega (arith, below) }

pub held-used-requires : goal.held-used-requires
held-used-requires c =
    let h = c.args.head.now in
    let whole = all_taken h c.arrange-held.ensures in
    let slot = get_or (take c.arrange-held.result c.arrange-held.new.order) c.loop-slot.slot-index 0 in
    let below = next_named h whole c.loop-slot-test.true in
    subst (λ (s : Shape). HeldFits s.arity s.roots (size_at h slot).pairs c.loop-slot.used (length c.loop-slot.out)) (sym c.shape.ensures)
    (line_fits h c.requires.0 c.requires.1.holds slot (omega (arith, slots_eight, below)) (next_full h whole c.loop-slot-test.true) c.loop-slot.used _
    (omega (arith, survey_room c.loop-slot.invariant c.requires.1.room)))

pub loop-slot-preserved : goal.loop-slot-preserved
loop-slot-preserved c =
    let h = c.args.head.now in
    let slot = get_or (take c.arrange-held.result c.arrange-held.new.order) c.loop-slot.slot-index 0 in
    let line = subst (λ (s : Shape). Wrote (line_of ((slot_byte slot ∷ []) ∷ decimal s.arity ∷ decimal s.roots ∷ decimal (size_at h slot).pairs ∷ [])) c.loop-slot.out c.loop-slot.used c.held-used.new.out c.held-used.result) c.shape.ensures c.held-used.ensures in
    survey_next h (all_taken h c.arrange-held.ensures) c.loop-slot-test.true c.requires.1.holds c.loop-slot.invariant line

pub ok_number-used-requires : goal.ok_number-used-requires
ok_number-used-requires c =
    let few = all_few c.args.head.now c.arrange-held.ensures in
    omega (arith, survey_room c.loop-slot.invariant c.requires.1.room, ok_number_size c.arrange-held.result (omega (arith, few)))

pub returns : goal.returns
unfolding kind job
returns c = λ columns H.
    let h = c.args.head.now in
    let all = ap length (all_taken h c.arrange-held.ensures) in
    let ended : c.arrange-held.result ≤ c.loop-slot.slot-index = omega (arith, all, c.arrange-held.ensures.place, c.loop-slot-test.false) in
    let whole = survey_ends H c.arrange-held.ensures c.loop-slot.invariant ended c.ok_number-used.ensures in
    answered h columns U c.args.out.now (asks_by h columns U [] refl c.in_ok-admission.ensures) (surveys (surveyed (desk_of h columns))) refl
    (Written c.ok_number-used.result) (ap (λ n. pass (Written n)) (whole.place ∙ zero-add _)) _ whole.contents
