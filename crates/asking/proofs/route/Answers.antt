-- `asking::route` meets its contract: the image is written behind the place of `ok⇥`, and then the line around it; where there is no image,
-- the output is as it was, and the block is written.
use Prim.Native.Nat.{ℕ, ◌-◌, ◌≤◌}
use mathlib.Core.Path.{◌≡◌, refl, sym, ◌∙◌, ap, subst}
use mathlib.Core.Bool.{true, false}
use mathlib.Core.List.Memᴰ
use mathlib.Core.List.{List, [], ◌∷◌}
use native.Mathlib.Nat.{zero-add}
use native.Mathlib.Omega.{arith}
use borrow.Rule.Slice.PartMut.{put_mid, put_same}
use lib.ListN.{length, take, drop, length-drop}
use lib.Seq.{length-take-le}
use Rattle.std.specs.Prelude.{Err}
use Rattle.higman.specs.Limits.{Plan, max_pairs}
use Rattle.higman.specs.Answers.{Route, routed}
use Rattle.higman.specs.Text.{word_bytes, word_of, decimal}
use Rattle.higman.specs.Listing.{is_slot}
use Rattle.higman.specs.Words.{Word}
use Rattle.higman.specs.Places.{placed_block}
use Rattle.higman.specs.Buffers.{written}
use Rattle.desk.specs.Desk.{Desk}
use Rattle.desk.specs.Records.{W, kind, reading}
use Rattle.desk.specs.Replies.{ok_image, ok_block, pass, job}
use Rattle.desk.specs.Bytes.{reply_bytes}
use Rattle.operations.specs.Plans.{lent_plan}
use Rattle.operations.specs.Routing.{image_into}
use Rattle.operations.proofs.KeptValues.{lent_kept}
use Rattle.replies.specs.Lines.{image_at}
use Rattle.replies.specs.Sizes.{max_reply}
use Rattle.replies.proofs.Sizes.{image_fits, rooms}
use Rattle.replies.proofs.Images.{written_lent, image_line}
use Rattle.slots.specs.declared.Reply.TheVariants.{Written}
use Rattle.slots.specs.Desks.{desk_of}
use Rattle.slots.specs.Works.{Tells}
use Rattle.slots.proofs.Windows.{written_length}
use Rattle.slots.proofs.Steps.{admitted_named, returned, tells_by, tells_job}
use Rattle.asking.proofs.Answered.{Asks, asks_by, answered}
use Rattle.asking.proofs.Jobs.{replied, route_none, route_done, HasRoom, route_sent, route_short, route_refused}
use Rattle.asking.proofs.route.Goals.{In_ok-admission, In_ok-plan, After-route}
use Rattle.asking.proofs.route.Goals as goal

-- the record is admitted, and so the byte names a slot
asks : (c : In_ok-admission) → let a = c.args in Asks a.head.now a.columns.now (W a.a a.code.now)
unfolding kind
asks c = let a = c.args in asks_by a.head.now a.columns.now (W a.a a.code.now) (a.a ∷ []) refl c.in_ok-admission.ensures

a_named : (c : In_ok-admission) → is_slot c.args.a ≡ true
unfolding kind
a_named c = admitted_named _ _ (asks c).admitted (reading c.args.a) (Memᴰ.head refl)

pub returns-in_err-admission : goal.returns-in_err-admission
unfolding kind
returns-in_err-admission c =
    let a = c.args in
    tells_by a.head.now a.columns.now (W a.a a.code.now) a.out.now (a.a ∷ []) [] false refl _ c.in_err-admission.ensures _
    (returned _ _ c.from_residual.ensures.1)

pub plan_in-requires-clause-named : goal.plan_in-requires-clause-named
plan_in-requires-clause-named c = a_named c

pub returns-in_err-plan : goal.returns-in_err-plan
returns-in_err-plan c =
    let a = c.args in
    tells_job a.head.now a.columns.now (W a.a a.code.now) a.out.now (asks (goal.at.returns-in_err-plan c).In_ok-admission).admitted _
    (route_none _ a.a c.in_err-plan.ensures a.code.now) _ (returned _ _ c.from_residual-in_err-plan.ensures.1)

-- the plan, the code and its route, and the output behind the place of `ok⇥`, which is lent to the route
abbrev plan : In_ok-plan → Plan
plan c = lent_plan c.in_ok-plan.plan

abbrev code : In_ok-plan → Word
code c = word_of c.args.code.now

abbrev answer : In_ok-plan → Route
answer c = routed (plan c) (code c)

abbrev desk : In_ok-plan → Desk
desk c = desk_of c.args.head.now c.args.columns.now

abbrev out : In_ok-plan → List ℕ
out c = c.args.out.now

abbrev behind : In_ok-plan → List ℕ
behind c = take (length (out c) - image_at) (drop image_at (out c))

wide : (c : In_ok-plan) → image_at ≤ length (out c)
wide c = omega (arith, c.requires.room, rooms.ok)

room : (c : In_ok-plan) → HasRoom (answer c) (behind c)
room c v e =
    let size : length (behind c) ≡ length (out c) - image_at =
    length-take-le (length (out c) - image_at) (drop image_at (out c)) (omega (arith, length-drop image_at (out c))) in
    omega (arith, c.requires.room, size, (image_fits (plan c) (code c) v (lent_kept c.in_ok-plan.plan) e).room)

pub slice_bounds-route-count : goal.slice_bounds-route-count
slice_bounds-route-count c = wide c

pub slice_bounds-route-start : goal.slice_bounds-route-start
slice_bounds-route-start c = wide c

job_told : (c : In_ok-plan) → job (desk c) (W c.args.a c.args.code.now) ≡ replied (desk c) (plan c) (code c) (answer c)
job_told c = route_done (desk c) c.args.a (plan c) c.in_ok-plan.ensures c.args.code.now

-- what the route left of the output; without an image, that is what it was
abbrev routed_out : (c : In_ok-plan) → List ℕ → List ℕ
routed_out c back = put_mid image_at (length (out c) - image_at) (out c) back

unmoved : (c : In_ok-plan) (back : List ℕ) → back ≡ image_into (answer c) (behind c) → image_into (answer c) (behind c) ≡ behind c
    → routed_out c back ≡ out c
unmoved c back b e =
    let rest = length (out c) - image_at in
    ap (put_mid image_at rest (out c)) (b ∙ e) ∙ put_same image_at rest (out c)

pub ok_image-requires : goal.ok_image-requires
ok_image-requires c =
    let p = (goal.at.ok_image-requires c).In_ok-plan in
    let told = c.in-Image.image in
    let sent = route_sent (desk p) (plan p) (code p) (behind p) (answer p) (room p) told (sym c.in-Image.ensures.value) in
    let image = word_bytes sent.image in
    let placed = written_lent (out p) image c.route.new.out image_at (c.in-Image.ensures.out_after ∙ sent.buffer) in
    let short = image_fits (plan p) (code p) sent.image (lent_kept p.in_ok-plan.plan) sent.is_image in
    let size = ap length placed ∙ written_length (out p) image_at image (omega (arith, c.requires.room, short.room)) in
    record {
      place_granted = subst (λ k. k ≤ max_pairs) (sym sent.place) short.place_granted;
      room = omega (arith, c.requires.room, short.room, sent.size, size);
    }

pub returns-in-Image : goal.returns-in-Image
unfolding reply_bytes
returns-in-Image c =
    let a = c.args in
    let at = goal.at.returns-in-Image c in
    let p = at.In_ok-plan in
    let told = c.in-Image.image in
    let sent = route_sent (desk p) (plan p) (code p) (behind p) (answer p) (room p) told (sym c.in-Image.ensures.value) in
    let image = word_bytes sent.image in
    let placed = written_lent (out p) image c.route.new.out image_at (c.in-Image.ensures.out_after ∙ sent.buffer) in
    let line = image_line (out p) image (decimal told.place) (wide p) sent.size placed c.ok_image.ensures in
    answered a.head.now a.columns.now (W a.a a.code.now) (out p) (asks at.In_ok-admission) (ok_image sent.image told.place) (job_told p ∙ sent.reply)
    (Written c.ok_image.result) (ap (λ n. pass (Written n)) (line.place ∙ zero-add _)) _ line.contents

pub write_block-requires : goal.write_block-requires
write_block-requires c =
    let p = (goal.at.write_block-requires c).In_ok-plan in
    let short = route_short (desk p) (plan p) (code p) (behind p) (answer p) (room p) (sym c.in-TooShort.ensures.value) in
    let same = unmoved p c.route.new.out c.in-TooShort.ensures.out_after short.buffer in
    record { short = short.is_short; space = subst (λ x. max_reply ≤ length x) (sym same) c.requires.room }

pub returns-in-TooShort : goal.returns-in-TooShort
returns-in-TooShort c =
    let a = c.args in
    let at = goal.at.returns-in-TooShort c in
    let p = at.In_ok-plan in
    let short = route_short (desk p) (plan p) (code p) (behind p) (answer p) (room p) (sym c.in-TooShort.ensures.value) in
    let same = unmoved p c.route.new.out c.in-TooShort.ensures.out_after short.buffer in
    let line = c.write_block.ensures in
    answered a.head.now a.columns.now (W a.a a.code.now) (out p) (asks at.In_ok-admission) (ok_block (placed_block (plan p).rows (code p)))
    (job_told p ∙ short.reply) (Written c.write_block.result) (ap (λ n. pass (Written n)) (line.place ∙ zero-add _)) _
    (line.contents ∙ ap (λ x. written x 0 (reply_bytes (ok_block (placed_block (plan p).rows (code p))))) same)

pub returns-in-Refused : goal.returns-in-Refused
returns-in-Refused c =
    let a = c.args in
    let at = goal.at.returns-in-Refused c in
    let p = at.In_ok-plan in
    let stopped = route_refused (desk p) (plan p) (code p) (behind p) (answer p) (room p) c.in-Refused.refusal (sym c.in-Refused.ensures.value) in
    let same = unmoved p c.route.new.out c.in-Refused.ensures.out_after stopped.buffer in
    subst (λ x. Tells (W a.a a.code.now) a.head.now a.columns.now (out p) (Err c.into.result) x) (sym same)
    (tells_job a.head.now a.columns.now (W a.a a.code.now) (out p) (asks at.In_ok-admission).admitted _ (job_told p ∙ stopped.reply) _
    (ap Err c.into.ensures))
