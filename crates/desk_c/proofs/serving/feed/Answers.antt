-- `desk_c::serving::feed` meets its contract: a value that passes the test holds a desk, and there is room for the longest reply before a
-- line is read.
use Prim.Native.Nat.{◌≤◌}
use mathlib.Core.Path.{sym, ◌∙◌, subst}
use native.Mathlib.Omega.{arith}
use lib.ListN.{length}
use Rattle.desk.specs.Feeds.{between, fed_within}
use Rattle.replies.specs.Sizes.{max_reply}
use Rattle.slots.specs.declared.Head.{Head}
use Rattle.slots.specs.Desks.{desk_of}
use Rattle.desk_values.specs.Values.{desk_in}
use Rattle.desk_values.proofs.Exact.{whole_of_good}
use Rattle.desk_core.proofs.Feeds.{reply_limit}
use Rattle.desk_c.specs.declared.Fed.{Fed}
use Rattle.desk_c.specs.declared.serving.Served.{Served}
use Rattle.desk_c.specs.Feeding.{FedOn, FedInto}
use Rattle.desk_c.proofs.Passing.{letter_passes, holds_value}
use Rattle.desk_c.proofs.Pieces.{piece_no_desk, piece_no_room, piece_taken}
use Rattle.desk_c.proofs.serving.feed.Goals as goal

pub returns-then-not-is_desk : goal.returns-then-not-is_desk
returns-then-not-is_desk c =
    let a = c.args in
    let no = sym c.is_desk.ensures ∙ c.if-not-is_desk.true in
    subst (λ (r : Served Fed). FedInto a.overlong a.input.now a.desk a.out.now r a.out.now) (sym c.unfed.ensures)
    (piece_no_desk a.overlong a.input.now a.desk a.out.now no)

pub returns-then-out-lt-MAX_REPLY : goal.returns-then-out-lt-MAX_REPLY
returns-then-out-lt-MAX_REPLY c =
    let a = c.args in
    subst (λ (r : Served Fed). FedInto a.overlong a.input.now a.desk a.out.now r a.out.now) (sym c.unfed-then-out-lt-MAX_REPLY.ensures)
    (piece_no_room a.overlong a.input.now a.desk a.out.now (sym c.if-not-is_desk.ensures) (omega (arith, reply_limit, c.if-out-lt-MAX_REPLY.true)))

pub head_of-requires : goal.head_of-requires
head_of-requires c = letter_passes c.args.desk (whole_of_good c.args.desk _ c.well_formed.0) c.if-not-is_desk.ensures

pub feed_lines-requires-clause-holds_desk : goal.feed_lines-requires-clause-holds_desk
feed_lines-requires-clause-holds_desk c =
    holds_value c.args.desk (whole_of_good c.args.desk _ c.well_formed.0) c.if-not-is_desk.ensures c.head_of.result c.head_of.ensures

pub feed_lines-requires-clause-max_reply_in_bounds :
    goal.feed_lines-requires-clause-max_reply_in_bounds
feed_lines-requires-clause-max_reply_in_bounds c = omega (arith, reply_limit, c.if-out-lt-MAX_REPLY.false)

pub returns : goal.returns
unfolding desk_in
returns c =
    let a = c.args in
    let room : max_reply ≤ length a.out.now = omega (arith, reply_limit, c.if-out-lt-MAX_REPLY.false) in
    piece_taken a.overlong a.input.now a.desk a.out.now (sym c.if-not-is_desk.ensures) room _ _
    (subst
    (λ (x : Head). FedOn (fed_within max_reply (length a.out.now) (between (desk_of x a.desk.columns) a.overlong) a.input.now)
    a.input.now a.out.now c.feed_lines.result c.feed_lines.new.out)
    c.head_of.ensures c.feed_lines.ensures)
