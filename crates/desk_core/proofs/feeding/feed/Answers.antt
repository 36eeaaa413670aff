-- `desk_core::feeding::feed` meets its contract: a turn of the loop answers a whole line, and the rest of the input ends no line.
use Prim.Native.Nat.{◌-◌, ◌≤◌}
use mathlib.Core.Path.{◌≡◌, refl, ◌∙◌}
use native.Mathlib.Omega.{arith}
use lib.ListN.{length, take, drop, length-drop}
use lib.Seq.{length-take-le}
use Rattle.replies.specs.Sizes.{max_reply}
use Rattle.desk_core.proofs.Feeds.{reply_limit, turn_start, stopped_within, ended_within, fed_rest, rest_within, turn_ended}
use Rattle.desk_core.proofs.feeding.feed.Goals as goal

pub loop-at-init : goal.loop-at-init
loop-at-init c = turn_start _ _ _ c.requires

pub returns-in_default : goal.returns-in_default
returns-in_default c =
    let k = c.loop-at.invariant in
    let room : max_reply ≤ length c.loop-at.out - c.loop-at.used = omega (arith, reply_limit) in
    record {
      fed = fed_rest _ _ _ _ _ _ _ k _ c.in_default.ensures.first c.grow-grown.result c.grow-grown.new.line c.grow-grown.ensures;
      stopped = λ n. absurd (n refl);
      within =
          rest_within _ _ _ _ _ _ _ k _ c.in_default.ensures.first c.grow-grown.result c.grow-grown.new.line c.grow-grown.ensures (omega arith) room;
    }

pub whole_line-s-requires-clause-asked : goal.whole_line-s-requires-clause-asked
whole_line-s-requires-clause-asked c =
    let out = c.loop-at.out in
    let used = c.loop-at.used in
    let size : length (take (length out - used) (drop used out)) ≡ length out - used = length-take-le (length out - used) (drop used out) (omega (arith, length-drop used out)) in
    record { holds = c.loop-at.invariant.fed.holds.holds; room = omega (arith, reply_limit) }

pub loop-at-preserved : goal.loop-at-preserved
loop-at-preserved c =
    let k = c.loop-at.invariant in
    let w = c.whole_line-s in
    let room : max_reply ≤ length c.loop-at.out - c.loop-at.used = omega (arith, reply_limit) in
    turn_ended _ _ _ _ _ _ _ k _ c.in-Some.ensures.first c.in-Some.ensures.inside room w.result w.new.columns w.new.line w.new.out
    (w.ensures.line_len_unchanged ∙ k.fed.holds.lined) w.ensures.line_answered

pub returns-else-out-used-ge-MAX_REPLY : goal.returns-else-out-used-ge-MAX_REPLY
returns-else-out-used-ge-MAX_REPLY c =
    let k = c.loop-at.invariant in
    record {
      fed = k.fed;
      stopped = λ _. omega (arith, reply_limit, k.fed.long, k.fed.room);
      within = stopped_within _ _ _ _ _ _ _ k (omega (arith, reply_limit));
    }

pub returns-after-loop-at : goal.returns-after-loop-at
returns-after-loop-at c =
    let k = c.loop-at.invariant in
    record {
      fed = k.fed;
      stopped = λ n. absurd (n (omega (arith, c.loop-at-test.false, k.fed.taken)));
      within = ended_within _ _ _ _ _ _ _ k c.loop-at-test.false;
    }
