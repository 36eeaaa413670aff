-- `desk_c::serving::feed_lines` meets its contract: from no line held the piece is fed, and what is left is packed.
use Rattle.desk_c.proofs.Pieces.{lineless_holds, begun_taken, piece_fed_lem}
use Rattle.desk_c.proofs.serving.feed_lines.Goals as goal

pub feed-fed-requires : goal.feed-fed-requires
feed-fed-requires c = lineless_holds c.args.head c.args.columns c.args.overlong c.requires.holds_desk

pub overflow_sub-result : goal.overflow_sub-result
overflow_sub-result c =
    let a = c.args in
    begun_taken a.head a.columns a.overlong a.input.now a.out.now c.requires.max_reply_in_bounds c.feed-fed.result _ c.feed-fed.ensures

pub returns : goal.returns
returns c =
    let a = c.args in
    piece_fed_lem a.head a.columns a.overlong a.input.now a.out.now c.requires.max_reply_in_bounds c.feed-fed.result _ c.feed-fed.ensures
    c.packed-left.result c.packed-left.ensures
