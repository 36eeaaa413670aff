-- What `desk_feed` answers, in figures: 15, then 14, and else what feeding the bytes taken leaves.
use Prim.Native.Nat.{ℕ, ◌+◌, ◌-◌, ◌≤◌, ◌<◌}
use mathlib.Core.Path.{◌≡◌, refl, sym, ◌∙◌, ap, subst₂}
use mathlib.Core.Bool.{Bool, true, false}
use mathlib.Core.List.{◌++◌}
use native.Mathlib.Omega.{arith}
use lib.ListN.{length, take, drop, length-append}
use lib.Seq.{take_at, drop_at}
use Rattle.higman.specs.Text.{Bytes}
use Rattle.higman.proofs.Tests.{so}
use Rattle.desk.specs.Desk.{IsDesk}
use Rattle.desk.specs.Session.{feed}
use Rattle.desk.specs.Feeds.{Fed as FedLines, between, fed_within}
use Rattle.desk.proofs.Feeds.{feeds_exact}
use Rattle.replies.specs.Sizes.{max_reply}
use Rattle.replies.proofs.EveryReply.{replies_fit}
use Rattle.desk_values.specs.declared.Desk.{Desk}
use Rattle.desk_values.specs.Values.{desk_in, is_desk_value}
use Rattle.desk_values.proofs.Taken.{desk_values}
use Rattle.desk_c.specs.declared.Fed.{Fed}
use Rattle.desk_c.specs.declared.serving.Served.{Served}
use Rattle.desk_c.specs.Feeding.{fed_of, lines_of, piece_fed, buffer_fed, FedInto}
use Rattle.desk_c.specs.CallsExact.{TakenForDesk, UnfedPiece, FedPiece, PiecesExact}
use Rattle.desk_c.proofs.Pieces.{piece_no_desk, piece_no_room, piece_taken}

module _ (overlong : Bool) (input : Bytes) (v : Desk) (out : Bytes) where
  no_desk_lem : is_desk_value v ≡ false → UnfedPiece overlong input v out 15
  no_desk_lem e = let k = piece_no_desk overlong input v out e in record { call = sym k.left; buffer = sym k.buffer }

  module _ (t : TakenForDesk v) where
    test : is_desk_value v ≡ true
    test = so (is_desk_value v) t.passes

    no_room : length out < 5_127 → UnfedPiece overlong input v out 14
    unfolding max_reply
    no_room h = let k = piece_no_room overlong input v out test h in record { call = sym k.left; buffer = sym k.buffer }

    -- the piece as it is fed, whatever the call's value and buffer are called
    module _ (room : max_reply ≤ length out) where
      abbrev lines : FedLines
      lines = lines_of overlong input v out

      abbrev buffer : Bytes
      buffer = lines.output ++ drop (length lines.output) out

      abbrev count : ℕ
      count = length input - length lines.rest

      is_desk_lem : IsDesk (desk_in v)
      is_desk_lem = desk_values.holds v t.whole t.passes

      stays : IsDesk lines.desk
      stays = (feeds_exact max_reply).stays (length out) (desk_in v) overlong input is_desk_lem

      taken_bytes : (x : Bytes) → input ≡ x ++ lines.rest → take count input ≡ x
      taken_bytes x e =
          let size : length x ≡ count = omega (arith, ap length e ∙ length-append x lines.rest) in
          ap (take count) e ∙ take_at x lines.rest count size

      fed_piece : FedPiece overlong input v out lines (fed_of input lines) buffer
      fed_piece =
          let k = (feeds_exact max_reply).taken (length out) (desk_in v) overlong input in
          let bytes = taken_bytes k.taken k.whole in
          let front = take_at lines.output (drop (length lines.output) out) (length lines.output) refl in
          let desk = sym (desk_values.held lines.desk stays) in
          let reply = sym front in
          record {
            call = refl;
            whole = k.whole ∙ ap (λ x. x ++ lines.rest) (sym bytes);
            fed = ap (feed (between (desk_in v) overlong)) bytes ∙ k.fed ∙ (λ i. (between (desk i) lines.overlong, reply i));
            fits = (feeds_exact max_reply).fits replies_fit.every_reply (length out) (desk_in v) overlong input is_desk_lem room;
            front = front;
            behind = drop_at lines.output (drop (length lines.output) out) (length lines.output) refl;
          }

      call_is : FedInto overlong input v out (fed_of input lines) buffer
      call_is =
          let none : length lines.output ≡ 0 + length lines.output = omega arith in
          piece_taken overlong input v out test room _ _ (record { left = refl; buffer = ap (λ n. lines.output ++ drop n out) none })

    fed : 5_127 ≤ length out
        → FedPiece overlong input v out (fed_within 5_127 (length out) (between (desk_in v) overlong) input) (piece_fed overlong input v out)
        (buffer_fed overlong input v out)
    unfolding max_reply
    fed h =
        let k = call_is h in
        subst₂ (λ (r : Served Fed) (b : Bytes). FedPiece overlong input v out (lines h) r b) k.left k.buffer (fed_piece h)

pub pieces_exact : PiecesExact
unfolding max_reply
pieces_exact =
    record {
      no_desk_lem = no_desk_lem;
      no_room = no_room;
      fed = fed;
      lines = feeds_exact max_reply;
    }
