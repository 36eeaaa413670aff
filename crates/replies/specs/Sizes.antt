-- How long a reply can be: a buffer of so many bytes has room for every one of them. That this is so is a statement, `RepliesFit`, with a
-- term of it in proofs/.
use Rattle.std.specs.Prelude.{ℕ, ◌+◌, ◌*◌, ◌≤◌, ◌≡◌, refl, [], ◌∷◌, length}
use Rattle.higman.specs.Words.{Word}
use Rattle.higman.specs.Tables.{froms}
use Rattle.higman.specs.Text.{Bytes, word_bytes, decimal}
use Rattle.higman.specs.Limits.{Plan, Kept, max_pairs, max_digits, slot_count}
use Rattle.higman.specs.Answers.{Image, routed}
use Rattle.higman.specs.Places.{place_of, placed_block}
use Rattle.higman.specs.Listing.{listing as listingOf}
use Rattle.desk.specs.Desk.{Desk, IsDesk}
use Rattle.desk.specs.Replies.{ok_block, respond_line}
use Rattle.desk.specs.Bytes.{ok_line, reply_bytes}
use Rattle.replies.specs.Lines.{ImageFits}

-- "A plan is 1 to 128 pairs", "A word in a plan has at most 16 digits": a block has at most 128 lines of 40 bytes each, two words and a
-- place of three digits, and `ok⇥128` and its byte 10 behind. Blocks are the longest replies since they tell places (change request E7): a
-- listing has as many lines of 36 bytes each, and 10 bytes of the P record and the E record.
unfoldable pub max_reply : ℕ
max_reply = 5_127

-- the rooms that the functions of this crate ask for at most, and that of U: a line for each slot, and `ok⇥` and how many
pub record Rooms (size : ℕ) : Type 0 where
  pub ok : 3 ≤ size
  pub ok_number_fact : 14 ≤ size
  pub no : 7 ≤ size
  pub no_column : 9 ≤ size
  pub survey : slot_count * 10 + 14 ≤ size

pub record RepliesFit : Type 0 where
  pub rooms : Rooms max_reply
  -- L: "lists the plan as P, M and E records"
  pub listing : (slot : ℕ) (p : Plan) → Kept p → length (listingOf slot p) ≤ max_reply
  -- W: "`ok⇥` and the image", and the place of its pair
  pub image : (p : Plan) (code image : Word) → Kept p → routed p code ≡ Image image
      → ImageFits (length (word_bytes image)) (place_of (froms p.rows) code) max_reply
  -- W: the lines of a block, "and closes with `ok⇥` and how many" (change request E1)
  pub block : (p : Plan) (w : Word) → Kept p → length (reply_bytes (ok_block (placed_block p.rows w))) ≤ max_reply
  -- whatever the line
  pub every_reply : (d : Desk) → IsDesk d → (line : Bytes) → length (reply_bytes (respond_line d line).1) ≤ max_reply

-- the lines of a block and the one behind them
max_reply_example : max_reply
    ≡ max_pairs * (5 + (max_digits + max_digits) + length (decimal max_pairs)) + length (ok_line (decimal max_pairs ∷ []))
unfolding max_reply max_pairs max_digits
max_reply_example = refl

-- a listing: 509 bytes less
listing_size_example : max_reply ≡ max_pairs * (4 + (max_digits + max_digits)) + 10 + 509
unfolding max_reply max_pairs max_digits
listing_size_example = refl
