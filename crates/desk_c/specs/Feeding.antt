-- The call for a piece of input with many lines, `desk_feed`: `fed_within` of desk's Feeds.antt on the desk that a value holds, with 15 for
-- a value that is none and then 14 for a buffer that has no room for the longest reply. None of it need be believed: `PiecesExact` holds it
-- to the figures, and `FeedsExact` of desk fixes `fed_within`. Read CallsExact.antt next.
use Rattle.std.specs.Prelude.{ℕ, ◌-◌, ◌≡◌, refl, Bool, true, false, [], ltb, length}
use Rattle.higman.specs.Text.{Bytes, bytes}
use Rattle.higman.specs.Limits.{slot_count}
use Rattle.higman.specs.Buffers.{written}
use Rattle.higman.specs.Refusals.{buffer_too_short, invalid_value}
use Rattle.desk.specs.Desk.{fresh_control, fresh_desk}
use Rattle.desk.specs.Feeds.{Fed as FedLines, between, fed_within}
use Rattle.replies.specs.Sizes.{max_reply}
use Rattle.slots.specs.Desks.{control_in}
use Rattle.desk_values.specs.declared.Desk.{Desk}
use Rattle.desk_values.specs.Values.{desk_in, is_desk_value, packed_desk}
use Rattle.desk_c.specs.declared.Fed.{Fed}
use Rattle.desk_c.specs.declared.serving.Served.{Served}

-- a refusal: "taken and length are 0, and overlong is as it was handed in"
abbrev pub unfed_with : Desk → Bool → ℕ → Served Fed
unfed_with v overlong number = record { desk = v; answer = record { number = number; overlong = overlong; taken = 0; length = 0 } }

-- "the first `taken` bytes of the input were read, and `length` bytes of replies stand at the front of the lent buffer"
abbrev pub fed_of : Bytes → FedLines → Served Fed
fed_of input w =
    record {
      desk = packed_desk w.desk;
      answer = record { number = 0; overlong = w.overlong; taken = length input - length w.rest; length = length w.output };
    }

-- what the lines of a piece do on a desk, with as much room as the buffer has
pub record FedOn (w : FedLines) (input out : Bytes) (r : Served Fed) (out' : Bytes) : Type 0 where
  pub left : r ≡ fed_of input w
  pub buffer : out' ≡ written out 0 w.output

abbrev pub lines_of : Bool → Bytes → Desk → Bytes → FedLines
lines_of overlong input v out = fed_within max_reply (length out) (between (desk_in v) overlong) input

-- What the call leaves of a value, and its answer: "Refused with 15 where the struct is no desk, and then with 14 where the buffer has
-- fewer bytes than DESK_LONGEST_REPLY, whatever the input".
unfoldable pub piece_fed : Bool → Bytes → Desk → Bytes → Served Fed
piece_fed overlong input v out =
    elim
    (is_desk_value v) [
      | false ↦ unfed_with v overlong invalid_value
      | true ↦
          elim
          (ltb (length out) max_reply) [
            | true ↦ unfed_with v overlong buffer_too_short
            | false ↦ fed_of input (lines_of overlong input v out)
          ]
    ]

-- and of the buffer
unfoldable pub buffer_fed : Bool → Bytes → Desk → Bytes → Bytes
buffer_fed overlong input v out =
    elim
    (is_desk_value v) [
      | false ↦ out
      | true ↦ elim (ltb (length out) max_reply) [ true ↦ out | false ↦ written out 0 (lines_of overlong input v out).output ]
    ]

pub record FedInto (overlong : Bool) (input : Bytes) (v : Desk) (out : Bytes) (r : Served Fed) (out' : Bytes) : Type 0 where
  pub left : r ≡ piece_fed overlong input v out
  pub buffer : out' ≡ buffer_fed overlong input v out

-- a line and the beginning of one: two of seven bytes are taken
fed_of_example : fed_of (bytes "T\nW\tA\t1") (record { desk = fresh_desk; overlong = false; rest = bytes "W\tA\t1"; output = bytes "ok\t0\n" })
    ≡ record { desk = packed_desk fresh_desk; answer = record { number = 0; overlong = false; taken = 2; length = 5 } }
fed_of_example = refl

-- a value with a letter that is no slot's is no desk: 15, whatever the buffer
abbrev no_desk : Desk
no_desk = record { blocks = []; opened = 1; control = control_in fresh_control; columns = [] }

no_desk_example : (piece_fed true (bytes "T\n") no_desk (bytes ".") ≡ unfed_with no_desk true 15)
    × (buffer_fed true (bytes "T\n") no_desk (bytes ".") ≡ bytes ".")
unfolding piece_fed buffer_fed is_desk_value slot_count
no_desk_example = (refl, refl)
