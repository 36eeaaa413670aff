-- A piece of input fed to the desk that a head and its columns hold, from no line held: what is held of a line behind it stands in front of
-- what was not taken, and so it is a part of the piece. And the call by what it is handed.
use Prim.Native.Nat.{ℕ, ◌+◌, ◌-◌, ◌≤◌, ◌<◌}
use mathlib.Core.Path.{◌≡◌, refl, sym, ◌∙◌, ap}
use mathlib.Core.Bool.{Bool, true, false}
use mathlib.Core.List.{List}
use native.Mathlib.Omega.{arith}
use borrow.Author.Tests.{lt-ltb, le-ltb}
use lib.ListN.{length, take, drop, replicate, length-append, length-drop, length-replicate}
use lib.Seq.{length-take-le}
use Rattle.higman.specs.Text.{Bytes}
use Rattle.higman.specs.Buffers.{written}
use Rattle.higman.specs.Refusals.{buffer_too_short, invalid_value}
use Rattle.desk.specs.Limits.{max_line}
use Rattle.desk.specs.Session.{feed}
use Rattle.desk.specs.Feeds.{Fed as FedLines, between, fed_within}
use Rattle.desk.proofs.Feeds.{feeds_exact}
use Rattle.replies.specs.Sizes.{max_reply}
use Rattle.slots.specs.declared.Head.{Head}
use Rattle.slots.specs.Desks.{desk_of, HoldsDesk}
use Rattle.desk_core.specs.declared.feeding.State.{State}
use Rattle.desk_core.specs.declared.feeding.Fed.{Fed as FedState}
use Rattle.desk_core.specs.Feeding.{state_of, HoldsState, fed_up_to, FedBy}
use Rattle.desk_values.specs.declared.Desk.{Desk}
use Rattle.desk_values.specs.Values.{is_desk_value, packed_desk}
use Rattle.desk_c.specs.declared.Fed.{Fed}
use Rattle.desk_c.specs.declared.serving.Served.{Served}
use Rattle.desk_c.specs.Feeding.{unfed_with, FedOn, lines_of, piece_fed, buffer_fed, FedInto}

-- no line held
abbrev pub lineless : Head → List ℕ → Bool → State
lineless h columns overlong = record { head = h; columns = columns; line = replicate 1100 0; begun = 0; overlong = overlong }

pub lineless_holds : (h : Head) (columns : List ℕ) (overlong : Bool) → HoldsDesk h columns → HoldsState (lineless h columns overlong)
unfolding max_line
lineless_holds h columns overlong H =
    record { holds = H; lined = length-replicate {A = ℕ} 1100 0; fits = omega arith; let_go = λ _. refl }

module _ (h : Head) (columns : List ℕ) (overlong : Bool) (input out : Bytes) (room : max_reply ≤ length out) (r : FedState) (out' : Bytes)
    (k : FedBy (lineless h columns overlong) input out r out') where
  abbrev lines : FedLines
  lines = fed_within max_reply (length out) (between (desk_of h columns) overlong) input

  abbrev output : Bytes
  output = (feed (between (desk_of h columns) overlong) (take r.taken input)).1

  lines_are : lines ≡ fed_up_to (state_of r.state) input r.taken output
  unfolding state_of
  lines_are = k.within room

  rest_length : length lines.rest ≡ r.state.begun + (length input - r.taken)
  unfolding state_of
  rest_length =
      let state = r.state in
      let held = length-take-le state.begun state.line (omega (arith, k.fed.holds.lined, k.fed.holds.fits)) in
      let behind = length-append (take state.begun state.line) (drop r.taken input) in
      ap (λ (w : FedLines). length w.rest) lines_are ∙ omega (arith, held, behind, length-drop r.taken input)

  -- what is held was taken before
  pub begun_taken : r.state.begun ≤ r.taken
  begun_taken =
      let t = (feeds_exact max_reply).taken (length out) (desk_of h columns) overlong input in
      let parts = ap length t.whole ∙ length-append t.taken lines.rest in
      omega (arith, parts, rest_length, k.fed.taken)

  taken_is : r.taken - r.state.begun ≡ length input - length lines.rest
  taken_is = omega (arith, rest_length, begun_taken, k.fed.taken)

  pub piece_fed_lem : (v : Desk) → v ≡ packed_desk (desk_of r.state.head r.state.columns)
      → FedOn lines input out
      (record {
        desk = v;
        answer = record { number = 0; overlong = r.state.overlong; taken = r.taken - r.state.begun; length = r.used };
      })
      out'
  unfolding state_of
  piece_fed_lem v e =
      let desk : v ≡ packed_desk lines.desk = e ∙ sym (ap (λ (w : FedLines). packed_desk w.desk) lines_are) in
      let long : r.state.overlong ≡ lines.overlong = sym (ap (λ (w : FedLines). w.overlong) lines_are) in
      let bytes : output ≡ lines.output = sym (ap (λ (w : FedLines). w.output) lines_are) in
      let used : r.used ≡ length lines.output = k.fed.wrote.place ∙ omega (arith, ap length bytes) in
      record {
        left = λ i. record { desk = desk i; answer = record { number = 0; overlong = long i; taken = taken_is i; length = used i } };
        buffer = k.fed.wrote.contents ∙ ap (written out 0) bytes;
      }

-- the call by what it is handed: no desk, too little room, or else
module _ (overlong : Bool) (input : Bytes) (v : Desk) (out : Bytes) where
  pub piece_no_desk : is_desk_value v ≡ false → FedInto overlong input v out (unfed_with v overlong invalid_value) out
  unfolding piece_fed buffer_fed
  piece_no_desk e = record { left = rw (e, piece_fed); buffer = rw (e, buffer_fed) }

  module _ (e : is_desk_value v ≡ true) where
    pub piece_no_room : length out < max_reply → FedInto overlong input v out (unfed_with v overlong buffer_too_short) out
    unfolding piece_fed buffer_fed
    piece_no_room h =
        let short = lt-ltb (length out) max_reply h in
        record { left = rw (e, piece_fed) (rw (short, piece_fed)); buffer = rw (e, buffer_fed) (rw (short, buffer_fed)) }

    pub piece_taken : max_reply ≤ length out → (r : Served Fed) (out' : Bytes) → FedOn (lines_of overlong input v out) input out r out'
        → FedInto overlong input v out r out'
    unfolding piece_fed buffer_fed
    piece_taken h r out' k =
        let enough = le-ltb (length out) max_reply h in
        record {
          left = k.left ∙ rw (e, piece_fed) (rw (enough, piece_fed));
          buffer = k.buffer ∙ rw (e, buffer_fed) (rw (enough, buffer_fed));
        }
