-- The end of input is answered by no more bytes than any reply has.
use Prim.Native.Nat.{ℕ, ◌≤◌}
use mathlib.Core.Bool.{Bool, true, false}
use mathlib.Core.List.{List, []}
use mathlib.Core.Option.{none}
use native.Mathlib.Omega.{arith}
use lib.ListN.{length}
use Rattle.higman.specs.Text.{Bytes}
use Rattle.higman.specs.Refusals.{no_record}
use Rattle.desk.specs.Desk.{Desk, IsDesk, dropped}
use Rattle.desk.specs.Replies.{Effect, respond_line, settle, refuse}
use Rattle.desk.specs.Bytes.{reply_bytes}
use Rattle.desk.specs.Session.{State as StateOf, is_idle, line_ended, finish}
use Rattle.replies.specs.Sizes.{max_reply}
use Rattle.replies.proofs.EveryReply.{replies_fit}
use Rattle.desk_core.specs.declared.feeding.State.{State}
use Rattle.desk_core.specs.declared.feeding.Finished.{Finished}
use Rattle.desk_core.specs.Feeding.{state_of, HoldsState, FinishedBy}

module _ (s : StateOf) (D : IsDesk s.desk) where
  abbrev effect : Bool → Effect
  effect overlong = elim overlong [ true ↦ settle s.desk (refuse no_record none) | false ↦ respond_line s.desk s.line ]

  line_fits : (overlong : Bool) → length (reply_bytes (effect overlong).1) ≤ max_reply
  unfolding max_reply reply_bytes
  line_fits true = omega arith
  line_fits false = replies_fit.every_reply s.desk D s.line

  abbrev ending : Bool → Desk × Bytes
  ending idle = elim idle [ true ↦ (dropped s.desk, []) | false ↦ let r = line_ended s in (dropped r.0.desk, r.1) ]

  ending_fits : (idle : Bool) → length (ending idle).1 ≤ max_reply
  ending_fits true = omega arith
  ending_fits false = line_fits s.overlong

  end_fits : length (finish s).1 ≤ max_reply
  unfolding finish
  end_fits = ending_fits (is_idle s)

pub finished_fits : (s : State) (out : List ℕ) (r : Finished) (out' : List ℕ) → HoldsState s → FinishedBy s out r out' → r.used ≤ max_reply
unfolding state_of
finished_fits s out r out' H F = omega (arith, F.wrote.place, end_fits (state_of s) H.holds.is_desk_lem)
