-- `words::writing::write` meets its contract. The invariant: the digits that are taken off stand in the buffer, in front of what was there
-- behind them, and the others still fit before them.
use Prim.Native.Nat.{ℕ, ◌+◌, ◌≤◌}
use mathlib.Core.Path.{◌≡◌}
use mathlib.Core.List.{List, ◌++◌}
use lib.ListN.{length}
use Rattle.higman.specs.Text.{word_bytes}
use Rattle.words.specs.Packed.{unpack}
use Rattle.higman.specs.Buffers.{written}
use Rattle.words.proofs.writing.write.Given as goal

pub record Writing (w : ℕ) (buffer : List ℕ) (at end : ℕ) (out : List ℕ) (front i : ℕ) : Type 0 where
  pub done : List ℕ
  pub bytes : word_bytes (unpack w) ≡ word_bytes (unpack front) ++ done
  pub stands : out ≡ written buffer i done
  pub place : i ≡ at + length (unpack front)
  pub within : i ≤ end
  pub behind : end ≡ at + length (unpack w)
  pub long : length out ≡ length buffer

abbrev pub invariant-loop-i : goal.invariant-loop-i
invariant-loop-i l = Writing l.w l.initial.out l.at l.end l.out l.front l.i
