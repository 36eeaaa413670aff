-- How long a number is in decimal.
use Prim.Native.Nat.{ℕ, suc, ◌^◌, ◌≤◌, ◌<◌}
use lib.Dec.{leb→le}
use lib.ListN.{length}
use native.Mathlib.Omega.{arith}
use mir.Syntax.{w8}
use mir.Val.{Fits}
use Rattle.higman.specs.Limits.{max_pairs}
use Rattle.higman.specs.Text.{decimal}
use Rattle.desk.proofs.NumberFields.{digits_below}

-- a number below a power of ten has no more digits than its zeros
pub decimal_size : (d k : ℕ) → k < 10 ^ suc d → length (decimal k) ≤ suc d
decimal_size d k h = leb→le (length (decimal k)) (suc d) ((digits_below d k).1 h)

-- a byte, and a place or the pairs of a plan, have at most three digits
pub byte_size : (k : ℕ) → Fits w8 k → length (decimal k) ≤ 3
byte_size k h = decimal_size 2 k (omega arith)

pub place_size : (k : ℕ) → k ≤ max_pairs → length (decimal k) ≤ 3
unfolding max_pairs
place_size k h = decimal_size 2 k (omega arith)
