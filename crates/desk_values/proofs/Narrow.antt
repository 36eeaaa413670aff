-- The rights of a station that a function is given have 16 bits: what the caller owns of the array says so of each.
use Prim.Native.Nat.{ℕ, zero, suc, ◌<◌}
use native.Mathlib.Omega.{arith}
use mathlib.Core.List.{List, [], ◌∷◌}
use lib.ListN.{get_or}
use mir.Val.{Val}
use denote.Shadow.{shadow}
use denote.Array.{each}
use denote.Builtin.{u16}

pub narrow_rights : (rows : List ℕ) (us : List Val)
    → shadow (each u16.Denot u16.own_val rows us) → (s : ℕ) → get_or rows s 0 < 65_536
narrow_rights [] us good s = omega arith
narrow_rights (row ∷ rows) [] good s = absurd good
narrow_rights (row ∷ rows) (u ∷ us) good zero = good.0.1
narrow_rights (row ∷ rows) (u ∷ us) good (suc s) = narrow_rights rows us good.1 s
