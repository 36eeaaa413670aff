-- A plan that is passed by value has columns of 128 places: what the caller owns says so, and each function is told it on entry, in
-- its `good`.
use mathlib.Core.Path.{◌≡◌, sym, ◌∙◌}
use mathlib.Core.List.{List}
use Prim.Native.Nat.{ℕ, ◌≤◌}
use native.Mathlib.Omega.{arith}
use lib.ListN.{length, take, length-take}
use mir.Val.{Val}
use denote.Laws.{Is}
use Rattle.operations.specs.declared.Plan.{Plan}
use Rattle.operations.specs.contracts.Plan.{the_row}

module _ (p : Plan) (values : List Val) (good : Is the_row p values) where
  pub from_long : length p.from ≡ 128
  from_long = good.1.1.1.1.1.0.1.0.1

  pub to_long : length p.to ≡ 128
  to_long = good.1.1.1.1.1.1.0.1.0.1

  pub columns_even : length p.from ≡ length p.to
  columns_even = from_long ∙ sym to_long

-- the first n places of a list are n where it has as many
pub taken : (n : ℕ) (l : List ℕ) → n ≤ length l → n ≡ length (take n l)
taken n l h = simp length-take (omega arith)
