-- A value that passes the test: its letter is one of an open plan or 0, and its head and columns hold a desk.
use mathlib.Core.Path.{◌≡◌, sym, subst}
use mathlib.Core.Bool.{true}
use Rattle.higman.proofs.Tests.{so, T_of}
use Rattle.slots.specs.declared.Head.{Head}
use Rattle.slots.specs.Desks.{HoldsDesk}
use Rattle.desk_values.specs.declared.Desk.{Desk}
use Rattle.desk_values.specs.Values.{opened_test, head_of, is_desk_value, Whole}
use Rattle.desk_values.proofs.Exact.{value_holds, opened_tested}

module _ (v : Desk) (w : Whole v) (t : true ≡ is_desk_value v) where
  pub letter_passes : opened_test v.opened ≡ true
  letter_passes = so (opened_test v.opened) (opened_tested v w (T_of (sym t)))

  pub holds_value : (h : Head) → h ≡ head_of v → HoldsDesk h v.columns
  holds_value h e = subst (λ (x : Head). HoldsDesk x v.columns) (sym e) (value_holds v w (T_of (sym t)))
