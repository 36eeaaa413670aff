-- The desk after another station was named, and with which of the tests before its job Z ends: 2, then 18.
use Prim.Native.Nat.{ℕ, ◌+◌, ◌≤◌, ◌<◌}
use mathlib.Core.Path.{◌≡◌, refl, sym, ◌∙◌, ap, subst}
use mathlib.Core.Bool.{Bool, true, false, not}
use mathlib.Core.List.{List, [], ◌∷◌}
use mathlib.Core.Option.{none}
use borrow.Author.Tests.{le-leb, lt-leb}
use native.Mathlib.Omega.{arith}
use Rattle.std.specs.Prelude.{is_some}
use Rattle.higman.specs.Refusals.{wrong_state, station_outside}
use Rattle.desk.specs.Limits.{station_count}
use Rattle.desk.specs.Desk.{IsDesk, at_station, is_station}
use Rattle.desk.specs.Records.{Z, kind}
use Rattle.desk.specs.Replies.{refuse, pass, ◌>>=◌, no_station, admission}
use Rattle.slots.specs.declared.Control.{Control}
use Rattle.slots.specs.declared.Head.{Head}
use Rattle.slots.specs.Blocks.{value_at, named_in}
use Rattle.slots.specs.Desks.{desk_of, HoldsDesk}
use Rattle.slots.proofs.Steps.{amiss_closed, tested}

-- a head with another control block, and with another station named
abbrev pub with_control : Head → Control → Head
with_control h c = record { sizes = h.sizes; draft = h.draft; control = c }

abbrev pub station_named : Head → ℕ → Head
station_named h s = with_control h (named_in h.control s)

module _ (h : Head) (columns : List ℕ) (s : ℕ) where
  pub named_desk : desk_of (station_named h s) columns ≡ at_station (desk_of h columns) s
  unfolding desk_of value_at at_station
  named_desk = refl

  pub holds_named : HoldsDesk h columns → IsDesk (at_station (desk_of h columns) s) → HoldsDesk (station_named h s) columns
  unfolding value_at
  holds_named H d =
      record { sized = H.sized; headed = H.headed; is_desk_lem = subst IsDesk (sym named_desk) d; in_tables = H.in_tables; few = H.few }

  -- whether there is no such station
  pub unknown : (b : Bool) → is_station s ≡ b → no_station (s ∷ []) ≡ not b
  unknown true e = ap (λ x. not (elim x as (λ _. Bool) [ true ↦ true | false ↦ false ])) e
  unknown false e = ap (λ x. not (elim x as (λ _. Bool) [ true ↦ true | false ↦ false ])) e

  pub name_open : is_some h.draft ≡ true → admission (desk_of h columns) (Z s) ≡ refuse wrong_state none
  unfolding kind ◌>>=◌
  name_open o = tested h columns (Z s) (amiss_closed h columns (Z s) refl ∙ o) refl refl refl

  module _ (o : is_some h.draft ≡ false) where
    pub name_outside : 8 ≤ s → admission (desk_of h columns) (Z s) ≡ refuse station_outside none
    unfolding kind ◌>>=◌ station_count
    name_outside k =
        tested h columns (Z s) (amiss_closed h columns (Z s) refl ∙ o) (unknown false (lt-leb (s + 1) 8 (omega arith))) refl refl

    pub name_passed : s < 8 → admission (desk_of h columns) (Z s) ≡ pass tt
    unfolding kind ◌>>=◌ station_count
    name_passed k =
        tested h columns (Z s) (amiss_closed h columns (Z s) refl ∙ o) (unknown true (le-leb (s + 1) 8 (omega arith))) refl refl
