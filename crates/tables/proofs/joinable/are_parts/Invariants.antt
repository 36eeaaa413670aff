-- `tables::joinable::are_parts` meets its contract. The invariant: whether all pairs are alike is whether those still to compare are.
use Prim.Native.Nat.{◌+◌, ◌-◌}
use mathlib.Core.Path.{◌≡◌}
use Rattle.words.specs.Packed.{unpack}
use Rattle.tables.proofs.Joins.{alike}
use Rattle.tables.proofs.joinable.are_parts.Given as goal

abbrev pub invariant-loop-i : goal.invariant-loop-i
invariant-loop-i l =
    alike (unpack l.w) (unpack l.v) l.from l.to l.at 1 l.arity
    ≡ alike (unpack l.w) (unpack l.v) l.from l.to (l.at + l.i - 1) l.i (l.arity + 1 - l.i)
