-- `tables::joinable::are_parts` meets its contract: what a turn finds of its pair, and what is found of those behind it, is what all pairs
-- come to.
use Prim.Native.Nat.{ℕ, ◌+◌, ◌-◌, ◌≤◌}
use mathlib.Core.Path.{◌≡◌, sym, ◌∙◌}
use mathlib.Core.Bool.{Bool, ◌&&◌}
use mathlib.Core.List.{List}
use native.Mathlib.Omega.{arith}
use lib.ListN.{length, get_or}
use Rattle.higman.specs.Words.{Word, child}
use Rattle.higman.specs.Bases.{same_word}
use Rattle.words.specs.Packed.{unpack}
use Rattle.tables.proofs.Joins.{alike, alike_step}
use Rattle.tables.proofs.joinable.are_parts.Goals as goal

-- the pair of the i-th turn, and those behind it
module _ (w v : Word) (from to : List ℕ) (at n i : ℕ) where
  abbrev from_part : Bool
  from_part = same_word (unpack (get_or from (at + i - 1) 0)) (child w i)

  abbrev to_part : Bool
  to_part = same_word (unpack (get_or to (at + i - 1) 0)) (child v i)

  turn : 1 ≤ i → i ≤ n → at + n ≤ length from → at + n ≤ length to
      → alike w v from to (at + i - 1) i (n + 1 - i)
      ≡ (from_part && to_part && alike w v from to (at + (i + 1) - 1) (i + 1) (n + 1 - (i + 1)))
  turn h k l m =
      alike_step w v from to (at + i - 1) i (n + 1 - i) (at + (i + 1) - 1) (i + 1) (n + 1 - (i + 1))
      (omega arith) (omega arith) (omega arith) (omega arith) (omega arith)

pub returns-then-not-is_part : goal.returns-then-not-is_part
returns-then-not-is_part c =
    let a = c.args in
    let no_part = sym c.is_part.ensures ∙ c.if-not-is_part.true in
    let here =
    turn (unpack a.w) (unpack a.v) a.from.now a.to.now a.at a.arity c.loop-i.i
    (omega arith) (omega arith) (omega arith) (omega arith) in
    sym (rw no_part at (c.loop-i.invariant ∙ here))

pub returns-then-not-is_part-2 : goal.returns-then-not-is_part-2
returns-then-not-is_part-2 c =
    let a = c.args in
    let part = sym c.is_part.ensures ∙ c.if-not-is_part.false in
    let no_part = sym c.is_part-in-loop-i.ensures ∙ c.if-not-is_part-2.true in
    let here =
    turn (unpack a.w) (unpack a.v) a.from.now a.to.now a.at a.arity c.loop-i.i
    (omega arith) (omega arith) (omega arith) (omega arith) in
    sym (rw (part, no_part) at (c.loop-i.invariant ∙ here))

pub loop-i-preserved : goal.loop-i-preserved
loop-i-preserved c =
    let a = c.args in
    let part = sym c.is_part.ensures ∙ c.if-not-is_part.false in
    let part' = sym c.is_part-in-loop-i.ensures ∙ c.if-not-is_part-2.false in
    let here =
    turn (unpack a.w) (unpack a.v) a.from.now a.to.now a.at a.arity c.loop-i.i
    (omega arith) (omega arith) (omega arith) (omega arith) in
    rw (part, part') at (c.loop-i.invariant ∙ here)
