-- `tables::reduce::join` meets its contract: in each of the three ways out before the stores the pairs are not the parts of a word of
-- at least a belt, and with the stores they were.
use Prim.Native.Nat.{ℕ, ◌≤◌}
use mathlib.Core.Path.{◌≡◌}
use mathlib.Core.List.{List, ◌++◌}
use lib.ListN.{length}
use Rattle.higman.specs.Tables.{Table}
use Rattle.words.specs.Packed.{unpack}
use Rattle.columns.specs.Packed.{rows}
use Rattle.tables.specs.Reduction.{prefixed}
use Rattle.tables.proofs.Joins.{Laid, other_number, no_belt, other_parts, all_parts}
use Rattle.tables.proofs.reduce.join.Goals as goal

-- the pairs that a caller has in mind, at the places of the call
laid : {from to : List ℕ} {start end w n : ℕ} → (1 ≤ n) × (n ≤ 9) × (start ≤ end) × (end ≤ length from) × (end ≤ length to)
    → (t b : Table) → rows end from to ≡ t ++ prefixed (unpack w) b → length t ≡ start → Laid from to start end w n t b
laid p t b e l = record { some_part = p.0; order = p.2; from_room = p.3; to_room = p.4; stands = e; long = l }

pub returns-then-end-start-clause-joins : goal.returns-then-end-start-clause-joins
returns-then-end-start-clause-joins c t b e l = other_number (laid c.requires t b e l) c.if-end-start.true

pub returns-then-v-eq0-clause-joins : goal.returns-then-v-eq0-clause-joins
returns-then-v-eq0-clause-joins c t b e l =
    no_belt (laid c.requires t b e l) c.if-end-start.false c.parent-v.result c.parent-v.ensures c.if-v-eq0.true

pub returns-then-not-are_parts-clause-joins : goal.returns-then-not-are_parts-clause-joins
returns-then-not-are_parts-clause-joins c t b e l =
    other_parts (laid c.requires t b e l) c.if-end-start.false c.parent-v.result c.parent-v.ensures
    c.are_parts.result c.are_parts.ensures c.if-not-are_parts.true

pub returns-clause-joins : goal.returns-clause-joins
returns-clause-joins c t b e l =
    all_parts (laid c.requires t b e l) c.if-end-start.false c.parent-v.result c.parent-v.ensures c.if-v-eq0.false
    c.are_parts.result c.are_parts.ensures c.if-not-are_parts.false
