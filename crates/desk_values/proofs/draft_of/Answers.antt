-- `desk_values::draft_of` meets its contract: the pairs of the open plan are the first of its block's columns.
use Prim.Native.Nat.{ℕ, ◌+◌, ◌-◌, ◌≤◌}
use mathlib.Core.Path.{◌≡◌, sym, ◌∙◌, ap}
use mathlib.Core.List.{List, ◌++◌}
use native.Mathlib.Omega.{arith}
use lib.ListN.{length, take, drop, replicate, length-drop}
use lib.Seq.{length-take-le, take-take}
use Rattle.higman.specs.Limits.{max_pairs}
use Rattle.operations.specs.Filled.{filling}
use Rattle.slots.specs.Blocks.{from_place, to_place, size_at, value_at}
use Rattle.slots.specs.Desks.{draft_block}
use Rattle.columns.proofs.Limits.{pair_limit}
use Rattle.desk_values.specs.Values.{draft_value}
use Rattle.desk_values.proofs.Blocks.{none_open, some_open, draft_closed, draft_filled}
use Rattle.desk_values.proofs.draft_of.Goals as goal

-- a part of the columns, as long as the open plan has pairs, ..
part_long : (l part : List ℕ) (at n : ℕ) → part ≡ take n (drop at l) → n ≤ max_pairs → at + 128 ≤ length l → length part ≡ n
part_long l part at n e h k = ap length e ∙ length-take-le n (drop at l) (omega (arith, pair_limit, length-drop at l))

-- .. and filled with zeros it is what the value's column is filled to
part_filled : (l part : List ℕ) (at n : ℕ) → part ≡ take n (drop at l) → n ≤ max_pairs
    → filling n part ≡ filling n (take max_pairs (drop at l))
part_filled l part at n e h =
    let all : n ≤ n = omega arith in
    ap (filling n) e ∙ ap (λ u. u ++ replicate (max_pairs - n) 0) (take-take n n (drop at l) all ∙ sym (take-take n max_pairs (drop at l) h))

pub returns-then-is_none : goal.returns-then-is_none
returns-then-is_none c =
    let a = c.args in
    c.blank.ensures ∙ sym (ap draft_value (draft_closed a.head a.columns.now c.requires (none_open a.head.draft c.if-is_none.ensures)))

pub padded-requires : goal.padded-requires
padded-requires c =
    let n = (size_at c.args.head draft_block).pairs in
    (c.requires.few, omega (arith, part_long c.args.columns.now _ (from_place draft_block) n c.pairs.ensures.from c.requires.few (omega (arith, c.requires.sized))))

pub padded-requires-2 : goal.padded-requires-2
padded-requires-2 c =
    let n = (size_at c.args.head draft_block).pairs in
    (c.requires.few, omega (arith, part_long c.args.columns.now _ (to_place draft_block) n c.pairs.ensures.to c.requires.few (omega (arith, c.requires.sized))))

pub returns : goal.returns
unfolding value_at
returns c =
    let a = c.args in
    let size = size_at a.head draft_block in
    let n = size.pairs in
    let (slot, e) = some_open a.head.draft c.if-is_none.ensures in
    let from = c.padded.ensures ∙ part_filled a.columns.now _ (from_place draft_block) n c.pairs.ensures.from c.requires.few in
    let to = c.padded-2.ensures ∙ part_filled a.columns.now _ (to_place draft_block) n c.pairs.ensures.to c.requires.few in
    (λ i. record { arity = size.arity; roots = size.roots; pairs = n; from = from i; to = to i })
    ∙ sym (draft_filled a.head a.columns.now c.requires slot e)
