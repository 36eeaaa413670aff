-- `operations::listing::is_slot` meets its contract: the test of `contains` is that of `is_slot`.
use Rattle.std.proofs.Common.{◌≡◌, ℕ, false, ◌&&◌, sym, ◌∙◌, ap, arith}
use Rattle.std.proofs.lemmas.Grind.{common_steps}
use Rattle.std.specs.Prelude.{Some, leb}
use Rattle.std.specs.Ordering.{nat_cmp, is_le}
use Rattle.std.specs.Range.{range_inclusive_start, range_inclusive_end, range_inclusive_exhausted, range_inclusive_contains}
use Rattle.std.specs.declared.ops.RangeInclusive.{RangeInclusive}
use lib.Dec.{leb-suc-suc}
use Rattle.higman.specs.Limits.{slot_count}
use Rattle.operations.proofs.listing.is_slot.Goals as goal

-- what `<=` answers
at_most : (x y : ℕ) → is_le (nat_cmp x y) ≡ leb x y
at_most x y = grind (arith, common_steps)

-- what `contains` answers at a range that is not used up
contained : (r : RangeInclusive ℕ) (low high x : ℕ) → range_inclusive_start r ≡ low → range_inclusive_end r ≡ high
    → range_inclusive_exhausted r ≡ false → range_inclusive_contains (λ a b. Some (nat_cmp a b)) r x ≡ (leb low x && leb x high)
contained r low high x a b e = simp (a, b, e, at_most)

pub returns : goal.returns
unfolding slot_count
returns c =
    let e = c.new.ensures in
    let slot = c.args.slot in
    c.contains.ensures.value ∙ contained c.new.result 65 72 slot e.start e.end e.exhausted
    ∙ ap (λ b. leb 65 slot && b) (sym (leb-suc-suc slot 72))
