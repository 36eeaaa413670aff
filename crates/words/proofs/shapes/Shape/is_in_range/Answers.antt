-- `words::shapes::Shape::is_in_range` meets its contract: the two tests of `contains` are those of `shape_in_range`.
use Rattle.std.proofs.Common.{◌≡◌, ℕ, false, ◌&&◌, sym, ◌∙◌, ap, arith}
use Rattle.std.proofs.lemmas.Grind.{common_steps}
use Rattle.std.specs.Prelude.{Some, leb}
use Rattle.std.specs.Ordering.{nat_cmp, is_le}
use Rattle.std.specs.Range.{range_inclusive_start, range_inclusive_end, range_inclusive_exhausted, range_inclusive_contains}
use Rattle.std.specs.declared.ops.RangeInclusive.{RangeInclusive}
use Rattle.higman.specs.Limits.{shape_in_range}
use Rattle.words.proofs.shapes.Shape.is_in_range.Goals as goal

-- what `<=` answers
at_most : (x y : ℕ) → is_le (nat_cmp x y) ≡ leb x y
at_most x y = grind (arith, common_steps)

-- what `contains` answers at a range that is not used up
contained : (r : RangeInclusive ℕ) (low high x : ℕ) → range_inclusive_start r ≡ low → range_inclusive_end r ≡ high → range_inclusive_exhausted r ≡ false → range_inclusive_contains (λ a b. Some (nat_cmp a b)) r x ≡ (leb low x && leb x high)
contained r low high x a b e = simp (a, b, e, at_most)

pub returns-then-contains : goal.returns-then-contains
unfolding shape_in_range
returns-then-contains c =
    let s = c.args.self in
    let arity = c.new.ensures in
    let roots = c.new-then-contains.ensures in
    let right = sym (contained c.new.result 2 9 s.arity arity.start arity.end arity.exhausted) ∙ sym c.contains.ensures.value ∙ c.if-contains.true in
    let rest = contained c.new-then-contains.result 1 9 s.roots roots.start roots.end roots.exhausted in
    c.contains-then-contains.ensures.value ∙ rest ∙ sym (ap (λ b. b && leb 1 s.roots && leb s.roots 9) right)

pub returns-else-contains : goal.returns-else-contains
unfolding shape_in_range
returns-else-contains c =
    let s = c.args.self in
    let arity = c.new.ensures in
    let wrong = sym (contained c.new.result 2 9 s.arity arity.start arity.end arity.exhausted) ∙ sym c.contains.ensures.value ∙ c.if-contains.false in
    c.if-contains.false ∙ sym (ap (λ b. b && leb 1 s.roots && leb s.roots 9) wrong)
