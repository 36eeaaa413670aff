-- `columns::has_gap` meets its contract. A word of 64 bits is no longer than the depth to which the blocks are looked at.
use Rattle.std.proofs.Common.{◌≡◌, ◌+◌, ◌-◌, ℕ, length, [], ◌∷◌, not, sym, ◌∙◌, ap, arith}
use Rattle.std.specs.Prelude.{Some, None}
use Rattle.higman.specs.Words.{child, count}
use Rattle.higman.specs.Bases.{all, covered}
use Rattle.higman.specs.Limits.{max_digits}
use Rattle.words.specs.Packed.{unpack}
use Rattle.words.specs.Bytes.{shape_of}
use Rattle.words.proofs.Packing.{unpack_zero}
use Rattle.columns.specs.Packed.{words_of}
use Rattle.columns.proofs.Covered.{all_done, all_stop, all_pass, gap_deep, longest_fits}
use Rattle.columns.proofs.Walks.{at_start, at_later, walked_same}
use Rattle.columns.proofs.has_gap.Invariants.{root_covered}
use Rattle.columns.proofs.has_gap.Goals as goal

-- the word of a root
root_word : (x root : ℕ) → unpack x ≡ child (unpack 0) root → unpack x ≡ root ∷ []
root_word x root e = e ∙ ap (λ w. child w root) unpack_zero

pub loop-root-init : goal.loop-root-init
unfolding max_digits
loop-root-init c =
    let a = c.args in
    let column = a.column.now in
    let few : a.shape.roots ≡ a.shape.roots + 1 - 1 = omega arith in
    let deep = gap_deep a.shape.arity a.shape.roots (words_of column) 15 c.requires.le_arity.0 (longest_fits column (λ i. (c.type_inv.column i).fits)) in
    record {
      left_over = deep ∙ ap (λ m. not (all (root_covered column a.shape.arity) (count 1 m))) few;
      here = at_start (shape_of a.shape) column c.requires.le_arity.3;
    }

pub child-requires : goal.child-requires
unfolding max_digits
child-requires c = omega (arith, ap length unpack_zero)

pub covered_block-requires-clause-in_bounds : goal.covered_block-requires-clause-in_bounds
unfolding max_digits
covered_block-requires-clause-in_bounds c = rw (root_word _ _ c.child.ensures) (omega arith, omega arith, c.loop-root.invariant.here)

pub returns-in_default : goal.returns-in_default
returns-in_default c =
    let a = c.args in
    let missed = walked_same a.column.now (covered a.shape.arity (words_of a.column.now) 15) None (root_word _ _ c.child.ensures) c.in_default.ensures in
    let stop = all_stop (root_covered a.column.now a.shape.arity) c.loop-root.root a.shape.roots (omega arith) missed in
    sym (c.loop-root.invariant.left_over ∙ ap not stop)

pub loop-root-preserved : goal.loop-root-preserved
loop-root-preserved c =
    let a = c.args in
    let walked = walked_same a.column.now (covered a.shape.arity (words_of a.column.now) 15) (Some c.in-Some.next) (root_word _ _ c.child.ensures) c.in-Some.ensures in
    let pass = all_pass (root_covered a.column.now a.shape.arity) c.loop-root.root a.shape.roots (omega arith) walked.0 in
    record {
      left_over = c.loop-root.invariant.left_over ∙ ap not pass;
      here = at_later a.column.now [] c.in-Some.next c.loop-root.root walked.1;
    }

pub returns-in-Some : goal.returns-in-Some
returns-in-Some c =
    let a = c.args in
    let root = c.loop-root.root in
    let walked = walked_same a.column.now (covered a.shape.arity (words_of a.column.now) 15) (Some c.in-Some.next) (root_word _ _ c.child.ensures) c.in-Some.ensures in
    let pass = all_pass (root_covered a.column.now a.shape.arity) root a.shape.roots (omega arith) walked.0 in
    let done = all_done (root_covered a.column.now a.shape.arity) (root + 1) a.shape.roots (omega arith) in
    sym (c.loop-root.invariant.left_over ∙ ap not (pass ∙ done))
