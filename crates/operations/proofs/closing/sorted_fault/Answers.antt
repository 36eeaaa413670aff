-- `operations::closing::sorted_fault` meets its contract: the checks are those of `fault`, in its order.
use Rattle.std.proofs.Common.{sym, ◌∙◌, ap, arith}
use Rattle.higman.proofs.KeptPlans.{in_range}
use Rattle.words.specs.Bytes.{shape_of}
use Rattle.columns.specs.Packed.{words_of}
use Rattle.operations.specs.Closing.{fault_of}
use Rattle.operations.proofs.Unordered.{fault_overlap, fault_gap, fault_none}
use Rattle.operations.proofs.closing.sorted_fault.Goals as goal

pub returns-then-overlaps : goal.returns-then-overlaps
returns-then-overlaps c =
    let meets = sym c.overlaps.ensures ∙ c.if-overlaps.true in
    sym (ap fault_of (fault_overlap (shape_of c.args.shape) (words_of c.args.words.now) meets))

pub has_gap-requires : goal.has_gap-requires
has_gap-requires c =
    let r = in_range (shape_of c.args.shape) c.requires.1 in
    record {
      column_value = (c.requires.0, sym c.overlaps.ensures ∙ c.if-overlaps.false);
      le_arity = (omega (arith, r.arity_low), r.arity_high, r.roots_high, c.requires.2);
    }

pub returns-then-has_gap : goal.returns-then-has_gap
returns-then-has_gap c =
    let apart = sym c.overlaps.ensures ∙ c.if-overlaps.false in
    let uncovered = sym c.has_gap.ensures ∙ c.if-has_gap.true in
    sym (ap fault_of (fault_gap (shape_of c.args.shape) (words_of c.args.words.now) apart uncovered))

pub returns : goal.returns
returns c =
    let apart = sym c.overlaps.ensures ∙ c.if-overlaps.false in
    let covered = sym c.has_gap.ensures ∙ c.if-has_gap.false in
    sym (ap fault_of (fault_none (shape_of c.args.shape) (words_of c.args.words.now) apart covered))
