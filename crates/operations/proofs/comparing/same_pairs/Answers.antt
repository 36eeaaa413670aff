-- `operations::comparing::same_pairs` meets its contract: the place of a turn, and those behind it, are what all places come to.
use mathlib.Core.Path.{sym, ◌∙◌}
use native.Mathlib.Omega.{arith}
use Rattle.operations.proofs.SamePairs.{at_end, from_differs, to_differs, same_place}
use Rattle.operations.proofs.comparing.same_pairs.Goals as goal

pub returns-then-a-i : goal.returns-then-a-i
returns-then-a-i c =
    let a = c.args.a in
    let b = c.args.b in
    sym (c.loop-i.invariant ∙ from_differs a.from.now a.to.now b.from.now b.to.now a.paired c.requires (c.requires ∙ b.paired) c.loop-i.i (omega arith) c.if-a-i.true)

pub returns-then-a-i-2 : goal.returns-then-a-i-2
returns-then-a-i-2 c =
    let a = c.args.a in
    let b = c.args.b in
    sym (c.loop-i.invariant ∙ to_differs a.from.now a.to.now b.from.now b.to.now a.paired c.requires (c.requires ∙ b.paired) c.loop-i.i (omega arith) c.if-a-i-2.true)

pub loop-i-preserved : goal.loop-i-preserved
loop-i-preserved c =
    let a = c.args.a in
    let b = c.args.b in
    c.loop-i.invariant
    ∙ same_place a.from.now a.to.now b.from.now b.to.now a.paired c.requires (c.requires ∙ b.paired) c.loop-i.i (omega arith) c.if-a-i.false c.if-a-i-2.false

pub returns : goal.returns
returns c =
    let a = c.args.a in
    let b = c.args.b in
    sym (c.loop-i.invariant ∙ at_end a.from.now a.to.now b.from.now b.to.now a.paired c.requires (c.requires ∙ b.paired) c.loop-i.i (omega arith))
