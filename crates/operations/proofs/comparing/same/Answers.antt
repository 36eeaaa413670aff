-- `operations::comparing::same` meets its contract: 10, and then whether the pairs are the same.
use Rattle.std.proofs.Common.{Ok, sym, ◌∙◌, ap}
use Rattle.std.proofs.lemmas.Bool.{not-true, not-false}
use Rattle.operations.proofs.Compared.{not_compared, compared, pairs_differ}
use Rattle.operations.proofs.comparing.same.Goals as goal

pub returns-then-ne : goal.returns-then-ne
returns-then-ne c = not_compared c.args.a c.args.b (not-true _ (sym c.ne.ensures ∙ c.if-ne.true))

pub returns-then-a-b : goal.returns-then-a-b
returns-then-a-b c =
    ap Ok (pairs_differ c.args.a c.args.b c.if-a-b.true)
    ∙ compared c.args.a c.args.b (not-false _ (sym c.ne.ensures ∙ c.if-ne.false))

pub returns : goal.returns
returns c =
    ap Ok c.same_pairs.ensures
    ∙ compared c.args.a c.args.b (not-false _ (sym c.ne.ensures ∙ c.if-ne.false))
