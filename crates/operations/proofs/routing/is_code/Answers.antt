-- `operations::routing::is_code` meets its contract.
use Rattle.std.proofs.Common.{◌∙◌, length, arith}
use borrow.Author.Tests.{lt-leb}
use Rattle.words.specs.Bytes.{shape_of}
use Rattle.operations.proofs.Codes.{code_limit, code_long, code_short}
use Rattle.operations.proofs.routing.is_code.Goals as goal

pub returns-then-code-le-MAX_CODE : goal.returns-then-code-le-MAX_CODE
returns-then-code-le-MAX_CODE c = c.spells.ensures ∙ code_short (shape_of c.args.shape) c.args.code.now (omega (arith, code_limit))

pub returns-else-code-le-MAX_CODE : goal.returns-else-code-le-MAX_CODE
returns-else-code-le-MAX_CODE c =
    let long = c.if-code-le-MAX_CODE.false in
    lt-leb (length c.args.code.now) 1024 long ∙ code_long (shape_of c.args.shape) c.args.code.now (omega (arith, code_limit))
