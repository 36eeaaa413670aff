-- `tables::routing::front` meets its contract: what is packed is the front of the code, and its digits are none of them 0.
use mathlib.Core.Path.{sym, ◌∙◌, ap}
use native.Mathlib.Omega.{arith}
use lib.ListN.{take}
use lib.Seq.{take_all, length-take-le}
use Rattle.higman.specs.Limits.{max_digits}
use Rattle.words.specs.Packed.{pack, unpack}
use Rattle.higman.specs.Text.{word_of}
use Rattle.words.proofs.Limit.{limit}
use Rattle.words.proofs.Codes.{unpack_front}
use Rattle.tables.proofs.Routes.{code_ways}
use Rattle.tables.proofs.routing.front.Goals as goal

pub pack-requires : goal.pack-requires
pack-requires c = omega (arith, limit)

pub pack-requires-else-code-le-MAX_DIGITS : goal.pack-requires-else-code-le-MAX_DIGITS
pack-requires-else-code-le-MAX_DIGITS c = omega (arith, limit, length-take-le 16 c.args.code.now (omega arith))

pub returns-then-code-le-MAX_DIGITS : goal.returns-then-code-le-MAX_DIGITS
returns-then-code-le-MAX_DIGITS c =
    let code = c.args.code.now in
    ap unpack c.pack.ensures
    ∙ ap (λ l. unpack (pack (word_of l))) (sym (take_all max_digits code (omega (arith, limit))))
    ∙ unpack_front code max_digits (code_ways code c.requires)

pub returns-else-code-le-MAX_DIGITS : goal.returns-else-code-le-MAX_DIGITS
returns-else-code-le-MAX_DIGITS c =
    let code = c.args.code.now in
    ap unpack c.pack-else-code-le-MAX_DIGITS.ensures
    ∙ ap (λ k. unpack (pack (word_of (take k code)))) (sym limit)
    ∙ unpack_front code max_digits (code_ways code c.requires)
