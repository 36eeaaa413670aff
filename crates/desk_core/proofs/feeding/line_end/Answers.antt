-- `desk_core::feeding::line_end` meets its contract.
use Prim.Native.Nat.{◌-◌}
use mathlib.Core.Path.{◌≡◌, sym, ◌∙◌, subst}
use native.Mathlib.Omega.{arith}
use lib.ListN.{length, drop, length-drop}
use lib.Seq.{take_all}
use Rattle.std.specs.Prelude.{None, Some, unwrap_or}
use Rattle.std.proofs.Common.{rules, tests}
use Rattle.std.proofs.lemmas.Iterator.{IsFirst-from_position, YieldsList-from_slice}
use Rattle.desk_core.specs.Feeding.{LineEnd}
use Rattle.desk_core.proofs.Runs.{Inner, Last, ends_line, ends_input}
use Rattle.desk_core.proofs.feeding.line_end.Goals as goal

pub returns-in_err-length-clause-first : goal.returns-in_err-length-clause-first
returns-in_err-length-clause-first c =
    let input = c.args.input.now in
    let none : c.from_residual.result ≡ None = search rules in
    let rest : c.iter.result.rest.now ≡ drop c.args.at input = c.iter.ensures.rest ∙ take_all (length input - c.args.at) (drop c.args.at input) (omega (arith, length-drop c.args.at input)) in
    let first = IsFirst-from_position _ _ None Last Inner c.in_err-length.ensures.ran (YieldsList-from_slice (drop c.args.at input) rest) (λ x q k. search (rules, tests)) (λ x q k. search (rules, tests)) in
    subst (λ r. LineEnd input c.args.at (unwrap_or r (length input))) (sym none) (ends_input input c.args.at c.requires first)

pub returns-clause-first : goal.returns-clause-first
returns-clause-first c =
    let input = c.args.input.now in
    let rest : c.iter.result.rest.now ≡ drop c.args.at input = c.iter.ensures.rest ∙ take_all (length input - c.args.at) (drop c.args.at input) (omega (arith, length-drop c.args.at input)) in
    let n = c.in_ok-length.length in
    let (below, last, inner) = IsFirst-from_position _ _ (Some n) Last Inner c.in_ok-length.ensures.ran (YieldsList-from_slice (drop c.args.at input) rest) (λ x q k. search (rules, tests)) (λ x q k. search (rules, tests)) in
    ends_line input c.args.at c.requires n below last inner
