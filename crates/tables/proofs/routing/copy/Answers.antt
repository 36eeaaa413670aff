-- `tables::routing::copy` meets its contract.
use Prim.Native.Nat.{◌+◌}
use mathlib.Core.Path.{◌≡◌, refl, sym, ◌∙◌, ap, ap₂}
use mathlib.Core.List.{◌++◌, append-nil}
use native.Mathlib.Numerals.{add-one}
use native.Mathlib.Omega.{arith}
use lib.ListN.{get_or, set, length-set, drop_of_length-le}
use lib.Seq.{paste, paste-zero, paste-suc, take_all}
use Rattle.tables.proofs.routing.copy.Goals as goal

pub loop-i-init : goal.loop-i-init
loop-i-init c = (omega arith, paste-zero c.args.out.now 0 c.args.tail.now, refl)

pub loop-i-preserved : goal.loop-i-preserved
loop-i-preserved c =
    let out = c.args.out.now in
    let from = c.args.tail.now in
    let i = c.loop-i.i in
    let here : i ≡ 0 + i = omega arith in (
      omega arith,
      ap₂ (λ o n. set o n (get_or from i 0)) c.loop-i.invariant.1 here ∙ paste-suc out 0 from i 0 (omega arith) (omega arith)
          ∙ ap (paste out 0 from) (sym (add-one i)),
      length-set c.loop-i.out i (get_or from i 0) ∙ c.loop-i.invariant.2,
    )

pub returns : goal.returns
returns c =
    let out = c.args.out.now in
    let from = c.args.tail.now in
    let i = c.loop-i.i in
    c.loop-i.invariant.1
    ∙ ap₂ ◌++◌ (take_all i from (omega arith)) (drop_of_length-le out {i = 0 + i} (omega arith))
    ∙ append-nil from
