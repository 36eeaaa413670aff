-- `desk_core::feeding::grow` meets its contract: a line that is too long is let go, and otherwise the bytes are copied behind its beginning.
use Prim.Native.Nat.{◌+◌, ◌≤◌}
use mathlib.Core.Path.{refl, sym, ◌∙◌, ap}
use mathlib.Core.Bool.{false}
use native.Mathlib.Omega.{arith}
use lib.ListN.{length, take}
use lib.Seq.{length-take-le}
use Rattle.higman.proofs.Tests.{clash}
use Rattle.desk.specs.Limits.{max_line}
use Rattle.slots.proofs.Windows.{written_length}
use Rattle.desk_core.specs.Feeding.{grown_line}
use Rattle.desk_core.proofs.Grown.{line_limit, copied, grown_fits, grown_over}
use Rattle.desk_core.proofs.feeding.grow.Goals as goal

pub overflow_sub-begun : goal.overflow_sub-begun
overflow_sub-begun c = omega (arith, line_limit)

pub returns-then-begun-part : goal.returns-then-begun-part
returns-then-begun-part c =
    let a = c.args in
    let held = length-take-le a.begun a.line.now (omega (arith, c.requires.lined, c.requires.fits)) in
    let over = grown_over (take a.begun a.line.now) a.part.now (omega (arith, line_limit, held)) in
    record {
      held = record { lined = c.requires.lined; fits = omega arith; let_go = λ _. refl };
      grown = over ∙ ap (λ o. grown_line (take a.begun a.line.now) o a.part.now) (sym c.if-overlong.false);
    }

pub copy-requires : goal.copy-requires
copy-requires c = omega (arith, line_limit)

pub returns : goal.returns
returns c =
    let a = c.args in
    let line = a.line.now in
    let part = a.part.now in
    let held = length-take-le a.begun line (omega (arith, c.requires.lined, c.requires.fits)) in
    let inside : a.begun + length part ≤ length line = omega (arith, line_limit) in
    let fits : a.begun + length part ≤ max_line = omega (arith, line_limit) in
    let front = ap (take (a.begun + length part)) c.copy.ensures ∙ copied line a.begun part inside in
    record {
      held = record {
        lined = ap length c.copy.ensures ∙ written_length line a.begun part inside ∙ c.requires.lined;
        fits = fits;
        let_go = λ q. absurd (clash q refl);
      };
      grown = ap (λ l. (l, false)) front ∙ grown_fits (take a.begun line) part (omega (arith, held, fits))
          ∙ ap (λ o. grown_line (take a.begun line) o part) (sym c.if-overlong.false);
    }
