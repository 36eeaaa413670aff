-- `plandesk::write_out` meets its contract.
use Rattle.std.proofs.Common.{arith}
use Rattle.std.proofs.KnownBytes.{Appends-kept}
use Rattle.plandesk.proofs.Known.{not_ok, sent_more, sent_up_to}
use Rattle.plandesk.proofs.write_out.Goals as goal

-- no try took a byte
pub returns-in_err-done : goal.returns-in_err-done
returns-in_err-done g c =
    let none = rw c.in_err-done.was at c.write_some.ensures.none in
    sent_up_to _ _ c.args.bytes.now _ _ (Appends-kept _ _ _ _ c.loop-done.invariant.1 none)
    (λ e. absurd (not_ok _ c.from_residual.ensures.0 e))

pub loop-done-preserved : goal.loop-done-preserved
loop-done-preserved g c =
    let bound = rw c.in_ok-done.was at c.write_some.ensures.bound in
    let appended = rw c.in_ok-done.was at c.write_some.ensures.appended in
    (omega (arith, bound), sent_more _ _ _ c.args.bytes.now _ _ c.loop-done.invariant.1 appended)
