-- `operations::following::is_power` meets its contract: a number is within the limit by its size, whatever its sign.
use Rattle.std.proofs.Common.{ap, ◌∙◌}
use Rattle.std.specs.Prelude.{leb, nat_abs}
use mir.Syntax.{w32}
use Rattle.higman.specs.Limits.{max_power}
use Rattle.operations.proofs.Signs.{read_is}
use Rattle.operations.proofs.following.is_power.Goals as goal

pub returns : goal.returns
unfolding max_power
returns c = ap (λ n. leb n 1000) (c.unsigned_abs.ensures.value ∙ ap nat_abs (read_is w32 c.args.k c.ranges.k))
