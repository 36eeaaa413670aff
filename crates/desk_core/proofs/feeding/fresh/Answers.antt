-- `desk_core::feeding::fresh` meets its contract.
use Prim.Native.Nat.{ℕ}
use lib.ListN.{replicate, length-replicate}
use Rattle.desk_core.proofs.Fresh.{all_zeros, fresh_holds, fresh_state_lem}
use Rattle.desk_core.proofs.feeding.fresh.Goals as goal

pub returns : goal.returns
returns c =
    let k = c.fresh_control.result in
    let e = c.fresh_control.ensures in
    let columns = length-replicate {A = ℕ} 2304 0 in
    let line = length-replicate {A = ℕ} 1100 0 in (
      fresh_holds k e (replicate 2304 0) (replicate 1100 0) columns (all_zeros 2304) line,
      fresh_state_lem k e (replicate 2304 0) (replicate 1100 0) columns (all_zeros 2304) line,
    )
