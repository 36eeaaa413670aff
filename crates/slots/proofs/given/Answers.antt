-- `slots::given` meets its contract: a station from 1 to 7 has its place among seven.
use native.Mathlib.Omega.{arith}
use Rattle.desk.specs.Limits.{station_count}
use Rattle.slots.proofs.given.Goals as goal

pub bounds-control-place : goal.bounds-control-place
unfolding station_count
bounds-control-place c = omega (arith, c.requires.known)

pub bounds-next-place : goal.bounds-next-place
unfolding station_count
bounds-next-place c = omega (arith, c.requires.known)
