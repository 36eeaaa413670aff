-- `slots::rights::at` meets its contract: a shift by two bits for each slot below stays below 16 bits.
use native.Mathlib.Omega.{arith}
use Rattle.slots.proofs.Held.{slots_eight}
use Rattle.slots.proofs.rights.at.Goals as goal

pub overflow_cast-bits : goal.overflow_cast-bits
overflow_cast-bits c = record { fits = omega (arith, slots_eight) }

pub overflow_mul-bits : goal.overflow_mul-bits
overflow_mul-bits c = record { fits = omega (arith, slots_eight) }

pub overflow_cast-result : goal.overflow_cast-result
overflow_cast-result c = record { fits = omega (arith, slots_eight) }

pub overflow_shr-result : goal.overflow_shr-result
overflow_shr-result c = omega (arith, slots_eight)
