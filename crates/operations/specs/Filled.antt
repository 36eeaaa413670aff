-- Plans made of the pairs of two columns, as the code makes them; Plans.antt has `packed`, which these are.
use Rattle.std.specs.Prelude.{ℕ, ◌-◌, List, ◌++◌, take, replicate}
use Rattle.higman.specs.Limits.{max_pairs}
use Rattle.operations.specs.declared.Plan.{Plan}

-- the first n numbers, and zeros behind them
abbrev pub filling : ℕ → List ℕ → List ℕ
filling n column = take n column ++ replicate (max_pairs - n) 0

abbrev pub filled_plan : ℕ → ℕ → ℕ → List ℕ → List ℕ → Plan
filled_plan arity roots n from to =
    record { arity = arity; roots = roots; pairs = n; from = filling n from; to = filling n to }
