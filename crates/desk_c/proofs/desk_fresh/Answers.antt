-- `desk_c::desk_fresh` meets its contract: the state that is fresh holds the fresh desk.
use mathlib.Core.Path.{◌∙◌, ap}
use Rattle.desk.specs.Session.{State}
use Rattle.desk_core.specs.Feeding.{state_of}
use Rattle.desk_values.specs.Values.{packed_desk}
use Rattle.desk_c.proofs.desk_fresh.Goals as goal

pub returns : goal.returns
unfolding state_of
returns c =
    c.packed.ensures ∙ ap (λ (s : State). packed_desk s.desk) c.fresh-state.ensures.1
