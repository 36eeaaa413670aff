-- The most pairs of a plan, as the figure that the length of an array has.
use mathlib.Core.Path.{◌≡◌, refl}
use Rattle.higman.specs.Limits.{max_pairs}

pub pair_limit : max_pairs ≡ 128
unfolding max_pairs
pair_limit = refl
