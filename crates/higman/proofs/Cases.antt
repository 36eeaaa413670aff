-- The ★ cases of document 01: each holds by computing what the definitions of specs/ reply, one `refl` for each line of the
-- table, in its order.
use mathlib.Core.Path.{refl}
use Rattle.higman.specs.Normal.{joined, normal, normal_form, keep, compose, inverse, identity}
use Rattle.higman.specs.Limits.{max_pairs, max_digits, max_code, max_power, granted, is_code}
use Rattle.higman.specs.Answers.{verdict, followed, inverted, raised, powered, routed}
use Rattle.higman.specs.Cases.{star_cases, StarCases}

pub star_cases_lem : StarCases
unfolding star_cases verdict followed inverted raised powered routed granted is_code max_pairs max_digits max_code max_power keep compose
    inverse identity normal_form normal joined
star_cases_lem = (refl, (refl, (refl, (refl, (refl, (refl, (refl, (refl, (refl, (refl, (refl, tt)))))))))))
