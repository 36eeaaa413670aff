-- The answers of a C program in figures: each case computes.
use mathlib.Core.Path.{refl}
use Rattle.plans_c.specs.Theorems.{AnswersInC}

pub answers_in_c : AnswersInC
answers_in_c =
    record {
      verdicts = record {
        accepted = refl;
        no_draft = refl;
        from_overlap = refl;
        from_gap = refl;
        to_overlap = refl;
        to_gap = refl;
        kept = λ p. refl;
        not_kept = λ r. refl;
      };
      made = λ p. refl;
      not_made = λ r. refl;
      compared = λ b. refl;
      not_compared = λ n. refl;
      matched = λ tail k. refl;
      routed = λ n k. refl;
      too_short = refl;
      not_routed = λ n. refl;
      listed = λ k. refl;
      not_listed = λ n. refl;
    }
