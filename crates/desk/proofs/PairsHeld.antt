-- The term of PairsHeld, of specs/Pairs.antt.
use native.Mathlib.Omega.{arith}
use mathlib.Core.Path.{refl}
use Rattle.desk.specs.Desk.{fresh_desk, IsDesk}
use Rattle.desk.specs.Pairs.{PairsHeld}
use Rattle.desk.proofs.Outcomes.{passed}
use Rattle.desk.proofs.Replies.{desk_parts}
use Rattle.desk.proofs.Stays.{desk_stays}
use Rattle.desk.proofs.Calls.{lent_calls_exact}
use Rattle.desk.proofs.Pairs.{lines_stay, lines_told, not_told, tally_exact, tells, told_steps}

pub pairs_held : PairsHeld
pairs_held =
    record {
      of_slot = (refl, λ p. refl);
      of_slots = (refl, λ x l. refl);
      tallied = tally_exact;
      tells = tells;
      told = λ d e h. passed (told_steps d) e h;
      not_told = not_told;
      counted = λ ls. let all = lines_told ls fresh_desk desk_stays.fresh in omega (arith, all, desk_parts.fresh_pairs);
      summed = λ ls. (lines_stay ls fresh_desk desk_stays.fresh).summed;
      off = λ d n.
          let no_desk_lem : IsDesk d → ⊥ = λ D. n D.summed in
          (no_desk_lem, λ work buffer. lent_calls_exact.no_desk_lem d work buffer no_desk_lem, λ work. lent_calls_exact.plain_no_desk d work no_desk_lem);
    }
