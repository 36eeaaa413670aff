-- The three demands, gathered into one term.
use Prim.Native.Nat.{◌+◌}
use native.Mathlib.Omega.{arith}
use mathlib.Core.Path.{refl}
use lib.Dec.{leb→le, le→leb}
use Rattle.higman.proofs.Demand3.{demand3}
use Rattle.higman.proofs.Results.{results_reduced}
use Rattle.higman.proofs.MinimalExpansion.{minimal_expansion}
use Rattle.higman.proofs.Figures.{plan_limits_exact}
use Rattle.higman.proofs.Reasons.{reasons_exact}
use Rattle.higman.proofs.Exercises.{exercises_exact}
use Rattle.higman.proofs.Automorphisms.{plans_are_automorphisms}
use Rattle.desk.specs.Limits.{station_count, max_right, max_changes, max_line}
use Rattle.desk.specs.Desk.{count_of}
use Rattle.desk.specs.Demands.{SessionExact, LimitsExact, Demands}
use Rattle.desk.proofs.Sums.{few_held}
use Rattle.desk.proofs.Session.{fed_in_pieces, session_fed, lines_exact, lines_fed}
use Rattle.desk.proofs.Grammar.{text_exact}
use Rattle.desk.proofs.Demand1.{demand1}
use Rattle.desk.proofs.Demand2.{demand2}

session_exact : SessionExact
session_exact = record { text = text_exact; lines = lines_exact; lines_fed = lines_fed; fed = session_fed; pieces = fed_in_pieces }

limits_exact : LimitsExact
unfolding station_count max_right max_changes max_line
limits_exact =
    record {
      plans = plan_limits_exact;
      stations = refl;
      station_numbers = λ s. (λ h. let k = leb→le (s + 1) 8 h in omega arith, λ h. le→leb (s + 1) 8 (omega arith));
      rights = refl;
      changes = refl;
      full_count = λ d. (leb→le 4_000_000_000 (count_of d), le→leb 4_000_000_000 (count_of d));
      counts_within = λ d D s. D.control.within s;
      pairs_within = few_held;
      lines = refl;
    }

pub demands : Demands
demands =
    record {
      demand1 = demand1;
      demand2 = demand2;
      demand3 = demand3;
      group = plans_are_automorphisms;
      results = results_reduced;
      minimal = minimal_expansion;
      reasons = reasons_exact;
      plans_by_numbers = exercises_exact;
      limits = limits_exact;
      sessions = session_exact;
    }
