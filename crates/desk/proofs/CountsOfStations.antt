-- The term of CountsOfStations, of specs/Stations.antt: the counts over lines, and the rest of Counts.antt together.
use Prim.Native.Nat.{ℕ, ◌+◌}
use native.Mathlib.Omega.{arith}
use mathlib.Core.Path.{◌≡◌, ◌∙◌}
use mathlib.Core.List.{List, [], ◌∷◌}
use Rattle.higman.specs.Text.{Bytes}
use Rattle.desk.specs.Limits.{station_count}
use Rattle.desk.specs.Desk.{Desk, fresh_desk, changes_of, IsDesk}
use Rattle.desk.specs.Replies.{respond_line, run, desk_after}
use Rattle.desk.specs.Stations.{changes_made, CountsOfStations}
use Rattle.desk.proofs.Outcomes.{passed, passes_operation}
use Rattle.desk.proofs.Given.{replicated}
use Rattle.desk.proofs.Stays.{desk_stays}
use Rattle.desk.proofs.Counts.{first_station, line_adds, made, name_steps, named_below, named_done, names_none, names_own, refused_alike, refused_stays, stay_steps, told_done}

lines_add : (s : ℕ) (ls : List Bytes) (d : Desk) → IsDesk d
    → changes_of (desk_after d (run d ls)).control s ≡ changes_made s d ls + changes_of d.control s
unfolding run changes_made
lines_add s [] d D = omega arith
lines_add s (l ∷ ls) d D =
    let here = line_adds d D s l in
    let rest = lines_add s ls (respond_line d l).0 (desk_stays.line d l D) in
    rest ∙ omega (arith, here)

made_from_fresh : (ls : List Bytes) (s : ℕ) → changes_of (desk_after fresh_desk (run fresh_desk ls)).control s ≡ changes_made s fresh_desk ls
unfolding fresh_desk
made_from_fresh ls s = omega (arith, lines_add s ls fresh_desk desk_stays.fresh, replicated {A = ℕ} station_count s 0)

pub counts_of_stations : CountsOfStations
counts_of_stations =
    record {
      first = first_station;
      made = made_from_fresh;
      told = told_done;
      names = named_done;
      named = λ d s e h. let (below, effect) = passed (name_steps d s) e h in (named_below s below, effect);
      names_own = names_own;
      names_none = names_none;
      stays = λ d r e n h. passed (passes_operation d r (λ _. stay_steps d r n)) e h;
      refused = refused_stays;
      free = refused_alike;
    }
