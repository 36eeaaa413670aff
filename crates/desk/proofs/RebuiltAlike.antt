-- The desk as its station knows it is alike to the desk.
use Prim.Native.Nat.{◌+◌}
use native.Mathlib.Omega.{arith}
use mathlib.Core.Path.{refl, sym, ◌∙◌, ap}
use lib.ListN.{replicate, length-set}
use Rattle.higman.specs.Words.{count}
use Rattle.higman.specs.Text.{Bytes}
use Rattle.higman.proofs.Tests.{so}
use Rattle.desk.specs.Limits.{station_count}
use Rattle.desk.specs.Desk.{Desk, station_of, count_of, readable, held}
use Rattle.desk.specs.Desk.{seen, IsDesk, changed, pairs_of_slots}
use Rattle.desk.specs.Sights.{sight_of}
use Rattle.desk.proofs.Given.{set_here}
use Rattle.desk.proofs.Stays.{counted_own}
use Rattle.desk.proofs.Seen.{shown, seen_at}
use Rattle.desk.proofs.Alike.{Alike}
use Rattle.desk.proofs.Rebuilt.{Own, first_reads, in_counts, own, own_here, rebuilt, same_rights, seen_again, seen_all}

module _ (d : Desk) (D : IsDesk d) (l : Bytes) where
  pub rebuilt_alike : Alike d (rebuilt (station_of d) (own (station_of d) d) (sight_of d l))
  unfolding rebuilt seen changed
  rebuilt_alike =
      let s = station_of d in
      let c = rebuilt s (own s d) (sight_of d l) in
      record {
        station = refl;
        draft = ap (λ (o : Own). o.draft) (sym (own_here s d refl));
        count = sym (set_here (replicate station_count 0) s (count_of d) 0 (in_counts d D l));
        rights = same_rights d D l;
        reads = λ i h r. sym (seen_at d i ∙ ap (λ b. shown b (held d i)) (so (readable d i) r));
        sees = seen_again d c 0 d.slots (λ i _ b. same_rights d D l i (omega (arith, D.eight)));
        sums = λ e. D.summed ∙ ap pairs_of_slots (sym (seen_all d 0 d.slots (first_reads d e)));
        counts = λ i x. counted_own d.control D.control;
        counts' = λ i x. set_here c.control.changes s (count_of c + 1) 0
            (omega (arith, in_counts d D l, length-set (replicate station_count 0) s (count_of d)));
      }
