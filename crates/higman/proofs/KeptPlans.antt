-- Reduced plans are the elements of the group, and kept plans those that keep the limits: reduced and ordered is the same as being
-- one's own normal form.
use Prim.Native.Nat.{◌≤◌}
use mathlib.Core.Path.{◌≡◌, subst}
use mathlib.Core.Bool.{true, ◌&&◌}
use native.Mathlib.Omega.{arith}
use lib.Dec.{T, leb, leb→le}
use Rattle.higman.specs.Words.{Shape}
use Rattle.higman.specs.Bases.{longest}
use Rattle.higman.specs.Tables.{Table, froms, tos, image}
use Rattle.higman.specs.Normal.{keep, Reduced, ordered}
use Rattle.higman.specs.Limits.{Plan, Bases, Kept, shape_in_range, granted}
use Rattle.higman.specs.Theorems.{ReducedPlan}
use Rattle.higman.proofs.Tests.{and_left, and_right}
use Rattle.higman.proofs.Columns.{deep_longest, proper_of_basis, basis_of_proper}
use Rattle.higman.proofs.Ordered.{normal_form_ordered}
use Rattle.higman.proofs.Reduced.{normal_form_reduced, keep_of_reduced}
use Rattle.higman.proofs.Elements.{Element}
use Rattle.higman.proofs.Group.{Member}

pub element_of_bases : (s : Shape) (t : Table) → 1 ≤ s.arity → Bases s t → Element s t
element_of_bases s t n b =
    record { from_proper = proper_of_basis s (froms t) n b.from_basis; to_proper = proper_of_basis s (tos t) n b.to_basis }

pub bases_of_element : (s : Shape) (t : Table) → 1 ≤ s.arity → Element s t → Bases s t
bases_of_element s t n E =
    record { from_basis = basis_of_proper s (froms t) n E.from_proper; to_basis = basis_of_proper s (tos t) n E.to_proper }

pub keep_reduced : (s : Shape) (t : Table) → 1 ≤ s.arity → Reduced s.arity (keep s t)
unfolding keep
keep_reduced s t n = normal_form_reduced s (longest (froms t)) (image t) n

pub keep_ordered : (s : Shape) (t : Table) → ordered (froms (keep s t)) ≡ true
unfolding keep
keep_ordered s t = normal_form_ordered s (longest (froms t)) (image t)

pub own_of_reduced : (s : Shape) (t : Table) → 1 ≤ s.arity → Element s t → Reduced s.arity t → ordered (froms t) ≡ true → keep s t ≡ t
own_of_reduced s t n E r o = keep_of_reduced s t n E.from_proper (deep_longest s (froms t) n E.from_proper) r o

-- "n ways at every switch, 2 to 9, and r belts, 1 to 9"
pub record InRange (s : Shape) : Type 0 where
  pub arity_low : 2 ≤ s.arity
  pub arity_high : s.arity ≤ 9
  pub roots_low : 1 ≤ s.roots
  pub roots_high : s.roots ≤ 9

pub in_range : (s : Shape) → T (shape_in_range s) → InRange s
unfolding shape_in_range
in_range s t =
    let a = leb 2 s.arity in
    let b = leb s.arity 9 in
    let c = leb 1 s.roots in
    let d = leb s.roots 9 in
    let abc = and_left (a && b && c) d t in
    let ab = and_left (a && b) c abc in
    record {
      arity_low = leb→le 2 s.arity (and_left a b ab);
      arity_high = leb→le s.arity 9 (and_right a b ab);
      roots_low = leb→le 1 s.roots (and_right (a && b) c abc);
      roots_high = leb→le s.roots 9 (and_right (a && b && c) d t);
    }

pub arity_of_range : (s : Shape) → T (shape_in_range s) → 1 ≤ s.arity
arity_of_range s t = let h = (in_range s t).arity_low in omega arith

-- the reduced plans are the elements of the group
pub member_of_plan : (s : Shape) (t : Table) → 1 ≤ s.arity → ReducedPlan s t → Member s t
member_of_plan s t n P =
    let E = element_of_bases s t n P.bases in
    record { element = E; own = own_of_reduced s t n E P.reduced P.in_order }

pub plan_of_member : (s : Shape) (t : Table) → 1 ≤ s.arity → Member s t → ReducedPlan s t
plan_of_member s t n M =
    record {
      bases = bases_of_element s t n M.element;
      reduced = subst (Reduced s.arity) M.own (keep_reduced s t n);
      in_order = subst (λ u. ordered (froms u) ≡ true) M.own (keep_ordered s t);
    }

-- and the kept plans are those in the limits
pub plan_of_kept : (a : Plan) → Kept a → ReducedPlan a.shape a.rows
plan_of_kept a K = record { bases = K.bases; reduced = K.reduced; in_order = K.in_order }

pub member_of_kept : (a : Plan) → Kept a → Member a.shape a.rows
member_of_kept a K = member_of_plan a.shape a.rows (arity_of_range a.shape K.in_range) (plan_of_kept a K)

pub kept_of_member : (a : Plan) → T (shape_in_range a.shape) → T (granted a.rows) → Member a.shape a.rows → Kept a
kept_of_member a r g M =
    let P = plan_of_member a.shape a.rows (arity_of_range a.shape r) M in
    record { in_range = r; within = g; bases = P.bases; reduced = P.reduced; in_order = P.in_order }
