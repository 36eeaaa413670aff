-- Columns whose words fit: exactly those whose longest word does, in any order; and the pairs of a table fit exactly where both columns do.
use Prim.Native.Nat.{◌≤◌, max}
use mathlib.Core.Path.{◌≡◌, refl, ◌∙◌, ap, ap₂}
use mathlib.Core.List.{List, [], ◌∷◌, Permᴰ}
use native.Mathlib.Omega.{arith}
use lib.Dec.{T, leb→le, le→leb}
use lib.ListN.{length}
use Rattle.higman.specs.Words.{Word}
use Rattle.higman.specs.Bases.{all, longest}
use Rattle.higman.specs.Tables.{Table, froms, tos}
use Rattle.higman.specs.Limits.{max_digits, fits, pair_fits}
use Rattle.higman.proofs.Tests.{and_left, and_right, and_intro, all_head, all_tail, all_cons}

pub longest_of_fits : (c : List Word) → T (all fits c) → longest c ≤ max_digits
longest_of_fits [] t = omega arith
longest_of_fits (w ∷ c) t =
    omega (arith, leb→le (length w) max_digits (all_head fits w c t), longest_of_fits c (all_tail fits w c t))

pub fits_of_longest : (c : List Word) → longest c ≤ max_digits → T (all fits c)
fits_of_longest [] h = tt
fits_of_longest (w ∷ c) h = all_cons fits w c (le→leb (length w) max_digits (omega arith)) (fits_of_longest c (omega arith))

pub longest_of_perm : {c e : List Word} → Permᴰ c e → longest c ≡ longest e
longest_of_perm Permᴰ.nil = refl
longest_of_perm (Permᴰ.cons p q) = ap₂ max (ap length p) (longest_of_perm q)
longest_of_perm (Permᴰ.swap p q) = omega (arith, ap length p, ap length q)
longest_of_perm (Permᴰ.trans p q) = longest_of_perm p ∙ longest_of_perm q

pub columns_fit : (t : Table) → T (all pair_fits t) → T (all fits (froms t)) × T (all fits (tos t))
columns_fit [] h = (tt, tt)
columns_fit (p ∷ t) h =
    let here = all_head pair_fits p t h in
    let (from_fit, to_fit) = columns_fit t (all_tail pair_fits p t h) in (
      all_cons fits p.from (froms t) (and_left (fits p.from) (fits p.to) here) from_fit,
      all_cons fits p.to (tos t) (and_right (fits p.from) (fits p.to) here) to_fit,
    )

pub pairs_fit : (t : Table) → T (all fits (froms t)) → T (all fits (tos t)) → T (all pair_fits t)
pairs_fit [] f g = tt
pairs_fit (p ∷ t) f g =
    all_cons
    pair_fits
    p
    t
    (and_intro (fits p.from) (fits p.to) (all_head fits p.from (froms t) f) (all_head fits p.to (tos t) g))
    (pairs_fit t (all_tail fits p.from (froms t) f) (all_tail fits p.to (tos t) g))
