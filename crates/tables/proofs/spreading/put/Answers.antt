-- `tables::spreading::put` meets its contract: the words have room if their parts together have no more digits than the limit.
use Prim.Native.Nat.{ℕ, ◌+◌}
use mathlib.Core.Path.{ap₂, subst}
use mathlib.Core.List.{[], ◌∷◌, ◌++◌}
use native.Mathlib.Omega.{arith}
use lib.ListN.{set, length-append}
use Rattle.words.specs.Packed.{unpack}
use Rattle.words.proofs.Limit.{limit, word_fits}
use Rattle.tables.specs.Spreading.{pair, Extended}
use Rattle.tables.proofs.Lookup.{packed_append}
use Rattle.tables.proofs.Extending.{pair_fits_lem, from_too_long, to_too_long, extend_one}
use Rattle.tables.proofs.spreading.put.Goals as goal

pub overflow_add-length : goal.overflow_add-length
overflow_add-length c = omega (arith, word_fits c.args.u c.ranges.u.fits, word_fits c.args.x c.ranges.x.fits, limit)

pub overflow_add-length-2 : goal.overflow_add-length-2
overflow_add-length-2 c = omega (arith, word_fits c.args.v c.ranges.v.fits, word_fits c.args.y c.ranges.y.fits, limit)

pub returns-then-length-gt-MAX_DIGITS : goal.returns-then-length-gt-MAX_DIGITS
returns-then-length-gt-MAX_DIGITS c =
    let a = c.args in
    from_too_long (unpack a.u ++ unpack a.x) (unpack a.v ++ unpack a.y) (omega (arith, length-append (unpack a.u) (unpack a.x), limit))

pub returns-then-length-gt-MAX_DIGITS-2 : goal.returns-then-length-gt-MAX_DIGITS-2
returns-then-length-gt-MAX_DIGITS-2 c =
    let a = c.args in
    to_too_long (unpack a.u ++ unpack a.x) (unpack a.v ++ unpack a.y) (omega (arith, length-append (unpack a.v) (unpack a.y), limit))

pub append-requires : goal.append-requires
append-requires c = omega (arith, limit)

pub append-requires-2 : goal.append-requires-2
append-requires-2 c = omega (arith, limit)

pub returns : goal.returns
returns c =
    let a = c.args in
    let (u, (x, (v, y))) = c.requires.t in
    let (n, m) = c.requires.n_in_bounds in
    let from : ℕ = c.append.result in
    let to : ℕ = c.append-2.result in (
      pair_fits_lem (unpack a.u ++ unpack a.x) (unpack a.v ++ unpack a.y)
          (omega (arith, limit, length-append (unpack a.u) (unpack a.x))) (omega (arith, limit, length-append (unpack a.v) (unpack a.y))),
      subst (λ t. Extended t a.n a.froms.now a.tos.now (set a.froms.now a.n from) (set a.tos.now a.n to) (a.n + 1))
          (ap₂ (λ u v. pair u v ∷ []) c.append.ensures c.append-2.ensures)
          (extend_one a.froms.now a.tos.now a.n from to n m
          (packed_append a.u a.x from u x (omega (arith, limit)) c.append.ensures)
          (packed_append a.v a.y to v y (omega (arith, limit)) c.append-2.ensures)),
    )
