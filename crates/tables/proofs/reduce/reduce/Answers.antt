-- `tables::reduce::reduce` meets its contract. A table without a join is kept as it is; else the parts of the empty word are the blocks of
-- the roots, and a word that 64 bits hold has at most MAX_WAYS ways.
use Prim.Native.Nat.{ℕ, suc, ◌^◌, ◌≤◌, ◌<◌}
use mathlib.Core.Path.{◌≡◌, refl, sym, ◌∙◌, ap}
use mathlib.Core.List.{List}
use native.Mathlib.Omega.{arith}
use lib.Dec.{T}
use lib.ListN.{length, get_or}
use Rattle.higman.specs.Bases.{longest}
use Rattle.higman.specs.Words.{Shape, count}
use Rattle.higman.specs.Tables.{froms, image}
use Rattle.higman.specs.Normal.{gather, normal, keep}
use Rattle.higman.specs.Limits.{max_digits, shape_in_range}
use Rattle.higman.proofs.KeptPlans.{in_range, arity_of_range}
use Rattle.words.specs.Packed.{unpack}
use Rattle.words.specs.Bytes.{shape_of}
use Rattle.words.proofs.Packing.{unpack_zero}
use Rattle.columns.specs.Packed.{table}
use Rattle.tables.specs.Reduction.{prefixed, Parts, Reducible}
use Rattle.tables.proofs.Reduction.{longest_fits, root_parts, keep_of_roots}
use Rattle.tables.proofs.Joining.{kept_without_join}
use Rattle.tables.proofs.reduce.reduce.Goals as goal

-- the blocks of the roots, as the call of `reduce_ways` counts them, and what their reduction comes to
module _
    (s : Shape)
    (from to : List ℕ)
    (fit : (i : ℕ) → get_or from i 0 < 2 ^ 64)
    (range : T (shape_in_range s))
    (r : Reducible s (table from to)) where
  deep : longest (froms (table from to)) ≤ suc 15
  unfolding max_digits
  deep = longest_fits from to fit

  blocks : Parts s.arity 15 (unpack 0) 1 s.roots (table from to)
  blocks = root_parts s (table from to) (arity_of_range s range) r 15 deep (unpack 0) s.roots unpack_zero refl

  kept : prefixed (unpack 0) (gather (count 1 s.roots) (λ i. normal s.arity 15 (image (blocks.pairs i)))) ≡ keep s (table from to)
  unfolding blocks
  kept = keep_of_roots s (table from to) (arity_of_range s range) r 15 deep (unpack 0) s.roots unpack_zero refl

pub has_join-requires : goal.has_join-requires
has_join-requires c =
    let r = in_range (shape_of c.args.shape) c.requires.3 in
    (omega (arith, r.arity_low), r.arity_high)

pub returns-then-not-has_join-clause-keeps : goal.returns-then-not-has_join-clause-keeps
returns-then-not-has_join-clause-keeps c =
    let a = c.args in
    let s = shape_of a.shape in
    let none = sym c.has_join.ensures ∙ c.if-not-has_join.true in
    c.copy_pairs.ensures ∙ sym (kept_without_join s (table a.from.now a.to.now) (arity_of_range s c.requires.3) c.requires.4 none)

pub reduce_ways-end-requires : goal.reduce_ways-end-requires
unfolding max_digits
reduce_ways-end-requires c =
    let a = c.args in
    let s = shape_of a.shape in
    let r = in_range s c.requires.3 in (
      record { paired = c.requires.0; from_room = c.requires.1; to_room = c.requires.2; within = omega arith; behind = omega arith },
      omega (arith, r.arity_low),
      r.arity_high,
      omega (arith, ap length unpack_zero),
      r.roots_high,
      blocks s a.from.now a.to.now (λ i. omega (arith, c.type_inv.from i)) c.requires.3 c.requires.4,
    )

pub returns-clause-keeps : goal.returns-clause-keeps
returns-clause-keeps c =
    let a = c.args in
    let s = shape_of a.shape in
    let roots = blocks s a.from.now a.to.now (λ i. omega (arith, c.type_inv.from i)) c.requires.3 c.requires.4 in
    (c.reduce_ways-end.ensures.reduces roots).written
    ∙ kept s a.from.now a.to.now (λ i. omega (arith, c.type_inv.from i)) c.requires.3 c.requires.4
