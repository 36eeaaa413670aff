-- `tables::spreading::spread_pair` meets its contract: a from-word of b that begins v gives the image of v, and where none does, v has
-- no image and the pairs beneath it are written.
use Prim.Native.Nat.{ℕ, ◌<◌}
use mathlib.Core.Path.{◌≡◌, refl, sym, ◌∙◌, ap, subst}
use mathlib.Core.List.{List, [], ◌∷◌, ◌++◌, append-nil}
use mathlib.Core.Option.{some}
use native.Mathlib.Omega.{arith}
use lib.ListN.{length}
use Rattle.higman.specs.Words.{after}
use Rattle.words.specs.Packed.{unpack}
use Rattle.words.proofs.Packing.{unpack_zero}
use Rattle.columns.specs.Packed.{table}
use Rattle.columns.specs.Columns.{word_at}
use Rattle.columns.proofs.Search.{FirstIn, first_of_begun, first_of_unbegun}
use Rattle.tables.specs.Spread.{beneath, spread_pair}
use Rattle.tables.specs.Spreading.{pair, Room, Spreads}
use Rattle.tables.proofs.Lookup.{image_at_lem, image_nowhere, packed_at, packed_zero, packed_tail}
use Rattle.tables.proofs.Beneath.{spread_whole, spread_parts}
use Rattle.tables.proofs.spreading.spread_pair.Goals as goal

-- what the pair (u, v) gives, k being the place of the first from-word that begins v
module _ (u v : ℕ) (from to : List ℕ) (long : length from ≡ length to) (k : ℕ) (f : FirstIn from (unpack v) k) where
  -- the one pair, where a from-word begins v and x stands behind it
  single : k < length from → (x : ℕ) → after (word_at from k) (unpack v) ≡ some (unpack x)
      → spread_pair (table from to) (pair (unpack u) (unpack v)) ≡ pair (unpack u ++ unpack 0) (word_at to k ++ unpack x) ∷ []
  single h x e =
      let z = word_at to k ++ unpack x in
      let whole : unpack u ≡ unpack u ++ unpack 0 = sym (ap (λ w. unpack u ++ w) unpack_zero ∙ append-nil (unpack u)) in
      spread_whole (table from to) (unpack u) (unpack v) z (image_at_lem from to long (unpack v) k f h (unpack x) e)
      ∙ ap (λ w. pair w z ∷ []) whole

  -- where none does
  parts : k ≡ length from → spread_pair (table from to) (pair (unpack u) (unpack v)) ≡ beneath (unpack u) (unpack v) (table from to)
  parts e = spread_parts (table from to) (unpack u) (unpack v) (image_nowhere from to long (unpack v) k f e)

pub tail-tail-requires : goal.tail-tail-requires
tail-tail-requires c =
    let a = c.args in
    let (first, within) = first_of_begun a.b.from.now (unpack a.v) c.in-Some.k (sym c.in-Some.ensures) in
    (c.requires.t.1, first.found within)

pub put-requires-clause-t : goal.put-requires-clause-t
put-requires-clause-t c =
    let a = c.args in
    let k = c.in-Some.k in
    let (first, within) = first_of_begun a.b.from.now (unpack a.v) k (sym c.in-Some.ensures) in (
      c.requires.t.0,
      (
        packed_zero,
        (
          packed_at a.b.to.now c.requires.operand.plain.to_packed k (omega (arith, within, c.requires.operand.plain.long)),
          packed_tail (word_at a.b.from.now k) a.v c.tail-tail.result c.requires.t.1 c.tail-tail.ensures,
        ),
      ),
    )

pub put-requires-clause-n_in_bounds : goal.put-requires-clause-n_in_bounds
put-requires-clause-n_in_bounds c =
    let a = c.args in
    let k = c.in-Some.k in
    let (first, within) = first_of_begun a.b.from.now (unpack a.v) k (sym c.in-Some.ensures) in
    let one = single a.u a.v a.b.from.now a.b.to.now c.requires.operand.plain.long k first within c.tail-tail.result c.tail-tail.ensures in
    let room = subst (λ t. Room a.n t a.froms.now a.tos.now) one c.requires.room in
    (omega arith, omega arith)

pub spread_beneath-requires-clause-room : goal.spread_beneath-requires-clause-room
spread_beneath-requires-clause-room c =
    let a = c.args in
    let first = first_of_unbegun a.b.from.now (unpack a.v) (sym c.in-None.ensures) in
    subst (λ t. Room a.n t a.froms.now a.tos.now)
    (parts a.u a.v a.b.from.now a.b.to.now c.requires.operand.plain.long _ first refl) c.requires.room

pub returns-in-Some : goal.returns-in-Some
returns-in-Some c =
    let a = c.args in
    let k = c.in-Some.k in
    let (first, within) = first_of_begun a.b.from.now (unpack a.v) k (sym c.in-Some.ensures) in
    let one = single a.u a.v a.b.from.now a.b.to.now c.requires.operand.plain.long k first within c.tail-tail.result c.tail-tail.ensures in
    subst (λ r. Spreads r a.n a.froms.now a.tos.now c.put.new.froms c.put.new.tos c.put.result) (sym one) c.put.ensures

pub returns-in-None : goal.returns-in-None
returns-in-None c =
    let a = c.args in
    let first = first_of_unbegun a.b.from.now (unpack a.v) (sym c.in-None.ensures) in
    subst (λ r. Spreads r a.n a.froms.now a.tos.now c.spread_beneath.new.froms c.spread_beneath.new.tos c.spread_beneath.result)
    (sym (parts a.u a.v a.b.from.now a.b.to.now c.requires.operand.plain.long _ first refl))
    c.spread_beneath.ensures
