-- The proof of the cycle of `reduce_block` and `reduce_ways`: a listed block is copied, and any other is cut into its parts, which are
-- reduced one after the other and joined.
use Prim.Native.Nat.{◌+◌}
use mathlib.Core.Path.{refl, ap}
use native.Mathlib.Omega.{arith}
use lib.ListN.{length}
use Rattle.words.specs.Packed.{unpack}
use Rattle.words.proofs.Sizes.{length_child}
use Rattle.tables.specs.Reduction.{state}
use Rattle.tables.proofs.Cuts.{block_place}
use Rattle.tables.proofs.Steps.{write_grows, copy_places, join_places, copied, divided, rejoined}
use Rattle.tables.proofs.Steps.{reducing_start, reducing_block, reducing_step, reducing_end}
use Rattle.tables.proofs.reduce.+reduce_block_reduce_ways.Goals as goal

pub reduce_block-bounds-from-read : goal.reduce_block-bounds-from-read
reduce_block-bounds-from-read t c =
    let a = c.args in
    let p = c.requires in
    let s = state a.pairs.from.now a.pairs.to.now a.out_from.now a.out_to.now a.at.read a.at.write in
    block_place a.arity a.left (unpack a.w) s p.1 p.0.paired p.4

pub reduce_block-bounds-out_from-write : goal.reduce_block-bounds-out_from-write
reduce_block-bounds-out_from-write t c =
    let a = c.args in
    let p = c.requires in
    let s = state a.pairs.from.now a.pairs.to.now a.out_from.now a.out_to.now a.at.read a.at.write in
    let h = block_place a.arity a.left (unpack a.w) s p.1 p.0.paired p.4 in
    omega (arith, h, p.0.within, p.0.from_room, p.0.behind)

pub reduce_block-bounds-to-read : goal.reduce_block-bounds-to-read
reduce_block-bounds-to-read t c =
    let a = c.args in
    let p = c.requires in
    let s = state a.pairs.from.now a.pairs.to.now a.out_from.now a.out_to.now a.at.read a.at.write in
    let h = block_place a.arity a.left (unpack a.w) s p.1 p.0.paired p.4 in
    omega (arith, h, p.0.paired)

pub reduce_block-bounds-out_to-write : goal.reduce_block-bounds-out_to-write
reduce_block-bounds-out_to-write t c =
    let a = c.args in
    let p = c.requires in
    let s = state a.pairs.from.now a.pairs.to.now a.out_from.now a.out_to.now a.at.read a.at.write in
    let h = block_place a.arity a.left (unpack a.w) s p.1 p.0.paired p.4 in
    omega (arith, h, p.0.within, p.0.to_room, p.0.behind)

pub reduce_block-returns-then-from-read : goal.reduce_block-returns-then-from-read
reduce_block-returns-then-from-read t c =
    let a = c.args in
    let p = c.requires in
    let s = state a.pairs.from.now a.pairs.to.now a.out_from.now a.out_to.now a.at.read a.at.write in
    let h = block_place a.arity a.left (unpack a.w) s p.1 p.0.paired p.4 in
    record { places = copy_places s a.w p.0 h; reduces = copied s p.0 a.arity a.left a.w p.1 c.if-from-read.true h }

pub reduce_block-overflow_sub-left : goal.reduce_block-overflow_sub-left
reduce_block-overflow_sub-left t c =
    let a = c.args in
    let p = c.requires in
    let s = state a.pairs.from.now a.pairs.to.now a.out_from.now a.out_to.now a.at.read a.at.write in
    let d = divided s p.0 a.arity a.left a.w p.1 c.if-from-read.false p.4 in
    omega (arith, d.deeper)

pub reduce_block-reduce_ways-end-requires : goal.reduce_block-reduce_ways-end-requires
reduce_block-reduce_ways-end-requires t c =
    let a = c.args in
    let p = c.requires in
    let s = state a.pairs.from.now a.pairs.to.now a.out_from.now a.out_to.now a.at.read a.at.write in
    let d = divided s p.0 a.arity a.left a.w p.1 c.if-from-read.false p.4 in
    (omega (arith, d.deeper, c.decreases, p.2), (p.0, p.1, p.2, omega (arith, d.deeper, p.3), p.2, d.parts))

pub reduce_block-join-joined-requires : goal.reduce_block-join-joined-requires
reduce_block-join-joined-requires t c =
    let a = c.args in
    let p = c.requires in
    let s = state a.pairs.from.now a.pairs.to.now a.out_from.now a.out_to.now a.at.read a.at.write in
    let d = divided s p.0 a.arity a.left a.w p.1 c.if-from-read.false p.4 in
    let r = c.reduce_ways-end in
    let q = r.ensures.places in
    let w = state a.pairs.from.now a.pairs.to.now r.new.out_from r.new.out_to r.result.read r.result.write in
    let g = write_grows s w _ _ p.0 q (r.ensures.reduces d.parts) in
    (p.1, p.2, g, omega (arith, q.from_room, q.within, q.behind), omega (arith, q.to_room, q.within, q.behind))

pub reduce_block-returns : goal.reduce_block-returns
reduce_block-returns t c =
    let a = c.args in
    let p = c.requires in
    let s = state a.pairs.from.now a.pairs.to.now a.out_from.now a.out_to.now a.at.read a.at.write in
    let r = c.reduce_ways-end in
    let w = state a.pairs.from.now a.pairs.to.now r.new.out_from r.new.out_to r.result.read r.result.write in
    let n = c.join-joined in
    record {
      places = join_places w n.new.from n.new.to n.result r.ensures.places n.auto.from n.auto.to n.ensures.within;
      reduces =
          rejoined s p.0 a.arity a.left a.w p.1 c.if-from-read.false
          w (state a.pairs.from.now a.pairs.to.now n.new.from n.new.to r.result.read n.result) r.ensures.reduces n.ensures.joins refl;
    }

pub reduce_ways-loop-i-init : goal.reduce_ways-loop-i-init
reduce_ways-loop-i-init t c =
    let a = c.args in
    let p = c.requires in
    let s = state a.pairs.from.now a.pairs.to.now a.out_from.now a.out_to.now a.at.read a.at.write in
    reducing_start a.arity a.left (unpack a.w) a.last s p.0 p.5

pub reduce_ways-reduce_block-next-requires : goal.reduce_ways-reduce_block-next-requires
reduce_ways-reduce_block-next-requires t c =
    let a = c.args in
    let p = c.requires in
    let l = c.loop-i in
    let k = c.child in
    let block = reducing_block a.arity a.left (unpack a.w) a.last _ l.i _ l.invariant c.loop-i-test.true (unpack k.result) k.ensures in
    (omega arith, (l.invariant.places, p.1, p.2, omega (arith, p.3, ap length k.ensures, length_child (unpack a.w) l.i), block))

pub reduce_ways-loop-i-preserved : goal.reduce_ways-loop-i-preserved
reduce_ways-loop-i-preserved t c =
    let a = c.args in
    let l = c.loop-i in
    let k = c.child in
    reducing_step a.arity a.left (unpack a.w) a.last _ l.i _ l.invariant c.loop-i-test.true (unpack k.result) k.ensures _
    c.reduce_block-next.ensures.places
    c.reduce_block-next.ensures.reduces

pub reduce_ways-returns : goal.reduce_ways-returns
reduce_ways-returns t c =
    let a = c.args in
    let l = c.loop-i in
    let all = reducing_end a.arity a.left (unpack a.w) a.last _ l.i _ l.invariant c.loop-i-test.false in
    record { places = l.invariant.places; reduces = all }

pub reduce_ways-returns-2 : goal.reduce_ways-returns-2
reduce_ways-returns-2 t c =
    let a = c.args in
    let l = c.loop-i in
    let k = c.child in
    let b = c.reduce_block-next.ensures in
    let x =
    reducing_step a.arity a.left (unpack a.w) a.last _ l.i _ l.invariant c.loop-i-test.true (unpack k.result) k.ensures _
    b.places b.reduces in
    record { places = b.places; reduces = reducing_end a.arity a.left (unpack a.w) a.last _ (l.i + 1) _ x (omega arith) }
