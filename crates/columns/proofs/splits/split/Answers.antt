-- `columns::splits::split` meets its contract. The invariant: behind the words before the place stand the first i parts, and behind the
-- parts the words are as they were moved. The measure is what is left of the parts.
use Prim.Native.Nat.{suc, ◌+◌, ◌-◌, ◌≤◌, ◌<◌}
use mathlib.Core.Path.{◌≡◌, refl, sym, ◌∙◌, ap, ap₂}
use mathlib.Core.List.{[], ◌∷◌, ◌++◌, map, map-append, append-nil, append_assoc}
use native.Mathlib.Numerals.{add-one}
use native.Mathlib.Omega.{arith}
use lib.ListN.{length, get_or, take, drop, set, length-set, length-drop}
use lib.Seq.{take-suc-set, drop-set-lt, length-paste}
use Rattle.higman.specs.Words.{count, child}
use Rattle.words.specs.Packed.{unpack}
use Rattle.columns.specs.Packed.{words_of}
use Rattle.columns.proofs.Limits.{pair_limit}
use Rattle.columns.proofs.Lists.{count_next}
use Rattle.columns.proofs.Splitting.{split_words}
use Rattle.columns.proofs.splits.split.Goals.{After-move_up-parts}
use Rattle.columns.proofs.splits.split.Goals as goal

-- the words that are moved leave the column as long as it was
moved_long : (c : After-move_up-parts) → length c.move_up-parts.result ≡ 128
moved_long c =
    let z = c.before in
    let a = c.args in
    let long : length a.column ≡ 128 = z.well_formed.0.1.0.1 in
    let room : a.place + a.arity + (a.count - (a.place + 1)) ≤ length a.column = omega (arith, pair_limit) in
    let enough : a.count - (a.place + 1) ≤ length (drop (a.place + 1) a.column) = omega (arith, pair_limit, length-drop (a.place + 1) a.column) in
    ap length c.move_up-parts.ensures
    ∙ length-paste a.column (a.place + a.arity) (drop (a.place + 1) a.column) (a.count - (a.place + 1)) room enough
    ∙ long

pub loop-i-init : goal.loop-i-init
loop-i-init c =
    let r = c.move_up-parts.result in
    let place = c.args.place in
    let here : place + 0 ≡ place = omega arith in
    record { long = moved_long c; front = ap (λ k. words_of (take k r)) here ∙ sym (append-nil (words_of (take place r))); back = refl }

pub loop-i-preserved : goal.loop-i-preserved
loop-i-preserved c =
    let a = c.args in
    let parts = c.loop-i.parts in
    let i = c.loop-i.i in
    let w = unpack (get_or a.column a.place 0) in
    let x = c.child.result in
    let here : a.place + i < length parts = omega (arith, pair_limit) in
    let next : a.place + (i + 1) ≡ suc (a.place + i) = omega arith in
    let before = words_of (take a.place c.move_up-parts.result) in
    let digit : 1 + i ≡ i + 1 = omega arith in
    record {
      long = length-set parts (a.place + i) x ∙ c.loop-i.invariant.long;
      front = ap (λ k. words_of (take k (set parts (a.place + i) x))) next
          ∙ ap words_of (take-suc-set parts (a.place + i) x here)
          ∙ map-append unpack (take (a.place + i) parts) (x ∷ [])
          ∙ ap₂ (λ f u. f ++ (u ∷ [])) c.loop-i.invariant.front c.child.ensures
          ∙ append_assoc before (map (child w) (count 1 i)) (child w (i + 1) ∷ [])
          ∙ ap (λ k. before ++ (map (child w) (count 1 i) ++ (child w k ∷ []))) (sym digit)
          ∙ ap (λ l. before ++ l) (sym (map-append (child w) (count 1 i) ((1 + i) ∷ [])))
          ∙ ap (λ l. before ++ map (child w) l) (sym (count_next 1 i) ∙ ap (count 1) (sym (add-one i)));
      back = drop-set-lt (a.place + a.arity) parts (a.place + i) x (omega arith) ∙ c.loop-i.invariant.back;
    }

pub returns : goal.returns
returns c =
    let a = c.args in
    let all : c.loop-i.i ≡ a.arity = omega arith in
    let here : a.place + c.loop-i.i ≡ a.place + a.arity = omega arith in
    let p = c.requires in
    let moved = c.move_up-parts.ensures in
    split_words a.column c.loop-i.parts a.count a.place a.arity p.listed p.some_parts (omega (arith, pair_limit))
    (ap (λ k. words_of (take k c.loop-i.parts)) (sym here)
    ∙ c.loop-i.invariant.front
    ∙ ap₂ (λ r k. words_of (take a.place r) ++ map (child (unpack (get_or a.column a.place 0))) (count 1 k)) moved all)
    (c.loop-i.invariant.back ∙ ap (drop (a.place + a.arity)) moved)
