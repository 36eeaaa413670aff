-- `columns::splits::root_words` meets its contract.
use Prim.Native.Nat.{◌+◌}
use mathlib.Core.Path.{◌≡◌, sym, ◌∙◌, ap, ap₂}
use mathlib.Core.List.{[], ◌∷◌, ◌++◌, map, map-append}
use native.Mathlib.Numerals.{add-one}
use native.Mathlib.Omega.{arith}
use lib.ListN.{take, set, length-set}
use lib.Seq.{take-suc-set}
use Rattle.higman.specs.Words.{count, child}
use Rattle.words.specs.Packed.{unpack}
use Rattle.words.proofs.Packing.{unpack_zero}
use Rattle.columns.specs.Packed.{words_of}
use Rattle.columns.proofs.Lists.{count_next}
use Rattle.columns.proofs.splits.root_words.Goals as goal

pub loop-i-preserved : goal.loop-i-preserved
loop-i-preserved c =
    let column = c.loop-i.column in
    let i = c.loop-i.i in
    let x = c.child.result in
    let belt : unpack x ≡ (1 + i) ∷ [] =
    c.child.ensures ∙ ap₂ child unpack_zero (let next : i + 1 ≡ 1 + i = omega arith in next) in
    record {
      long = length-set column i x ∙ c.loop-i.invariant.long;
      first_roots = ap (λ k. words_of (take k (set column i x))) (add-one i)
          ∙ ap words_of (take-suc-set column i x (omega arith))
          ∙ map-append unpack (take i column) (x ∷ [])
          ∙ ap₂ (λ f u. f ++ (u ∷ [])) c.loop-i.invariant.first_roots belt
          ∙ sym (map-append (λ a. a ∷ []) (count 1 i) ((1 + i) ∷ []))
          ∙ ap (map (λ a. a ∷ [])) (sym (count_next 1 i) ∙ ap (count 1) (sym (add-one i)));
    }
