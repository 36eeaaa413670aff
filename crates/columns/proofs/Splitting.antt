-- A word of a packed column split: the words before it stay, its parts stand in its stead, and the words behind it are moved up.
use Prim.Native.Nat.{ℕ, suc, ◌+◌, ◌-◌, ◌≤◌, ◌<◌}
use mathlib.Core.Path.{◌≡◌, sym, ◌∙◌, ap, ap₂}
use mathlib.Core.List.{List, [], ◌++◌, map-append}
use native.Mathlib.Omega.{arith}
use lib.ListN.{length, get_or, take, drop, length-append, length-drop, get_or-map}
use lib.Seq.{paste, take_at, drop_at, take-append-le, drop-append-le, length-take-le, take-take, take-add, get_or-take}
use Rattle.higman.specs.Words.{children}
use Rattle.higman.specs.Exercises.{expanded_at}
use Rattle.words.specs.Packed.{unpack}
use Rattle.words.proofs.Packing.{unpack_zero}
use Rattle.columns.specs.Packed.{words_of}
use Rattle.columns.specs.Columns.{word_at}
use Rattle.columns.proofs.Lists.{map_take, map_drop, drop_take}

-- the word at a place of a packed column, among the words of its front
pub word_at_lem : (column : List ℕ) (n k : ℕ) → k < n → get_or (words_of (take n column)) k [] ≡ word_at column k
word_at_lem column n k h =
    ap (λ e. get_or (words_of (take n column)) k e) (sym unpack_zero)
    ∙ get_or-map unpack (take n column) k 0
    ∙ ap unpack (get_or-take n column k 0 h)

-- words that are pasted over a column
module _ (column words : List ℕ) (at size : ℕ) (inside : at + size ≤ length column) (enough : size ≤ length words) where
  pasted_front : length (take at column ++ take size words) ≡ at + size
  pasted_front =
      length-append (take at column) (take size words)
      ∙ ap₂ ◌+◌ (length-take-le at column (omega arith)) (length-take-le size words enough)

  pub before_pasted : (k : ℕ) → k ≤ at → take k (paste column at words size) ≡ take k column
  before_pasted k h =
      take-append-le k (take at column ++ take size words) (drop (at + size) column) (omega (arith, pasted_front))
      ∙ take-append-le k (take at column) (take size words) (omega (arith, length-take-le at column (omega arith)))
      ∙ take-take k at column h

  pub behind_pasted : take size (drop at (paste column at words size)) ≡ take size words
  behind_pasted =
      ap (take size)
      (drop-append-le at (take at column ++ take size words) (drop (at + size) column) (omega (arith, pasted_front))
      ∙ ap (λ l. l ++ drop (at + size) column) (drop_at (take at column) (take size words) at (length-take-le at column (omega arith))))
      ∙ take_at (take size words) (drop (at + size) column) size (length-take-le size words enough)

-- the column with the parts of the word at a place in its stead, and the words behind them
module _ (column parts : List ℕ) (words place n : ℕ) (listed : place < words) (some_parts : 1 ≤ n) (room : words + (n - 1) ≤ length column) where
  abbrev moved : List ℕ
  moved = paste column (place + n) (drop (place + 1) column) (words - (place + 1))

  left : ℕ
  left = words - (place + 1)

  pub split_words : words_of (take (place + n) parts) ≡ words_of (take place moved) ++ children n (word_at column place)
      → drop (place + n) parts ≡ drop (place + n) moved
      → words_of (take (words + (n - 1)) parts) ≡ expanded_at n (words_of (take words column)) place
  unfolding left
  split_words front back =
      let size : words + (n - 1) ≡ (place + n) + left = omega arith in
      let fits : (place + n) + left ≤ length column = omega arith in
      let enough : left ≤ length (drop (place + 1) column) = omega (arith, length-drop (place + 1) column) in
      let next : place + 1 ≡ suc place = omega arith in
      let before : words_of (take place moved) ≡ take place (words_of (take words column)) =
      ap words_of (before_pasted column (drop (place + 1) column) (place + n) left fits enough place (omega arith))
      ∙ ap words_of (sym (take-take place words column (omega arith)))
      ∙ map_take unpack place (take words column) in
      let behind : words_of (take left (drop (place + n) parts)) ≡ drop (suc place) (words_of (take words column)) =
      ap (λ l. words_of (take left l)) back
      ∙ ap words_of (behind_pasted column (drop (place + 1) column) (place + n) left fits enough)
      ∙ ap words_of (sym (drop_take (place + 1) words column))
      ∙ map_drop unpack (place + 1) (take words column)
      ∙ ap (λ k. drop k (words_of (take words column))) next in
      ap (λ k. words_of (take k parts)) size
      ∙ ap words_of (take-add (place + n) left parts)
      ∙ map-append unpack (take (place + n) parts) (take left (drop (place + n) parts))
      ∙ ap₂ ◌++◌ (front ∙ ap₂ (λ f w. f ++ children n w) before (sym (word_at_lem column words place listed))) behind
