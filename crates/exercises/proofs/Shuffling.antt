-- Two words of a packed column exchanged, and one step of the shuffle.
use Prim.Native.Nat.{ℕ, zero, suc, ◌+◌, ◌-◌, ◌%◌, ◌<◌, ◌≤◌}
use mathlib.Core.Path.{◌≡◌, sym, ◌∙◌, ap, ap₂, subst}
use mathlib.Core.List.{List}
use native.Mathlib.Nat.{mod-lt}
use native.Mathlib.Omega.{arith}
use lib.Dec.{T}
use lib.ListN.{length, get_or, take, set}
use lib.Seq.{take-set-lt}
use Rattle.std.specs.List.{swap}
use Rattle.std.proofs.lemmas.List.Edits.{swap_is}
use Rattle.higman.specs.Words.{Word}
use Rattle.higman.specs.Limits.{seed_in_range}
use Rattle.higman.specs.Exercises.{next_draw, exchanged, shuffled}
use Rattle.higman.proofs.Draws.{seed_of_test, test_of_seed, next_seed}
use Rattle.words.specs.Packed.{unpack}
use Rattle.columns.specs.Packed.{words_of}
use Rattle.columns.proofs.Lists.{map_set}
use Rattle.columns.proofs.Splitting.{word_at_lem}

-- a draw is a seed again
pub next_in_range : (x y : ℕ) → y ≡ next_draw x → T (seed_in_range x) → T (seed_in_range y)
next_in_range x y e h = subst (λ z. T (seed_in_range z)) (sym e) (test_of_seed (next_draw x) (next_seed x (seed_of_test x h)))

exchanged_words : (column : List ℕ) (n i j : ℕ) → i < n → j < n
    → words_of (take n (set (set column i (get_or column j 0)) j (get_or column i 0))) ≡ exchanged (words_of (take n column)) i j
exchanged_words column n i j h k =
    let x = get_or column j 0 in
    let y = get_or column i 0 in
    ap words_of (take-set-lt n (set column i x) j y k ∙ ap (λ l. set l j y) (take-set-lt n column i x h))
    ∙ map_set unpack (set (take n column) i x) j y
    ∙ ap (λ l. set l j (unpack y)) (map_set unpack (take n column) i x)
    ∙ ap₂ (λ v w. set (set (words_of (take n column)) i v) j w) (sym (word_at_lem column n j k)) (sym (word_at_lem column n i h))

-- the first swap, and the others
shuffled_step : (x y : ℕ) (c : List Word) (i : ℕ) → 0 < i → y ≡ next_draw x
    → shuffled x c i ≡ shuffled y (exchanged c i (y % (i + 1))) (i - 1)
unfolding shuffled
shuffled_step x y c zero h e = absurd (omega arith)
shuffled_step x y c (suc i) h e =
    let lower : i ≡ suc i - 1 = omega arith in
    ap₂ (λ z k. shuffled z (exchanged c (suc i) (z % (suc i + 1))) k) (sym e) lower

-- what is left to shuffle after the swap of a place, in a packed column
pub shuffled_swap : (x y : ℕ) (column swapped : List ℕ) (n i : ℕ) → 0 < i → i < n → n ≤ length column → y ≡ next_draw x
    → swapped ≡ swap column i (y % (i + 1)) → shuffled y (words_of (take n swapped)) (i - 1) ≡ shuffled x (words_of (take n column)) i
shuffled_swap x y column swapped n i some inside room e after =
    let j = y % (i + 1) in
    let below : j < i + 1 = mod-lt y (omega arith) in
    let exchanges = swap_is column i j 0 (omega arith) (omega arith) in
    ap (λ l. shuffled y (words_of (take n l)) (i - 1)) (after ∙ sym exchanges)
    ∙ ap (λ c. shuffled y c (i - 1)) (exchanged_words column n i j inside (omega arith))
    ∙ sym (shuffled_step x y (words_of (take n column)) i some e)

-- none is left
pub shuffled_end : (x : ℕ) (c : List Word) (i : ℕ) → i ≤ 0 → c ≡ shuffled x c i
unfolding shuffled
shuffled_end x c i h = let e : 0 ≡ i = omega arith in ap (shuffled x c) e
