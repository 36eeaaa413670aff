-- A table that is made as change request E3 says is the only one: the place of each split is drawn, and so is that of each swap.
use Prim.Native.Nat.{ℕ, suc, ◌+◌, ◌%◌}
use mathlib.Core.Path.{◌≡◌, refl, sym, ◌∙◌, ap, ap₂, subst₂, subst}
use mathlib.Core.Logic.{◌⊎◌, inl, inr}
use mathlib.Core.Bool.{true, false}
use mathlib.Core.List.{List, [], ◌∷◌, ◌++◌}
use native.Mathlib.Omega.{arith}
use borrow.Author.Tests.{eqb-true, eqb-false}
use lib.Dec.{eqb}
use lib.ListN.{length, get_or, take, drop}
use lib.Seq.{take_at, drop_at, ext_get_or}
use Rattle.higman.specs.Words.{Shape, Word, children}
use Rattle.higman.specs.Tables.{Table, froms, tos}
use Rattle.higman.specs.Exercises.{draw_after, Splits, no_split, split, Swapped, Shuffle, no_swap, swap, ExerciseMade}
use Rattle.higman.proofs.Tests.{passes}

-- lists that are equal, with fronts of one length
same_fronts : (a a' b b' : List Word) → a ++ b ≡ a' ++ b' → length a ≡ length a' → (a ≡ a') × (b ≡ b')
same_fronts a a' b b' e l =
    let n = length a' in
    (sym (take_at a b n l) ∙ ap (take n) e ∙ take_at a' b' n refl, sym (drop_at a b n l) ∙ ap (drop n) e ∙ drop_at a' b' n refl)

splits_fixed : {n x k y x' k' y' : ℕ} {c e c' e' : List Word} → Splits n x c k y e → Splits n x' c' k' y' e' → x ≡ x' → c ≡ c' → k ≡ k'
    → (y ≡ y') × (e ≡ e')
splits_fixed no_split no_split p q r = (p, q)
splits_fixed no_split (split front w back o l rest) p q r = absurd (omega arith)
splits_fixed (split front w back o l rest) no_split p q r = absurd (omega arith)
splits_fixed {n} (split front w back o l rest) (split front' w' back' o' l' rest') p q r =
    let here : length front ≡ length front' = l ∙ ap₂ (λ z d. draw_after z % length d) p q ∙ sym l' in
    let (before, behind) = same_fronts front front' (w ∷ back) (w' ∷ back') q here in
    let word : w ≡ w' = cc in
    let others : back ≡ back' = cc in
    let column = ap₂ ◌++◌ (ap₂ (λ f u. f ++ children n u) before word) others in
    splits_fixed rest rest' (ap draw_after p) column (omega arith)

swapped_fixed : (i j : ℕ) (c e e' : List Word) → Swapped i j c e → Swapped i j c e' → e ≡ e'
swapped_fixed i j c e e' s s' = ext_get_or [] e e' (s.long ∙ sym s'.long) (λ k h. at_first k (passes (eqb k i)))
  where
    at_second : (k : ℕ) → (k ≡ i → ⊥) → (eqb k j ≡ true) ⊎ (eqb k j ≡ false) → get_or e k [] ≡ get_or e' k []
    at_second k f (inl t) = subst (λ m. get_or e m [] ≡ get_or e' m []) (sym (eqb-true k j t)) (s.there ∙ sym s'.there)
    at_second k f (inr t) = s.elsewhere k f (eqb-false k j t) ∙ sym (s'.elsewhere k f (eqb-false k j t))

    at_first : (k : ℕ) → (eqb k i ≡ true) ⊎ (eqb k i ≡ false) → get_or e k [] ≡ get_or e' k []
    at_first k (inl t) = subst (λ m. get_or e m [] ≡ get_or e' m []) (sym (eqb-true k i t)) (s.here ∙ sym s'.here)
    at_first k (inr t) = at_second k (eqb-false k i t) (passes (eqb k j))

shuffle_fixed : {x i x' i' : ℕ} {c e c' e' : List Word} → Shuffle x c i e → Shuffle x' c' i' e' → x ≡ x' → c ≡ c' → i ≡ i' → e ≡ e'
shuffle_fixed no_swap no_swap p q r = q
shuffle_fixed no_swap (swap s rest) p q r = absurd (omega arith)
shuffle_fixed (swap s rest) no_swap p q r = absurd (omega arith)
shuffle_fixed {x} {x' = x'} {c = c} {c' = c'} (swap {i = i} {e = d} s rest) (swap {i = i'} {e = d'} s' rest') p q r =
    let lower : i ≡ i' = omega arith in
    let same : Swapped (suc i) (draw_after x % (suc i + 1)) c d' =
    subst₂ (λ z b. Swapped (suc i) (draw_after z % (suc i + 1)) b d') (sym p) (sym q)
    (subst (λ m. Swapped (suc m) (draw_after x' % (suc m + 1)) c' d') (sym lower) s') in
    shuffle_fixed rest rest' (ap draw_after p) (swapped_fixed (suc i) (draw_after x % (suc i + 1)) c d d' s same) lower

-- a table is known by its columns
known_by_columns : (t u : Table) → froms t ≡ froms u → tos t ≡ tos u → t ≡ u
known_by_columns [] [] f g = refl
known_by_columns [] (q ∷ u) f g = absurd (omega (arith, ap length f))
known_by_columns (p ∷ t) [] f g = absurd (omega (arith, ap length f))
known_by_columns (p ∷ t) (q ∷ u) f g =
    let from : p.from ≡ q.from = cc in
    let to : p.to ≡ q.to = cc in
    let froms_left : froms t ≡ froms u = cc in
    let tos_left : tos t ≡ tos u = cc in
    ap₂ ◌∷◌ (ap₂ (λ x y. record { from = x; to = y }) from to) (known_by_columns t u froms_left tos_left)

pub determined : (s : Shape) (k seed : ℕ) (t u : Table) → ExerciseMade s k seed t → ExerciseMade s k seed u → t ≡ u
determined s k seed t u m o =
    let (from_draw, from) = splits_fixed m.from_column_lem o.from_column_lem refl refl refl in
    let (to_draw, words) = splits_fixed m.to_column_lem o.to_column_lem from_draw refl refl in
    known_by_columns t u from (shuffle_fixed m.shuffle o.shuffle to_draw words (omega (arith, ap length words)))
