-- Of two columns the one whose words each begin with a word of the other has no fewer words. And a table with bases for columns is no
-- smaller than its normal form: each pair of this is extended by a pair of the table, and different ones by different ones. So what keeps
-- the limits still does when it is reduced.
use Prim.Native.Nat.{ℕ, suc, ◌≤◌, ◌<◌, zero-le, suc-le-suc}
use mathlib.Core.Path.{◌≡◌, refl, sym, ◌∙◌, ap, subst, subst₂}
use mathlib.Core.Logic.{◌⊎◌, inl, inr}
use mathlib.Core.List.Memᴰ
use mathlib.Core.List.{List, [], ◌∷◌, ◌++◌, append_assoc, Permᴰ}
use mathlib.Core.List.{Memᴰ}
use mathlib.Core.Option.{some-injective}
use native.Mathlib.Nat.{le_trans}
use native.Mathlib.Omega.{arith}
use lib.Dec.{T, leb, leb→le, le→leb}
use lib.ListN.{length, length-append, length-map}
use Rattle.higman.specs.Words.{Shape, Word}
use Rattle.higman.specs.Bases.{all, longest}
use Rattle.higman.specs.Tables.{Pair, Table, froms, image}
use Rattle.higman.specs.Normal.{keep}
use Rattle.higman.specs.Limits.{max_pairs, max_digits, fits, pair_fits, granted}
use Rattle.higman.proofs.Tests.{IsWord, and_left, and_right, and_intro, all_at, all_of, pair_path}
use Rattle.higman.proofs.Prefixes.{comparable, word_append, ones, ones_ways, ones_length}
use Rattle.higman.proofs.Proper.{Apart, Proper}
use Rattle.higman.proofs.Images.{row_of_image, image_of_row, image_of_from}
use Rattle.higman.proofs.Expansions.{Begun, mem_of_perm, length_of_perm, perm_of_mem, same_of_apart}
use Rattle.higman.proofs.Columns.{Comparable, comparable_of_proper}
use Rattle.higman.proofs.Actions.{Action}
use Rattle.higman.proofs.Elements.{Element, element_action, word_length}
use Rattle.higman.proofs.Group.{Member, keep_acts, keep_member}

-- a column each of whose words is extended by a word of another column has no more words than that
length_le_of_extended : (c e : List Word) → Apart c → ((u : Word) → Memᴰ u c → (w : Word) × (x : Word) × Memᴰ w e × (w ≡ u ++ x)) → length c ≤ length e
length_le_of_extended [] e a h = zero-le
length_le_of_extended (u ∷ c) e a h =
    let (w, x, m, p) = h u (Memᴰ.head refl) in
    let (k, l) = perm_of_mem m in
    subst (λ j. suc (length c) ≤ j) (sym (length_of_perm l)) (suc-le-suc (length_le_of_extended c k a.1 (λ v q. others w x p k l v q (h v (Memᴰ.tail q)))))
  where
    -- one word does not extend two words that are apart
    once : (w x v y : Word) → Memᴰ v c → w ≡ u ++ x → w ≡ v ++ y → ⊥
    once w x v y q p r = go (comparable u v x y (sym p ∙ r))
      where
        go : ((z : Word) × (v ≡ u ++ z)) ⊎ ((z : Word) × (u ≡ v ++ z)) → ⊥
        go (inl (z, f)) = (a.0 v q z).0 f
        go (inr (z, f)) = (a.0 v q z).1 f

    others : (w x : Word) → w ≡ u ++ x → (k : List Word) → Permᴰ e (w ∷ k) → (v : Word) → Memᴰ v c
        → (w' : Word) × (y : Word) × Memᴰ w' e × (w' ≡ v ++ y) → (w' : Word) × (y : Word) × Memᴰ w' k × (w' ≡ v ++ y)
    others w x p k l v q (w', y, m, r) = go (Memᴰ.cases_cons (mem_of_perm l m))
      where
        go : (w' ≡ w) ⊎ Memᴰ w' k → (w'' : Word) × (y : Word) × Memᴰ w'' k × (w'' ≡ v ++ y)
        go (inl f) = absurd (once w x v y q p (sym f ∙ r))
        go (inr g) = (w', y, g, r)

-- c has no more words than e where the words of e each begin with a word of c: each word of c goes on in one of e
pub length_le_of_begun : (s : Shape) (c e : List Word) → 1 ≤ s.arity → Proper s c → Proper s e
    → ((w : Word) → Memᴰ w e → Begun c w) → length c ≤ length e
length_le_of_begun s c e n C E begun = length_le_of_extended c e C.apart extended
  where
    extended : (u : Word) → Memᴰ u c → (w : Word) × (x : Word) × Memᴰ w e × (w ≡ u ++ x)
    extended u m =
        let (w, l, h) = comparable_of_proper s e n E u (C.words u m) in
        let (x, f) = below w h (begun w l) in
        (w, x, l, f)
      where
        below : (w : Word) → Comparable u w → Begun c w → (x : Word) × (w ≡ u ++ x)
        below w (inl h) b = h
        -- u goes on behind w, and w behind a word v of c: v and u are one word, and so is w, which is between them
        below w (inr (z, f)) (v, x, k, g) =
            (x, g ∙ ap (λ y. y ++ x) (same_of_apart c C.apart v u (x ++ z) k m (f ∙ ap (λ y. y ++ z) g ∙ append_assoc v x z)))

-- a table has as many pairs as from-words
pub length_le_of_froms : (a t : Table) → length (froms a) ≤ length (froms t) → length a ≤ length t
length_le_of_froms a t h = subst₂ (λ i j. i ≤ j) (length-map a (λ p. p.from)) (length-map t (λ p. p.from)) h

-- the pair of a table that extends a pair of its normal form, by the same tail in both columns
abbrev pub Extended : Table → Pair → Type 0
Extended t p = (q : Pair) × (x : Word) × Memᴰ q t × (q.from ≡ p.from ++ x) × (q.to ≡ p.to ++ x)

-- two pairs of a table that begin one word are one pair
pub one_row : (t : Table) → Apart (froms t) → (p q : Pair) → Memᴰ p t → Memᴰ q t → (x y : Word) → p.from ++ x ≡ q.from ++ y
    → p ≡ q
one_row t a p q m k x y e = same_pair_lem (same_from_lem (comparable p.from q.from x y e))
  where
    same_from_lem : ((z : Word) × (q.from ≡ p.from ++ z)) ⊎ ((z : Word) × (p.from ≡ q.from ++ z)) → p.from ≡ q.from
    same_from_lem (inl (z, f)) = same_of_apart (froms t) a p.from q.from z (Memᴰ.map (λ r. r.from) m) (Memᴰ.map (λ r. r.from) k) f
    same_from_lem (inr (z, f)) =
        sym (same_of_apart (froms t) a q.from p.from z (Memᴰ.map (λ r. r.from) k) (Memᴰ.map (λ r. r.from) m) f)

    same_pair_lem : p.from ≡ q.from → p ≡ q
    same_pair_lem f = pair_path f (some-injective _ _ (sym (image_of_from t a p m) ∙ ap (image t) f ∙ image_of_from t a q k))

module _ (s : Shape) (n : 1 ≤ s.arity) where
  -- Each pair of the normal form is extended by a pair of the table.
  pub keep_extended : (t : Table) → Element s t → (p : Pair) → Memᴰ p (keep s t) → Extended t p
  keep_extended t E p m =
      let (v, e) = F.total (p.from ++ ones k) (word_append s p.from (ones k) from_word (ones_ways s.arity k n)) long in
      let (q, z, l, f, g) = row_of_image t (p.from ++ ones k) v e in
      beneath q z l f
    where
      K : Member s (keep s t)
      K = keep_member s n t E

      k : ℕ
      k = longest (froms t)

      F : Action s (image t)
      F = (element_action s t n E).0

      from_word : IsWord s p.from
      from_word = K.element.from_proper.words p.from (Memᴰ.map (λ r. r.from) m)

      long : F.depth < length (p.from ++ ones k)
      long = omega (arith, length-append p.from (ones k), ones_length k, word_length s p.from from_word, (element_action s t n E).1)

      -- the pair q of the table goes on below a pair of the normal form, and that is p
      beneath : (q : Pair) (z : Word) → Memᴰ q t → p.from ++ ones k ≡ q.from ++ z → Extended t p
      beneath q z l f =
          let y' = E.from_proper.words q.from (Memᴰ.map (λ r. r.from) l) in
          let e = keep_acts s n t E q.from q.to y' (image_of_from t E.from_proper.apart q l) in
          let (r, y, h, f', g') = row_of_image (keep s t) q.from q.to e in
          let same = sym (one_row (keep s t) K.element.from_proper.apart p r m h (ones k) (y ++ z)
          (f ∙ ap (λ w. w ++ z) f' ∙ append_assoc r.from y z)) in
          (q, y, l, f' ∙ ap (λ r. r.from ++ y) same, g' ∙ ap (λ r. r.to ++ y) same)

  pub keep_length : (t : Table) → Element s t → length (keep s t) ≤ length t
  keep_length t E =
      length_le_of_froms (keep s t) t
      (length_le_of_extended (froms (keep s t)) (froms t) (keep_member s n t E).element.from_proper.apart (λ u m. at u m))
    where
      at : (u : Word) → Memᴰ u (froms (keep s t)) → (w : Word) × (x : Word) × Memᴰ w (froms t) × (w ≡ u ++ x)
      at u m =
          let (p, l, e) = Memᴰ.of_map (λ r. r.from) (keep s t) m in
          let (q, x, k, f, g) = keep_extended t E p l in
          (q.from, x, Memᴰ.map (λ r. r.from) k, f ∙ ap (λ w. w ++ x) e)

  -- What keeps the limits still does when it is reduced.
  pub keep_granted : (t : Table) → Element s t → T (granted t) → T (granted (keep s t))
  unfolding granted
  keep_granted t E g =
      let few = leb→le (length t) max_pairs (and_left (leb (length t) max_pairs) (all pair_fits t) g) in
      and_intro (leb (length (keep s t)) max_pairs) (all pair_fits (keep s t))
      (le→leb (length (keep s t)) max_pairs (le_trans (keep_length t E) few))
      (all_of pair_fits (keep s t) (λ p m. short p (keep_extended t E p m)))
    where
      shorter : (u w x : Word) → w ≡ u ++ x → T (fits w) → T (fits u)
      shorter u w x e h = le→leb (length u) max_digits (le_trans (omega (arith, length-append u x, ap length e)) (leb→le (length w) max_digits h))

      short : (p : Pair) → Extended t p → T (pair_fits p)
      short p (q, x, m, f, g') =
          let h = all_at pair_fits t (and_right (leb (length t) max_pairs) (all pair_fits t) g) q m in
          and_intro (fits p.from) (fits p.to) (shorter p.from q.from x f (and_left (fits q.from) (fits q.to) h)) (shorter p.to q.to x g' (and_right (fits q.from) (fits q.to) h))
