-- How the code finds what F answers: by the pairs before reduction, whose words all fit or one of which is too long, and by the number
-- of pairs that are left when they are reduced.
use Prim.Native.Nat.{◌+◌, ◌≤◌, ◌<◌}
use mathlib.Core.Path.{◌≡◌, refl, sym, ◌∙◌, ap, subst}
use mathlib.Core.Bool.{Bool, true, false}
use mathlib.Core.List.{List, [], ◌∷◌, ◌++◌, Memᴰ}
use native.Mathlib.Omega.{arith}
use native.Mathlib.Nat.{le_trans}
use lib.Dec.{T, leb, leb→le, le→leb}
use borrow.Author.Tests.{lt-leb}
use lib.ListN.{length, length-append}
use Rattle.higman.specs.Words.{Shape, Word, is_word}
use Rattle.higman.specs.Bases.{all}
use Rattle.higman.specs.Tables.{Pair, Table, froms, tos}
use Rattle.higman.specs.Normal.{keep, compose}
use Rattle.higman.specs.Limits.{Plan, Kept, fits, pair_fits, granted, max_pairs, max_digits}
use Rattle.higman.specs.Answers.{Granted, Refused, LimitBroken, grant, followed}
use Rattle.higman.proofs.Tests.{T_of, and_left, and_right, and_intro, all_at, all_of, test_of_word}
use Rattle.higman.proofs.Columns.{column_of_proper}
use Rattle.higman.proofs.Group.{Member}
use Rattle.higman.proofs.Smallest.{Extended, keep_extended}
use Rattle.higman.proofs.KeptPlans.{arity_of_range, member_of_kept}
use Rattle.higman.proofs.Answers.{grant_of, followed_is}
use Rattle.tables.specs.Spread.{spread}
use Rattle.tables.specs.Reduction.{Reducible}
use Rattle.tables.proofs.Followed.{spread_ordered, spread_length, spread_element, compose_of_spread}
use Rattle.tables.proofs.Wide.{not_granted_of_wide}

-- where a test fails of a list, it fails of one of its elements
failing : {A : Type 0} (f : A → Bool) (l : List A) → all f l ≡ false → (x : A) × Memᴰ x l × (f x ≡ false)
failing f [] e = absurd (subst T e tt)
failing {A = A} f (x ∷ l) e = go (f x) refl e (λ k. failing f l k)
  where
    go : (b : Bool) → f x ≡ b → elim b as (λ _. Bool) [ true ↦ all f l | false ↦ false ] ≡ false
        → (all f l ≡ false → (y : A) × Memᴰ y l × (f y ≡ false)) → (y : A) × Memᴰ y (x ∷ l) × (f y ≡ false)
    go true h k rest = let (y, m, q) = rest k in (y, Memᴰ.tail m, q)
    go false h k rest = (x, Memᴰ.head refl, h)

shorter : (u w x : Word) → w ≡ u ++ x → T (fits w) → T (fits u)
shorter u w x e h =
    le→leb (length u) max_digits (le_trans (omega (arith, length-append u x, ap length e)) (leb→le (length w) max_digits h))

module _ (a b : Plan) (A : Kept a) (B : Kept b) (same : a.shape ≡ b.shape) where
  abbrev s : Shape
  s = a.shape

  abbrev t : Table
  t = spread a.rows b.rows

  n : 1 ≤ s.arity
  n = arity_of_range s A.in_range

  first : Member s a.rows
  first = member_of_kept a A

  second : Member s b.rows
  second = subst (λ u. Member u b.rows) (sym same) (member_of_kept b B)

  pub pairs_before : length t ≤ length a.rows + length b.rows
  pairs_before = spread_length s n a.rows b.rows first second

  pub reducible : Reducible s t
  reducible =
      let E = spread_element s n a.rows b.rows first second in
      record {
        in_order = spread_ordered s n a.rows b.rows first second;
        column = column_of_proper s (froms t) n E.from_proper;
        to_words = all_of (is_word s) (tos t) (λ v m. test_of_word s v (E.to_proper.words v m));
      }

  broken : granted (compose s a.rows b.rows) ≡ false → followed a b ≡ Refused LimitBroken
  broken g = followed_is a b same ∙ rw (g, grant)

  pub too_long : all pair_fits t ≡ false → followed a b ≡ Refused LimitBroken
  too_long e =
      let (r, m, f) = failing pair_fits t e in
      broken (not_granted_of_wide s n a.rows b.rows first second r m A.within B.within f)

  module _ (u : Table) (reduced : u ≡ keep s t) where
    is_composed : u ≡ compose s a.rows b.rows
    is_composed = reduced ∙ sym (compose_of_spread s n a.rows b.rows first second)

    pub too_many : max_pairs < length u → followed a b ≡ Refused LimitBroken
    unfolding granted
    too_many h = broken (subst (λ v. granted v ≡ false) is_composed (rw (lt-leb (length u) max_pairs h)))

    -- reduction shortens words
    fitting : all pair_fits t ≡ true → T (all pair_fits u)
    fitting e =
        let element = spread_element s n a.rows b.rows first second in
        all_of pair_fits u (λ p m. short p (keep_extended s n t element p (subst (Memᴰ p) reduced m)))
      where
        short : (p : Pair) → Extended t p → T (pair_fits p)
        short p (q, x, m, f, g) =
            let h = all_at pair_fits t (T_of e) q m in
            and_intro (fits p.from) (fits p.to) (shorter p.from q.from x f (and_left (fits q.from) (fits q.to) h))
            (shorter p.to q.to x g (and_right (fits q.from) (fits q.to) h))

    pub within_limits : all pair_fits t ≡ true → length u ≤ max_pairs → followed a b ≡ Granted (record { shape = s; rows = u })
    unfolding granted
    within_limits e l =
        followed_is a b same
        ∙ subst (λ v. grant s v ≡ Granted (record { shape = s; rows = u })) is_composed
        (grant_of s u (and_intro (leb (length u) max_pairs) (all pair_fits u) (le→leb (length u) max_pairs l) (fitting e)))
