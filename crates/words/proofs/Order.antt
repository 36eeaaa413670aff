-- The order by the first digit that differs, on packed words: cut to the same number of digits, the numbers are in the order of
-- the words.
use Prim.Native.Nat.{ℕ, ◌+◌, ◌*◌, ◌-◌, ◌/◌, ◌^◌, ◌≤◌, ◌<◌}
use mathlib.Core.Path.{◌≡◌, refl, sym, ◌∙◌, ap, ap₂, subst}
use mathlib.Core.Logic.{◌⊎◌, inl, inr}
use mathlib.Core.Bool.{true, false, ◌&&◌, ◌||◌, or-false}
use mathlib.Core.List.{[], ◌∷◌, ◌++◌}
use native.Mathlib.Omega.{arith}
use lib.Arith.{digits_lt}
use lib.Dec.{leb, ltb, eqb}
use lib.ListN.{length}
use borrow.Author.Tests.{lt-ltb, le-ltb, le-leb, lt-leb, ltb-true, ltb-false, eqb-true, eqb-false}
use Rattle.higman.specs.Words.{Word, begins}
use Rattle.higman.specs.Normal.{before}
use Rattle.higman.proofs.Tests.{passes}
use Rattle.words.specs.Packed.{pack, unpack}
use Rattle.words.proofs.Packing.{pack_empty, pack_unpack}
use Rattle.words.proofs.Sizes.{unpack_front}
use Rattle.words.proofs.Bounds.{Nibbles, unpack_nibbles, pack_cons, pack_below}
use Rattle.words.proofs.Prefixes.{front_length, begins_longer, begins_shifted}

-- what stands before the digits that differ does not matter
ltb_behind : (n x y : ℕ) → ltb (n + x) (n + y) ≡ ltb x y
ltb_behind n x y = go (passes (ltb x y))
  where
    go : (ltb x y ≡ true) ⊎ (ltb x y ≡ false) → ltb (n + x) (n + y) ≡ ltb x y
    go (inl t) = lt-ltb (n + x) (n + y) (omega (arith, ltb-true x y t)) ∙ sym t
    go (inr f) = le-ltb (n + x) (n + y) (omega (arith, ltb-false x y f)) ∙ sym f

before_same_length : (u v : Word) → length u ≡ length v → Nibbles u → Nibbles v → before u v ≡ ltb (pack u) (pack v)
before_same_length [] [] l h k = sym (ap₂ ltb pack_empty pack_empty)
before_same_length [] (b ∷ v) l h k = absurd (omega arith)
before_same_length (a ∷ u) [] l h k = absurd (omega arith)
before_same_length (a ∷ u) (b ∷ v) l h k =
    go (passes (ltb a b)) (passes (eqb a b)) (before_same_length u v (omega arith) h.1 k.1) ∙ sym (ap₂ ltb (pack_cons a u) right)
  where
    B : ℕ
    B = 16 ^ length u

    right : pack (b ∷ v) ≡ b * B + pack v
    right = pack_cons b v ∙ ap (λ n. b * 16 ^ n + pack v) (omega arith)

    pu : pack u < B
    pu = pack_below u h.1

    pv : pack v < B
    pv = subst (λ n. pack v < 16 ^ n) (omega arith) (pack_below v k.1)

    go : (ltb a b ≡ true) ⊎ (ltb a b ≡ false) → (eqb a b ≡ true) ⊎ (eqb a b ≡ false) → before u v ≡ ltb (pack u) (pack v) → (ltb a b || (eqb a b && before u v)) ≡ ltb (a * B + pack u) (b * B + pack v)
    go (inl t) e rest =
        ap (λ s. s || (eqb a b && before u v)) t ∙ sym (lt-ltb (a * B + pack u) (b * B + pack v) (omega (arith, digits_lt {q = a} {m = b} {r = pack u} {c = B} (ltb-true a b t) pu)))
    go (inr f) (inl e) rest =
        ap₂ (λ s r. s || (r && before u v)) f e ∙ rest ∙ sym (ltb_behind (a * B) (pack u) (pack v)) ∙ ap (λ n. ltb (a * B + pack u) (n * B + pack v)) (eqb-true a b e)
    go (inr f) (inr n) rest =
        let d : b < a = omega (arith, ltb-false a b f, eqb-false a b n) in
        ap₂ (λ s r. s || (r && before u v)) f n ∙ sym (le-ltb (a * B + pack u) (b * B + pack v) (omega (arith, digits_lt {q = b} {m = a} {r = pack v} {c = B} d pv)))

-- digits past the end of the other word do not matter
before_front : (u v x : Word) → length u ≤ length v → before u (v ++ x) ≡ before u v
before_front [] v x h = refl
before_front (a ∷ u) [] x h = absurd (omega arith)
before_front (a ∷ u) (b ∷ v) x h = ap (λ t. ltb a b || (eqb a b && t)) (before_front u v x (omega arith))

front_before : (u x v : Word) → length v ≤ length u → before (u ++ x) v ≡ before u v
front_before [] [] v h = refl
front_before [] (a ∷ x) [] h = refl
front_before [] (a ∷ x) (b ∷ v) h = absurd (omega arith)
front_before (a ∷ u) x [] h = refl
front_before (a ∷ u) x (b ∷ v) h = ap (λ t. ltb a b || (eqb a b && t)) (front_before u x v (omega arith))

module _ (u v : ℕ) where
  same_size : length (unpack u) ≡ length (unpack v) → before (unpack u) (unpack v) ≡ ltb u v
  same_size l =
      before_same_length (unpack u) (unpack v) l (unpack_nibbles u) (unpack_nibbles v) ∙ ap₂ ltb (pack_unpack u) (pack_unpack v)

pub before_longer : (u v : ℕ) → length (unpack u) ≤ length (unpack v) → before (unpack u) (unpack v) ≡ ltb u (v / 16 ^ (length (unpack v) - length (unpack u)))
before_longer u v h =
    let k : ℕ = length (unpack v) - length (unpack u) in
    let f = unpack_front k v (omega arith) in
    let l : length (unpack u) ≡ length (unpack (v / 16 ^ k)) = omega (arith, front_length k v (omega arith)) in
    ap (before (unpack u)) f.1 ∙ before_front (unpack u) (unpack (v / 16 ^ k)) f.0 (omega arith) ∙ same_size u (v / 16 ^ k) l

pub before_shorter : (u v : ℕ) → length (unpack v) ≤ length (unpack u) → before (unpack u) (unpack v) ≡ ltb (u / 16 ^ (length (unpack u) - length (unpack v))) v
before_shorter u v h =
    let k : ℕ = length (unpack u) - length (unpack v) in
    let f = unpack_front k u (omega arith) in
    let l : length (unpack (u / 16 ^ k)) ≡ length (unpack v) = omega (arith, front_length k u (omega arith)) in
    ap (λ w. before w (unpack v)) f.1 ∙ front_before (unpack (u / 16 ^ k)) f.0 (unpack v) (omega arith) ∙ same_size (u / 16 ^ k) v l

-- before a word or at its beginning: of the same length, at most the number
leb_or : (x y : ℕ) → (ltb x y || eqb y x) ≡ leb x y
leb_or x y = go (passes (ltb x y)) (passes (eqb y x))
  where
    go : (ltb x y ≡ true) ⊎ (ltb x y ≡ false) → (eqb y x ≡ true) ⊎ (eqb y x ≡ false) → (ltb x y || eqb y x) ≡ leb x y
    go (inl t) e = ap (λ s. s || eqb y x) t ∙ sym (le-leb x y (omega (arith, ltb-true x y t)))
    go (inr f) (inl e) = ap₂ ◌||◌ f e ∙ sym (le-leb x y (omega (arith, eqb-true y x e)))
    go (inr f) (inr n) = ap₂ ◌||◌ f n ∙ sym (lt-leb x y (omega (arith, ltb-false x y f, eqb-false y x n)))

pub in_order_longer : (u v : ℕ) → length (unpack u) ≤ length (unpack v) → (before (unpack u) (unpack v) || begins (unpack u) (unpack v)) ≡ leb u (v / 16 ^ (length (unpack v) - length (unpack u)))
in_order_longer u v h =
    ap₂ ◌||◌ (before_longer u v h) (sym (begins_shifted u v h)) ∙ leb_or u (v / 16 ^ (length (unpack v) - length (unpack u)))

pub in_order_shorter : (u v : ℕ) → length (unpack v) < length (unpack u) → (before (unpack u) (unpack v) || begins (unpack u) (unpack v)) ≡ ltb (u / 16 ^ (length (unpack u) - length (unpack v))) v
in_order_shorter u v h =
    ap₂ ◌||◌ (before_shorter u v (omega arith)) (begins_longer (unpack u) (unpack v) h)
    ∙ or-false (ltb (u / 16 ^ (length (unpack u) - length (unpack v))) v)
