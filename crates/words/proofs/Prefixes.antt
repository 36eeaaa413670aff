-- Prefixes of packed words: one word begins another if it is left when the digits behind it are shifted off, and the tail is what
-- is left when the prefix, shifted, is taken off.
use Prim.Native.Nat.{ℕ, ◌+◌, ◌*◌, ◌-◌, ◌/◌, ◌^◌, ◌≤◌, ◌<◌}
use mathlib.Core.Path.{◌≡◌, refl, sym, ◌∙◌, ap, ap₂, subst}
use mathlib.Core.Logic.{◌⊎◌, inl, inr}
use mathlib.Core.Bool.{true, false}
use mathlib.Core.List.{[], ◌∷◌, ◌++◌, head-eq_of_cons-eq, tail-eq_of_cons-eq}
use mathlib.Core.Option.{some}
use native.Mathlib.Omega.{arith}
use lib.Dec.{eqb}
use lib.ListN.{length, length-append}
use borrow.Author.Tests.{eqb-true, eqb-false}
use Rattle.higman.specs.Words.{Word, after, begins}
use Rattle.higman.proofs.Tests.{passes, Ways}
use Rattle.higman.proofs.Prefixes.{after_append, begins_append, tail_of_begins, ways_right}
use Rattle.words.specs.Packed.{pack, unpack}
use Rattle.words.proofs.Packing.{pack_unpack, unpack_injective}
use Rattle.words.proofs.Sizes.{pack_append, unpack_front}

-- prefixes of one word that are equally long are the same
same_front : (u v x y : Word) → length u ≡ length v → u ++ x ≡ v ++ y → u ≡ v
same_front [] [] x y l e = refl
same_front [] (b ∷ v) x y l e = absurd (omega arith)
same_front (a ∷ u) [] x y l e = absurd (omega arith)
same_front (a ∷ u) (b ∷ v) x y l e =
    ap₂ ◌∷◌ (head-eq_of_cons-eq e) (same_front u v x y (omega arith) (tail-eq_of_cons-eq e))

pub begins_longer : (p w : Word) → length w < length p → begins p w ≡ false
begins_longer p w h = go (passes (begins p w))
  where
    go : (begins p w ≡ true) ⊎ (begins p w ≡ false) → begins p w ≡ false
    go (inl t) = let r = tail_of_begins p w t in absurd (omega (arith, ap length r.1, length-append p r.0))
    go (inr f) = f

-- the digits before the last k, and how many they are
pub front_length : (k x : ℕ) → k ≤ length (unpack x) → length (unpack (x / 16 ^ k)) + k ≡ length (unpack x)
front_length k x h =
    let f = unpack_front k x h in
    omega (arith, ap length f.1, length-append (unpack (x / 16 ^ k)) f.0, f.2)

pub begins_shifted : (p w : ℕ) → length (unpack p) ≤ length (unpack w) → eqb (w / 16 ^ (length (unpack w) - length (unpack p))) p ≡ begins (unpack p) (unpack w)
begins_shifted p w h = go (passes (eqb q p)) (passes (begins (unpack p) (unpack w)))
  where
    q : ℕ
    q = w / 16 ^ (length (unpack w) - length (unpack p))

    f : (y : Word) × (unpack w ≡ unpack q ++ y) × (length y ≡ length (unpack w) - length (unpack p))
    f = unpack_front (length (unpack w) - length (unpack p)) w (omega arith)

    long : length (unpack q) ≡ length (unpack p)
    long = omega (arith, front_length (length (unpack w) - length (unpack p)) w (omega arith))

    go : (eqb q p ≡ true) ⊎ (eqb q p ≡ false) → (begins (unpack p) (unpack w) ≡ true) ⊎ (begins (unpack p) (unpack w) ≡ false) → eqb q p ≡ begins (unpack p) (unpack w)
    go (inl t) b =
        let e : unpack w ≡ unpack p ++ f.0 = f.1 ∙ ap (λ x. unpack x ++ f.0) (eqb-true q p t) in
        t ∙ sym (ap (begins (unpack p)) e ∙ begins_append (unpack p) f.0)
    go (inr n) (inl t) =
        let r = tail_of_begins (unpack p) (unpack w) t in
        absurd (eqb-false q p n (unpack_injective q p (same_front (unpack q) (unpack p) f.0 r.0 long (sym f.1 ∙ r.1))))
    go (inr n) (inr k) = n ∙ sym k

-- what stands behind a prefix, as a word and as a number
pub record Tail (p w : ℕ) : Type 0 where
  pub tail : Word
  pub ways : Ways 15 tail
  pub behind : after (unpack p) (unpack w) ≡ some tail
  pub long : length (unpack p) + length tail ≡ length (unpack w)
  pub number : w ≡ p * 16 ^ length tail + pack tail

pub tail_of : (p w : ℕ) → Ways 15 (unpack w) → begins (unpack p) (unpack w) ≡ true → Tail p w
tail_of p w h b =
    let r = tail_of_begins (unpack p) (unpack w) b in
    let x = r.0 in
    record {
      tail = x;
      ways = ways_right 15 (unpack p) x (subst (Ways 15) r.1 h);
      behind = ap (after (unpack p)) r.1 ∙ after_append (unpack p) x;
      long = omega (arith, ap length r.1, length-append (unpack p) x);
      number = sym (pack_unpack w) ∙ ap pack r.1 ∙ pack_append (unpack p) x ∙ ap (λ n. n * 16 ^ length x + pack x) (pack_unpack p);
    }
