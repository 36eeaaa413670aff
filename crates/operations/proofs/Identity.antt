-- The plan that moves nothing, as two columns hold it: a belt is a word of one digit, and packs into that digit.
use Prim.Native.Nat.{ℕ, zero, suc, ◌+◌, ◌*◌, ◌≤◌, ◌<◌}
use mathlib.Core.Path.{◌≡◌, refl, sym, ◌∙◌, ap, ap₂}
use mathlib.Core.List.{[], ◌∷◌, ◌++◌}
use native.Mathlib.Omega.{arith}
use lib.ListN.{take}
use Rattle.higman.specs.Words.{count}
use Rattle.higman.specs.Normal.{gather, whole, identity}
use Rattle.words.specs.Packed.{unpack}
use Rattle.words.specs.Bytes.{shape}
use Rattle.words.proofs.Packing.{unpack_zero, unpack_digit}
use Rattle.columns.specs.Packed.{table, rows}

pub take_count : (a m r : ℕ) → r ≤ m → take r (count a m) ≡ count a r
take_count a m zero h = refl
take_count a zero (suc r) h = absurd (omega arith)
take_count a (suc m) (suc r) h = ap (λ l. a ∷ l) (take_count (suc a) m r (omega arith))

pub one_digit : (i : ℕ) → 1 ≤ i → i < 16 → unpack i ≡ i ∷ []
one_digit i h k =
    let same : 0 * 16 + i ≡ i = omega arith in
    ap unpack (sym same) ∙ unpack_digit 0 i k (omega arith) ∙ ap (λ w. w ++ (i ∷ [])) unpack_zero

belt_pairs : (a m : ℕ) → 1 ≤ a → a + m ≤ 16 → table (count a m) (count a m) ≡ gather (count a m) (λ i. whole (i ∷ []))
belt_pairs a zero h k = refl
belt_pairs a (suc m) h k =
    ap₂ (λ w t. record { from = w; to = w } ∷ t) (one_digit a h (omega arith)) (belt_pairs (suc a) m (omega arith) (omega arith))

pub identity_rows : (arity roots : ℕ) → roots ≤ 9 → rows roots (count 1 9) (count 1 9) ≡ identity (shape arity roots)
unfolding identity
identity_rows arity roots h =
    ap (λ l. table l l) (take_count 1 9 roots h) ∙ belt_pairs 1 roots (omega arith) (omega arith)
