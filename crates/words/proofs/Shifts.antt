-- Shifts by whole digits. A shift by four bits a digit is made as two shifts by two bits a digit, so that a shift by all the
-- digits of a number of W bits stays below W bits. The shift that brings a number's first digit to the top is below W bits, and single.
use Prim.Native.Nat.{ℕ, ◌+◌, ◌*◌, ◌-◌, ◌/◌, ◌%◌, ◌^◌, ◌≤◌, ◌<◌}
use mathlib.Core.Path.{◌≡◌, sym, ◌∙◌, ap, subst}
use mathlib.Core.Logic.{◌⊎◌, inl, inr}
use native.Mathlib.Nat.{eq-zero-or-pos, zero-mul, mul_assoc, mod-eq_of_lt, le-mul_of_pos_right}
use native.Mathlib.Omega.{arith}
use lib.Pow.{pow_pos, pow-add, shr-shr, shl_lt}
use lib.ListN.{length}
use Rattle.words.specs.Packed.{unpack}
use Rattle.words.proofs.Sizes.{power_bits, unpack_below, some_digit, digits_of_bits}

two_halves : (k : ℕ) → 2 ^ (2 * k + 2 * k) ≡ 16 ^ k
two_halves k = ap (λ n. 2 ^ n) (omega arith) ∙ sym (power_bits k)

pub shift_right : (w k : ℕ) → w / 2 ^ (2 * k) / 2 ^ (2 * k) ≡ w / 16 ^ k
shift_right w k = shr-shr w (2 * k) (2 * k) ∙ ap (λ m. w / m) (two_halves k)

-- no bit is lost where the result has room
pub shift_left : (W v k : ℕ) → v * 16 ^ k < 2 ^ W → ((v * 2 ^ (2 * k)) % 2 ^ W * 2 ^ (2 * k)) % 2 ^ W ≡ v * 16 ^ k
shift_left W v k h =
    let half : ℕ = v * 2 ^ (2 * k) in
    let whole : half * 2 ^ (2 * k) ≡ v * 16 ^ k =
    mul_assoc v (2 ^ (2 * k)) (2 ^ (2 * k)) ∙ ap (λ m. v * m) (sym (pow-add 2 (2 * k) (2 * k)) ∙ two_halves k) in
    let less : half ≤ half * 2 ^ (2 * k) = le-mul_of_pos_right half (pow_pos (2 * k)) in
    ap (λ m. (m * 2 ^ (2 * k)) % 2 ^ W) (mod-eq_of_lt {n = half} {m = 2 ^ W} (omega arith)) ∙ ap (λ m. m % 2 ^ W) whole ∙ mod-eq_of_lt h

-- the zeros above a number, z of them over m bits, in whole digits: so far its first digit is from the top of D digits
pub shift_to_top : (D w z m : ℕ) → z + m ≡ 4 * D → w < 2 ^ m → 2 ^ m ≤ 2 * w + 1 → (w * 2 ^ (z / 4 * 4 % (4 * D))) % 2 ^ (4 * D) ≡ w * 16 ^ (D - length (unpack w))
shift_to_top D w z m e h l = go (eq-zero-or-pos w)
  where
    k : ℕ
    k = length (unpack w)

    go : (w ≡ 0) ⊎ (0 < w) → (w * 2 ^ (z / 4 * 4 % (4 * D))) % 2 ^ (4 * D) ≡ w * 16 ^ (D - k)
    go (inl n) =
        let s : ℕ = z / 4 * 4 % (4 * D) in
        let left : w * 2 ^ s ≡ 0 = ap (λ x. x * 2 ^ s) n ∙ zero-mul (2 ^ s) in
        let right : w * 16 ^ (D - k) ≡ 0 = ap (λ x. x * 16 ^ (D - k)) n ∙ zero-mul (16 ^ (D - k)) in
        ap (λ x. x % 2 ^ (4 * D)) left ∙ mod-eq_of_lt (pow_pos (4 * D)) ∙ sym right
    go (inr p) =
        let b = digits_of_bits w m h l in
        let d = some_digit w p in
        let down : z / 4 * 4 ≡ 4 * (D - k) = omega arith in
        let s : z / 4 * 4 % (4 * D) ≡ 4 * (D - k) = mod-eq_of_lt (omega arith) ∙ down in
        let all : 4 * k + 4 * (D - k) ≡ 4 * D = omega arith in
        let room : w * 2 ^ (4 * (D - k)) < 2 ^ (4 * D) =
        subst (λ j. w * 2 ^ (4 * (D - k)) < 2 ^ j) all (shl_lt (4 * k) (4 * (D - k)) (subst (λ q. w < q) (power_bits k) (unpack_below w))) in
        ap (λ j. (w * 2 ^ j) % 2 ^ (4 * D)) s ∙ mod-eq_of_lt room ∙ ap (λ q. w * q) (sym (power_bits (D - k)))
