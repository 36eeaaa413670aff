-- Where the limit of digits meets the machine: a number of 64 bits holds the words of at most maxDigits digits, and no others.
-- Nothing else here speaks of a number of digits.
use mathlib.Core.Path.{◌≡◌, refl}
use Prim.Native.Nat.{ℕ, ◌+◌, ◌*◌, ◌-◌, ◌/◌, ◌%◌, ◌^◌, ◌≤◌, ◌<◌}
use native.Mathlib.Nat.{pow-le-pow_right}
use native.Mathlib.Omega.{arith}
use lib.Dec.{lit<}
use lib.Arith.{digits_lt}
use lib.Pow.{pow-add}
use lib.ListN.{length}
use Rattle.higman.specs.Limits.{max_digits}
use Rattle.words.specs.Packed.{unpack}
use Rattle.words.proofs.Sizes.{length_of_below, unpack_below}
use Rattle.words.proofs.Shifts.{shift_to_top}

-- the limit as `read` has it
pub limit : max_digits ≡ 16
unfolding max_digits
limit = refl

-- half a shift by so many digits is a shift within the word
pub half_shift : (k : ℕ) → k ≤ max_digits → 2 * k < 64
unfolding max_digits
half_shift k h = omega arith

pub word_fits : (x : ℕ) → x < 2 ^ 64 → length (unpack x) ≤ max_digits
unfolding max_digits
word_fits x h = length_of_below 16 x h

-- the shift by the whole digits among the z zeros above a number's m bits
pub top_shift : (w z m : ℕ) → z + m ≡ 64 → w < 2 ^ m → 2 ^ m ≤ 2 * w + 1 → (w * 2 ^ (z / 4 * 4 % 64)) % 2 ^ 64 ≡ w * 16 ^ (max_digits - length (unpack w))
unfolding max_digits
top_shift w z m e h l = shift_to_top 16 w z m e h l

-- the digits of one number behind those of another
pub append_room : (v t : ℕ) → length (unpack v) + length (unpack t) ≤ max_digits → v * 16 ^ length (unpack t) + t < 2 ^ 64
unfolding max_digits
append_room v t h =
    let n : ℕ = length (unpack v) + length (unpack t) in
    let less = digits_lt {q = v} {m = 16 ^ length (unpack v)} {r = t} {c = 16 ^ length (unpack t)} (unpack_below v) (unpack_below t) in
    let room : 16 ^ n ≤ 16 ^ 16 = pow-le-pow_right (lit< {m = 0} {n = 16} tt) h in
    omega (arith, pow-add 16 (length (unpack v)) (length (unpack t)))

-- one digit behind fewer digits than the limit
pub digit_room : (p i d : ℕ) → p < 16 ^ i → i < max_digits → d < 16 → p * 16 + d < 2 ^ 64
unfolding max_digits
digit_room p i d h k l =
    let less = digits_lt {q = p} {m = 16 ^ i} {r = d} {c = 16} h l in
    let next : i + 1 ≤ 16 = omega arith in
    let room : 16 ^ (i + 1) ≤ 16 ^ 16 = pow-le-pow_right (lit< {m = 0} {n = 16} tt) next in
    omega (arith, pow-add 16 i 1)
