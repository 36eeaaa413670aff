-- The size of a packed word: between which powers of sixteen a number of k digits lies, how digits behind it shift it, and the
-- digits that are left when k are shifted off. All for any number of digits.
use Prim.Native.Nat.{ℕ, zero, suc, ◌+◌, ◌*◌, ◌/◌, ◌%◌, ◌^◌, ◌≤◌, ◌<◌}
use mathlib.Core.Path.{◌≡◌, refl, sym, ◌∙◌, ap, subst}
use mathlib.Core.Logic.{◌⊎◌, inl, inr}
use mathlib.Core.List.{[], ◌∷◌, ◌++◌, append-nil, append_assoc}
use native.Mathlib.Nat.{eq-zero-or-pos, mul_assoc, mul_comm, add-mul, mul-one, div-div-eq-div-mul, div-one, pow-suc, pow-le-pow_right, lt_of_not-le, not-le_of_lt}
use native.Mathlib.Omega.{arith}
use lib.Dec.{lit<}
use lib.Pow.{pow-add}
use lib.ListN.{length, length-append}
use Rattle.higman.specs.Words.{Word, child}
use Rattle.words.specs.Packed.{pack_on, pack, unpack}
use Rattle.words.proofs.Packing.{unpack_zero, unpack_step, digit_induction, pack_on_append, unpack_digit}

-- a digit is four bits
pub power_bits : (k : ℕ) → 16 ^ k ≡ 2 ^ (4 * k)
power_bits zero = refl
power_bits (suc k) =
    let e : 4 * suc k ≡ 4 * k + 4 = omega arith in
    pow-suc 16 k ∙ ap (λ p. p * 16) (power_bits k) ∙ sym (ap (λ n. 2 ^ n) e ∙ pow-add 2 (4 * k) 4)

pub power_cancel : (b : ℕ) {i j : ℕ} → 0 < b → b ^ i < b ^ j → i < j
power_cancel b h l = lt_of_not-le (λ k. not-le_of_lt l (pow-le-pow_right h k))

pub length_child : (w : Word) (i : ℕ) → length (child w i) ≡ length w + 1
length_child w i = length-append w (i ∷ [])

pub length_step : (x : ℕ) → 0 < x → length (unpack x) ≡ length (unpack (x / 16)) + 1
length_step x h = ap length (unpack_step x h) ∙ length_child (unpack (x / 16)) (x % 16)

pub some_digit : (x : ℕ) → 0 < x → 0 < length (unpack x)
some_digit x h = omega (arith, length_step x h)

pub no_digit : (x : ℕ) → x ≡ 0 → length (unpack x) ≡ 0
no_digit x z = ap (λ q. length (unpack q)) z ∙ ap length unpack_zero

power_step : (x : ℕ) → 0 < x → 16 ^ length (unpack x) ≡ 16 ^ length (unpack (x / 16)) * 16
power_step x h = ap (λ n. 16 ^ n) (length_step x h) ∙ pow-add 16 (length (unpack (x / 16))) 1

-- a number of k digits is below 16 ^ k
pub unpack_below : (x : ℕ) → x < 16 ^ length (unpack x)
unpack_below = digit_induction (λ x. x < 16 ^ length (unpack x)) (subst (λ w. 0 < 16 ^ length w) (sym unpack_zero) (lit< tt)) step
  where
    step : (x : ℕ) → 0 < x → x / 16 < 16 ^ length (unpack (x / 16)) → x < 16 ^ length (unpack x)
    step x h l = let e = power_step x h in omega arith

-- and, if it is not 0, at least 16 ^ (k - 1)
pub unpack_least : (x : ℕ) → 0 < x → 16 ^ length (unpack x) ≤ 16 * x
unpack_least = digit_induction (λ x. 0 < x → 16 ^ length (unpack x) ≤ 16 * x) (λ h. absurd (omega arith)) step
  where
    step : (x : ℕ) → 0 < x → (0 < x / 16 → 16 ^ length (unpack (x / 16)) ≤ 16 * (x / 16)) → 0 < x → 16 ^ length (unpack x) ≤ 16 * x
    step x h rest k = go (eq-zero-or-pos (x / 16))
      where
        go : (x / 16 ≡ 0) ⊎ (0 < x / 16) → 16 ^ length (unpack x) ≤ 16 * x
        go (inl z) =
            let e = power_step x h in
            let one : 16 ^ length (unpack (x / 16)) ≡ 1 = ap (λ n. 16 ^ n) (no_digit (x / 16) z) in
            omega arith
        go (inr p) = let e = power_step x h in let l = rest p in omega arith

-- the digits of a word behind n shift n by as many places
pub pack_on_split : (n : ℕ) (w : Word) → pack_on n w ≡ n * 16 ^ length w + pack w
unfolding pack pack_on
pack_on_split n [] = omega (arith, mul-one n)
pack_on_split n (a ∷ w) =
    let B : ℕ = 16 ^ length w in
    let whole = pack_on_split (n * 16 + a) w in
    let front = pack_on_split (0 * 16 + a) w in
    let zeros : (0 * 16 + a) * B ≡ a * B = ap (λ x. x * B) (omega arith) in
    let left : (n * 16 + a) * B ≡ n * B * 16 + a * B =
    add-mul (n * 16) a B ∙ ap (λ x. x + a * B) (mul_assoc n 16 B ∙ ap (λ x. n * x) (mul_comm 16 B) ∙ sym (mul_assoc n B 16)) in
    let right : n * 16 ^ suc (length w) ≡ n * B * 16 = ap (λ x. n * x) (pow-suc 16 (length w)) ∙ sym (mul_assoc n B 16) in
    omega arith

pub pack_append : (u v : Word) → pack (u ++ v) ≡ pack u * 16 ^ length v + pack v
unfolding pack
pack_append u v = pack_on_append 0 u v ∙ pack_on_split (pack_on 0 u) v

-- the digits of one number behind those of another
pub unpack_append : (v t : ℕ) → unpack (v * 16 ^ length (unpack t) + t) ≡ unpack v ++ unpack t
unpack_append v = digit_induction (λ t. unpack (v * 16 ^ length (unpack t) + t) ≡ unpack v ++ unpack t) none step
  where
    none : unpack (v * 16 ^ length (unpack 0) + 0) ≡ unpack v ++ unpack 0
    none =
        let p : v * 16 ^ length (unpack 0) ≡ v = ap (λ w. v * 16 ^ length w) unpack_zero ∙ mul-one v in
        ap unpack (omega arith) ∙ sym (append-nil (unpack v)) ∙ ap (λ w. unpack v ++ w) (sym unpack_zero)

    step : (t : ℕ) → 0 < t → unpack (v * 16 ^ length (unpack (t / 16)) + t / 16) ≡ unpack v ++ unpack (t / 16) → unpack (v * 16 ^ length (unpack t) + t) ≡ unpack v ++ unpack t
    step t h e =
        let B : ℕ = 16 ^ length (unpack (t / 16)) in
        let p : v * 16 ^ length (unpack t) ≡ v * B * 16 = ap (λ x. v * x) (power_step t h) ∙ sym (mul_assoc v B 16) in
        let n : v * 16 ^ length (unpack t) + t ≡ (v * B + t / 16) * 16 + t % 16 = omega arith in
        ap unpack n
        ∙ unpack_digit (v * B + t / 16) (t % 16) (omega arith) (omega arith)
        ∙ ap (λ w. child w (t % 16)) e
        ∙ append_assoc (unpack v) (unpack (t / 16)) (t % 16 ∷ [])
        ∙ ap (λ w. unpack v ++ w) (sym (unpack_step t h))

-- k digits shifted off leave the digits before them
pub unpack_front : (k x : ℕ) → k ≤ length (unpack x) → (y : Word) × (unpack x ≡ unpack (x / 16 ^ k) ++ y) × (length y ≡ k)
unpack_front zero x h = ([], ap unpack (sym (div-one x)) ∙ sym (append-nil (unpack (x / 1))), refl)
unpack_front (suc k) x h = go (eq-zero-or-pos x) (λ l. unpack_front k (x / 16) l)
  where
    go : (x ≡ 0) ⊎ (0 < x)
        → (k ≤ length (unpack (x / 16)) → (y : Word) × (unpack (x / 16) ≡ unpack (x / 16 / 16 ^ k) ++ y) × (length y ≡ k))
        → (y : Word) × (unpack x ≡ unpack (x / 16 ^ suc k) ++ y) × (length y ≡ suc k)
    go (inl z) rest = absurd (omega (arith, no_digit x z))
    go (inr p) rest =
        let l = length_step x p in
        let r = rest (omega arith) in
        let q : x / 16 / 16 ^ k ≡ x / 16 ^ suc k =
        div-div-eq-div-mul x 16 (16 ^ k) ∙ ap (λ m. x / m) (mul_comm 16 (16 ^ k) ∙ sym (pow-suc 16 k)) in (
          child r.0 (x % 16),
          unpack_step x p ∙ ap (λ w. child w (x % 16)) (r.1 ∙ ap (λ m. unpack m ++ r.0) q) ∙ append_assoc (unpack (x / 16 ^ suc k)) r.0 (x % 16 ∷ []),
          length_child r.0 (x % 16) ∙ omega (arith, r.2),
        )

-- a number of at most k digits is below 16 ^ k, and the other way round
pub below_of_length : (k x : ℕ) → length (unpack x) ≤ k → x < 16 ^ k
below_of_length k x h = let b = unpack_below x in let p = pow-le-pow_right (lit< {m = 0} {n = 16} tt) h in omega arith

pub length_of_below : (k x : ℕ) → x < 16 ^ k → length (unpack x) ≤ k
length_of_below k x h = go (eq-zero-or-pos x)
  where
    go : (x ≡ 0) ⊎ (0 < x) → length (unpack x) ≤ k
    go (inl z) = omega (arith, no_digit x z)
    go (inr p) =
        let least = unpack_least x p in
        let next = pow-add 16 k 1 in
        let less : length (unpack x) < k + 1 = power_cancel 16 (lit< tt) (omega arith) in
        omega arith

-- a number of m bits has as many digits as there are fours begun in m
pub digits_of_bits : (x m : ℕ) → x < 2 ^ m → 2 ^ m ≤ 2 * x + 1 → (m ≤ 4 * length (unpack x)) × (4 * length (unpack x) ≤ m + 3)
digits_of_bits x m h l = (most, least (eq-zero-or-pos x))
  where
    k : ℕ
    k = length (unpack x)

    most : m ≤ 4 * k
    most =
        let below : x < 2 ^ (4 * k) = subst (λ p. x < p) (power_bits k) (unpack_below x) in
        let twice = pow-add 2 (4 * k) 1 in
        let less : m < 4 * k + 1 = power_cancel 2 (lit< tt) (omega arith) in
        omega arith

    least : (x ≡ 0) ⊎ (0 < x) → 4 * k ≤ m + 3
    least (inl z) = omega (arith, no_digit x z)
    least (inr p) =
        let above : 2 ^ (4 * k) ≤ 16 * x = subst (λ y. y ≤ 16 * x) (power_bits k) (unpack_least x p) in
        let more = pow-add 2 m 4 in
        let less : 4 * k < m + 4 = power_cancel 2 (lit< tt) (omega arith) in
        omega arith
