-- The generator of the draws: its draws are seeds in range again, and to draw on from a draw is to draw more from its seed.
use Prim.Native.Nat.{ℕ, zero, suc, ◌+◌, ◌*◌, ◌-◌, ◌/◌, ◌%◌, ◌≤◌}
use mathlib.Core.Path.{◌≡◌, refl, ap}
use native.Mathlib.Nat.{add-zero, add-suc}
use native.Mathlib.Omega.{arith}
use lib.Dec.{T, leb, leb→le, le→leb}
use Rattle.higman.specs.Limits.{seed_in_range}
use Rattle.higman.specs.Exercises.{next_draw, drawn}
use Rattle.higman.proofs.Tests.{and_left, and_right, and_intro}

-- "a seed outside 1 to 2147483646"
pub record Seed (x : ℕ) : Type 0 where
  pub low : 1 ≤ x
  pub high : x ≤ 2_147_483_646

pub seed_of_test : (x : ℕ) → T (seed_in_range x) → Seed x
unfolding seed_in_range
seed_of_test x t =
    let a = leb 1 x in
    let b = leb x 2_147_483_646 in
    record { low = leb→le 1 x (and_left a b t); high = leb→le x 2_147_483_646 (and_right a b t) }

pub test_of_seed : (x : ℕ) → Seed x → T (seed_in_range x)
unfolding seed_in_range
test_of_seed x h = and_intro (leb 1 x) (leb x 2_147_483_646) (le→leb 1 x h.low) (le→leb x 2_147_483_646 h.high)

-- 2147483647 is a factor of no 16807 x, since 16807 · 1407677000 is 1 + 2147483647 · 11017: it would be one of x
no_factor : (x q : ℕ) → Seed x → 16_807 * x ≡ 2_147_483_647 * q → ⊥
no_factor x q h e = by_factor (1_407_677_000 * q - 11_017 * x) (omega arith)
  where
    by_factor : (z : ℕ) → x ≡ 2_147_483_647 * z → ⊥
    by_factor zero f = omega arith
    by_factor (suc z) f = omega arith

pub next_seed : (x : ℕ) → Seed x → Seed (next_draw x)
unfolding next_draw
next_seed x h = record { low = by_draw (16_807 * x % 2_147_483_647) refl; high = omega arith }
  where
    by_draw : (y : ℕ) → 16_807 * x % 2_147_483_647 ≡ y → 1 ≤ y
    by_draw zero e = absurd (no_factor x (16_807 * x / 2_147_483_647) h (omega arith))
    by_draw (suc y) e = omega arith

pub drawn_seed : (seed : ℕ) → Seed seed → (i : ℕ) → Seed (drawn seed i)
unfolding drawn
drawn_seed seed h zero = h
drawn_seed seed h (suc i) = next_seed (drawn seed i) (drawn_seed seed h i)

pub draws_in_range : (seed : ℕ) → T (seed_in_range seed) → (i : ℕ) → T (seed_in_range (drawn seed i))
draws_in_range seed t i = test_of_seed (drawn seed i) (drawn_seed seed (seed_of_test seed t) i)

pub drawn_on : (x i k : ℕ) → drawn (drawn x i) k ≡ drawn x (i + k)
unfolding drawn
drawn_on x i zero = rw add-zero
drawn_on x i (suc k) = rw (add-suc, drawn) (ap next_draw (drawn_on x i k))
