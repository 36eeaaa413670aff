-- The papers' figures (specs/Figures.antt): the tests compute, and their parts are read one by one.
use Prim.Native.Nat.{ℕ, suc, ◌≤◌}
use mathlib.Core.Path.{refl}
use mathlib.Core.Logic.Iff
use mathlib.Core.Logic.{◌↔◌}
use mathlib.Core.Bool.{Bool, ◌&&◌}
use mathlib.Core.List.{Memᴰ}
use native.Mathlib.Omega.{arith}
use lib.Dec.{T, leb, leb→le, le→leb}
use lib.IntN.{nat_abs}
use lib.ListN.{length}
use Rattle.higman.specs.Words.{Shape, is_word}
use Rattle.higman.specs.Bases.{all}
use Rattle.higman.specs.Tables.{Pair, Table}
use Rattle.higman.specs.Limits.{shape_in_range, max_pairs, max_digits, max_code, max_power, is_plan_word, fits, pair_fits, granted, is_code}
use Rattle.higman.specs.Limits.{seed_in_range, slot_count}
use Rattle.higman.specs.Listing.{is_slot}
use Rattle.higman.proofs.Tests.{and_left, and_right, and_intro, all_at, all_of, digit_of_test, test_of_digit}
use Rattle.higman.specs.Figures.{ShortPair, PlanLimitsExact, CasesNumbered, NumbersNamed}

-- a test of an order, and two tests
order : (a b : ℕ) → T (leb a b) ↔ (a ≤ b)
order a b = (leb→le a b, le→leb a b)

both : {A B : Type 0} (a b : Bool) → T a ↔ A → T b ↔ B → T (a && b) ↔ (A × B)
both a b f g = (λ t. (f.0 (and_left a b t), g.0 (and_right a b t)), λ h. and_intro a b (f.1 h.0) (g.1 h.1))

shapes : (s : Shape) → T (shape_in_range s) ↔ ((2 ≤ s.arity) × (s.arity ≤ 9) × (1 ≤ s.roots) × (s.roots ≤ 9))
unfolding shape_in_range
shapes s =
    let n = both (leb 2 s.arity) (leb s.arity 9) (order 2 s.arity) (order s.arity 9) in
    let three = both (leb 2 s.arity && leb s.arity 9) (leb 1 s.roots) n (order 1 s.roots) in
    let four = both (leb 2 s.arity && leb s.arity 9 && leb 1 s.roots) (leb s.roots 9) three (order s.roots 9) in (
      λ t. let f = four.0 t in (f.0.0.0, f.0.0.1, f.0.1, f.1),
      λ (low, high, some-belt, few). four.1 (((low, high), some-belt), few),
    )

short_pairs : (p : Pair) → T (pair_fits p) ↔ ShortPair p
unfolding max_digits
short_pairs p = both (fits p.from) (fits p.to) (order (length p.from) 16) (order (length p.to) 16)

all_short : (t : Table) → T (all pair_fits t) ↔ ((p : Pair) → Memᴰ p t → ShortPair p)
all_short t = (λ h p m. (short_pairs p).0 (all_at pair_fits t h p m), λ h. all_of pair_fits t (λ p m. (short_pairs p).1 (h p m)))

slot_bytes : (b : ℕ) → T (is_slot b) ↔ ((65 ≤ b) × (b ≤ 72))
unfolding slot_count
slot_bytes b =
    let within = both (leb 65 b) (leb (suc b) 73) (order 65 b) (order (suc b) 73) in
    (λ t. let h = within.0 t in (h.0, omega arith), λ h. within.1 (h.0, omega arith))

pub plan_limits_exact : PlanLimitsExact
unfolding max_pairs max_digits max_code max_power is_plan_word is_code granted seed_in_range slot_count
plan_limits_exact =
    record {
      shapes = shapes;
      digits = λ n i. (digit_of_test n i, test_of_digit n i);
      plan_words = λ s w. both (is_word s w) (fits w) Iff.rfl (order (length w) 16);
      codes = λ s w. both (is_word s w) (leb (length w) 1_024) Iff.rfl (order (length w) 1_024);
      pairs = refl;
      short_pairs = short_pairs;
      results = λ t. both (leb (length t) 128) (all pair_fits t) (order (length t) 128) (all_short t);
      powers = λ k. order (nat_abs k) 1_000;
      seeds = λ seed. both (leb 1 seed) (leb seed 2_147_483_646) (order 1 seed) (order seed 2_147_483_646);
      slots = refl;
      slot_bytes = slot_bytes;
      slot_of_byte = λ b. refl;
      byte_of_slot = λ i. refl;
      tabs = refl;
      line_ends = refl;
      digit_bytes = λ d. refl;
    }

cases_numbered : CasesNumbered
cases_numbered =
    record {
      overlap = refl;
      gap = refl;
      bad_code = refl;
      shapes_differ_lem = refl;
      limit_broken_fact = refl;
      power_outside_lem = refl;
      seed_outside_fact = refl;
      too_many_pairs = refl;
      word_too_long = refl;
      too_short = refl;
      not_routed = λ r. refl;
      routed = λ w. refl;
    }

pub numbers_named : NumbersNamed
numbers_named =
    record {
      one = refl;
      two = refl;
      three = refl;
      four = refl;
      five = refl;
      six = refl;
      seven = refl;
      eight = refl;
      nine = refl;
      ten = refl;
      eleven = refl;
      twelve = refl;
      thirteen = refl;
      fourteen = refl;
      fifteen = refl;
      sixteen = refl;
      seventeen = refl;
      eighteen = refl;
      nineteen = refl;
      twenty = refl;
      cases = cases_numbered;
    }
