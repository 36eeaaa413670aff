-- What it is for a number to be packed: the digits of its word are 1 to 9, and there are at most maxDigits of them. By these laws
-- a caller goes from the words of a plan to the numbers that hold them and back.
use Prim.Native.Nat.{ℕ, ◌≤◌}
use mathlib.Core.Path.{◌≡◌, sym, subst}
use lib.Dec.{T, leb→le, le→leb, lit≤}
use lib.ListN.{length}
use Rattle.higman.specs.Words.{Shape, Word, is_ways}
use Rattle.higman.specs.Limits.{shape_in_range, max_digits, fits, is_plan_word}
use Rattle.higman.proofs.Tests.{and_left, and_right, and_intro, Ways, ways_of_test, test_of_ways}
use Rattle.higman.proofs.PlanWords.{more_ways, plan_word_length, plan_word_ways}
use Rattle.words.specs.Packed.{pack, unpack, is_packed}
use Rattle.words.proofs.Packing.{unpack_pack}

pub packed_ways : (x : ℕ) → T (is_packed x) → Ways 9 (unpack x)
unfolding is_packed
packed_ways x t = ways_of_test 9 (unpack x) (and_left (is_ways 9 (unpack x)) (fits (unpack x)) t)

pub packed_length : (x : ℕ) → T (is_packed x) → length (unpack x) ≤ max_digits
unfolding is_packed
packed_length x t = leb→le (length (unpack x)) max_digits (and_right (is_ways 9 (unpack x)) (fits (unpack x)) t)

pub packed_of : (x : ℕ) → Ways 9 (unpack x) → length (unpack x) ≤ max_digits → T (is_packed x)
unfolding is_packed
packed_of x h l =
    and_intro (is_ways 9 (unpack x)) (fits (unpack x)) (test_of_ways 9 (unpack x) h) (le→leb (length (unpack x)) max_digits l)

-- the same of a number that is known to hold w, as the functions' contracts say it
pub packed_as : (x : ℕ) {w : Word} → unpack x ≡ w → Ways 9 w → length w ≤ max_digits → T (is_packed x)
packed_as x e h l = packed_of x (subst (Ways 9) (sym e) h) (subst (λ u. length u ≤ max_digits) (sym e) l)

-- a packed number's digits have four bits
pub packed_nibbles : (x : ℕ) → T (is_packed x) → Ways 15 (unpack x)
packed_nibbles x t = more_ways (unpack x) (lit≤ tt) (packed_ways x t)

-- a number is packed if it holds a word of a shape in range
pub packed_word : (s : Shape) (x : ℕ) → T (shape_in_range s) → T (is_plan_word s (unpack x)) → T (is_packed x)
packed_word s x r t = packed_of x (plan_word_ways s (unpack x) t r) (plan_word_length s (unpack x) t)

-- the packing of a word that a plan has room for
pub packed_pack : (w : Word) → Ways 9 w → length w ≤ max_digits → T (is_packed (pack w))
packed_pack w h l = packed_as (pack w) (unpack_pack w (more_ways w (lit≤ tt) h)) h l
