-- Words as bytes: a code read one byte at a time from the first on, and a word written one digit at a time from the last on.
use Prim.Native.Nat.{ℕ, suc, ◌+◌, ◌*◌, ◌≤◌, ◌<◌}
use mathlib.Core.Path.{◌≡◌, refl, sym, ◌∙◌, ap}
use mathlib.Core.Bool.{true, false, ◌&&◌, and-true, and-false}
use mathlib.Core.List.{List, [], ◌∷◌, ◌++◌, append_assoc}
use native.Mathlib.Numerals.{add-one}
use native.Mathlib.Nat.{add-zero}
use native.Mathlib.Omega.{arith}
use lib.ListN.{length, get_or, take, drop, set, take-append-drop, length-map}
use lib.Seq.{drop-cons, take-suc, set_at, length-take-le}
use borrow.Author.Tests.{le-leb, lt-leb}
use Rattle.higman.specs.Words.{Shape, Word, is_word, child}
use Rattle.higman.specs.Text.{digit_byte, word_bytes, digit_of, word_of}
use Rattle.higman.specs.Limits.{max_digits, is_plan_word}
use Rattle.words.specs.Packed.{pack_on, pack}
use Rattle.higman.specs.Buffers.{written}
use Rattle.words.specs.Bytes.{read_word}
use Rattle.std.specs.Prelude.{Some, None}

-- what is left of a code: its first byte, and what is left after it
module _ (code : List ℕ) (i : ℕ) (h : i < length code) where
  left : word_of (drop i code) ≡ digit_of (get_or code i 0) ∷ word_of (drop (i + 1) code)
  left = ap word_of (drop-cons code i 0 h) ∙ ap (λ n. digit_of (get_or code i 0) ∷ word_of (drop n code)) (sym (add-one i))

  pub pack_on_step : (p : ℕ) → pack_on p (word_of (drop i code)) ≡ pack_on (p * 16 + digit_of (get_or code i 0)) (word_of (drop (i + 1) code))
  unfolding pack_on
  pack_on_step p = ap (pack_on p) left

-- what `read` answers, by the two tests
module _ (s : Shape) (code : List ℕ) where
  pub read_some : is_plan_word s (word_of code) ≡ true → read_word s code ≡ Some (pack (word_of code))
  unfolding read_word
  read_some e = rw (e, read_word)

  pub read_none : is_plan_word s (word_of code) ≡ false → read_word s code ≡ None
  unfolding read_word
  read_none e = rw (e, read_word)

  pub too_long : max_digits < length code → is_plan_word s (word_of code) ≡ false
  unfolding is_plan_word
  too_long h =
      ap (λ t. is_word s (word_of code) && t) (lt-leb (length (word_of code)) max_digits (omega (arith, length-map code digit_of)))
      ∙ and-false (is_word s (word_of code))

  pub not_too_long : length code ≤ max_digits → is_plan_word s (word_of code) ≡ is_word s (word_of code)
  unfolding is_plan_word
  not_too_long h =
      ap (λ t. is_word s (word_of code) && t) (le-leb (length (word_of code)) max_digits (omega (arith, length-map code digit_of)))
      ∙ and-true (is_word s (word_of code))

-- what `read` answers, at a code of any length
pub ruleset reading = (read_some, read_none, too_long, not_too_long)

-- the bytes of a word followed by a digit
pub bytes_child : (w : Word) (i : ℕ) (s : List ℕ) → word_bytes (child w i) ++ s ≡ word_bytes w ++ digit_byte i ∷ s
bytes_child [] i s = refl
bytes_child (a ∷ w) i s = ap (λ l. digit_byte a ∷ l) (bytes_child w i s)

pub written_none : (l : List ℕ) (at : ℕ) → l ≡ written l at []
written_none l at = sym (ap (λ n. take at l ++ drop n l) (add-zero at) ∙ take-append-drop at l)

-- one byte more, in front of those that are written
pub written_before : (l s : List ℕ) (at b : ℕ) → at < length l → set (written l (at + 1) s) at b ≡ written l at (b ∷ s)
written_before l s at b h =
    let front : take (at + 1) l ≡ take at l ++ (get_or l at 0 ∷ []) = ap (λ n. take n l) (add-one at) ∙ take-suc l at 0 h in
    let rest : List ℕ = s ++ drop (at + 1 + length s) l in
    let n : at + 1 + length s ≡ at + suc (length s) = omega arith in
    ap (λ f. set (f ++ rest) at b) front
    ∙ ap (λ f. set f at b) (append_assoc (take at l) (get_or l at 0 ∷ []) rest)
    ∙ set_at (take at l) (get_or l at 0) rest b at (length-take-le at l (omega arith))
    ∙ ap (λ n. take at l ++ b ∷ (s ++ drop n l)) n
