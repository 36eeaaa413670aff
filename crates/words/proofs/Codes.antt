-- Codes as bytes beside packed words: the word that a code spells comes back from its packing, and the front of a long code, packed,
-- begins with the same words as the code.
use Prim.Native.Nat.{ℕ, zero, suc, ◌≤◌}
use mathlib.Core.Path.{◌≡◌, refl, sym, ◌∙◌, ap}
use mathlib.Core.Bool.{Bool, true, false}
use mathlib.Core.List.{List, [], ◌∷◌}
use mathlib.Core.Option.{Option, none, some}
use native.Mathlib.Omega.{arith}
use lib.Dec.{T, eqb, lit≤}
use lib.ListN.{length, take, drop}
use lib.Seq.{drop-append_seam}
use Rattle.higman.specs.Words.{Shape, Word, is_word, after, given, begins}
use Rattle.higman.specs.Limits.{max_digits}
use Rattle.higman.proofs.Tests.{T_of, Ways, word_of_test}
use Rattle.higman.proofs.Prefixes.{after_append, tail_of_begins}
use Rattle.words.specs.Packed.{pack, unpack, is_packed}
use Rattle.higman.specs.Text.{digit_of, word_of}
use Rattle.words.proofs.Packing.{unpack_pack}
use Rattle.higman.proofs.PlanWords.{more_ways}
use Rattle.words.proofs.Packed.{packed_pack}
use Rattle.higman.proofs.Text.{digit_below}

-- the digits of a code's bytes are at most 9, so one that is a digit at all is one from 1 to 9
digits_ways : (n : ℕ) (code : List ℕ) → Ways n (word_of code) → Ways 9 (word_of code)
digits_ways n [] h = tt
digits_ways n (b ∷ code) h = ((h.0.0, digit_below b), digits_ways n code h.1)

pub spelled_ways : (s : Shape) (code : List ℕ) → is_word s (word_of code) ≡ true → Ways 9 (word_of code)
spelled_ways s [] e = tt
spelled_ways s (b ∷ code) e =
    let h = word_of_test s (word_of (b ∷ code)) (T_of e) in
    ((h.0.0, digit_below b), digits_ways s.arity code h.1)

take_ways : (n k : ℕ) (w : Word) → Ways n w → Ways n (take k w)
take_ways n zero w h = tt
take_ways n (suc k) [] h = tt
take_ways n (suc k) (a ∷ w) h = (h.0, take_ways n k w h.1)

pub digits_take : (k : ℕ) (code : List ℕ) → word_of (take k code) ≡ take k (word_of code)
digits_take zero code = refl
digits_take (suc k) [] = refl
digits_take (suc k) (b ∷ code) = ap (λ w. digit_of b ∷ w) (digits_take k code)

pub digits_drop : (k : ℕ) (code : List ℕ) → word_of (drop k code) ≡ drop k (word_of code)
digits_drop zero code = refl
digits_drop (suc k) [] = refl
digits_drop (suc k) (b ∷ code) = digits_drop k code

-- the first k digits of a code, packed, hold the first k digits of its word
pub unpack_front : (code : List ℕ) (k : ℕ) → Ways 9 (word_of code) → unpack (pack (word_of (take k code))) ≡ take k (word_of code)
unpack_front code k h =
    let front = take k (word_of code) in
    ap (λ w. unpack (pack w)) (digits_take k code) ∙ unpack_pack front (more_ways front (lit≤ tt) (take_ways 9 k (word_of code) h))

-- the whole word that a code spells
pub unpack_spelled : (s : Shape) (code : List ℕ) → is_word s (word_of code) ≡ true → unpack (pack (word_of code)) ≡ word_of code
unpack_spelled s code e = unpack_pack (word_of code) (more_ways (word_of code) (lit≤ tt) (spelled_ways s code e))

pub packed_spelled : (s : Shape) (code : List ℕ) → is_word s (word_of code) ≡ true → length (word_of code) ≤ max_digits → T (is_packed (pack (word_of code)))
packed_spelled s code e l = packed_pack (word_of code) (spelled_ways s code e) l

-- a word of at most k digits begins a word exactly if it begins its first k digits
pub begins_take : (p w : Word) (k : ℕ) → length p ≤ k → begins p (take k w) ≡ begins p w
begins_take [] w k h = refl
begins_take (a ∷ p) w zero h = absurd (omega arith)
begins_take (a ∷ p) [] (suc k) h = refl
begins_take (a ∷ p) (b ∷ w) (suc k) h = go (eqb a b) (begins_take p w k (omega arith))
  where
    go : (t : Bool) → begins p (take k w) ≡ begins p w → given {A = Word} (elim t as (λ _. Option Word) [ true ↦ after p (take k w) | false ↦ none ]) ≡ given {A = Word} (elim t as (λ _. Option Word) [ true ↦ after p w | false ↦ none ])
    go true e = e
    go false e = refl

-- the tail behind a prefix is what is left when as many digits are dropped
pub after_drop : (p w : Word) → begins p w ≡ true → after p w ≡ some (drop (length p) w)
after_drop p w e =
    let r = tail_of_begins p w e in
    ap (after p) r.1 ∙ after_append p r.0 ∙ ap some (sym (ap (drop (length p)) r.1 ∙ drop-append_seam p r.0))
