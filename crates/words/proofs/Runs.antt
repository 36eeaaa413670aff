-- Bytes written into a buffer one run behind the other: together they are one run. `Wrote` says of a run where it stands and that the
-- rest of the buffer is as it was.
use Prim.Native.Nat.{ℕ, ◌+◌, ◌≤◌, ◌<◌}
use mathlib.Core.Path.{◌≡◌, sym, ◌∙◌, ap, ap₂}
use mathlib.Core.List.{List, [], ◌∷◌, ◌++◌, append_assoc}
use native.Mathlib.Numerals.{add-one}
use native.Mathlib.Omega.{arith}
use lib.ListN.{length, take, drop, set, length-append, length-map}
use lib.Seq.{length-take-le, take_at, drop-append-add, drop-drop, set_split}
use Rattle.higman.specs.Words.{Word}
use Rattle.higman.specs.Text.{digit_byte, word_bytes}
use Rattle.higman.specs.Buffers.{written}
use Rattle.words.specs.Writing.{Wrote}
use Rattle.words.proofs.Bytes.{written_none}

-- a word has as many bytes as digits
pub word_size : (w : Word) → length (word_bytes w) ≡ length w
word_size w = length-map w digit_byte

pub wrote_nothing : (l : List ℕ) (at : ℕ) → Wrote [] l at l at
wrote_nothing l at = record { place = omega arith; contents = written_none l at }

pub wrote_byte : (l : List ℕ) (at b : ℕ) → at < length l → Wrote (b ∷ []) l at (set l at b) (at + 1)
wrote_byte l at b h =
    record { place = omega arith; contents = set_split l at b h ∙ ap (λ n. take at l ++ b ∷ drop n l) (sym (add-one at)) }

written_twice : (l s t : List ℕ) (at : ℕ) → at ≤ length l → written (written l at s) (at + length s) t ≡ written l at (s ++ t)
written_twice l s t at h =
    let n : ℕ = at + length s in
    let p : List ℕ = take at l ++ s in
    let size : length p ≡ n = length-append (take at l) s ∙ ap (λ k. k + length s) (length-take-le at l h) in
    let whole : written l at s ≡ p ++ drop n l = sym (append_assoc (take at l) s (drop n l)) in
    let front : take n (p ++ drop n l) ≡ p = take_at p (drop n l) n size in
    let back : drop (n + length t) (p ++ drop n l) ≡ drop (n + length t) l =
    ap (λ k. drop (k + length t) (p ++ drop n l)) (sym size) ∙ drop-append-add p (drop n l) (length t) ∙ drop-drop (length t) n l in
    let total : n + length t ≡ at + length (s ++ t) = omega (arith, length-append s t) in
    ap (λ x. written x n t) whole
    ∙ ap₂ (λ f b. f ++ (t ++ b)) front back
    ∙ append_assoc (take at l) s (t ++ drop (n + length t) l)
    ∙ ap (λ x. take at l ++ x) (sym (append_assoc s t (drop (n + length t) l)))
    ∙ ap (λ k. take at l ++ ((s ++ t) ++ drop k l)) total

pub wrote_then : {s t l l' l'' : List ℕ} {at m e : ℕ} → at ≤ length l → Wrote s l at l' m → Wrote t l' m l'' e → Wrote (s ++ t) l at l'' e
wrote_then {s = s} {t = t} {l = l} {at = at} h v w =
    record {
      place = omega (arith, length-append s t, v.place, w.place);
      contents = w.contents ∙ ap₂ (λ x n. written x n t) v.contents v.place ∙ written_twice l s t at h;
    }
