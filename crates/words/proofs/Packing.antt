-- Packing and unpacking are inverse to each other, for any number of digits: `pack_unpack` and `unpack_pack`. How a number's
-- digits follow when a digit or a word is put behind it or taken off, and between which powers a number of k digits lies.
use Prim.Native.Nat.{ℕ, zero, suc, ◌+◌, ◌*◌, ◌/◌, ◌%◌, ◌≤◌, ◌<◌}
use mathlib.Core.Path.{◌≡◌, refl, sym, ◌∙◌, ap, ap₂}
use mathlib.Core.List.{[], ◌∷◌, ◌++◌, append-nil, append_assoc}
use native.Mathlib.Nat.{div-add-mod'}
use native.Mathlib.Omega.{arith}
use lib.Arith.{digits_div, digits_mod}
use Rattle.higman.specs.Words.{Word, child}
use Rattle.higman.proofs.Tests.{Ways}
use Rattle.words.specs.Packed.{pack_on, pack, unpack_in, unpack}

-- more room for digits than there are changes nothing
enough : (d e x : ℕ) → x ≤ d → x ≤ e → unpack_in d x ≡ unpack_in e x
unfolding unpack_in
enough zero zero x h k = refl
enough zero (suc e) zero h k = refl
enough zero (suc e) (suc x) h k = absurd (omega arith)
enough (suc d) zero zero h k = refl
enough (suc d) zero (suc x) h k = absurd (omega arith)
enough (suc d) (suc e) zero h k = refl
enough (suc d) (suc e) (suc x) h k =
    ap (λ w. w ++ (suc x % 16 ∷ [])) (enough d e (suc x / 16) (omega arith) (omega arith))

pub unpack_zero : unpack 0 ≡ []
unfolding unpack unpack_in
unpack_zero = refl

-- the last digit, and the digits before it
pub unpack_step : (x : ℕ) → 0 < x → unpack x ≡ child (unpack (x / 16)) (x % 16)
unfolding unpack unpack_in
unpack_step zero h = absurd (omega arith)
unpack_step (suc x) h = ap (λ w. w ++ (suc x % 16 ∷ [])) (enough x (suc x / 16) (suc x / 16) (omega arith) (omega arith))

-- what holds of 0, and of a number when it holds of the digits before its last, holds of all numbers
pub digit_induction : (P : ℕ → Type 0) → P 0 → ((x : ℕ) → 0 < x → P (x / 16) → P x) → (x : ℕ) → P x
digit_induction P z s x = go x x (omega arith)
  where
    go : (d x : ℕ) → x ≤ d → P x
    go zero zero h = z
    go zero (suc x) h = absurd (omega arith)
    go (suc d) zero h = z
    go (suc d) (suc x) h = s (suc x) (omega arith) (go d (suc x / 16) (omega arith))

pub pack_on_empty : (n : ℕ) → n ≡ pack_on n []
unfolding pack_on
pack_on_empty n = refl

pub pack_on_append : (n : ℕ) (u v : Word) → pack_on n (u ++ v) ≡ pack_on (pack_on n u) v
unfolding pack_on
pack_on_append n [] v = refl
pack_on_append n (a ∷ u) v = pack_on_append (n * 16 + a) u v

-- the word followed by the digit i
pub pack_child : (w : Word) (i : ℕ) → pack (child w i) ≡ pack w * 16 + i
unfolding pack pack_on
pack_child w i = pack_on_append 0 w (i ∷ [])

pub pack_empty : pack [] ≡ 0
unfolding pack pack_on
pack_empty = refl

pub pack_unpack : (x : ℕ) → pack (unpack x) ≡ x
pack_unpack = digit_induction (λ x. pack (unpack x) ≡ x) (ap pack unpack_zero ∙ pack_empty) step
  where
    step : (x : ℕ) → 0 < x → pack (unpack (x / 16)) ≡ x / 16 → pack (unpack x) ≡ x
    step x h e = ap pack (unpack_step x h) ∙ pack_child (unpack (x / 16)) (x % 16) ∙ ap (λ q. q * 16 + x % 16) e ∙ div-add-mod' x 16

-- a number's digits, with one more digit of four bits behind
pub unpack_digit : (n i : ℕ) → i < 16 → 0 < n * 16 + i → unpack (n * 16 + i) ≡ child (unpack n) i
unpack_digit n i h p =
    unpack_step (n * 16 + i) p ∙ ap₂ (λ q r. child (unpack q) r) (digits_div n h) (digits_mod n h)

-- a number's digits, with a word behind
pub unpack_pack_on : (n : ℕ) (w : Word) → Ways 15 w → unpack (pack_on n w) ≡ unpack n ++ w
unfolding pack_on
unpack_pack_on n [] h = sym (append-nil (unpack n))
unpack_pack_on n (a ∷ w) h =
    unpack_pack_on (n * 16 + a) w h.1
    ∙ ap (λ u. u ++ w) (unpack_digit n a (omega arith) (omega arith))
    ∙ append_assoc (unpack n) (a ∷ []) w

pub unpack_pack : (w : Word) → Ways 15 w → unpack (pack w) ≡ w
unfolding pack
unpack_pack w h = unpack_pack_on 0 w h ∙ ap (λ u. u ++ w) unpack_zero

-- two words pack alike only if they are the same
pub pack_injective : (u v : Word) → Ways 15 u → Ways 15 v → pack u ≡ pack v → u ≡ v
pack_injective u v h k e = sym (unpack_pack u h) ∙ ap unpack e ∙ unpack_pack v k

pub unpack_injective : (x y : ℕ) → unpack x ≡ unpack y → x ≡ y
unpack_injective x y e = sym (pack_unpack x) ∙ ap pack e ∙ pack_unpack y
