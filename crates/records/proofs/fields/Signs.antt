-- The number k: what `signed_field` makes of a field by its first byte, and the opposite of a number that the machine holds, at any
-- width.
use Prim.Native.Nat.{ℕ, zero, suc, ◌-◌, ◌^◌, ◌≤◌, ◌<◌}
use mathlib.Core.Path.{◌≡◌, refl, sym, ◌∙◌, ap, subst}
use mathlib.Core.Logic.{◌⊎◌, inl, inr}
use mathlib.Core.List.{[], ◌∷◌}
use mathlib.Core.Option.{Option, none, some}
use native.Mathlib.Omega.{arith}
use borrow.Author.Tests.{lt-ltb, eq-eqb, ne_eqb}
use lib.IntN.{pos, negsuc, sub_ℕ, ◌-ℤ◌}
use lib.ListN.{length, get_or, drop}
use mir.Syntax.{Width}
use mir.Val.{SFits, to_z, of_z, hbits}
use mir.ValLaws.{to_z_pos, to_z-of_z}
use Rattle.std.specs.Prelude.{None, Some}
use Rattle.higman.specs.Text.{Bytes, byte}
use Rattle.desk.specs.Records.{number_field, signed_field, positive, negative}
use Rattle.records.specs.Fields.{given}
use Rattle.records.proofs.fields.Numbers.{number_leading_zero}

-- what a number is read as tells the number
pub given_none : {A : Type 0} (o : Option A) → given o ≡ None → o ≡ none
given_none none e = refl
given_none (some a) e = cc

pub given_some : {A : Type 0} (o : Option A) (a : A) → given o ≡ Some a → o ≡ some a
given_some none a e = cc
given_some (some b) a e = cc

module _ (digits : ℕ) where
  pub signed_minus : (f rest : Bytes) → 1 ≤ length f → get_or f 0 0 ≡ byte "-" → rest ≡ drop 1 f → signed_field digits f
      ≡ negative (number_field digits rest)
  signed_minus [] rest h e r = absurd (omega arith)
  signed_minus (b ∷ f) rest h e r = rw (eq-eqb b (byte "-") e, signed_field) (ap (λ g. negative (number_field digits g)) (sym r))

  pub signed_plain : (f : Bytes) → (length f < 1) ⊎ (get_or f 0 0 ≡ byte "-" → ⊥) → signed_field digits f ≡ positive (number_field digits f)
  signed_plain [] w = sym (ap positive (number_leading_zero digits [] refl))
  signed_plain (b ∷ f) (inl h) = absurd (omega arith)
  signed_plain (b ∷ f) (inr e) = rw (ne_eqb b (byte "-") e, signed_field)

-- the opposite of a number above zero that the machine holds
module _ (w : Width) where
  opposite : (n : ℕ) → suc n < 2 ^ hbits w → pos 0 -ℤ to_z w (suc n) ≡ negsuc n
  opposite n h =
      let one_less : suc n - 1 ≡ n = omega arith in
      ap (λ k. pos 0 -ℤ k) (to_z_pos w (suc n) h) ∙ rw (lt-ltb 0 (suc n) (omega arith), sub_ℕ) (ap negsuc one_less)

  pub opposite_fits : (n : ℕ) → (n ≡ 0 → ⊥) → n < 2 ^ hbits w → SFits w (pos 0 -ℤ to_z w n)
  opposite_fits zero above h = absurd (above refl)
  opposite_fits (suc n) above h = subst (SFits w) (sym (opposite n h)) (record { sfits = omega arith })

  pub opposite_read : (n : ℕ) → (n ≡ 0 → ⊥) → n < 2 ^ hbits w
      → Some (to_z w (of_z w (pos 0 -ℤ to_z w n))) ≡ given (negative (some n))
  opposite_read zero above h = absurd (above refl)
  opposite_read (suc n) above h =
      ap Some (to_z-of_z w (pos 0 -ℤ to_z w (suc n)) (opposite_fits (suc n) above h) ∙ opposite n h)
