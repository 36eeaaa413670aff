-- Signed numbers, as a power's is one: a test's answer as the order that it decides, and the number that the machine reads back from its
-- bits, at any width.
use mathlib.Core.Path.{◌≡◌, ap}
use mathlib.Core.Bool.{true, false, not}
use lib.IntN.{ℤ}
use lib.Signed.{lt_z, ◌≤ℤ◌, ◌<ℤ◌, lt_z_yes, lt_z_no}
use Rattle.higman.proofs.Tests.{T_of}
use mir.Syntax.{Width}
use mir.Val.{SFits, to_z, of_z}
use mir.ValLaws.{to_z-of_z}

-- a test's answer as the order that it decides
pub is_less : {a b : ℤ} → lt_z a b ≡ true → a <ℤ b
is_less e = lt_z_yes (T_of e)

pub is_not_less : {a b : ℤ} → lt_z a b ≡ false → b ≤ℤ a
is_not_less e = lt_z_no (T_of (ap not e))

module _ (w : Width) where
  abbrev pub read : ℤ → ℤ
  read k = to_z w (of_z w k)

  pub read_is : (k : ℤ) → SFits w k → read k ≡ k
  read_is k f = to_z-of_z w k f
