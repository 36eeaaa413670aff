-- Only a Z hands over, and to the station that it names.
use Prim.Native.Nat.{ℕ}
use mathlib.Core.Path.{◌≡◌, refl, ap, subst}
use mathlib.Core.Bool.{Bool, true, false}
use mathlib.Core.Option.{Option, none, some, none-ne-some, some-injective}
use lib.Dec.{T as So}
use Rattle.higman.proofs.Tests.{T_of}
use Rattle.desk.specs.Desk.{is_station}
use Rattle.desk.specs.Records.{Record, P, M, E, F, I, K, S, W, L, C, T, U, X, Z, G, H}
use Rattle.desk.specs.Sights.{hands_over}

pub no_turn : {A : Type 0} {t : ℕ} → none ≡ some t → A
no_turn q = absurd (none-ne-some _ q)

-- only a Z hands over, and to the station that it names
pub hands_over_lem : (r : Record) (t : ℕ) → hands_over r ≡ some t → (r ≡ Z t) × So (is_station t)
unfolding hands_over
hands_over_lem (P a n r) t e = no_turn e
hands_over_lem (M from to) t e = no_turn e
hands_over_lem E t e = no_turn e
hands_over_lem (F a b c) t e = no_turn e
hands_over_lem (I a c) t e = no_turn e
hands_over_lem (K a k c) t e = no_turn e
hands_over_lem (S a b) t e = no_turn e
hands_over_lem (W a code) t e = no_turn e
hands_over_lem (L a) t e = no_turn e
hands_over_lem (C a) t e = no_turn e
hands_over_lem T t e = no_turn e
hands_over_lem U t e = no_turn e
hands_over_lem (X a n r s seed) t e = no_turn e
hands_over_lem (Z s) t e = by (is_station s) refl e
  where
    by : (b : Bool) → is_station s ≡ b → ◌≡◌ {A = Option ℕ} (elim b [ true ↦ some s | false ↦ none ]) (some t)
        → (Z s ≡ Z t) × So (is_station t)
    by true k q = let same = some-injective s t q in (ap Record.Z same, subst (λ n. So (is_station n)) same (T_of k))
    by false k q = no_turn q
hands_over_lem (G s a x) t e = no_turn e
hands_over_lem H t e = no_turn e
