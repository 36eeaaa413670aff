-- What the exit of a `?` returns.
use mathlib.Core.Path.{◌≡◌, ap}
use Rattle.std.specs.Prelude.{Result, Ok, Err, IsErrAnd, MatchResult}

pub returned : {A E : Type 0} (r : Result A E) (e : E) → IsErrAnd r (λ x. x ≡ e) → r ≡ Err e
returned (Ok a) e h = absurd h
returned (Err x) e h = ap Err h

-- what `map_err` by a constructor gives
abbrev pub with_error : {A E D : Type 0} → (E → D) → Result A E → Result A D
with_error f (Ok a) = Ok a
with_error f (Err e) = Err (f e)

pub mapped : {A E D : Type 0} (f : E → D) (r : Result A E) (q : Result A D) → MatchResult r (λ a. q ≡ Ok a) (λ e. IsErrAnd q (λ d. d ≡ f e))
    → q ≡ with_error f r
mapped f (Ok a) q h = h
mapped f (Err e) q h = returned q (f e) h
