-- What writing does to a lent buffer: some bytes stand in it from a place on, the rest is as it was, and the place behind the bytes comes
-- back. Each function that writes promises this of its own bytes, and runs of bytes that follow one another are one run.
use Rattle.std.specs.Prelude.{ℕ, ◌+◌, ◌≡◌, refl, List, [], ◌∷◌, length}
use Rattle.higman.specs.Buffers.{written}

-- "On success only the bytes of the output change."
pub record Wrote (bytes buffer : List ℕ) (at : ℕ) (buffer' : List ℕ) (end : ℕ) : Type 0 where
  pub place : end ≡ at + length bytes
  pub contents : buffer' ≡ written buffer at bytes

-- two bytes from the place 1 on
wrote_example : Wrote (49 ∷ 50 ∷ []) (7 ∷ 7 ∷ 7 ∷ 7 ∷ []) 1 (7 ∷ 49 ∷ 50 ∷ 7 ∷ []) 3
wrote_example = record { place = refl; contents = refl }
