-- The pairs of *a then b* before reduction (document 01, "Plans": "Following of two plans may need up to 254 pairs .. before
-- reduction"). A pair of a gives one pair where b sends its to-word whole, and otherwise one for each pair of b below that word.
use Rattle.std.specs.Prelude.{◌≡◌, refl, [], ◌∷◌, ◌++◌}
use Rattle.std.proofs.Math.Option.{none, some}
use Rattle.higman.specs.Words.{Word, after}
use Rattle.higman.specs.Tables.{Pair, Table, image, row, φ, ψ}

-- the pairs of b whose from-words extend q, each from p with that tail
abbrev pub beneath : Word → Word → Table → Table
beneath p q [] = []
beneath p q (r ∷ b) = elim (after q r.from) [ none ↦ beneath p q b | some x ↦ record { from = p ++ x; to = r.to } ∷ beneath p q b ]

-- what a pair of a gives
abbrev pub spread_pair : Table → Pair → Table
spread_pair b r = elim (image b r.to) [ none ↦ beneath r.from r.to b | some v ↦ record { from = r.from; to = v } ∷ [] ]

abbrev pub spread : Table → Table → Table
spread [] b = []
spread (r ∷ a) b = spread_pair b r ++ spread a b

spread_example : spread ψ ψ ≡ row 1111 11 ∷ row 1112 121 ∷ row 112 1221 ∷ row 12 1222 ∷ []
spread_example = refl

spread_widens_example : spread φ φ ≡ row 111 112 ∷ row 112 111 ∷ row 121 122 ∷ row 122 121 ∷ []
spread_widens_example = refl
