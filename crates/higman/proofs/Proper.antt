-- A column by what it means: its words are words, none begins another, and every long word begins with one of them. Columns.antt
-- shows that this is what the tests of document 01 decide, and that it is to be a basis.
use Prim.Native.Nat.{ℕ, ◌≤◌}
use mathlib.Core.Path.{◌≡◌}
use mathlib.Core.List.{List, [], ◌∷◌, ◌++◌, Memᴰ}
use lib.ListN.{length}
use Rattle.higman.specs.Words.{Shape, Word}
use Rattle.higman.proofs.Tests.{IsWord}

-- w begins no word of the column, and none begins w
abbrev pub ApartFrom : Word → List Word → Type 0
ApartFrom w c = (u : Word) → Memᴰ u c → (x : Word) → (u ≡ w ++ x → ⊥) × (w ≡ u ++ x → ⊥)

-- no word of the column begins or equals another
abbrev pub Apart : List Word → Type 0
Apart [] = Unit {0}
Apart (w ∷ c) = ApartFrom w c × Apart c

-- every word of at least k digits begins with a word of the column
abbrev pub Deep : Shape → ℕ → List Word → Type 0
Deep s k c = (w : Word) → IsWord s w → k ≤ length w → (u : Word) × (x : Word) × Memᴰ u c × (w ≡ u ++ x)

pub record Proper (s : Shape) (c : List Word) : Type 0 where
  pub words : (w : Word) → Memᴰ w c → IsWord s w
  pub apart : Apart c
  pub depth : ℕ
  pub deep : Deep s depth c
