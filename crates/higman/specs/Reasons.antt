-- Why a column is refused, without the tests that decide it: 6 for two places of which one word begins or equals the other, 7 for a block
-- that the column leaves open. `ReasonsExact` states that `overlap`, `gap` and `verdict` say just this, for every arity and every number of
-- roots, so that none of them has to be believed. Read Fronts.antt next.
use Rattle.std.specs.Prelude.{ℕ, ◌≤◌, ◌<◌, ◌≡◌, refl, ◌↔◌, true, T, length, get_or}
use mathlib.Core.List.{List, [], ◌∷◌, ◌++◌, Memᴰ}
use Rattle.std.proofs.Common.{arith}
use Rattle.higman.specs.Words.{Shape, Word, is_word, spell}
use Rattle.higman.specs.Bases.{Basis, all, gap, overlap}
use Rattle.higman.specs.Tables.{Table, froms, tos}
use Rattle.higman.specs.Answers.{Overlap, Gap, InFrom, InTo, verdict}

-- "6, one word begins or equals another": two places of the column, counted from 0, and what the word at the second has behind the word
-- at the first. Equal words at two places have nothing there.
pub record Overlapping (c : List Word) : Type 0 where
  pub first : ℕ
  pub second : ℕ
  pub two_places : first ≡ second → ⊥
  pub first_listed : first < length c
  pub second_listed : second < length c
  pub tail : Word
  pub begun : get_or c second [] ≡ get_or c first [] ++ tail

-- "7, a belt isn't covered": a block of the shape that no word of the column begins or equals, and that begins none. So no code in it has
-- a word of the column for its front.
pub record OpenBlock (s : Shape) (c : List Word) : Type 0 where
  pub block : Word
  pub of_shape : T (is_word s block)
  pub not_begun : (u tail : Word) → Memᴰ u c → block ≡ u ++ tail → ⊥
  pub begins_none : (u tail : Word) → Memᴰ u c → u ≡ block ++ tail → ⊥

-- a column whose words are apart and leave some block open
abbrev pub OnlyOpen : Shape → List Word → Type 0
OnlyOpen s c = (Overlapping c → ⊥) × OpenBlock s c

-- a table of words of a shape
pub record WordsOf (s : Shape) (t : Table) : Type 0 where
  pub arity : 1 ≤ s.arity
  pub from_words : T (all (is_word s) (froms t))
  pub to_words : T (all (is_word s) (tos t))

pub record ReasonsExact : Type 0 where
  pub overlaps : (c : List Word) → (overlap c ≡ true) ↔ Overlapping c
  pub gaps : (s : Shape) → 1 ≤ s.arity → (c : List Word) → T (all (is_word s) c) → (gap s c ≡ true) ↔ OpenBlock s c
  -- "two checks, both made of the from column and after that both of the to column": the to column is looked at where the from column is
  -- a basis
  pub from_overlap : (s : Shape) (t : Table) → (verdict s t ≡ InFrom Overlap) ↔ Overlapping (froms t)
  pub from_gap : (s : Shape) (t : Table) → WordsOf s t → (verdict s t ≡ InFrom Gap) ↔ OnlyOpen s (froms t)
  pub to_overlap : (s : Shape) (t : Table) → WordsOf s t → (verdict s t ≡ InTo Overlap) ↔ (Basis s (froms t) × Overlapping (tos t))
  pub to_gap : (s : Shape) (t : Table) → WordsOf s t → (verdict s t ≡ InTo Gap) ↔ (Basis s (froms t) × OnlyOpen s (tos t))

-- 11 begins 112, which stands before it
overlapping_example : Overlapping (spell 112 ∷ spell 12 ∷ spell 11 ∷ [])
overlapping_example =
    record {
      first = 2;
      second = 0;
      two_places = λ e. omega arith;
      first_listed = omega arith;
      second_listed = omega arith;
      tail = 2 ∷ [];
      begun = refl;
    }
