-- Tables of pairs and their action on codes (document 01, "Plans"). A table is a partial map on blocks: it gives the image of each block
-- that one of its from-words begins. To be believed: `Table` and `image`; that a plan's action is that of an automorphism is
-- `PlansAreAutomorphisms`. Read Normal.antt next.
use Rattle.std.specs.Prelude.{ℕ, suc, ◌≡◌, refl, Bool, true, false, ◌&&◌, List, [], ◌∷◌, ◌++◌, map}
use Rattle.std.proofs.Math.Option.{Option, none, some}
use Rattle.higman.specs.Words.{Word, after, given, spell}
use Rattle.higman.specs.Bases.{same_word}

pub record Pair : Type 0 where
  pub from : Word
  pub to : Word

abbrev pub Table : Type 0
Table = List Pair

abbrev pub froms : Table → List Word
froms t = map (λ p. p.from) t

abbrev pub tos : Table → List Word
tos t = map (λ p. p.to) t

abbrev pub swapped : Table → Table
swapped t = map (λ p. record { from = p.to; to = p.from }) t

-- A map on blocks: the block that a block goes to whole, if it does.
abbrev pub BlockMap : Type 0
BlockMap = Word → Option Word

-- The first of some things whose word begins the word w: what `make` gives of its place, counted from 0, of the thing itself and of
-- the tail that is left of w. The things are pairs with their from-words, or the words of a column.
abbrev pub first_match : {A B : Type 0} → (A → Word) → (ℕ → A → Word → B) → List A → Word → Option B
first_match word make [] w = none
first_match word make (x ∷ l) w =
    elim (after (word x) w) [ none ↦ first_match word (λ place. make (suc place)) l w | some tail ↦ some (make 0 x tail) ]

-- the first pair whose from-word begins a word
abbrev pub match_in : {B : Type 0} → (ℕ → Pair → Word → B) → Table → Word → Option B
match_in make t w = first_match (λ p. p.from) make t w

-- "A code that begins with a from-word goes to the paired to-word followed by the tail." The same for a block.
abbrev pub image : Table → BlockMap
image t w = match_in (λ place p tail. p.to ++ tail) t w

-- "A code is long enough for a plan if it begins with one of its from-words", whatever its number of digits.
abbrev pub long_enough : Table → Word → Bool
long_enough t w = given (match_in (λ place p tail. p) t w)

abbrev pub same_table : Table → Table → Bool
same_table [] [] = true
same_table [] (q ∷ u) = false
same_table (p ∷ t) [] = false
same_table (p ∷ t) (q ∷ u) = same_word p.from q.from && same_word p.to q.to && same_table t u

-- the pair that two numbers spell, for examples
abbrev pub row : ℕ → ℕ → Pair
row u v = record { from = spell u; to = spell v }

-- document 01, "Plans to try": ψ of Example 4.11 and φ of Example 4.12 of document 004
abbrev pub ψ : Table
ψ = row 111 11 ∷ row 112 121 ∷ row 12 122 ∷ []

abbrev pub φ : Table
φ = row 111 122 ∷ row 112 121 ∷ row 12 11 ∷ []

-- document 01, "A session in full": 1122 goes to 1212, and 11 is too short
image_example : image ψ (spell 1122) ≡ some (spell 1212)
image_example = refl

long_enough_example : map (long_enough ψ) (spell 1122 ∷ spell 11 ∷ []) ≡ true ∷ false ∷ []
long_enough_example = refl

-- place, pair and tail of the pair that begins 1122
first_match_example : match_in {B = ℕ × Pair × Word} (λ place p tail. (place, p, tail)) ψ (spell 1122) ≡ some (1, row 112 121, spell 2)
first_match_example = refl
