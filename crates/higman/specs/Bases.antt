-- Bases (document 004, section 3): expansions of the roots, and what document 01 tests instead, that no word begins another and that each
-- belt is covered. That the two say the same is the theorem `ColumnIsBasis` of Theorems.antt. To be believed: `Basis` and what it is made
-- of. The tests, from `covered` to `overlap`, need not be: `ColumnIsBasis` and `ReasonsExact` fix them. Read Tables.antt next.
use Rattle.std.specs.Prelude.{ℕ, zero, suc, max, ◌≡◌, refl, Bool, true, false, ◌&&◌, ◌||◌, not, T, eqb, length}
use mathlib.Core.List.{List, [], ◌∷◌, ◌++◌, map, Permᴰ}
use Rattle.higman.specs.Words.{Shape, Word, digits, is_word, begins, child, children, spell}

-- the generators x of document 004
abbrev pub root_words : Shape → List Word
root_words s = map (λ a. a ∷ []) (digits s.roots)

-- "A sequence of d simple expansions of Y is called a d-fold expansion": d times, one word is replaced by its n children.
abbrev pub Expansion : Shape → ℕ → List Word → Type 0
Expansion s zero c = c ≡ root_words s
Expansion s (suc d) c = (front : List Word) × (w : Word) × (back : List Word) × Expansion s d (front ++ w ∷ back) × (c ≡ front ++ children s.arity w ++ back)

-- Definition 3.6, "an A-basis is an expansion of x". A column is one if it lists an expansion, in any order.
pub record Basis (s : Shape) (c : List Word) : Type 0 where
  pub folds : ℕ
  pub expansion : List Word
  pub expands : Expansion s folds expansion
  pub listing : Permᴰ c expansion

abbrev pub same_word : Word → Word → Bool
same_word [] [] = true
same_word [] (b ∷ v) = false
same_word (a ∷ u) [] = false
same_word (a ∷ u) (b ∷ v) = eqb a b && same_word u v

abbrev pub listed : Word → List Word → Bool
listed w [] = false
listed w (u ∷ c) = same_word w u || listed w c

-- a test at each element; the rest is not looked at once one fails
abbrev pub all : {A : Type 0} → (A → Bool) → List A → Bool
all f [] = true
all f (x ∷ l) = elim (f x) [ true ↦ all f l | false ↦ false ]

-- a test at some element
abbrev pub any_of : {A : Type 0} → (A → Bool) → List A → Bool
any_of f [] = false
any_of f (x ∷ l) = f x || any_of f l

-- "A block is covered if it is listed or if each of its n parts is covered", looked at d ways below the block.
abbrev pub covered : ℕ → List Word → ℕ → Word → Bool
covered n c zero w = listed w c
covered n c (suc d) w = elim (listed w c) [ true ↦ true | false ↦ all (λ i. covered n c d (child w i)) (digits n) ]

-- the digits of a column's longest word: deeper there is nothing to look for
abbrev pub longest : List Word → ℕ
longest [] = zero
longest (w ∷ c) = max (length w) (longest c)

-- "a belt isn't covered"
abbrev pub gap : Shape → List Word → Bool
gap s c = not (all (λ a. covered s.arity c (longest c) (a ∷ [])) (digits s.roots))

-- a word begins a word of the column, or the other way round
abbrev pub meets : Word → List Word → Bool
meets w [] = false
meets w (u ∷ c) = begins w u || begins u w || meets w c

-- "one word begins or equals another"
abbrev pub overlap : List Word → Bool
overlap [] = false
overlap (w ∷ c) = meets w c || overlap c

-- "A column is a basis when no word of it begins another, none is there twice, and each belt is covered."
pub record Column (s : Shape) (c : List Word) : Type 0 where
  pub words : T (all (is_word s) c)
  pub apart : overlap c ≡ false
  pub covers : gap s c ≡ false

expansion_example : Expansion (record { arity = 2; roots = 1 }) 2 (spell 111 ∷ spell 112 ∷ spell 12 ∷ [])
expansion_example = ([], spell 11, spell 12 ∷ [], ([], spell 1, [], refl, refl), refl)

covered_example : covered 2 (spell 121 ∷ spell 11 ∷ spell 122 ∷ []) 2 (spell 1) ≡ true
covered_example = refl

-- document 01: "A short column can hide behind a right count", the 7, T case
gap_example : gap (record { arity = 2; roots = 1 }) (spell 11 ∷ spell 121 ∷ spell 1221 ∷ []) ≡ true
gap_example = refl

-- the same column without the gap
no_gap_example : gap (record { arity = 2; roots = 1 }) (spell 11 ∷ spell 121 ∷ spell 122 ∷ []) ≡ false
no_gap_example = refl

overlap_example : map overlap ((spell 1 ∷ spell 11 ∷ []) ∷ (spell 11 ∷ spell 11 ∷ []) ∷ (spell 12 ∷ spell 11 ∷ []) ∷ []) ≡ true ∷ true ∷ false ∷ []
overlap_example = refl
