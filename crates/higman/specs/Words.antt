-- Shapes and words (document 01, "Codes"; document 004, section 3): a word is a root and then ways. What it is for one word to begin
-- another, and the tail that is then left. All of it is to be believed; `PlanLimitsExact` has the digits in figures. Read Text.antt next.
use Rattle.std.specs.Prelude.{ℕ, zero, suc, ◌/◌, ◌%◌, ◌≡◌, refl, Bool, true, false, ◌&&◌, List, [], ◌∷◌, ◌++◌, map, leb, eqb}
use Rattle.std.proofs.Math.Option.{Option, none, some}

-- "A shape has n ways at every switch .. and r belts": the arity n and the roots r. Any two numbers; Limits.antt has the range.
pub record Shape : Type 0 where
  pub arity : ℕ
  pub roots : ℕ

-- A code, or the front of one: its digits from the first on. The belts are the generators x of document 004, the ways its α.
abbrev pub Word : Type 0
Word = List ℕ

-- the numbers a, a + 1, .., m of them
abbrev pub count : ℕ → ℕ → List ℕ
count a zero = []
count a (suc m) = a ∷ count (suc a) m

-- the digits 1 to n: the ways of a switch, or the belts
abbrev pub digits : ℕ → List ℕ
digits n = count 1 n

abbrev pub is_digit : ℕ → ℕ → Bool
is_digit n i = leb 1 i && leb i n

abbrev pub is_ways : ℕ → Word → Bool
is_ways n [] = true
is_ways n (i ∷ x) = is_digit n i && is_ways n x

-- "a belt from 1 to r, then ways from 1 to n"
abbrev pub is_word : Shape → Word → Bool
is_word s [] = false
is_word s (a ∷ x) = is_digit s.roots a && is_ways s.arity x

-- the tail of a word behind a prefix; nothing where it is no prefix
abbrev pub after : Word → Word → Option Word
after [] w = some w
after (a ∷ p) [] = none
after (a ∷ p) (b ∷ w) = elim (eqb a b) [ true ↦ after p w | false ↦ none ]

abbrev pub given : {A : Type 0} → Option A → Bool
given none = false
given (some a) = true

-- one word begins, or equals, another
abbrev pub begins : Word → Word → Bool
begins p w = given (after p w)

-- one word begins another and is not the whole of it
abbrev pub begins_properly : Word → Word → Bool
begins_properly p w = elim (after p w) [ none ↦ false | some x ↦ elim x [ [] ↦ false | i ∷ y ↦ true ] ]

-- the i-th part of a block, `wα_i` in document 004
abbrev pub child : Word → ℕ → Word
child w i = w ++ (i ∷ [])

-- the n parts of a block: the expansion `wα` of document 004
abbrev pub children : ℕ → Word → List Word
children n w = map (child w) (digits n)

-- The word that a number spells, for examples. (The first argument bounds the number of its digits.)
abbrev pub spelled : ℕ → ℕ → Word
spelled zero k = []
spelled (suc d) k = elim (k / 10) [ zero ↦ k % 10 ∷ [] | suc q ↦ spelled d (suc q) ++ (k % 10 ∷ []) ]

abbrev pub spell : ℕ → Word
spell k = spelled k k

spell_example : spell 1121 ≡ 1 ∷ 1 ∷ 2 ∷ 1 ∷ []
spell_example = refl

is_word_example : is_word (record { arity = 2; roots = 1 }) (spell 1121) ≡ true
is_word_example = refl

-- a second belt in a shape of one, a third way at a switch of two, and no digit at all
not_is_word_example : map (is_word (record { arity = 2; roots = 1 })) (spell 21 ∷ spell 13 ∷ [] ∷ []) ≡ false ∷ false ∷ false ∷ []
not_is_word_example = refl

after_example : after (spell 11) (spell 1122) ≡ some (spell 22)
after_example = refl

begins_example : map (begins (spell 12)) (spell 121 ∷ spell 12 ∷ spell 1 ∷ spell 112 ∷ []) ≡ true ∷ true ∷ false ∷ false ∷ []
begins_example = refl

begins_properly_example : map (begins_properly (spell 12)) (spell 121 ∷ spell 12 ∷ spell 1 ∷ spell 112 ∷ []) ≡ true ∷ false ∷ false ∷ false ∷ []
begins_properly_example = refl

children_example : children 3 (spell 12) ≡ spell 121 ∷ spell 122 ∷ spell 123 ∷ []
children_example = refl
