-- Packed words (document 01, "Codes"): the number that holds a word, and the word that a number holds. The contracts speak of
-- the word, `unpack` of the number; 0 holds the empty word. Read Bytes.antt next.
use Rattle.std.specs.Prelude.{ℕ, zero, suc, ◌+◌, ◌*◌, ◌/◌, ◌%◌, ◌≡◌, refl, Bool, true, false, ◌&&◌, [], ◌∷◌, ◌++◌, map}
use Rattle.std.proofs.Math.Option.{Option, none, some}
use Rattle.higman.specs.Words.{Word, is_ways, spell}
use Rattle.higman.specs.Limits.{max_digits, fits}

-- the digits of a word behind the digits of n, "four bits a digit, its last digit lowest"
unfoldable pub pack_on : ℕ → Word → ℕ
pack_on n [] = n
pack_on n (a ∷ w) = pack_on (n * 16 + a) w

-- "A plan word packs into 64 bits, four bits a digit, its last digit lowest and zeros above."
unfoldable pub pack : Word → ℕ
pack w = pack_on 0 w

-- the digits of x, without the zeros above (the first argument bounds their number)
unfoldable pub unpack_in : ℕ → ℕ → Word
unpack_in zero x = []
unpack_in (suc d) zero = []
unpack_in (suc d) (suc x) = unpack_in d (suc x / 16) ++ (suc x % 16 ∷ [])

unfoldable pub unpack : ℕ → Word
unpack x = unpack_in x x

-- a number that holds a word of the digits 1 to 9 that a plan has room for, the empty word among them
unfoldable pub is_packed : ℕ → Bool
is_packed x = is_ways 9 (unpack x) && fits (unpack x)

-- the word, or the empty word where there is none
abbrev pub or_empty : Option Word → Word
or_empty none = []
or_empty (some w) = w

-- the last digit of a word; 0, which is no digit, of the empty word
abbrev pub last : Word → ℕ
last [] = 0
last (a ∷ w) = elim w [ [] ↦ a | b ∷ u ↦ last w ]

pack_example : pack (spell 1121) ≡ 0x1121
unfolding pack pack_on
pack_example = refl

unpack_example : map unpack (0 ∷ 0x12 ∷ 0x9199919991999199 ∷ []) ≡ [] ∷ spell 12 ∷ spell 9199919991999199 ∷ []
unfolding unpack unpack_in
unpack_example = refl

-- the empty word and 12 are packed; with a digit 0 or 10, or a seventeenth, a number is not
is_packed_example : map is_packed (0 ∷ 0x12 ∷ 0x102 ∷ 0x1a ∷ 0x11111111111111111 ∷ []) ≡ true ∷ true ∷ false ∷ false ∷ false ∷ []
unfolding is_packed unpack unpack_in max_digits
is_packed_example = refl

last_example : map last ([] ∷ spell 1 ∷ spell 12 ∷ []) ≡ 0 ∷ 1 ∷ 2 ∷ []
last_example = refl
