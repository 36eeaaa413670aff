-- Words as bytes (document 01, "Codes" and "Records"): the packed word that a code spells, if it spells one. What digits the bytes of a
-- code stand for is said in higman's Text.antt.
use Rattle.std.specs.Prelude.{ℕ, ◌≡◌, refl, true, false, List, [], ◌∷◌, map, replicate, Option, Some, None}
use Rattle.higman.specs.Words as Of
use Rattle.higman.specs.Text.{digit_of, word_of}
use Rattle.higman.specs.Limits.{max_digits, is_plan_word}
use Rattle.words.specs.Packed.{pack_on, pack}
use Rattle.words.specs.declared.shapes.Shape.{Shape}

-- "n ways at every switch .. and r belts"
abbrev pub shape : ℕ → ℕ → Of.Shape
shape arity roots = record { arity = arity; roots = roots }

-- the shape that two bytes hold
abbrev pub shape_of : Shape → Of.Shape
shape_of s = shape s.arity s.roots

-- "M: then 4, a word that is empty, too long or has a wrong digit"
unfoldable pub read_word : Of.Shape → List ℕ → Option ℕ
read_word s code = elim (is_plan_word s (word_of code)) [ true ↦ Some (pack (word_of code)) | false ↦ None ]

-- "12", "", and "13" at a shape of two ways
read_word_example : map (read_word (shape 2 1)) ((49 ∷ 50 ∷ []) ∷ [] ∷ (49 ∷ 51 ∷ []) ∷ []) ≡ Some 0x12 ∷ None ∷ None ∷ []
unfolding read_word is_plan_word digit_of max_digits pack pack_on
read_word_example = refl

-- "A word of 16 digits passes, 17 is 4."
read_word_limit : map (read_word (shape 2 1)) (replicate 16 49 ∷ replicate 17 49 ∷ []) ≡ Some 0x1111111111111111 ∷ None ∷ []
unfolding read_word is_plan_word digit_of max_digits pack pack_on
read_word_limit = refl
