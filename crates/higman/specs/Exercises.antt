-- Plans made by numbers (change request E3, "Load to exercise a new line"): the draws of a generator choose where the belts are split and
-- how the to-words are shuffled, so that anyone makes the same plan again from its shape, a number of splits and a seed. What the
-- definitions say by the number of draws, `ExerciseMade` says again draw by draw, in the order of the request, and `ExercisesExact` states
-- that the two agree, that both columns are bases, and that E would accept them. So X's making need not be believed, but `ExerciseMade`.
-- Read Shortest.antt next.
use Rattle.std.specs.Prelude.{ℕ, zero, suc, ◌+◌, ◌*◌, ◌-◌, ◌%◌, ◌≤◌, ◌<◌, ◌≡◌, refl, true, false, T, leb, length, get_or, take, drop, set}
use mathlib.Core.List.{List, [], ◌∷◌, ◌++◌, map, Permᴰ}
use Rattle.higman.specs.Words.{Shape, Word, children, spell}
use Rattle.higman.specs.Bases.{root_words, Expansion, all, longest}
use Rattle.higman.specs.Tables.{Table, froms, tos, row}
use Rattle.higman.specs.Normal.{joined, normal, normal_form, keep, ordered}
use Rattle.higman.specs.Limits.{Plan, Bases, Kept, shape_in_range, seed_in_range, pair_fits, max_pairs, max_digits}
use Rattle.higman.specs.Answers.{verdict, Accepted, Answer, Granted, Refused, SeedOutside, TooManyPairs, WordTooLong}

-- "The next draw is 16807 times the last, modulo 2147483647 (Park and Miller's generator)"
unfoldable pub next_draw : ℕ → ℕ
next_draw x = 16_807 * x % 2_147_483_647

-- the draw after so many: "the seed stands before the first draw"
unfoldable pub drawn : ℕ → ℕ → ℕ
drawn seed zero = seed
drawn seed (suc i) = next_draw (drawn seed i)

-- A simple expansion: of the word at a place, "counted from zero", and "that word's n parts in its stead".
abbrev pub expanded_at : ℕ → List Word → ℕ → List Word
expanded_at n c place = take place c ++ children n (get_or c place []) ++ drop (suc place) c

-- "Start from the r belts. Do s splits: draw, take the draw modulo the number of words as a place": the column after s splits, by the
-- draws that follow x
unfoldable pub grown : Shape → ℕ → ℕ → List Word
grown s x zero = root_words s
grown s x (suc k) = expanded_at s.arity (grown s x k) (drawn x (suc k) % length (grown s x k))

-- a column with the words at two places swapped
abbrev pub exchanged : List Word → ℕ → ℕ → List Word
exchanged c i j = set (set c i (get_or c j [])) j (get_or c i [])

-- "for i from the last place down to 1, draw and swap to-words i and draw modulo (i+1)": the places from i down to 1, by the draws that
-- follow x
unfoldable pub shuffled : ℕ → List Word → ℕ → List Word
shuffled x c zero = c
shuffled x c (suc i) = shuffled (next_draw x) (exchanged c (suc i) (next_draw x % (suc i + 1))) i

-- "Make the from column so, then the to column, drawing on." The to column is shuffled after that.
abbrev pub from_column : Shape → ℕ → ℕ → List Word
from_column s k seed = grown s seed k

abbrev pub unshuffled : Shape → ℕ → ℕ → List Word
unshuffled s k seed = grown s (drawn seed k) k

abbrev pub to_column : Shape → ℕ → ℕ → List Word
to_column s k seed = shuffled (drawn seed (k + k)) (unshuffled s k seed) (length (unshuffled s k seed) - 1)

-- two columns, place by place
abbrev pub paired : List Word → List Word → Table
paired [] to = []
paired (f ∷ from) [] = []
paired (f ∷ from) (t ∷ to) = record { from = f; to = t } ∷ paired from to

-- the plan before it is reduced, of a shape, so many splits and a seed
unfoldable pub exercised : Shape → ℕ → ℕ → Table
exercised s k seed = paired (from_column s k seed) (to_column s k seed)

-- "Reduce and keep"
abbrev pub exercise_plan : Shape → ℕ → ℕ → Plan
exercise_plan s k seed = record { shape = s; rows = keep s (exercised s k seed) }

-- X: "17, a seed outside 1 to 2147483646 ..; then 5 and 4 if the unreduced plan breaks those limits"
unfoldable pub exercise : Shape → ℕ → ℕ → Answer
exercise s k seed =
    elim
    (seed_in_range seed) [
      | false ↦ Refused SeedOutside
      | true ↦
          elim
          (leb (length (exercised s k seed)) max_pairs) [
            | false ↦ Refused TooManyPairs
            | true ↦
                elim
                (all pair_fits (exercised s k seed)) [
                  | false ↦ Refused WordTooLong
                  | true ↦ Granted (exercise_plan s k seed)
                ]
          ]
    ]

-- the draw that follows x, once more in the request's numbers, so that what follows rests on none of the definitions above
abbrev pub draw_after : ℕ → ℕ
draw_after x = 16_807 * x % 2_147_483_647

-- Splits of a column of n parts to a word, as they are made: from the last draw and the column before them, so many, to the last draw
-- and the column behind them. "draw, take the draw modulo the number of words as a place in digit order counted from zero, and put that
-- word's n parts in its stead"
pub data Splits (n : ℕ) : ℕ → List Word → ℕ → ℕ → List Word → Type 0 where
  no_split : {x : ℕ} {c : List Word} → Splits n x c 0 x c
  split : {x y k : ℕ} {c : List Word} (front : List Word) (w : Word) (back : List Word)
      → ordered (front ++ w ∷ back) ≡ true
      → length front ≡ draw_after x % length (front ++ w ∷ back)
      → Splits n (draw_after x) (front ++ children n w ++ back) k y c
      → Splits n x (front ++ w ∷ back) (suc k) y c

-- two words of a column change places, and all others stay
pub record Swapped (i j : ℕ) (c e : List Word) : Type 0 where
  pub long : length e ≡ length c
  pub here : get_or e i [] ≡ get_or c j []
  pub there : get_or e j [] ≡ get_or c i []
  pub elsewhere : (k : ℕ) → (k ≡ i → ⊥) → (k ≡ j → ⊥) → get_or e k [] ≡ get_or c k []

-- "Then for i from the last place down to 1, draw and swap to-words i and draw modulo (i+1)."
pub data Shuffle : ℕ → List Word → ℕ → List Word → Type 0 where
  no_swap : {x : ℕ} {c : List Word} → Shuffle x c 0 c
  swap : {x i : ℕ} {c e f : List Word}
      → Swapped (suc i) (draw_after x % (suc i + 1)) c e → Shuffle (draw_after x) e i f → Shuffle x c (suc i) f

-- A table is made as the request says: the from column, then the to column with the draws that follow, and then its shuffle.
pub record ExerciseMade (s : Shape) (k seed : ℕ) (t : Table) : Type 0 where
  -- the last draw for the from column and the last for the to column, and the to-words before their shuffle
  pub from_draw : ℕ
  pub to_draw : ℕ
  pub to_words : List Word
  pub from_column_lem : Splits s.arity seed (root_words s) k from_draw (froms t)
  pub to_column_lem : Splits s.arity from_draw (root_words s) k to_draw to_words
  pub shuffle : Shuffle to_draw to_words (length to_words - 1) (tos t)

pub record ExercisesExact : Type 0 where
  -- "16807 times the last, modulo 2147483647", here too in figures
  pub next_draw_lem : (x : ℕ) → drawn x 1 ≡ 16_807 * x % 2_147_483_647
  -- every draw is a seed in range again, for a seed in range
  pub draws : (seed : ℕ) → T (seed_in_range seed) → (i : ℕ) → T (seed_in_range (drawn seed i))
  -- the plan is made as the request says, and no other table is
  pub made : (s : Shape) → 1 ≤ s.arity → 1 ≤ s.roots → (k seed : ℕ) → ExerciseMade s k seed (exercised s k seed)
  pub determined : (s : Shape) (k seed : ℕ) (t u : Table) → ExerciseMade s k seed t → ExerciseMade s k seed u → t ≡ u
  -- a column has r + s(n−1) words, in digit order, and is an expansion of the belts; so both columns are bases
  pub size : (s : Shape) → 1 ≤ s.arity → 1 ≤ s.roots → (x k : ℕ) → length (grown s x k) ≡ s.roots + k * (s.arity - 1)
  pub in_order : (s : Shape) → 1 ≤ s.arity → 1 ≤ s.roots → (x k : ℕ) → ordered (grown s x k) ≡ true
  pub expands : (s : Shape) → 1 ≤ s.arity → 1 ≤ s.roots → (x k : ℕ) → Expansion s k (grown s x k)
  pub pairs : (s : Shape) → 1 ≤ s.arity → 1 ≤ s.roots → (k seed : ℕ)
      → length (exercised s k seed) ≡ s.roots + k * (s.arity - 1)
  pub bases : (s : Shape) → 1 ≤ s.arity → 1 ≤ s.roots → (k seed : ℕ) → Bases s (exercised s k seed)
  -- so 6 and 7 can't occur: E's verdict
  pub accepted : (s : Shape) → 1 ≤ s.arity → 1 ≤ s.roots → (k seed : ℕ) → verdict s (exercised s k seed) ≡ Accepted
  -- a shuffle is a permutation
  pub permutes : (x : ℕ) (c : List Word) (i : ℕ) → i < length c → Permᴰ (shuffled x c i) c
  -- a word that is too long stays so, or has parts that are, whatever is split after it
  pub outgrown : (s : Shape) → 1 ≤ s.arity → 1 ≤ s.roots → (x k j : ℕ)
      → longest (grown s x k) ≤ longest (grown s x (k + j))
  -- 17 before all; then 5, by the number of pairs alone; then 4; and the plan where none of them is given
  pub seed_first : (s : Shape) (k seed : ℕ) → seed_in_range seed ≡ false → exercise s k seed ≡ Refused SeedOutside
  pub then_pairs : (s : Shape) → 1 ≤ s.arity → 1 ≤ s.roots → (k seed : ℕ) → T (seed_in_range seed)
      → max_pairs < s.roots + k * (s.arity - 1) → exercise s k seed ≡ Refused TooManyPairs
  pub then_words : (s : Shape) → 1 ≤ s.arity → 1 ≤ s.roots → (k seed : ℕ) → T (seed_in_range seed)
      → s.roots + k * (s.arity - 1) ≤ max_pairs → all pair_fits (exercised s k seed) ≡ false
      → exercise s k seed ≡ Refused WordTooLong
  pub else_granted : (s : Shape) → 1 ≤ s.arity → 1 ≤ s.roots → (k seed : ℕ) → T (seed_in_range seed)
      → s.roots + k * (s.arity - 1) ≤ max_pairs → T (all pair_fits (exercised s k seed))
      → exercise s k seed ≡ Granted (exercise_plan s k seed)
  -- what is granted is a kept plan
  pub kept : (s : Shape) → T (shape_in_range s) → (k seed : ℕ) (p : Plan) → exercise s k seed ≡ Granted p → Kept p

-- the first draws from the seed 1, as Park and Miller list them
drawn_example : map (drawn 1) (0 ∷ 1 ∷ 2 ∷ 3 ∷ []) ≡ 1 ∷ 16_807 ∷ 282_475_249 ∷ 1_622_650_073 ∷ []
unfolding drawn next_draw
drawn_example = refl

-- the place 1 of 11 and 12
expanded_at_example : expanded_at 2 (spell 11 ∷ spell 12 ∷ []) 1 ≡ spell 11 ∷ spell 121 ∷ spell 122 ∷ []
expanded_at_example = refl

exchanged_example : exchanged (spell 1 ∷ spell 2 ∷ spell 3 ∷ []) 2 0 ≡ spell 3 ∷ spell 2 ∷ spell 1 ∷ []
exchanged_example = refl

-- 16807 leaves 1 modulo 3, and 282475249 leaves 1 modulo 2: the places 2 and 1 are swapped, and 1 with itself
shuffled_example : shuffled 1 (spell 1 ∷ spell 2 ∷ spell 3 ∷ []) 2 ≡ spell 1 ∷ spell 3 ∷ spell 2 ∷ []
unfolding shuffled next_draw
shuffled_example = refl

-- Two splits at the shape (2,1) by the seed 1. From-words: 16807 takes 1 apart, and 282475249, odd, the second of 11 and 12. To-words:
-- 1622650073 takes 1 apart, and 984943658, even, the first of 11 and 12. Then 1144108930, which leaves 1 modulo 3, swaps the places 2 and
-- 1, and 470211272, even, the places 1 and 0. The last two pairs join.
exercised_example : exercised (record { arity = 2; roots = 1 }) 2 1 ≡ row 11 12 ∷ row 121 111 ∷ row 122 112 ∷ []
unfolding exercised grown shuffled drawn next_draw
exercised_example = refl

exercise_example : exercise (record { arity = 2; roots = 1 }) 2 1
    ≡ Granted (record { shape = record { arity = 2; roots = 1 }; rows = row 11 12 ∷ row 12 11 ∷ [] })
unfolding exercise exercised grown shuffled drawn next_draw seed_in_range max_pairs max_digits keep normal_form normal joined
exercise_example = refl

-- 129 pairs before reduction, behind seeds outside and behind one in range
exercise_refused_example : map (λ seed. exercise (record { arity = 9; roots = 9 }) 15 seed) (0 ∷ 2_147_483_647 ∷ 1 ∷ [])
    ≡ Refused SeedOutside ∷ Refused SeedOutside ∷ Refused TooManyPairs ∷ []
unfolding exercise exercised grown shuffled drawn next_draw seed_in_range max_pairs
exercise_refused_example = refl
