-- The number of a refusal, by the names of higman's Refusals.antt; and the refusals of higman's answers. Read Answers.antt next.
use Rattle.std.specs.Prelude.{ℕ, ◌≡◌, refl, [], ◌∷◌, map, Result, Ok, Err}
use Rattle.higman.specs.Answers as Answers
use Rattle.higman.specs.Refusals as Of
use Rattle.operations.specs.declared.refusals.Refusal.{Refusal}
use Rattle.operations.specs.declared.refusals.Refusal.TheVariants as The

abbrev pub number_of : Refusal → ℕ
number_of The.NoRecord = Of.no_record
number_of The.WrongState = Of.wrong_state
number_of The.ShapeOutside = Of.shape_outside
number_of The.BadWord = Of.bad_word
number_of The.PairsFull = Of.pairs_full
number_of The.WordsOverlap = Of.words_overlap
number_of The.RootUncovered = Of.root_uncovered
number_of The.SlotOutside = Of.slot_outside
number_of The.SlotEmpty = Of.slot_empty
number_of The.ShapesDiffer = Of.shapes_differ
number_of The.LimitBroken = Of.limit_broken
number_of The.PowerOutside = Of.power_outside
number_of The.CodeTooShort = Of.code_too_short
number_of The.BufferTooShort = Of.buffer_too_short
number_of The.InvalidValue = Of.invalid_value
number_of The.CountFull = Of.count_full
number_of The.SeedOutside = Of.seed_outside
number_of The.StationOutside = Of.station_outside
number_of The.StationRefused = Of.station_refused
number_of The.RightMissing = Of.right_missing

number_of_example : map number_of (The.NoRecord ∷ The.BadWord ∷ The.RightMissing ∷ []) ≡ 1 ∷ 4 ∷ 20 ∷ []
number_of_example = refl

-- the refusals of higman's answers
abbrev pub refusal : Answers.Refusal → Refusal
refusal Answers.BadCode = The.BadWord
refusal Answers.ShapesDiffer = The.ShapesDiffer
refusal Answers.LimitBroken = The.LimitBroken
refusal Answers.PowerOutside = The.PowerOutside
refusal Answers.SeedOutside = The.SeedOutside
refusal Answers.TooManyPairs = The.PairsFull
refusal Answers.WordTooLong = The.BadWord

-- each has the number that it has there
pub refusal_numbered : (r : Answers.Refusal) → number_of (refusal r) ≡ Answers.refusal_number r
refusal_numbered Answers.BadCode = refl
refusal_numbered Answers.ShapesDiffer = refl
refusal_numbered Answers.LimitBroken = refl
refusal_numbered Answers.PowerOutside = refl
refusal_numbered Answers.SeedOutside = refl
refusal_numbered Answers.TooManyPairs = refl
refusal_numbered Answers.WordTooLong = refl

-- the number of an answer's refusal, 0 where the answer is no refusal
abbrev pub answer_number : {A : Type 0} → Result A Refusal → ℕ
answer_number (Ok x) = 0
answer_number (Err r) = number_of r

answer_number_example : map (answer_number {A = ℕ}) (Ok 7 ∷ Err The.LimitBroken ∷ []) ≡ 0 ∷ 11 ∷ []
answer_number_example = refl
