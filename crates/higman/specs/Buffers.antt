-- A buffer that a call is lent to write its output into (document 01, the end of "When each operation says no"). The calls of plans and
-- those of the desk say what they leave in it by these definitions. None of it need be believed: `OnlyOutputChanges` says what is written,
-- and `LentCallsExact` of desk when. Read Theorems.antt next.
use Rattle.std.specs.Prelude.{ℕ, ◌+◌, ◌≡◌, refl, true, false, [], ◌∷◌, ◌++◌, map, leb, length, take, drop}
use Rattle.higman.specs.Text.{Bytes}

-- a buffer with some bytes from the place at on, and the rest as it was
abbrev pub written : Bytes → ℕ → Bytes → Bytes
written buffer at output = take at buffer ++ (output ++ drop (at + length output) buffer)

-- "14 last: the lent buffer is shorter than the output": one answer where there is room for so many bytes, another where there is not
abbrev pub if_room : {A : Type 0} → ℕ → ℕ → A → A → A
if_room size room done short = elim (leb size room) [ true ↦ done | false ↦ short ]

-- What the buffer then holds: "On success only the bytes of the output change", those at its front, and at a refusal it "then holds
-- what it held before".
abbrev pub lent_into : Bytes → Bytes → Bytes
lent_into output buffer = if_room (length output) (length buffer) (written buffer 0 output) buffer

-- "On success only the bytes of the output change": where as many bytes stood before, and all others stay.
abbrev pub OnlyOutputChanges : Type 0
OnlyOutputChanges =
    (front old rest output : Bytes) → length old ≡ length output
    → written (front ++ (old ++ rest)) (length front) output ≡ front ++ (output ++ rest)

written_example : written (7 ∷ 7 ∷ 7 ∷ 7 ∷ []) 1 (49 ∷ 50 ∷ []) ≡ 7 ∷ 49 ∷ 50 ∷ 7 ∷ []
written_example = refl

-- three bytes with room for them, and with room for two
lent_into_example : map (lent_into (1 ∷ 2 ∷ 3 ∷ [])) ((7 ∷ 7 ∷ 7 ∷ 7 ∷ []) ∷ (7 ∷ 7 ∷ []) ∷ []) ≡ (1 ∷ 2 ∷ 3 ∷ 7 ∷ []) ∷ (7 ∷ 7 ∷ []) ∷ []
lent_into_example = refl
