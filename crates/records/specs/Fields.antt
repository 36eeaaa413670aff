-- What the functions below `read` promise, in the terms of desk's Records.antt: fields of one byte, a field up to the next tab, the last
-- field, numbers, and the fields behind a letter. Each of them is read off what stands behind the field before: nothing, or a tab and the
-- field. A reader who believes Reading.antt need not read it.
use Rattle.std.specs.Prelude.{ℕ, zero, suc, ◌≡◌, refl, true, false, ◌&&◌, not, List, [], ◌∷◌, map, length, eqb, negsuc, drop}
use Rattle.std.specs.Prelude.{Option, None, Some, option_map}
use Rattle.std.proofs.Math.Option as maybe
use Rattle.std.proofs.Math.Option.{none, some}
use Rattle.higman.specs.Text.{Bytes, tab, byte, bytes, is_numeral, numeral_value}
use Rattle.desk.specs.Limits.{max_numeral}
use Rattle.desk.specs.Records.{Record as DeskRecord, fields, no_tab, number_field, signed_field, grammar, read_by}
use Rattle.records.specs.declared.Record.{Record}
use Rattle.records.specs.declared.Record.TheVariants.{Close, Same}
use Rattle.records.specs.Reading.{placed}

-- what a form or the grammar reads
abbrev pub given : {A : Type 0} → maybe.Option A → Option A
given none = None
given (some a) = Some a

-- a field of one byte, and what stands behind it
abbrev pub single : Bytes → Option (ℕ × Bytes)
single [] = None
single (t ∷ []) = None
single (t ∷ b ∷ l) = elim (eqb t tab && not (eqb b tab)) [ true ↦ Some (b, l) | false ↦ None ]

-- so many fields of one byte each, and nothing behind them
abbrev pub singles : ℕ → Bytes → Option Bytes
singles zero [] = Some []
singles zero (b ∷ l) = None
singles (suc k) l = elim (single l) [ None ↦ None | Some p ↦ option_map (λ bs. p.0 ∷ bs) (singles k p.1) ]

-- the bytes before the first tab
abbrev pub first_field : Bytes → Bytes
first_field [] = []
first_field (b ∷ l) = elim (eqb b tab) [ true ↦ [] | false ↦ b ∷ first_field l ]

-- a field up to the next tab, and what stands from there on
abbrev pub first : Bytes → Option (Bytes × Bytes)
first [] = None
first (t ∷ l) = elim (eqb t tab) [ true ↦ Some (first_field l, drop (length (first_field l)) l) | false ↦ None ]

-- a field up to the end
abbrev pub last : Bytes → Option Bytes
last [] = None
last (t ∷ l) = elim (eqb t tab && no_tab l) [ true ↦ Some l | false ↦ None ]

-- the digit that a byte spells
abbrev pub digit : ℕ → Option ℕ
digit b = elim (is_numeral b) [ true ↦ Some (numeral_value b) | false ↦ None ]

-- what is read of the fields that stand behind a field, none or some
abbrev pub behind : (List Bytes → maybe.Option DeskRecord) → Bytes → maybe.Option DeskRecord
behind reads [] = reads []
behind reads (t ∷ l) = elim (eqb t tab) [ true ↦ reads (fields l) | false ↦ none ]

-- the record that the grammar reads, if it reads one
abbrev pub placed_if : maybe.Option DeskRecord → Option Record
placed_if none = None
placed_if (some r) = Some (placed r)

-- what a letter is read as with what stands behind it
unfoldable pub behind_letter : ℕ → Bytes → Option Record
behind_letter letter rest = placed_if (behind (read_by grammar letter) rest)

single_example : map (λ l. single (bytes l)) ("\tA" ∷ "\tA\t1" ∷ "\tAB" ∷ "A" ∷ "\t" ∷ "\t\t" ∷ [])
    ≡ Some (byte "A", []) ∷ Some (byte "A", bytes "\t1") ∷ Some (byte "A", bytes "B") ∷ None ∷ None ∷ None ∷ []
single_example = refl

singles_example : map (λ l. singles 2 (bytes l)) ("\tA\tB" ∷ "\tA" ∷ "\tA\t" ∷ "\tA\tB\t" ∷ "\tAB" ∷ [])
    ≡ Some (bytes "AB") ∷ None ∷ None ∷ None ∷ None ∷ []
singles_example = refl

first_field_example : map (λ l. first_field (bytes l)) ("11\t122\t1" ∷ "\t1" ∷ "1" ∷ []) ≡ bytes "11" ∷ [] ∷ bytes "1" ∷ []
first_field_example = refl

first_example : map (λ l. first (bytes l)) ("\t11\t122" ∷ "\t\t" ∷ "\t1" ∷ "11" ∷ [])
    ≡ Some (bytes "11", bytes "\t122") ∷ Some ([], bytes "\t") ∷ Some (bytes "1", []) ∷ None ∷ []
first_example = refl

last_example : map (λ l. last (bytes l)) ("\t11" ∷ "\t" ∷ "\t11\t" ∷ "" ∷ "11" ∷ []) ≡ Some (bytes "11") ∷ Some [] ∷ None ∷ None ∷ None ∷ []
last_example = refl

digit_example : map digit (bytes "09/:") ≡ Some 0 ∷ Some 9 ∷ None ∷ None ∷ []
digit_example = refl

given_example : map (λ f. given (number_field max_numeral (bytes f))) ("1000" ∷ "01" ∷ []) ≡ Some 1000 ∷ None ∷ []
unfolding max_numeral
given_example = refl

signed_example : map (λ f. given (signed_field max_numeral (bytes f))) ("-1000" ∷ "-0" ∷ []) ≡ Some (negsuc 999) ∷ None ∷ []
unfolding max_numeral
signed_example = refl

behind_letter_example : map (λ l. behind_letter (byte "S") (bytes l)) ("\tA\tB" ∷ "\tA" ∷ "A\tB" ∷ [])
    ≡ Some (Same (byte "A") (byte "B")) ∷ None ∷ None ∷ []
unfolding behind_letter grammar
behind_letter_example = refl

-- letters that no field follows
alone_example : map (λ l. behind_letter l []) (byte "E" ∷ byte "S" ∷ tab ∷ []) ≡ Some Close ∷ None ∷ None ∷ []
unfolding behind_letter grammar
alone_example = refl
