-- From a line of bytes to a record (document 01, "Records", with "Field forms"). A line that is no record, by its letter, its number of
-- fields or a field's form, has none: that is refusal 1. With it the text of each record, and what of its kind a record says: whether it
-- needs an open plan, which stations it names, which slots and what for, and whether it is a change. To be believed: `Record`. The grammar
-- need not be: `GrammarExact`, `RecordForms` and `WellFormedExact` fix it; and `RepliesExact`, `SlotsUsed`, `CountsOfStations`, `RightsExact`
-- and `first_condition` of Demand1 the kinds. Read Replies.antt next.
use Rattle.std.specs.Prelude.{ℕ, zero, suc, ◌≡◌, refl, Bool, true, false, ◌&&◌, not, List, [], ◌∷◌, ◌++◌, map, leb, eqb, ℤ, pos, negsuc, nat_abs, length}
use Rattle.std.proofs.Math.Option.{Option, none, some}
use Rattle.higman.specs.Bases.{all}
use Rattle.higman.specs.Text.{tab, Bytes, byte, bytes, is_numeral, spelled_out, no_leading_zero, decimal}
use Rattle.desk.specs.Limits.{max_numeral, max_splits_numeral, max_seed_numeral}

-- "right being 0 nothing, 1 read, 2 read and write" (change request E6)
pub data Right : Type 0 where
  no_right : Right
  may_read : Right
  may_write : Right

unfoldable pub right_number : Right → ℕ
right_number no_right = 0
right_number may_read = 1
right_number may_write = 2

-- A record, by its letter. A slot is the byte that names it, a word or code the bytes that spell it.
pub data Record : Type 0 where
  -- P⇥slot⇥n⇥r opens a plan
  P : ℕ → ℕ → ℕ → Record
  -- M⇥from⇥to adds a pair
  M : Bytes → Bytes → Record
  -- E closes: reduce and keep
  E : Record
  -- F⇥a⇥b⇥c keeps *a then b* in c
  F : ℕ → ℕ → ℕ → Record
  -- I⇥a⇥c keeps the inverse
  I : ℕ → ℕ → Record
  -- K⇥a⇥k⇥c keeps the power
  K : ℕ → ℤ → ℕ → Record
  -- S⇥a⇥b: whether the plans act alike
  S : ℕ → ℕ → Record
  -- W⇥a⇥code: the image or, of a front, the block
  W : ℕ → Bytes → Record
  -- L⇥a lists the plan
  L : ℕ → Record
  -- C⇥a empties a slot
  C : ℕ → Record
  -- T: the count
  T : Record
  -- U: the held slots
  U : Record
  -- X⇥slot⇥n⇥r⇥s⇥seed makes a plan by numbers and keeps it (change request E3)
  X : ℕ → ℕ → ℕ → ℕ → ℕ → Record
  -- Z⇥station names the station for the records after it (change request E5)
  Z : ℕ → Record
  -- G⇥station⇥slot⇥right gives a station a right on a slot (change request E6)
  G : ℕ → ℕ → Right → Record
  -- H: the number of pairs in all slots (change request E8)
  H : Record

-- a byte in front of the first field
abbrev pub in_front : ℕ → List Bytes → List Bytes
in_front b [] = (b ∷ []) ∷ []
in_front b (f ∷ fs) = (b ∷ f) ∷ fs

-- "fields parted by tabs": one more than there are tabs, and a line of no bytes is one empty field
abbrev pub fields : Bytes → List Bytes
fields [] = [] ∷ []
fields (b ∷ l) = elim (eqb b tab) [ true ↦ [] ∷ fields l | false ↦ in_front b (fields l) ]

-- the same bytes back: fields with tabs between them
abbrev pub parted : List Bytes → Bytes
parted [] = []
parted (f ∷ []) = f
parted (f ∷ g ∷ fs) = f ++ tab ∷ parted (g ∷ fs)

-- A field form: the value of a field that has it.
abbrev pub Form : Type 0 → Type 0
Form A = Bytes → Option A

-- "slot one byte", whatever its value
abbrev pub slot_field : Form ℕ
slot_field [] = none
slot_field (b ∷ []) = some b
slot_field (b ∷ c ∷ l) = none

-- "Words and codes may be any bytes, none included."
abbrev pub any_field : Form Bytes
any_field f = some f

-- A number of one digit, or of some: so many at most, "no leading zero". "n and r one digit 0 to 9"
abbrev pub number_field : ℕ → Form ℕ
number_field digits f =
    elim (all is_numeral f && leb (length f) digits && no_leading_zero f) [ true ↦ some (spelled_out 0 f) | false ↦ none ]

abbrev pub positive : Option ℕ → Option ℤ
positive none = none
positive (some n) = some (pos n)

-- "no minus zero"
abbrev pub negative : Option ℕ → Option ℤ
negative none = none
negative (some zero) = none
negative (some (suc n)) = some (negsuc n)

-- "k an optional minus and one to four digits, no leading zero and no minus zero"
abbrev pub signed_field : ℕ → Form ℤ
signed_field digits [] = none
signed_field digits (b ∷ f) =
    elim (eqb b (byte "-")) [ true ↦ negative (number_field digits f) | false ↦ positive (number_field digits (b ∷ f)) ]

-- a right by its number: "a right above 2 is 1"
abbrev pub right_numbered : ℕ → Option Right
right_numbered zero = some no_right
right_numbered (suc zero) = some may_read
right_numbered (suc (suc zero)) = some may_write
right_numbered (suc (suc (suc n))) = none

abbrev pub right_field : Form Right
right_field f = elim (number_field 1 f) [ none ↦ none | some n ↦ right_numbered n ]

-- What is made of the fields behind a letter: a field in its form and then the others, until none is left.
abbrev pub field : {A : Type 0} → Form A → (A → List Bytes → Option Record) → List Bytes → Option Record
field form next [] = none
field form next (f ∷ fs) = elim (form f) [ none ↦ none | some a ↦ next a fs ]

abbrev pub no_more : Record → List Bytes → Option Record
no_more r [] = some r
no_more r (f ∷ fs) = none

-- a letter, and how the fields behind it are read
pub record Rule : Type 0 where
  pub letter : ℕ
  pub reads : List Bytes → Option Record

-- X behind its r: "s one or two digits and seed one to ten, neither with a leading zero but for 0 itself"
abbrev pub exercise_fields : ℕ → ℕ → ℕ → List Bytes → Option Record
exercise_fields a n r = field (number_field max_splits_numeral) (λ s. field (number_field max_seed_numeral) (λ seed. no_more (X a n r s seed)))

unfoldable pub grammar : List Rule
grammar =
    record { letter = byte "P"; reads = field slot_field (λ a. field (number_field 1) (λ n. field (number_field 1) (λ r. no_more (P a n r)))) } ∷
    record { letter = byte "M"; reads = field any_field (λ from. field any_field (λ to. no_more (M from to))) } ∷
    record { letter = byte "E"; reads = no_more E } ∷
    record { letter = byte "F"; reads = field slot_field (λ a. field slot_field (λ b. field slot_field (λ c. no_more (F a b c)))) } ∷
    record { letter = byte "I"; reads = field slot_field (λ a. field slot_field (λ c. no_more (I a c))) } ∷
    record { letter = byte "K"; reads = field slot_field (λ a. field (signed_field max_numeral) (λ k. field slot_field (λ c. no_more (K a k c)))) } ∷
    record { letter = byte "S"; reads = field slot_field (λ a. field slot_field (λ b. no_more (S a b))) } ∷
    record { letter = byte "W"; reads = field slot_field (λ a. field any_field (λ code. no_more (W a code))) } ∷
    record { letter = byte "L"; reads = field slot_field (λ a. no_more (L a)) } ∷
    record { letter = byte "C"; reads = field slot_field (λ a. no_more (C a)) } ∷
    record { letter = byte "T"; reads = no_more T } ∷
    record { letter = byte "U"; reads = no_more U } ∷
    record { letter = byte "X"; reads = field slot_field (λ a. field (number_field 1) (λ n. field (number_field 1) (exercise_fields a n))) } ∷
    record { letter = byte "Z"; reads = field (number_field 1) (λ s. no_more (Z s)) } ∷
    record { letter = byte "G"; reads = field (number_field 1) (λ s. field slot_field (λ a. field right_field (λ x. no_more (G s a x)))) } ∷
    record { letter = byte "H"; reads = no_more H } ∷
    []

-- the record of a letter and fields by the first rule for the letter; an unknown letter has none
abbrev pub read_by : List Rule → ℕ → List Bytes → Option Record
read_by [] b fs = none
read_by (r ∷ rs) b fs = elim (eqb b r.letter) [ true ↦ r.reads fs | false ↦ read_by rs b fs ]

-- the letter is the first field, one byte
abbrev pub read_fields : List Bytes → Option Record
read_fields [] = none
read_fields ([] ∷ fs) = none
read_fields ((b ∷ []) ∷ fs) = read_by grammar b fs
read_fields ((b ∷ c ∷ f) ∷ fs) = none

unfoldable pub parse : Bytes → Option Record
parse line = read_fields (fields line)

-- a whole number as it is typed
abbrev pub signed_decimal : ℤ → Bytes
signed_decimal (pos k) = decimal k
signed_decimal (negsuc k) = byte "-" ∷ decimal (suc k)

-- a record as it is typed: its letter and its fields
abbrev pub record_fields : Record → List Bytes
-- "P⇥slot⇥n⇥r opens a plan. M⇥from⇥to adds a pair. .. E closes"
record_fields (P a n r) = bytes "P" ∷ (a ∷ []) ∷ decimal n ∷ decimal r ∷ []
record_fields (M from to) = bytes "M" ∷ from ∷ to ∷ []
record_fields E = bytes "E" ∷ []
-- "F⇥a⇥b⇥c keeps *a then b* in c. I⇥a⇥c keeps the inverse. K⇥a⇥k⇥c keeps the power."
record_fields (F a b c) = bytes "F" ∷ (a ∷ []) ∷ (b ∷ []) ∷ (c ∷ []) ∷ []
record_fields (I a c) = bytes "I" ∷ (a ∷ []) ∷ (c ∷ []) ∷ []
record_fields (K a k c) = bytes "K" ∷ (a ∷ []) ∷ signed_decimal k ∷ (c ∷ []) ∷ []
-- "S⇥a⇥b", "W⇥a⇥code", "L⇥a", "C⇥a", "T", "U"
record_fields (S a b) = bytes "S" ∷ (a ∷ []) ∷ (b ∷ []) ∷ []
record_fields (W a code) = bytes "W" ∷ (a ∷ []) ∷ code ∷ []
record_fields (L a) = bytes "L" ∷ (a ∷ []) ∷ []
record_fields (C a) = bytes "C" ∷ (a ∷ []) ∷ []
record_fields T = bytes "T" ∷ []
record_fields U = bytes "U" ∷ []
-- "X⇥slot⇥n⇥r⇥s⇥seed"
record_fields (X a n r s seed) = bytes "X" ∷ (a ∷ []) ∷ decimal n ∷ decimal r ∷ decimal s ∷ decimal seed ∷ []
-- "Z⇥digit"
record_fields (Z s) = bytes "Z" ∷ decimal s ∷ []
-- "G⇥station⇥slot⇥right"
record_fields (G s a x) = bytes "G" ∷ decimal s ∷ (a ∷ []) ∷ decimal (right_number x) ∷ []
-- "a record H"
record_fields H = bytes "H" ∷ []

unfoldable pub record_text : Record → Bytes
record_text r = parted (record_fields r)

-- no field has a tab in it
abbrev pub no_tab : Bytes → Bool
no_tab f = all (λ b. not (eqb b tab)) f

-- a number has no more digits than its field: "n and r one digit", "k .. one to four digits", "s one or two digits and seed one to ten"
abbrev pub has_digits : ℕ → ℕ → Bool
has_digits digits k = leb (length (decimal k)) digits

abbrev pub numbers_fit : Record → Bool
numbers_fit (P a n r) = has_digits 1 n && has_digits 1 r
numbers_fit (M from to) = true
numbers_fit E = true
numbers_fit (F a b c) = true
numbers_fit (I a c) = true
numbers_fit (K a k c) = has_digits max_numeral (nat_abs k)
numbers_fit (S a b) = true
numbers_fit (W a code) = true
numbers_fit (L a) = true
numbers_fit (C a) = true
numbers_fit T = true
numbers_fit U = true
numbers_fit (X a n r s seed) = has_digits 1 n && has_digits 1 r && has_digits max_splits_numeral s && has_digits max_seed_numeral seed
numbers_fit (Z s) = has_digits 1 s
numbers_fit (G s a x) = has_digits 1 s
numbers_fit H = true

-- a record that some line is the text of
unfoldable pub well_formed : Record → Bool
well_formed r = all no_tab (record_fields r) && numbers_fit r

-- What a record does to a slot that it names: it reads what the slot holds, or the slot is a target, which it fills or empties, or it
-- only mentions the slot.
pub data Use : Type 0 where
  reads : Use
  target : Use
  mentions : Use

pub record SlotUse : Type 0 where
  pub slot : ℕ
  pub does : Use

abbrev pub reading : ℕ → SlotUse
reading a = record { slot = a; does = reads }

abbrev pub writing : ℕ → SlotUse
writing a = record { slot = a; does = target }

abbrev pub mentioning : ℕ → SlotUse
mentioning a = record { slot = a; does = mentions }

-- "Reading needs 1, P, X, C or a target needs 2, and G itself needs no right" (change request E6)
unfoldable pub needed_right : Use → ℕ
needed_right reads = 1
needed_right target = 2
needed_right mentions = 0

-- What a record says by its kind: whether it needs an open plan, the stations and the slots that it names in the order of its fields, and
-- whether it is a change.
pub record Kind : Type 0 where
  pub open_plan : Bool
  pub stations : List ℕ
  pub slots : List SlotUse
  pub change : Bool

-- a record of the open plan, and one of some slots: one that asks of them, and one that changes one
abbrev pub of_open_plan : Bool → Kind
of_open_plan b = record { open_plan = true; stations = []; slots = []; change = b }

abbrev pub of_slots : List SlotUse → Bool → Kind
of_slots us b = record { open_plan = false; stations = []; slots = us; change = b }

abbrev pub asking : List SlotUse → Kind
asking us = of_slots us false

abbrev pub changing : List SlotUse → Kind
changing us = of_slots us true

unfoldable pub kind : Record → Kind
kind (P a n r) = asking (writing a ∷ [])
kind (M from to) = of_open_plan false
kind E = of_open_plan true
kind (F a b c) = changing (reading a ∷ reading b ∷ writing c ∷ [])
kind (I a c) = changing (reading a ∷ writing c ∷ [])
kind (K a k c) = changing (reading a ∷ writing c ∷ [])
kind (S a b) = asking (reading a ∷ reading b ∷ [])
kind (W a code) = asking (reading a ∷ [])
kind (L a) = asking (reading a ∷ [])
kind (C a) = changing (writing a ∷ [])
kind T = asking []
kind U = asking []
kind (X a n r s seed) = changing (writing a ∷ [])
kind (Z s) = record { open_plan = false; stations = s ∷ []; slots = []; change = false }
kind (G s a x) = record { open_plan = false; stations = s ∷ []; slots = mentioning a ∷ []; change = false }
kind H = asking []

-- "2, an M or E with no plan open, or any other record while one is open"
abbrev pub needs_open : Record → Bool
needs_open r = (kind r).open_plan

abbrev pub stations_named : Record → List ℕ
stations_named r = (kind r).stations

abbrev pub slots_named : Record → List SlotUse
slots_named r = (kind r).slots

-- "E, F, I, K and C raise the count by one.", X does so "as E does" (change request E3), and Z and G count no change (E5, E6)
abbrev pub is_change : Record → Bool
is_change r = (kind r).change

fields_example : fields (bytes "W\tA\t") ≡ bytes "W" ∷ bytes "A" ∷ [] ∷ []
fields_example = refl

parted_example : map parted (fields (bytes "W\tA\t") ∷ fields [] ∷ []) ≡ bytes "W\tA\t" ∷ [] ∷ []
parted_example = refl

signed_field_example : map (signed_field 4) (bytes "0" ∷ bytes "-1000" ∷ bytes "9999" ∷ bytes "-0" ∷ bytes "01" ∷ bytes "10000" ∷ bytes "" ∷ bytes "-" ∷ bytes "+1" ∷ [])
    ≡ some (pos 0) ∷ some (negsuc 999) ∷ some (pos 9999) ∷ none ∷ none ∷ none ∷ none ∷ none ∷ none ∷ []
signed_field_example = refl

-- "n and r one digit 0 to 9": whatever their range
number_field_example : map (number_field 1) (bytes "0" ∷ bytes "9" ∷ bytes "" ∷ bytes "10" ∷ bytes "/" ∷ bytes ":" ∷ [])
    ≡ some 0 ∷ some 9 ∷ none ∷ none ∷ none ∷ none ∷ []
number_field_example = refl

parse_example : parse (bytes "K\tA\t-2\tz") ≡ some (K (byte "A") (negsuc 1) (byte "z"))
unfolding parse grammar max_numeral
parse_example = refl

-- s and the seed: 0 itself, the most digits, a digit too many and a leading zero
parse_exercise_example : map (λ l. parse (bytes "X\tA\t2\t1\t" ++ bytes l))
    ("0\t9999999999" ∷ "99\t0" ∷ "100\t1" ∷ "07\t1" ∷ "7\t00" ∷ "7\t10000000000" ∷ [])
    ≡ some (X (byte "A") 2 1 0 9_999_999_999) ∷ some (X (byte "A") 2 1 99 0) ∷ none ∷ none ∷ none ∷ none ∷ []
unfolding parse grammar max_numeral max_splits_numeral max_seed_numeral
parse_exercise_example = refl

-- a station of one digit, whatever its range
parse_station_example : map (λ l. parse (bytes "Z" ++ bytes l)) ("\t0" ∷ "\t9" ∷ "" ∷ "\t" ∷ "\t10" ∷ "\t-0" ∷ "\t1\t" ∷ [])
    ≡ some (Z 0) ∷ some (Z 9) ∷ none ∷ none ∷ none ∷ none ∷ none ∷ []
unfolding parse grammar
parse_station_example = refl

-- a station of one digit, a slot and a right up to 2
parse_grant_example : map (λ l. parse (bytes "G\t" ++ bytes l))
    ("1\tA\t0" ∷ "9\tz\t2" ∷ "1\tA\t3" ∷ "1\tA\t02" ∷ "10\tA\t1" ∷ "1\tA" ∷ "1\tA\t1\t" ∷ [])
    ≡ some (G 1 (byte "A") no_right) ∷ some (G 9 (byte "z") may_write) ∷ none ∷ none ∷ none ∷ none ∷ none ∷ []
unfolding parse grammar
parse_grant_example = refl

record_text_example : map record_text (K (byte "A") (negsuc 1) (byte "z") ∷ M (bytes "11") [] ∷ E ∷ [])
    ≡ bytes "K\tA\t-2\tz" ∷ bytes "M\t11\t" ∷ bytes "E" ∷ []
unfolding record_text
record_text_example = refl

-- a slot that is a tab, a number of two digits for n, and a power of five
well_formed_example : map well_formed (L (byte "A") ∷ L tab ∷ P (byte "A") 10 1 ∷ K (byte "A") (pos 10000) (byte "B") ∷ [])
    ≡ true ∷ false ∷ false ∷ false ∷ []
unfolding well_formed max_numeral
well_formed_example = refl

-- a line of no bytes, an unknown letter, a field too many, a letter of two bytes, a slot of two, and a byte 13 at the end
not_record_example : map parse (bytes "" ∷ bytes "Q" ∷ bytes "T\t" ∷ bytes "TT" ∷ bytes "L\tAB" ∷ bytes "E\r" ∷ [])
    ≡ none ∷ none ∷ none ∷ none ∷ none ∷ none ∷ []
unfolding parse grammar max_numeral
not_record_example = refl
