-- The listing of a plan as P, M and E records, in bytes (document 01, "Records"), and the bytes that name slots. None of it need be
-- believed: `ListingReadBack` of desk and `ListingFaithful` fix the lines, `PlanLimitsExact` and `SlotsExact` the slots. Read Buffers.antt
-- next.
use Rattle.std.specs.Prelude.{ℕ, suc, ◌+◌, ◌-◌, ◌≡◌, refl, Bool, true, false, ◌&&◌, List, [], ◌∷◌, ◌++◌, map, leb}
use Rattle.higman.specs.Words.{Shape}
use Rattle.higman.specs.Text.{Bytes, byte, tab, line_end, digit_byte, word_bytes}
use Rattle.higman.specs.Tables.{Pair, Table, row}
use Rattle.higman.specs.Limits.{Plan, slot_count}

-- slots A to H, numbered from 0
abbrev pub slot_number : ℕ → ℕ
slot_number b = b - byte "A"

abbrev pub slot_byte : ℕ → ℕ
slot_byte i = byte "A" + i

-- 8 is given otherwise: "a slot byte outside A to H"
abbrev pub is_slot : ℕ → Bool
is_slot b = leb (byte "A") b && leb (suc b) (slot_byte slot_count)

-- P⇥slot⇥n⇥r
abbrev pub open_record : ℕ → Shape → Bytes
open_record slot s = 80 ∷ tab ∷ slot ∷ tab ∷ digit_byte s.arity ∷ tab ∷ digit_byte s.roots ∷ line_end ∷ []

-- a letter and the words of a pair, the fields that a line of it begins with
abbrev pub pair_fields : ℕ → Pair → Bytes
pair_fields letter p = letter ∷ tab ∷ (word_bytes p.from ++ tab ∷ word_bytes p.to)

-- M⇥from⇥to
abbrev pub pair_record : Pair → Bytes
pair_record p = pair_fields 77 p ++ line_end ∷ []

-- E
abbrev pub close_record : Bytes
close_record = 69 ∷ line_end ∷ []

-- "their pairs are the M records of L"
abbrev pub pair_records : Table → List Bytes
pair_records t = map pair_record t

abbrev pub join_lines : List Bytes → Bytes
join_lines [] = []
join_lines (l ∷ ls) = l ++ join_lines ls

-- "L⇥a lists the plan as P, M and E records"
abbrev pub listing : ℕ → Plan → Bytes
listing slot p = open_record slot p.shape ++ (join_lines (pair_records p.rows) ++ close_record)

-- P⇥B⇥2⇥1, M⇥11⇥12, M⇥12⇥11, E
listing_example : listing 66 (record { shape = record { arity = 2; roots = 1 }; rows = row 11 12 ∷ row 12 11 ∷ [] })
    ≡ 80 ∷ 9 ∷ 66 ∷ 9 ∷ 50 ∷ 9 ∷ 49 ∷ 10 ∷ 77 ∷ 9 ∷ 49 ∷ 49 ∷ 9 ∷ 49 ∷ 50 ∷ 10 ∷ 77 ∷ 9 ∷ 49 ∷ 50 ∷ 9 ∷ 49 ∷ 49 ∷ 10 ∷ 69 ∷ 10 ∷ []
listing_example = refl

-- '@', 'A', 'H', 'I'
is_slot_example : map is_slot (64 ∷ 65 ∷ 72 ∷ 73 ∷ []) ≡ false ∷ true ∷ true ∷ false ∷ []
unfolding slot_count
is_slot_example = refl
