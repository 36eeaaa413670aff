-- Replies as bytes (document 01, "Records"): `ok` or `no`, then fields, parted by tabs, in lines that byte 10 ends. None of it need be
-- believed: `RepliesWritten` fixes it. Read Grammar.antt next.
use Rattle.std.specs.Prelude.{◌≡◌, refl, List, [], ◌∷◌, ◌++◌, map, length}
use Rattle.std.proofs.Math.Option.{Option, none, some}
use Rattle.higman.specs.Words.{spell}
use Rattle.higman.specs.Tables.{row}
use Rattle.higman.specs.Limits.{Plan}
use Rattle.higman.specs.Text.{line_end, word_bytes, Bytes, bytes, decimal}
use Rattle.higman.specs.Listing.{join_lines, listing, slot_byte}
use Rattle.higman.specs.Places.{Placed}
use Rattle.higman.specs.Refusals.{Letter, letter_byte}
use Rattle.desk.specs.Records.{parted}
use Rattle.desk.specs.Replies.{Held, pairs_in, Reply, silent, ok, ok_number, ok_image, ok_block, lists, surveys, refuses}

-- a line of fields: tabs between them, byte 10 behind
abbrev pub line_of : List Bytes → Bytes
line_of fs = parted fs ++ line_end ∷ []

-- `ok` or `no` and what follows it
abbrev pub ok_line : List Bytes → Bytes
ok_line fs = line_of (bytes "ok" ∷ fs)

abbrev pub no_line : List Bytes → Bytes
no_line fs = line_of (bytes "no" ∷ fs)

-- "⇥F or ⇥T (from, to)"
abbrev pub column_field : Option Letter → List Bytes
column_field none = []
column_field (some c) = (letter_byte c ∷ []) ∷ []

-- lines of fields, and then `ok⇥` and how many
abbrev pub counted : List (List Bytes) → Bytes
counted ls = join_lines (map line_of ls) ++ ok_line (decimal (length ls) ∷ [])

-- W: "one line `B⇥from⇥to` for every pair" of a block (change request E1), and "the same field", its place (change request E7)
abbrev pub part_fields : Placed → List Bytes
part_fields l = bytes "B" ∷ word_bytes l.pair.from ∷ word_bytes l.pair.to ∷ decimal l.place ∷ []

-- U: "`slot⇥n⇥r⇥pairs` for each held slot"
abbrev pub held_fields : Held → List Bytes
held_fields h =
    (slot_byte h.slot ∷ []) ∷ decimal h.plan.shape.arity ∷ decimal h.plan.shape.roots ∷ decimal (pairs_in h) ∷ []

unfoldable pub reply_bytes : Reply → Bytes
reply_bytes silent = []
reply_bytes ok = ok_line []
reply_bytes (ok_number n) = ok_line (decimal n ∷ [])
reply_bytes (ok_image w k) = ok_line (word_bytes w ∷ decimal k ∷ [])
reply_bytes (ok_block ls) = counted (map part_fields ls)
reply_bytes (lists slot p) = listing slot p
reply_bytes (surveys hs) = counted (map held_fields hs)
reply_bytes (refuses n c) = no_line (decimal n ∷ column_field c)

reply_bytes_example : map reply_bytes (silent ∷ ok ∷ ok_number 3 ∷ ok_image (spell 1212) 2 ∷ refuses 12 none ∷ refuses 7 (some Letter.T) ∷ [])
    ≡ bytes "" ∷ bytes "ok\n" ∷ bytes "ok\t3\n" ∷ bytes "ok\t1212\t2\n" ∷ bytes "no\t12\n" ∷ bytes "no\t7\tT\n" ∷ []
unfolding reply_bytes
reply_bytes_example = refl

-- "`B⇥111⇥11⇥1`, `B⇥112⇥121⇥2`, closed by `ok⇥2`"
block_example : reply_bytes (ok_block (record { place = 1; pair = row 111 11 } ∷ record { place = 2; pair = row 112 121 } ∷ []))
    ≡ bytes "B\t111\t11\t1\nB\t112\t121\t2\nok\t2\n"
unfolding reply_bytes
block_example = refl

-- plans of shape (2,1), with one pair and with two
abbrev one_pair : Plan
one_pair = record { shape = record { arity = 2; roots = 1 }; rows = row 1 1 ∷ [] }

abbrev two_pairs : Plan
two_pairs = record { shape = record { arity = 2; roots = 1 }; rows = row 11 12 ∷ row 12 11 ∷ [] }

-- U: "`slot⇥n⇥r⇥pairs` for each held slot", as they stand
survey_example : reply_bytes (surveys (record { slot = 1; plan = two_pairs } ∷ record { slot = 0; plan = one_pair } ∷ []))
    ≡ bytes "B\t2\t1\t2\nA\t2\t1\t1\nok\t2\n"
unfolding reply_bytes
survey_example = refl
