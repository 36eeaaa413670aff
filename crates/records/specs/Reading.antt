-- What a line of bytes is read as (document 01, "Records"): the record that desk's Replies.antt gives, its numbers as they are and each
-- word or code by the places between which it stands in the line. Behind it the way back, from what was read to the record, and what a
-- caller has to know of both.
use Rattle.std.specs.Prelude.{ℕ, ◌+◌, ◌-◌, ◌^◌, ◌≤◌, ◌<◌, ◌≡◌, refl, [], ◌∷◌, ◌++◌, map, negsuc, nat_abs, length, take, drop, replicate}
use Rattle.std.proofs.Math.Option.{none}
use Rattle.std.specs.declared.ops.Range.{Range}
use Rattle.std.specs.Prelude.{Option, None, Some, IfSome}
use Rattle.higman.specs.Refusals.{no_record}
use Rattle.higman.specs.Text.{Bytes, byte, bytes}
use Rattle.desk.specs.Limits.{max_line, max_numeral, max_splits_numeral, max_seed_numeral}
use Rattle.desk.specs.Records.{Record as DeskRecord, P, M, E, F, I, K, S, W, L, C, T, U, X, Z, G, H, may_write, right_number, grammar}
use Rattle.desk.specs.Records.{parse}
use Rattle.desk.specs.Replies.{Outcome, refuse, pass, record_of, grant_by}
use Rattle.records.specs.declared.Record.{Record}
use Rattle.records.specs.declared.Record.TheVariants.{Open, Pair, Close, Follow, Invert, Power, Same, Route}
use Rattle.records.specs.declared.Record.TheVariants.{List, Empty, Count, Survey, Exercise, Station, Grant, Sum}

-- so many bytes from a place on
abbrev pub part : ℕ → ℕ → Range ℕ
part start size = record { start = start; end = start + size }

-- A record by its numbers and places. A letter and a tab stand in front of M's words, these and a slot and a tab in front of W's code,
-- and a tab stands between M's words. A right is its number.
abbrev pub placed : DeskRecord → Record
placed (P a n r) = Open a n r
placed (M from to) = Pair (part 2 (length from)) (part (2 + length from + 1) (length to))
placed E = Close
placed (F a b c) = Follow a b c
placed (I a c) = Invert a c
placed (K a k c) = Power a k c
placed (S a b) = Same a b
placed (W a code) = Route a (part 4 (length code))
placed (L a) = List a
placed (C a) = Empty a
placed T = Count
placed U = Survey
placed (X a n r s seed) = Exercise a n r s seed
placed (Z s) = Station s
placed (G s a x) = Grant s a (right_number x)
placed H = Sum

-- "Every record: 1, unknown letter, wrong number of fields, a field form, or a line too long": the one refusal of `record_of`
abbrev pub placed_by : Outcome DeskRecord → Option Record
placed_by (refuse n c) = None
placed_by (pass r) = Some (placed r)

unfoldable pub read_line : Bytes → Option Record
read_line line = placed_by (record_of line)

-- the bytes of a line between two places
abbrev pub bytes_of : Bytes → Range ℕ → Bytes
bytes_of line p = take (p.end - p.start) (drop p.start line)

-- what is meant by what was read of a line, with the words and the code that stand there
abbrev pub meant : Bytes → Record → Outcome DeskRecord
meant line (Open a n r) = pass (P a n r)
meant line (Pair from to) = pass (M (bytes_of line from) (bytes_of line to))
meant line Close = pass E
meant line (Follow a b c) = pass (F a b c)
meant line (Invert a c) = pass (I a c)
meant line (Power a k c) = pass (K a k c)
meant line (Same a b) = pass (S a b)
meant line (Route a code) = pass (W a (bytes_of line code))
meant line (List a) = pass (L a)
meant line (Empty a) = pass (C a)
meant line Count = pass T
meant line Survey = pass U
meant line (Exercise a n r s seed) = pass (X a n r s seed)
meant line (Station s) = pass (Z s)
meant line (Grant s a x) = grant_by s a x
meant line Sum = pass H

-- .. and where nothing was read, "1, unknown letter, .."
abbrev pub meant_by : Bytes → Option Record → Outcome DeskRecord
meant_by line None = refuse no_record none
meant_by line (Some r) = meant line r

-- a part that can be lent: it stands within the line
pub record Within (line : Bytes) (p : Range ℕ) : Type 0 where
  pub ordered : p.start ≤ p.end
  pub inside : p.end ≤ length line

-- the parts stand within the line; "n and r one digit 0 to 9", "k an optional minus and one to four digits", "s one or two digits and seed
-- one to ten", a station one digit, a right 0 to 2
abbrev pub InBounds : Bytes → Record → Type 0
InBounds line (Open a n r) = (n ≤ 9) × (r ≤ 9)
InBounds line (Pair from to) = Within line from × Within line to
InBounds line Close = Unit {0}
InBounds line (Follow a b c) = Unit {0}
InBounds line (Invert a c) = Unit {0}
InBounds line (Power a k c) = nat_abs k < 10 ^ max_numeral
InBounds line (Same a b) = Unit {0}
InBounds line (Route a code) = Within line code
InBounds line (List a) = Unit {0}
InBounds line (Empty a) = Unit {0}
InBounds line Count = Unit {0}
InBounds line Survey = Unit {0}
InBounds line (Exercise a n r s seed) = (n ≤ 9) × (r ≤ 9) × (s < 10 ^ max_splits_numeral) × (seed < 10 ^ max_seed_numeral)
InBounds line (Station s) = s ≤ 9
InBounds line (Grant s a x) = (s ≤ 9) × (x ≤ 2)
InBounds line Sum = Unit {0}

-- What is read of a line means the record that the definitions give, refusal 1 included, and is in bounds.
pub record ReadExact : Type 0 where
  pub means : (line : Bytes) → meant_by line (read_line line) ≡ record_of line
  pub in_bounds : (line : Bytes) → IfSome (read_line line) (InBounds line)

-- the numbers of P, the places of M's words, one of them empty, K's number, the place of W's code, the numbers of X, X with a tab at its
-- end, a slot of two bytes, Z's station, a station of two digits, G's numbers and slot, a right of 3, G with a station of two digits, H,
-- and H with a tab behind it
read_line_example : map (λ l. read_line (bytes l))
    ("P\tA\t2\t1" ∷ "M\t11\t" ∷ "K\tA\t-2\tz" ∷ "W\tA\t1122" ∷ "X\tA\t2\t1\t10\t0" ∷ "X\tA\t2\t1\t1\t7\t" ∷ "L\tAB" ∷ "Z\t7" ∷ "Z\t10"
    ∷ "G\t1\tA\t2" ∷ "G\t1\tA\t3" ∷ "G\t10\tA\t2" ∷ "H" ∷ "H\t" ∷ [])
    ≡ Some (Open (byte "A") 2 1)
    ∷ Some (Pair (part 2 2) (part 5 0))
    ∷ Some (Power (byte "A") (negsuc 1) (byte "z"))
    ∷ Some (Route (byte "A") (part 4 4))
    ∷ Some (Exercise (byte "A") 2 1 10 0)
    ∷ None
    ∷ None
    ∷ Some (Station 7)
    ∷ None
    ∷ Some (Grant 1 (byte "A") 2)
    ∷ None
    ∷ None
    ∷ Some Sum
    ∷ None
    ∷ []
unfolding read_line right_number parse grammar max_line max_numeral max_splits_numeral max_seed_numeral
read_line_example = refl

-- "Lines hold at most 1,100 bytes"
read_line_limit : map (λ k. read_line (bytes "W\tA\t" ++ replicate k (byte "1"))) (1_096 ∷ 1_097 ∷ [])
    ≡ Some (Route (byte "A") (part 4 1_096)) ∷ None ∷ []
unfolding read_line parse grammar max_line
read_line_limit = refl

bytes_of_example : map (bytes_of (bytes "M\t11\t122")) (part 2 2 ∷ part 5 3 ∷ part 8 0 ∷ []) ≡ bytes "11" ∷ bytes "122" ∷ [] ∷ []
bytes_of_example = refl

meant_by_example : map (meant_by (bytes "M\t11\t122")) (Some (Pair (part 2 2) (part 5 3)) ∷ Some (Grant 1 (byte "A") 2) ∷ None ∷ [])
    ≡ pass (M (bytes "11") (bytes "122")) ∷ pass (G 1 (byte "A") may_write) ∷ refuse 1 none ∷ []
meant_by_example = refl
