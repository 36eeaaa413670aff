-- The limits of the desk, named in this one place; those of plans are in higman's Limits.antt. Everything else speaks of the names. None of
-- them need be believed: `LimitsExact` of Demands.antt and `NumbersFit` of Grammar.antt have the figures. Read Desk.antt next.
use Rattle.std.specs.Prelude.{ℕ}

-- "Eight stations now type into one desk" (change request E5)
unfoldable pub station_count : ℕ
station_count = 8

-- "right being 0 nothing, 1 read, 2 read and write" (change request E6)
unfoldable pub max_right : ℕ
max_right = 2

-- "a count of changes from 0 to 4,000,000,000", and "each station has the limit of 4,000,000,000"
unfoldable pub max_changes : ℕ
max_changes = 4_000_000_000

-- "Lines hold at most 1,100 bytes, byte 10 not counted"
unfoldable pub max_line : ℕ
max_line = 1_100

-- "k an optional minus and one to four digits"
unfoldable pub max_numeral : ℕ
max_numeral = 4

-- "s one or two digits and seed one to ten" (change request E3)
unfoldable pub max_splits_numeral : ℕ
max_splits_numeral = 2

unfoldable pub max_seed_numeral : ℕ
max_seed_numeral = 10
