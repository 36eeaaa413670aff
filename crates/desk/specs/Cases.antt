-- Sessions of the paper's cases, as one table: lines in and lines out, computed from `session`. First the ★ cases of document 01,
-- "Plans to try", with their replies; then what letters that repeat do, and when a plan is open. `DeskCases` states that all hold.
use Rattle.std.specs.Prelude.{◌≡◌, List, [], ◌∷◌, ◌++◌}
use Prim.Native.String.{String}
use Rattle.higman.specs.Text.{lines}
use Rattle.desk.specs.Session.{session}

infix 4 ◌gives◌
pub data Case : Type 0 where
  ◌gives◌ : List String → List String → Case

abbrev pub Holds : Case → Type 0
Holds (input gives output) = session (lines input) ≡ lines output

abbrev pub AllHold : List Case → Type 0
AllHold [] = Unit {0}
AllHold (c ∷ cs) = Holds c × AllHold cs

-- "Shape (2,1)": ψ and φ typed into slot A, and φ into slot B
abbrev pub typeψ : List String
typeψ = "P\tA\t2\t1" ∷ "M\t111\t11" ∷ "M\t112\t121" ∷ "M\t12\t122" ∷ "E" ∷ []

abbrev pub typeφ : List String
typeφ = "P\tA\t2\t1" ∷ "M\t111\t122" ∷ "M\t112\t121" ∷ "M\t12\t11" ∷ "E" ∷ []

abbrev pub typeφIn_b : List String
typeφIn_b = "P\tB\t2\t1" ∷ "M\t111\t122" ∷ "M\t112\t121" ∷ "M\t12\t11" ∷ "E" ∷ []

unfoldable pub star_sessions : List Case
star_sessions =
    -- "11→11, 12→12 is kept as 1→1, one pair."
    (("P\tA\t2\t1" ∷ "M\t11\t11" ∷ "M\t12\t12" ∷ "E" ∷ "L\tA" ∷ []) gives ("ok\t1" ∷ "P\tA\t2\t1" ∷ "M\t1\t1" ∷ "E" ∷ [])) ∷
    -- "11→12, 12→11 keeps two."
    (("P\tA\t2\t1" ∷ "M\t11\t12" ∷ "M\t12\t11" ∷ "E" ∷ "L\tA" ∷ []) gives ("ok\t2" ∷ "P\tA\t2\t1" ∷ "M\t11\t12" ∷ "M\t12\t11" ∷ "E" ∷ [])) ∷
    -- "to column 1, 11: 6, T."
    (("P\tA\t2\t1" ∷ "M\t11\t1" ∷ "M\t12\t11" ∷ "E" ∷ "L\tA" ∷ "T" ∷ []) gives ("no\t6\tT" ∷ "no\t9" ∷ "ok\t0" ∷ [])) ∷
    -- "no pairs: 7, F."
    (("P\tA\t2\t1" ∷ "E" ∷ "L\tA" ∷ "T" ∷ []) gives ("no\t7\tF" ∷ "no\t9" ∷ "ok\t0" ∷ [])) ∷
    -- "11→11, 121→121, 122→1221: 7, T."
    (("P\tA\t2\t1" ∷ "M\t11\t11" ∷ "M\t121\t121" ∷ "M\t122\t1221" ∷ "E" ∷ "L\tA" ∷ "T" ∷ []) gives ("no\t7\tT" ∷ "no\t9" ∷ "ok\t0" ∷ [])) ∷
    -- "φ squared: 111→112, 112→111, 121→122, 122→121."
    (typeφ ++ ("K\tA\t2\tB" ∷ "L\tB" ∷ []) gives ("ok\t3" ∷ "ok\t4" ∷ "P\tB\t2\t1" ∷ "M\t111\t112" ∷ "M\t112\t111" ∷ "M\t121\t122" ∷ "M\t122\t121" ∷ "E" ∷ [])) ∷
    -- "φ inverse: 11→12, 121→112, 122→111."
    (typeφ ++ ("I\tA\tB" ∷ "L\tB" ∷ []) gives ("ok\t3" ∷ "ok\t3" ∷ "P\tB\t2\t1" ∷ "M\t11\t12" ∷ "M\t121\t112" ∷ "M\t122\t111" ∷ "E" ∷ [])) ∷
    -- "φ to the fourth: 1→1."
    (typeφ ++ ("K\tA\t4\tB" ∷ "L\tB" ∷ []) gives ("ok\t3" ∷ "ok\t1" ∷ "P\tB\t2\t1" ∷ "M\t1\t1" ∷ "E" ∷ [])) ∷
    -- "ψ then its inverse: 1→1."
    (typeψ ++ ("I\tA\tB" ∷ "F\tA\tB\tC" ∷ "L\tC" ∷ "T" ∷ []) gives ("ok\t3" ∷ "ok\t3" ∷ "ok\t1" ∷ "P\tC\t2\t1" ∷ "M\t1\t1" ∷ "E" ∷ "ok\t3" ∷ [])) ∷
    -- "ψ on 12 gives 122; on 11 gives 13": now the block of 11 (change request E1), 13 is the library's alone,
    -- and there are places (change request E7)
    (typeψ ++ ("W\tA\t12" ∷ "W\tA\t11" ∷ []) gives ("ok\t3" ∷ "ok\t122\t3" ∷ "B\t111\t11\t1" ∷ "B\t112\t121\t2" ∷ "ok\t2" ∷ [])) ∷
    []

unfoldable pub other_sessions : List Case
other_sessions =
    -- the places of another slot's plan: a block that begins at the second, and an image by the third
    (typeψ ++ ("I\tA\tB" ∷ "W\tB\t12" ∷ "W\tB\t1221" ∷ [])
    gives ("ok\t3" ∷ "ok\t3" ∷ "B\t121\t112\t2" ∷ "B\t122\t12\t3" ∷ "ok\t2" ∷ "ok\t121\t3" ∷ [])) ∷
    -- "Operands are read before c is written, so letters may repeat.": ψ in A, φ in B
    (typeψ ++ ("F\tA\tA\tA" ∷ "L\tA" ∷ []) gives ("ok\t3" ∷ "ok\t4" ∷ "P\tA\t2\t1" ∷ "M\t1111\t11" ∷ "M\t1112\t121" ∷ "M\t112\t1221" ∷ "M\t12\t1222" ∷ "E" ∷ [])) ∷
    (typeψ ++ typeφIn_b ++ ("F\tA\tB\tA" ∷ "L\tA" ∷ []) gives ("ok\t3" ∷ "ok\t3" ∷ "ok\t4" ∷ "P\tA\t2\t1" ∷ "M\t1111\t122" ∷ "M\t1112\t121" ∷ "M\t112\t111" ∷ "M\t12\t112" ∷ "E" ∷ [])) ∷
    (typeψ ++ typeφIn_b ++ ("F\tB\tA\tA" ∷ "L\tA" ∷ []) gives ("ok\t3" ∷ "ok\t3" ∷ "ok\t4" ∷ "P\tA\t2\t1" ∷ "M\t111\t1222" ∷ "M\t112\t1221" ∷ "M\t121\t11" ∷ "M\t122\t121" ∷ "E" ∷ [])) ∷
    (typeψ ++ ("I\tA\tA" ∷ "L\tA" ∷ []) gives ("ok\t3" ∷ "ok\t3" ∷ "P\tA\t2\t1" ∷ "M\t11\t111" ∷ "M\t121\t112" ∷ "M\t122\t12" ∷ "E" ∷ [])) ∷
    (typeψ ++ ("K\tA\t-2\tA" ∷ "L\tA" ∷ []) gives ("ok\t3" ∷ "ok\t4" ∷ "P\tA\t2\t1" ∷ "M\t11\t1111" ∷ "M\t121\t1112" ∷ "M\t1221\t112" ∷ "M\t1222\t12" ∷ "E" ∷ [])) ∷
    -- "S⇥a⇥b: `ok⇥1` if the plans act alike, else `ok⇥0`." "C⇥a empties a slot: `ok`."
    (typeψ ++ typeφIn_b ++ ("S\tA\tA" ∷ "S\tA\tB" ∷ "C\tA" ∷ "S\tA\tA" ∷ "T" ∷ []) gives ("ok\t3" ∷ "ok\t3" ∷ "ok\t1" ∷ "ok\t0" ∷ "ok" ∷ "no\t9" ∷ "ok\t3" ∷ [])) ∷
    -- "2, an M or E with no plan open, or any other record while one is open", which drops it
    (("M\t1\t1" ∷ "P\tA\t2\t1" ∷ "T" ∷ "E" ∷ "T" ∷ []) gives ("no\t2" ∷ "no\t2" ∷ "no\t2" ∷ "ok\t0" ∷ [])) ∷
    -- "k = 1000 passes the check of k, 1001 is 12.", of an empty slot too
    (typeφ ++ ("K\tA\t1000\tB" ∷ "L\tB" ∷ "K\tA\t1001\tB" ∷ "K\tA\t-1001\tB" ∷ "K\tH\t1001\tB" ∷ []) gives ("ok\t3" ∷ "ok\t1" ∷ "P\tB\t2\t1" ∷ "M\t1\t1" ∷ "E" ∷ "no\t12" ∷ "no\t12" ∷ "no\t12" ∷ [])) ∷
    []

-- U: "the most pairs first, and equal ones by slot letter" (change request E2)
unfoldable pub survey_sessions : List Case
survey_sessions =
    (("U" ∷ []) gives ("ok\t0" ∷ [])) ∷
    (typeψ ++ typeφIn_b ++ ("U" ∷ []) gives ("ok\t3" ∷ "ok\t3" ∷ "A\t2\t1\t3" ∷ "B\t2\t1\t3" ∷ "ok\t2" ∷ [])) ∷
    (typeψ ++ ("I\tA\tC" ∷ "K\tA\t0\tB" ∷ "U" ∷ "C\tA" ∷ "U" ∷ [])
    gives ("ok\t3" ∷ "ok\t3" ∷ "ok\t1" ∷ "A\t2\t1\t3" ∷ "C\t2\t1\t3" ∷ "B\t2\t1\t1" ∷ "ok\t3" ∷ "ok" ∷ "C\t2\t1\t3" ∷ "B\t2\t1\t1" ∷ "ok\t2" ∷ [])) ∷
    []

-- Rights (change request E6): station 0 keeps a plan in A and lets station 1 read it, and not see B. Then 8 before 20, 20 before 9, a slot
-- that is read and written, U, the counts, and G from station 1, for station 0, for a station and on a slot that there aren't, of 3.
unfoldable pub rights_sessions : List Case
rights_sessions =
    (typeψ ++ typeφIn_b ++ ("G\t1\tA\t1" ∷ "G\t1\tB\t0" ∷ "Z\t1" ∷ "S\tA\tA" ∷ "S\tA\tB" ∷ "S\tB\tI" ∷ "I\tA\tA" ∷ "I\tA\tC" ∷ "C\tA"
    ∷ "L\tB" ∷ "L\tD" ∷ "U" ∷ "T" ∷ "G\t1\tA\t2" ∷ "Z\t0" ∷ "U" ∷ "T" ∷ [])
    gives ("ok\t3" ∷ "ok\t3" ∷ "ok" ∷ "ok" ∷ "ok" ∷ "ok\t1" ∷ "no\t20" ∷ "no\t8" ∷ "no\t20" ∷ "ok\t3" ∷ "no\t20" ∷ "no\t20" ∷ "no\t9"
    ∷ "A\t2\t1\t3" ∷ "C\t2\t1\t3" ∷ "ok\t2" ∷ "ok\t1" ∷ "no\t19" ∷ "ok" ∷ "A\t2\t1\t3" ∷ "B\t2\t1\t3" ∷ "C\t2\t1\t3" ∷ "ok\t3"
    ∷ "ok\t2" ∷ [])) ∷
    (("G\t0\tA\t1" ∷ "G\t8\tI\t1" ∷ "G\t1\tI\t1" ∷ "G\t1\tA\t3" ∷ "G\t1\tA\t1" ∷ "Z\t1" ∷ "P\tA\t1\t1" ∷ "P\tB\t1\t1" ∷ "P\tB\t2\t1"
    ∷ "G\t1\tA\t3" ∷ "E" ∷ [])
    gives ("no\t19" ∷ "no\t18" ∷ "no\t8" ∷ "no\t1" ∷ "ok" ∷ "ok" ∷ "no\t20" ∷ "no\t3" ∷ "no\t1" ∷ "no\t2" ∷ [])) ∷
    []

-- "The ★ cases stand in one table, proved through one statement about the definitions."
pub record DeskCases : Type 0 where
  pub star : AllHold star_sessions
  pub others : AllHold other_sessions
  pub survey : AllHold survey_sessions
  pub rights : AllHold rights_sessions
