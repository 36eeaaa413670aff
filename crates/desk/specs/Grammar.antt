-- What is read is what is written, as statements: a line is a record exactly when it is the record's text, and the text is the paper's
-- form, byte by byte; letters name slots one to one; a number's digits read back to it; and every reply is a line of its fields. Read
-- Session.antt next.
use Rattle.std.specs.Prelude.{ℕ, suc, ◌<◌, ◌≡◌, ◌↔◌, ◌⊎◌, List, [], ◌∷◌, ◌++◌, map, T as So, pos, negsuc, nat_abs, length}
use Rattle.std.proofs.Math.Option.{none, some}
use Rattle.higman.specs.Words.{Word}
use Rattle.higman.specs.Text.{Bytes, bytes, line_end, word_bytes, decimal}
use Rattle.higman.specs.Bases.{all}
use Rattle.higman.specs.Limits.{Plan}
use Rattle.higman.specs.Refusals.{Letter}
use Rattle.higman.specs.Listing.{slot_byte, join_lines, listing}
use Rattle.higman.specs.Theorems.{SlotsExact, DecimalsExact}
use Rattle.higman.specs.Places.{Placed}
use Rattle.desk.specs.Limits.{max_line}
use Rattle.desk.specs.Records.{Record, P, M, E, F, I, K, S, W, L, C, T, U, X, Z, G, H, fields, parse, record_fields, record_text}
use Rattle.desk.specs.Records.{no_tab, well_formed, Right, no_right, may_read, may_write}
use Rattle.desk.specs.Replies.{Held, pairs_in, silent, ok, ok_number, ok_image, ok_block, lists, surveys, refuses}
use Rattle.desk.specs.Bytes.{line_of, part_fields, held_fields, reply_bytes}

-- "1, unknown letter, wrong number of fields, a field form": every other line is the text of the record that it is read as.
abbrev pub GrammarExact : Type 0
GrammarExact = (line : Bytes) (r : Record) → (parse line ≡ some r) ↔ (So (well_formed r) × (line ≡ record_text r))

-- a right as it is typed: "0 nothing, 1 read, 2 read and write"
abbrev pub right_digit : Right → ℕ
right_digit no_right = 48
right_digit may_read = 49
right_digit may_write = 50

-- The records as they are typed: the letter and the fields of the paper's form, in bytes, with the tab, byte 9, between them. What is a
-- number is there in decimal; `DecimalsExact` says what that is. With `GrammarExact` the grammar follows.
pub record RecordForms : Type 0 where
  -- "P⇥slot⇥n⇥r opens a plan. M⇥from⇥to adds a pair. .. E closes"
  pub P-text : (a n r : ℕ) → record_text (P a n r) ≡ 80 ∷ 9 ∷ a ∷ 9 ∷ (decimal n ++ 9 ∷ decimal r)
  pub M-text : (from to : Bytes) → record_text (M from to) ≡ 77 ∷ 9 ∷ (from ++ 9 ∷ to)
  pub E-text : record_text E ≡ 69 ∷ []
  -- "F⇥a⇥b⇥c keeps *a then b* in c. I⇥a⇥c keeps the inverse. K⇥a⇥k⇥c keeps the power."; "k an optional minus and one to four digits"
  pub F-text : (a b c : ℕ) → record_text (F a b c) ≡ 70 ∷ 9 ∷ a ∷ 9 ∷ b ∷ 9 ∷ c ∷ []
  pub I-text : (a c : ℕ) → record_text (I a c) ≡ 73 ∷ 9 ∷ a ∷ 9 ∷ c ∷ []
  pub K-text : (a k c : ℕ) → record_text (K a (pos k) c) ≡ 75 ∷ 9 ∷ a ∷ 9 ∷ (decimal k ++ 9 ∷ c ∷ [])
  pub K-text-below : (a k c : ℕ) → record_text (K a (negsuc k) c) ≡ 75 ∷ 9 ∷ a ∷ 9 ∷ 45 ∷ (decimal (suc k) ++ 9 ∷ c ∷ [])
  -- "S⇥a⇥b", "W⇥a⇥code", "L⇥a", "C⇥a", "T", "U"
  pub S-text : (a b : ℕ) → record_text (S a b) ≡ 83 ∷ 9 ∷ a ∷ 9 ∷ b ∷ []
  pub W-text : (a : ℕ) (code : Bytes) → record_text (W a code) ≡ 87 ∷ 9 ∷ a ∷ 9 ∷ code
  pub L-text : (a : ℕ) → record_text (L a) ≡ 76 ∷ 9 ∷ a ∷ []
  pub C-text : (a : ℕ) → record_text (C a) ≡ 67 ∷ 9 ∷ a ∷ []
  pub T-text : record_text T ≡ 84 ∷ []
  pub U-text : record_text U ≡ 85 ∷ []
  -- "X⇥slot⇥n⇥r⇥s⇥seed" (change request E3)
  pub X-text : (a n r s seed : ℕ)
      → record_text (X a n r s seed) ≡ 88 ∷ 9 ∷ a ∷ 9 ∷ (decimal n ++ 9 ∷ (decimal r ++ 9 ∷ (decimal s ++ 9 ∷ decimal seed)))
  -- "Z⇥digit" (change request E5)
  pub Z-text : (s : ℕ) → record_text (Z s) ≡ 90 ∷ 9 ∷ decimal s
  -- "G⇥station⇥slot⇥right" (change request E6)
  pub G-text : (s a : ℕ) (x : Right) → record_text (G s a x) ≡ 71 ∷ 9 ∷ (decimal s ++ 9 ∷ a ∷ 9 ∷ right_digit x ∷ [])
  -- "a record H" (change request E8)
  pub H-text : record_text H ≡ 72 ∷ []

-- what it is for the numbers of a record to fit their fields: "n and r one digit 0 to 9", "k .. one to four digits", "s one or two
-- digits and seed one to ten", and one digit for a station
abbrev pub NumbersFit : Record → Type 0
NumbersFit (P a n r) = (n < 10) × (r < 10)
NumbersFit (M from to) = Unit {0}
NumbersFit E = Unit {0}
NumbersFit (F a b c) = Unit {0}
NumbersFit (I a c) = Unit {0}
NumbersFit (K a k c) = nat_abs k < 10_000
NumbersFit (S a b) = Unit {0}
NumbersFit (W a code) = Unit {0}
NumbersFit (L a) = Unit {0}
NumbersFit (C a) = Unit {0}
NumbersFit T = Unit {0}
NumbersFit U = Unit {0}
NumbersFit (X a n r s seed) = (n < 10) × (r < 10) × (s < 100) × (seed < 10_000_000_000)
NumbersFit (Z s) = s < 10
NumbersFit (G s a x) = s < 10
NumbersFit H = Unit {0}

-- a record is well formed exactly when no field has a tab in it and its numbers fit
abbrev pub WellFormedExact : Type 0
WellFormedExact = (r : Record) → So (well_formed r) ↔ (So (all no_tab (record_fields r)) × NumbersFit r)

-- "1, unknown letter, wrong number of fields, a field form, or a line too long": the line is too long, or no record's text
abbrev pub NoRecord : Bytes → Type 0
NoRecord line = (max_line < length line) ⊎ ((r : Record) → So (well_formed r) → line ≡ record_text r → ⊥)

-- some bytes are one line of these fields: "fields parted by tabs, lines ended by byte 10"
pub record LineOf (output : Bytes) (fs : List Bytes) : Type 0 where
  pub text : Bytes
  pub ended : output ≡ text ++ line_end ∷ []
  pub parts : fields text ≡ fs

-- the replies as they are written
pub record RepliesWritten : Type 0 where
  -- the words and letters of a reply in figures
  pub ok_bytes : bytes "ok" ≡ 111 ∷ 107 ∷ []
  pub no_bytes : bytes "no" ≡ 110 ∷ 111 ∷ []
  pub letters : bytes "BFT" ≡ 66 ∷ 70 ∷ 84 ∷ []
  -- "Neither replies when accepted."
  pub nothing : reply_bytes silent ≡ []
  -- `ok`; `ok⇥` and a number; `ok⇥`, an image and a place
  pub done : LineOf (reply_bytes ok) (bytes "ok" ∷ [])
  pub number : (n : ℕ) → LineOf (reply_bytes (ok_number n)) (bytes "ok" ∷ decimal n ∷ [])
  pub image : (w : Word) (k : ℕ) → LineOf (reply_bytes (ok_image w k)) (bytes "ok" ∷ word_bytes w ∷ decimal k ∷ [])
  -- W: "one line `B⇥from⇥to` for every pair .. and closes with `ok⇥` and how many" (change request E1); "The lines of E1 gain the same
  -- field .. closed by `ok⇥2` as before" (change request E7)
  pub part : (l : Placed)
      → LineOf (line_of (part_fields l)) (bytes "B" ∷ word_bytes l.pair.from ∷ word_bytes l.pair.to ∷ decimal l.place ∷ [])
  pub block : (ls : List Placed)
      → reply_bytes (ok_block ls) ≡ join_lines (map (λ l. line_of (part_fields l)) ls) ++ reply_bytes (ok_number (length ls))
  pub plan : (b : ℕ) (p : Plan) → reply_bytes (lists b p) ≡ listing b p
  -- "A refusal is `no⇥` and its number; those of E for a column add ⇥F or ⇥T (from, to)."
  pub refusal : (n : ℕ) → LineOf (reply_bytes (refuses n none)) (bytes "no" ∷ decimal n ∷ [])
  pub from_refusal : (n : ℕ) → LineOf (reply_bytes (refuses n (some Letter.F))) (bytes "no" ∷ decimal n ∷ bytes "F" ∷ [])
  pub to_refusal : (n : ℕ) → LineOf (reply_bytes (refuses n (some Letter.T))) (bytes "no" ∷ decimal n ∷ bytes "T" ∷ [])
  -- U: "`slot⇥n⇥r⇥pairs` for each held slot .. then `ok⇥` and how many"
  pub held : (h : Held)
      → LineOf (line_of (held_fields h))
      ((slot_byte h.slot ∷ []) ∷ decimal h.plan.shape.arity ∷ decimal h.plan.shape.roots ∷ decimal (pairs_in h) ∷ [])
  pub survey : (hs : List Held)
      → reply_bytes (surveys hs) ≡ join_lines (map (λ h. line_of (held_fields h)) hs) ++ reply_bytes (ok_number (length hs))

-- all of it, with what higman says of letters and numbers
pub record TextExact : Type 0 where
  pub grammar : GrammarExact
  pub forms : RecordForms
  pub well_formed_lem : WellFormedExact
  pub slots : SlotsExact
  pub decimals : DecimalsExact
  pub replies : RepliesWritten
