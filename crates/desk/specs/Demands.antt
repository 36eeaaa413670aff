-- The three demands, as statements about the definitions: Demand1 and Demand2 here, Demand3 from higman, and `Demands` for all of them.
-- proofs/ has one term of each. Read Cases.antt next.
use Rattle.std.specs.Prelude.{ℕ, ◌+◌, ◌≤◌, ◌<◌, ◌≡◌, ◌↔◌, ◌⊎◌, true, false, T, ℤ, length}
use mathlib.Core.List.{List, [], ◌∷◌, ◌++◌, Memᴰ}
use Rattle.std.proofs.Math.Option.{Option, none, some}
use Rattle.higman.specs.Words.{Shape, Word, is_word}
use Rattle.higman.specs.Bases.{Basis}
use Rattle.higman.specs.Tables.{froms, tos, image}
use Rattle.higman.specs.Normal.{and_then, power}
use Rattle.higman.specs.Limits.{Plan, Bases, Kept, slot_count}
use Rattle.higman.specs.Text.{line_end, Bytes, word_of}
use Rattle.higman.specs.Theorems.{ActAlike, ResultsReduced, MinimalExpansion, Demand3}
use Rattle.higman.specs.Figures.{PlanLimitsExact, NumbersNamed}
use Rattle.higman.specs.Reasons.{Overlapping, OnlyOpen, ReasonsExact}
use Rattle.higman.specs.Places.{place_of, placed_block}
use Rattle.higman.specs.Exercises.{exercised, exercise_plan, ExercisesExact}
use Rattle.higman.specs.Automorphisms.{PlansAreAutomorphisms}
use Rattle.higman.specs.Refusals.{no_record, wrong_state, shape_outside, bad_word, pairs_full, words_overlap, root_uncovered, slot_outside}
use Rattle.higman.specs.Refusals.{slot_empty, shapes_differ, limit_broken, power_outside, count_full, seed_outside, station_outside}
use Rattle.higman.specs.Refusals.{station_refused, right_missing, Letter}
use Rattle.desk.specs.Limits.{station_count, max_right, max_changes, max_line}
use Rattle.desk.specs.Desk.{Draft, Desk, fresh_desk, station_of, changes_of, count_of, held, IsDesk, changed, with_draft, with_pair}
use Rattle.desk.specs.Desk.{dropped, at_station, is_station, own_right, pairs_of_slot}
use Rattle.desk.specs.Records.{Record, P, M, E, F, I, K, S, W, L, C, T as Tᴿ, U, X, Z, G, H, SlotUse, reads, target}
use Rattle.desk.specs.Records.{needs_open, slots_named, is_change, record_text, well_formed}
use Rattle.higman.specs.Listing.{slot_number}
use Rattle.desk.specs.Replies.{refuse, pass, Effect, silent, ok, ok_number, ok_image, ok_block, lists, surveys, refuses, surveyed}
use Rattle.desk.specs.Replies.{at_limit, operation, line_operation, respond_line, new_draft, closed}
use Rattle.desk.specs.Bytes.{reply_bytes}
use Rattle.desk.specs.Conditions.{conditions, first_of, refusal_of}
use Rattle.desk.specs.Theorems.{RefusalDrops, DeskStays, DeskTest, SurveyExact, LinesExact, LinesFed, FedInPieces, SessionFed}
use Rattle.desk.specs.Theorems.{TypedIn, AcceptedFromLines, BlockReplied, PlacesReplied}
use Rattle.desk.specs.Theorems.{ListingReadBack, LentCallsExact}
use Rattle.desk.specs.Grammar.{NoRecord, TextExact}
use Rattle.desk.specs.Stations.{CountsOfStations}
use Rattle.desk.specs.Rights.{RightsExact}
use Rattle.desk.specs.Sights.{StationsApart}
use Rattle.desk.specs.Pairs.{PairsHeld}

-- the numbers that the operation of a record may be refused with; 13, 14 and 15 are of library calls
unfoldable pub operation_numbers : List ℕ
operation_numbers =
    wrong_state ∷
    shape_outside ∷
    bad_word ∷
    pairs_full ∷
    words_overlap ∷
    root_uncovered ∷
    slot_outside ∷
    slot_empty ∷
    shapes_differ ∷
    limit_broken ∷
    power_outside ∷
    count_full ∷
    seed_outside ∷
    station_outside ∷
    station_refused ∷
    right_missing ∷
    []

-- and those of a line, which may be no record
unfoldable pub refusal_numbers : List ℕ
refusal_numbers = no_record ∷ operation_numbers

-- a line's job is done, with this effect
abbrev pub DoneLine : Desk → Bytes → Type 0
DoneLine d line = (e : Effect) × (line_operation d line ≡ pass e) × (respond_line d line ≡ e)

-- a line is refused with a number, and its whole output is a line of its own
pub record RefusedLine (d : Desk) (line : Bytes) : Type 0 where
  pub number : ℕ
  pub column : Option Letter
  pub numbered : Memᴰ number refusal_numbers
  pub refused : line_operation d line ≡ refuse number column
  pub replied : (respond_line d line).1 ≡ refuses number column
  pub text : Bytes
  pub no_line_end : Memᴰ line_end text → ⊥
  pub one_line : reply_bytes (respond_line d line).1 ≡ text ++ line_end ∷ []

-- M and E, the records of an open plan
abbrev pub OfOpenPlan : Record → Type 0
OfOpenPlan (P a n r) = ⊥
OfOpenPlan (M from to) = Unit {0}
OfOpenPlan E = Unit {0}
OfOpenPlan (F a b c) = ⊥
OfOpenPlan (I a c) = ⊥
OfOpenPlan (K a k c) = ⊥
OfOpenPlan (S a b) = ⊥
OfOpenPlan (W a code) = ⊥
OfOpenPlan (L a) = ⊥
OfOpenPlan (C a) = ⊥
OfOpenPlan Tᴿ = ⊥
OfOpenPlan U = ⊥
OfOpenPlan (X a n r s seed) = ⊥
OfOpenPlan (Z s) = ⊥
OfOpenPlan (G s a x) = ⊥
OfOpenPlan H = ⊥

-- "2, an M or E with no plan open, or any other record while one is open", before every other number of a record
pub record WrongState : Type 0 where
  pub none_open : (d : Desk) (r : Record) → d.draft ≡ none → OfOpenPlan r → operation d r ≡ refuse 2 none
  pub one_open : (d : Desk) (o : Draft) (r : Record) → d.draft ≡ some o → (OfOpenPlan r → ⊥) → operation d r ≡ refuse 2 none

-- What E says of a column, by what is wrong with it and not by the tests: "6, one word begins or equals another; 7, a belt isn't covered",
-- of the from column and, where that is a basis, of the to column.
pub record ColumnRefusals (d : Desk) (o : Draft) : Type 0 where
  pub from_overlap : (operation d E ≡ refuse 6 (some Letter.F)) ↔ Overlapping (froms o.rows)
  pub from_gap : (operation d E ≡ refuse 7 (some Letter.F)) ↔ OnlyOpen o.shape (froms o.rows)
  pub to_overlap : (operation d E ≡ refuse 6 (some Letter.T)) ↔ (Basis o.shape (froms o.rows) × Overlapping (tos o.rows))
  pub to_gap : (operation d E ≡ refuse 7 (some Letter.T)) ↔ (Basis o.shape (froms o.rows) × OnlyOpen o.shape (tos o.rows))

-- Demand 1: any bytes, a job done or a numbered refusal that changes nothing.
pub record Demand1 : Type 0 where
  pub answered : (d : Desk) (line : Bytes) → DoneLine d line ⊎ RefusedLine d line
  -- "Any refusal drops an open plan and changes nothing else."
  pub refusal_drops : RefusalDrops
  pub desk_stays : DeskStays
  -- the paper's numbers, name by name, and those of a line
  pub numbers_named : NumbersNamed
  pub numbers : refusal_numbers ≡ 1 ∷ 2 ∷ 3 ∷ 4 ∷ 5 ∷ 6 ∷ 7 ∷ 8 ∷ 9 ∷ 10 ∷ 11 ∷ 12 ∷ 16 ∷ 17 ∷ 18 ∷ 19 ∷ 20 ∷ []
  -- 1 exactly where a line is no record, a record's line does what the record does, and every other number is given under its
  -- condition and no other: the first that holds
  pub no_record : (d : Desk) (line : Bytes) → ((c : Option Letter) × (line_operation d line ≡ refuse no_record c)) ↔ NoRecord line
  pub record_line : (d : Desk) (r : Record) → T (well_formed r) → length (record_text r) ≤ max_line
      → line_operation d (record_text r) ≡ operation d r
  pub first_condition : (d : Desk) → IsDesk d → (r : Record) → refusal_of (operation d r) ≡ first_of (conditions d r)
  -- 2, and 6 and 7, by what they mean
  pub wrong_state_fact : WrongState
  pub columns : (d : Desk) (o : Draft) → IsDesk d → d.draft ≡ some o → ColumnRefusals d o
  -- the test for a desk says what one is, and library calls put 15 first and 14 last
  pub desk_test : DeskTest
  pub calls : LentCallsExact

-- What becomes of a desk that is changed, gets an open plan or loses it, or has another station named.
pub record DeskParts : Type 0 where
  -- "A fresh desk has empty slots and count 0."
  pub fresh_slots : (i : ℕ) → held fresh_desk i ≡ none
  pub fresh_open : fresh_desk.draft ≡ none
  pub fresh_counts : (s : ℕ) → changes_of fresh_desk.control s ≡ 0
  pub fresh_pairs : fresh_desk.control.pairs ≡ 0
  -- a change: one slot holds something else, the others hold what they held, the count of the named station is one higher, the pairs that
  -- the slot held are taken off the sum and those that it holds are put to it, and rights stay
  pub changed_here : (d : Desk) (i : ℕ) (content : Option Plan) → length d.slots ≡ slot_count → i < slot_count
      → held (changed d i content) i ≡ content
  pub changed_elsewhere : (d : Desk) (i j : ℕ) (content : Option Plan) → (i ≡ j → ⊥) → held (changed d i content) j ≡ held d j
  pub changed_station : (d : Desk) (i : ℕ) (content : Option Plan) → station_of (changed d i content) ≡ station_of d
  pub changed_count : (d : Desk) (i : ℕ) (content : Option Plan) → IsDesk d → count_of (changed d i content) ≡ count_of d + 1
  pub other_counts : (d : Desk) (i s : ℕ) (content : Option Plan) → (station_of d ≡ s → ⊥)
      → changes_of (changed d i content).control s ≡ changes_of d.control s
  pub changed_pairs : (d : Desk) (i : ℕ) (content : Option Plan) → pairs_of_slot (held d i) ≤ d.control.pairs
      → (changed d i content).control.pairs + pairs_of_slot (held d i) ≡ d.control.pairs + pairs_of_slot content
  pub changed_rights : (d : Desk) (i : ℕ) (content : Option Plan) → (changed d i content).control.rights ≡ d.control.rights
  pub changed_open : (d : Desk) (i : ℕ) (content : Option Plan) → (changed d i content).draft ≡ none
  -- an open plan: nothing else changes
  pub drafted : (d : Desk) (o : Draft)
      → ((with_draft d o).slots ≡ d.slots) × ((with_draft d o).draft ≡ some o) × ((with_draft d o).control ≡ d.control)
  -- it is dropped: nothing else changes
  pub dropped_parts : (d : Desk) → ((dropped d).slots ≡ d.slots) × ((dropped d).draft ≡ none) × ((dropped d).control ≡ d.control)
  -- another station is named: nothing else changes
  pub station_parts : (d : Desk) (s : ℕ)
      → ((at_station d s).slots ≡ d.slots) × ((at_station d s).draft ≡ d.draft) × (station_of (at_station d s) ≡ s)
      × ((at_station d s).control.changes ≡ d.control.changes) × ((at_station d s).control.rights ≡ d.control.rights)
      × ((at_station d s).control.pairs ≡ d.control.pairs)

-- What P, M, C, L, T and U do when they are not refused, and which records change slots, counts and the sum of pairs at all.
pub record RepliesExact : Type 0 where
  pub opens : (d : Desk) (a n r : ℕ) (e : Effect) → operation d (P a n r) ≡ pass e
      → (d.draft ≡ none) × (e ≡ (with_draft d (new_draft a (record { arity = n; roots = r })), silent))
  pub adds : (d : Desk) (from to : Bytes) (e : Effect) → operation d (M from to) ≡ pass e
      → (o : Draft) × (d.draft ≡ some o) × (e ≡ (with_draft d (with_pair o (record { from = word_of from; to = word_of to })), silent))
  pub empties : (d : Desk) (a : ℕ) (e : Effect) → operation d (C a) ≡ pass e
      → (p : Plan) × (held d (slot_number a) ≡ some p) × (e ≡ (changed d (slot_number a) none, ok))
  pub lists : (d : Desk) (a : ℕ) (e : Effect) → operation d (L a) ≡ pass e
      → (p : Plan) × (held d (slot_number a) ≡ some p) × (e ≡ (d, lists a p))
  pub counts : (d : Desk) (e : Effect) → operation d Tᴿ ≡ pass e → e ≡ (d, ok_number (count_of d))
  pub surveys : (d : Desk) (e : Effect) → operation d U ≡ pass e → e ≡ (d, surveys (surveyed d))
  pub only_changes : (d : Desk) (r : Record) (e : Effect) → is_change r ≡ false → operation d r ≡ pass e
      → (e.0.slots ≡ d.slots) × (e.0.control.changes ≡ d.control.changes) × (e.0.control.pairs ≡ d.control.pairs)
  pub raises : (d : Desk) (r : Record) (e : Effect) → IsDesk d → is_change r ≡ true → operation d r ≡ pass e
      → count_of e.0 ≡ count_of d + 1

-- a slot is filled or emptied, or a plan is opened for it
abbrev pub Written : Desk → ℕ → Desk → Type 0
Written d i c = ((content : Option Plan) × (c ≡ changed d i content)) ⊎ ((o : Draft) × (o.slot ≡ i) × (c ≡ with_draft d o))

-- What a record does to the slots that it names: what it reads is held, and of all slots only its targets change. (E writes to the slot
-- of the open plan, which it does not name.)
pub record SlotsUsed : Type 0 where
  pub reads_held : (d : Desk) (r : Record) (e : Effect) → operation d r ≡ pass e
      → (u : SlotUse) → Memᴰ u (slots_named r) → u.does ≡ reads → (p : Plan) × (held d (slot_number u.slot) ≡ some p)
  pub only_targets : (d : Desk) (r : Record) (e : Effect) → operation d r ≡ pass e → needs_open r ≡ false
      → (j : ℕ) → ((u : SlotUse) → Memᴰ u (slots_named r) → u.does ≡ target → slot_number u.slot ≡ j → ⊥)
      → held e.0 j ≡ held d j
  pub targets : (d : Desk) (r : Record) (e : Effect) → operation d r ≡ pass e
      → (u : SlotUse) → Memᴰ u (slots_named r) → u.does ≡ target → Written d (slot_number u.slot) e.0

-- E: what is kept is what was typed, reduced
pub record KeptAsTyped (d : Desk) (o : Draft) (e : Effect) : Type 0 where
  pub effect : e ≡ (changed d o.slot (some (closed o)), ok_number (length (closed o).rows))
  pub there : held e.0 o.slot ≡ some (closed o)
  pub kept : Kept (closed o)
  pub acts : (w v : Word) → T (is_word o.shape w) → image o.rows w ≡ some v → image (closed o).rows w ≡ some v

-- F, I, K and X: the plan that is kept in slot c, of F, I and K from what the slots held before
pub record KeptIn (d : Desk) (c : ℕ) (e : Effect) (p : Plan) : Type 0 where
  pub effect : e ≡ (changed d (slot_number c) (some p), ok_number (length p.rows))
  pub there : held e.0 (slot_number c) ≡ some p
  pub kept : Kept p

-- W: the image of a code under a plan and the place of the pair that routed it or, where it has none, its block
abbrev pub RoutedBy : Plan → Word → Desk → Effect → Type 0
RoutedBy p w d e =
    ((v : Word) × (image p.rows w ≡ some v) × (e ≡ (d, ok_image v (place_of (froms p.rows) w))))
    ⊎ ((image p.rows w ≡ none) × (e ≡ (d, ok_block (placed_block p.rows w))))

-- the desk with the pairs that X makes typed in for its slot, and not yet closed
abbrev pub with_exercise : Desk → ℕ → Shape → ℕ → ℕ → Desk
with_exercise d a s k seed = with_draft d (record { slot = slot_number a; shape = s; rows = exercised s k seed })

-- X: the plan of its numbers is kept and acts as the pairs that were made; and desk and reply are those of E, had the pairs been typed
pub record ExerciseKept (d : Desk) (a : ℕ) (s : Shape) (k seed : ℕ) (e : Effect) : Type 0 where
  pub plan : KeptIn d a e (exercise_plan s k seed)
  pub acts : (w v : Word) → T (is_word s w) → image (exercised s k seed) w ≡ some v
      → image (exercise_plan s k seed).rows w ≡ some v
  pub as_typed : operation (with_exercise d a s k seed) E ≡ pass e

-- no plan is open, a slot may be written, and the count is below its limit
pub record Ready (d : Desk) (a : ℕ) : Type 0 where
  pub none_open : d.draft ≡ none
  pub right : 2 ≤ own_right d (slot_number a)
  pub room : count_of d < max_changes

-- "The plan is fixed by the five fields alone": where X is done on two desks, its reply is the same and it keeps the same in its slot;
-- and where both are ready for a change, it is done on both or refused on both, with the same number.
pub record ExercisesFixed : Type 0 where
  pub same_reply : (d c : Desk) (a n r s seed : ℕ) (e f : Effect)
      → operation d (X a n r s seed) ≡ pass e → operation c (X a n r s seed) ≡ pass f → e.1 ≡ f.1
  pub same_plan : (d c : Desk) (a n r s seed : ℕ) (e f : Effect) → IsDesk d → IsDesk c
      → operation d (X a n r s seed) ≡ pass e → operation c (X a n r s seed) ≡ pass f
      → held e.0 (slot_number a) ≡ held f.0 (slot_number a)
  pub same_refusal : (d c : Desk) (a n r s seed : ℕ) → IsDesk d → IsDesk c → Ready d a → Ready c a
      → refusal_of (operation d (X a n r s seed)) ≡ refusal_of (operation c (X a n r s seed))

-- Demand 2: plans accepted exactly when both columns are bases, operations those of G(n,r), a listing read back is the same plan.
pub record Demand2 : Type 0 where
  pub accepted : (d : Desk) (o : Draft) → IsDesk d → d.draft ≡ some o
      → ((e : Effect) × (operation d E ≡ pass e)) ↔ (Bases o.shape o.rows × (count_of d < max_changes))
  pub typed : (d : Desk) (o : Draft) (e : Effect) → IsDesk d → d.draft ≡ some o → operation d E ≡ pass e → KeptAsTyped d o e
  pub follows : (d : Desk) (a b c : ℕ) (e : Effect) → IsDesk d → operation d (F a b c) ≡ pass e
      → (p : Plan) × (q : Plan) × (r : Plan) × (held d (slot_number a) ≡ some p) × (held d (slot_number b) ≡ some q) × KeptIn d c e r × (p.shape ≡ q.shape) × (r.shape ≡ p.shape)
      × ((w v : Word) → T (is_word p.shape w) → and_then (image p.rows) (image q.rows) w ≡ some v → image r.rows w ≡ some v)
  pub inverts : (d : Desk) (a c : ℕ) (e : Effect) → IsDesk d → operation d (I a c) ≡ pass e
      → (p : Plan) × (r : Plan) × (held d (slot_number a) ≡ some p) × KeptIn d c e r × (r.shape ≡ p.shape)
      × ((w v : Word) → T (is_word p.shape w) → image p.rows w ≡ some v → image r.rows v ≡ some w)
  pub repeats : (d : Desk) (a c : ℕ) (k : ℤ) (e : Effect) → IsDesk d → operation d (K a k c) ≡ pass e
      → (p : Plan) × (held d (slot_number a) ≡ some p) × KeptIn d c e (record { shape = p.shape; rows = power p.shape p.rows k })
  pub routes : (d : Desk) (a : ℕ) (code : Bytes) (e : Effect) → operation d (W a code) ≡ pass e
      → (p : Plan) × (held d (slot_number a) ≡ some p) × RoutedBy p (word_of code) d e
  pub blocks : BlockReplied
  pub places : PlacesReplied
  -- X: the plan that the request makes of the shape, the splits and the seed, reduced (change request E3)
  pub exercises : (d : Desk) (a : ℕ) (s : Shape) (k seed : ℕ) (e : Effect) → IsDesk d
      → operation d (X a s.arity s.roots k seed) ≡ pass e → ExerciseKept d a s k seed e
  pub exercises_fixed : ExercisesFixed
  pub compares : (d : Desk) (a b : ℕ) (e : Effect) → IsDesk d → operation d (S a b) ≡ pass e
      → (p : Plan) × (q : Plan) × (held d (slot_number a) ≡ some p) × (held d (slot_number b) ≡ some q)
      × ((e ≡ (d, ok_number 1)) ⊎ (e ≡ (d, ok_number 0))) × ((e ≡ (d, ok_number 1)) ↔ ActAlike p q)
  -- the other records, and what "changed" means
  pub replies : RepliesExact
  pub slots_used : SlotsUsed
  pub stations : CountsOfStations
  pub rights : RightsExact
  pub stations_apart : StationsApart
  pub pairs_held : PairsHeld
  pub desk_parts : DeskParts
  pub survey : SurveyExact
  -- what E judges is what was typed, in the order in which it was typed, and all of this from the typed lines on
  pub typed_in : TypedIn
  pub accepted_from_lines : AcceptedFromLines
  -- a listing typed into any desk that has no plan open and may still change keeps the same plan
  pub read_back : ListingReadBack

-- What is read is what is written, and a session is the replies to its lines, wherever its input is cut.
pub record SessionExact : Type 0 where
  pub text : TextExact
  pub lines : LinesExact
  pub lines_fed : LinesFed
  pub fed : SessionFed
  pub pieces : FedInPieces

-- The papers' limits in figures: those of plans and of text, and the desk's. The digits that a field may have stand in `NumbersFit` of
-- Grammar.antt.
pub record LimitsExact : Type 0 where
  pub plans : PlanLimitsExact
  -- "Eight stations"; "18, a digit above 7"
  pub stations : station_count ≡ 8
  pub station_numbers : (s : ℕ) → T (is_station s) ↔ (s ≤ 7)
  -- "2 read and write", the highest
  pub rights : max_right ≡ 2
  -- "a count of changes from 0 to 4,000,000,000"; "16, the count is at its limit"
  pub changes : max_changes ≡ 4_000_000_000
  pub full_count : (d : Desk) → T (at_limit d) ↔ (4_000_000_000 ≤ count_of d)
  pub counts_within : (d : Desk) → IsDesk d → (s : ℕ) → changes_of d.control s ≤ 4_000_000_000
  -- "slots A to H", of at most 128 pairs each, so that H tells at most 1,024
  pub pairs_within : (d : Desk) → IsDesk d → d.control.pairs ≤ 1_024
  -- "Lines hold at most 1,100 bytes, byte 10 not counted"
  pub lines : max_line ≡ 1_100

-- All three demands, in one place, with what their words lean on: the plans are the automorphisms of V(n,r), a result is the reduced
-- plan on the minimal expansion, 6 and 7 are given for what they mean, X makes its plans as the request says, the limits are the papers'
-- figures, and bytes are read and written as the paper says.
pub record Demands : Type 1 where
  pub demand1 : Demand1
  pub demand2 : Demand2
  pub demand3 : Demand3
  pub group : PlansAreAutomorphisms
  pub results : ResultsReduced
  pub minimal : MinimalExpansion
  pub reasons : ReasonsExact
  pub plans_by_numbers : ExercisesExact
  pub limits : LimitsExact
  pub sessions : SessionExact
