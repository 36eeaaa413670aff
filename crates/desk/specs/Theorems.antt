-- The statements. Of one line: RefusalDrops, DeskStays, DeskTest, SurveyExact, BlockReplied and NoShorterSheet. Of a session: LinesExact,
-- LinesFed, FedInPieces (wherever its input is cut), SessionFed (what the state holds of a line is enough), TypedIn,
-- AcceptedFromLines and ListingReadBack. Of a library call: LentCallsExact. proofs/ has one term of each. Read Conditions.antt next.
use Rattle.std.specs.Prelude.{ℕ, ◌≤◌, ◌<◌, ◌≡◌, ◌↔◌, ◌⊎◌, ◌&&◌, T, length}
use mathlib.Core.List.{List, [], ◌∷◌, ◌++◌, map, Memᴰ}
use Rattle.std.proofs.Math.Option.{Option, none, some}
use Rattle.higman.specs.Words.{Shape, Word, begins}
use Rattle.higman.specs.Text.{Bytes, line_end, word_of}
use Rattle.higman.specs.Bases.{all}
use Rattle.higman.specs.Tables.{Table, Pair}
use Rattle.higman.specs.Normal.{keep}
use Rattle.higman.specs.Limits.{Plan, Bases, Kept, shape_in_range, is_plan_word, max_pairs}
use Rattle.higman.specs.Refusals.{buffer_too_short, invalid_value, Letter}
use Rattle.higman.specs.Answers.{is_table_of, followed, Granted}
use Rattle.higman.specs.Fronts.{BlockOf, SendsInTurn}
use Rattle.higman.specs.Shortest.{ActsAs, NotShorter}
use Rattle.higman.specs.Listing.{slot_number, slot_byte, is_slot, open_record, pair_records, join_lines}
use Rattle.higman.specs.Buffers.{written, OnlyOutputChanges}
use Rattle.higman.specs.Places.{Placed, pairs_of, AtPlace, RoutesAt}
use Rattle.desk.specs.Limits.{max_changes}
use Rattle.desk.specs.Desk.{Desk, count_of, own_right, held, IsDesk, is_desk, fresh_desk, changed, with_draft, dropped}
use Rattle.desk.specs.Records.{Record, P, M, E, W, L, U, record_text, well_formed}
use Rattle.desk.specs.Replies.{refuse, pass, Effect, lists, surveys, Held, pairs_in, ok_number, ok_block, refuses, operation, ok_image}
use Rattle.desk.specs.Replies.{respond_line, run, desk_after}
use Rattle.desk.specs.Bytes.{reply_bytes}
use Rattle.desk.specs.Session.{lines_from, unended, State, idle, feed, finish, fed_whole, session}
use Rattle.desk.specs.Buffers.{Work, lent_call, plain_call}

-- "Any refusal drops an open plan and changes nothing else."
abbrev pub RefusalDrops : Type 0
RefusalDrops = (d : Desk) (line : Bytes) (n : ℕ) (c : Option Letter) → (respond_line d line).1 ≡ refuses n c → (respond_line d line).0 ≡ dropped d

-- A line leaves a desk behind, and a fresh desk is one.
pub record DeskStays : Type 0 where
  pub fresh : IsDesk fresh_desk
  pub line : (d : Desk) (l : Bytes) → IsDesk d → IsDesk (respond_line d l).0

-- The test for a desk, by which 15 is given, says what a desk is.
abbrev pub DeskTest : Type 0
DeskTest = (d : Desk) → T (is_desk d) ↔ IsDesk d

-- U (change request E2): "with the most pairs first, and equal ones by slot letter"
abbrev pub Before : Held → Held → Type 0
Before h k = (pairs_in k < pairs_in h) ⊎ ((pairs_in h ≡ pairs_in k) × (slot_byte h.slot < slot_byte k.slot))

-- each before all that follow it
abbrev pub InOrder : List Held → Type 0
InOrder [] = Unit {0}
InOrder (h ∷ hs) = ((k : Held) → Memᴰ k hs → Before h k) × InOrder hs

-- no slot twice
abbrev pub NoneTwice : List Held → Type 0
NoneTwice [] = Unit {0}
NoneTwice (h ∷ hs) = ((k : Held) → Memᴰ k hs → h.slot ≡ k.slot → ⊥) × NoneTwice hs

-- what U lists of a desk: "each held slot has its line exactly once", in that order, and "U shows only readable slots" (change request
-- E6), which takes the right 1
pub record SurveyOf (d : Desk) (hs : List Held) : Type 0 where
  pub each : (i : ℕ) (p : Plan) → ((held d i ≡ some p) × (1 ≤ own_right d i)) ↔ Memᴰ (record { slot = i; plan = p }) hs
  pub once : NoneTwice hs
  pub in_order : InOrder hs

-- That is what it replies, and there is no second such list.
pub record SurveyExact : Type 0 where
  pub replied : (d : Desk) (e : Effect) → operation d U ≡ pass e → (hs : List Held) × (e ≡ (d, surveys hs)) × SurveyOf d hs
  pub determined : (d : Desk) (hs ks : List Held) → SurveyOf d hs → SurveyOf d ks → hs ≡ ks

-- Change request E1: where W gives a block, its lines are those of the plan in the slot, and where the plan is a kept *a then b*, they say
-- of every longer code what a and then b do to it.
abbrev pub BlockReplied : Type 0
BlockReplied =
    (d : Desk) → IsDesk d → (c : ℕ) (code : Bytes) (lines : List Placed) → operation d (W c code) ≡ pass (d, ok_block lines)
    → (r : Plan) × (held d (slot_number c) ≡ some r) × BlockOf r (word_of code) (pairs_of lines)
    × ((a b : Plan) → Kept a → Kept b → followed a b ≡ Granted r → SendsInTurn a b (word_of code) (pairs_of lines))

-- Change request E7: where W gives an image and a place, the image comes from the pair at that place of the plan in the slot, and no
-- from-word at another place begins the code; and every line of a block has the place of its pair. That these are the places of M records
-- in L's reply is `PlacesExact.listed` of higman and `RepliesWritten.plan`.
pub record PlacesReplied : Type 0 where
  pub images : (d : Desk) → IsDesk d → (c : ℕ) (code : Bytes) (v : Word) (k : ℕ) → operation d (W c code) ≡ pass (d, ok_image v k)
      → (r : Plan) × (held d (slot_number c) ≡ some r) × RoutesAt r.rows (word_of code) v k
      × ((j : ℕ) (p : Pair) → AtPlace r.rows j p → T (begins p.from (word_of code)) → j ≡ k)
  pub blocks : (d : Desk) (c : ℕ) (code : Bytes) (lines : List Placed) → operation d (W c code) ≡ pass (d, ok_block lines)
      → (r : Plan) × (held d (slot_number c) ≡ some r)
      × ((l : Placed) → Memᴰ l lines → AtPlace r.rows l.place l.pair)

-- two pieces, one after the other
abbrev pub feed_both : State → Bytes → Bytes → State × Bytes
feed_both s x y = let r = feed s x in let q = feed r.0 y in (q.0, r.1 ++ q.1)

abbrev pub feed_pieces : State → List Bytes → State × Bytes
feed_pieces s [] = (s, [])
feed_pieces s (x ∷ pieces) = let r = feed s x in let q = feed_pieces r.0 pieces in (q.0, r.1 ++ q.1)

-- Fed in pieces, wherever they are cut, a session comes to the same state and writes the same bytes as fed whole.
pub record FedInPieces : Type 0 where
  pub two : (s : State) (x y : Bytes) → feed s (x ++ y) ≡ feed_both s x y
  pub any : (s : State) (pieces : List Bytes) → feed s (join_lines pieces) ≡ feed_pieces s pieces

-- Fed whole from a fresh desk on, the input gets the replies to its lines, each line as a whole and however long it is.
abbrev pub SessionFed : Type 0
SessionFed = (input : Bytes) → fed_whole (idle fresh_desk) input ≡ session input

-- "lines ended by byte 10. A last line without that byte counts if it isn't empty."
pub record LinesExact : Type 0 where
  pub no_end_within : (line : Bytes) → T (unended line) ↔ (Memᴰ 10 line → ⊥)
  pub none_left : lines_from [] [] ≡ []
  pub ended : (line rest : Bytes) → T (unended line) → lines_from [] (line ++ line_end ∷ rest) ≡ line ∷ lines_from [] rest
  pub last : (b : ℕ) (line : Bytes) → T (unended (b ∷ line)) → lines_from [] (b ∷ line) ≡ (b ∷ line) ∷ []

-- what a line's effect leaves to be fed
abbrev pub then_fed : Effect → Bytes → State × Bytes
then_fed e rest = let q = feed (idle e.0) rest in (q.0, reply_bytes e.1 ++ q.1)

-- A line that is fed, however long, is answered as a whole; at the end of input a line that has begun is answered if it isn't empty, and
-- "An open plan is dropped".
pub record LinesFed : Type 0 where
  pub ended : (d : Desk) (line rest : Bytes) → T (unended line)
      → feed (idle d) (line ++ line_end ∷ rest) ≡ then_fed (respond_line d line) rest
  pub last : (d : Desk) (b : ℕ) (line : Bytes) → T (unended (b ∷ line))
      → let e = respond_line d (b ∷ line) in finish (feed (idle d) (b ∷ line)).0 ≡ (dropped e.0, reply_bytes e.1)
  pub none_left : (d : Desk) → finish (idle d) ≡ (dropped d, [])

-- What is typed is what the lines say: P and M records of words within the limits, typed into a desk with no open plan, get no reply
-- and open just the plan that they spell, in their order. Whatever follows, E first of all, meets that plan. The slot takes the right 2.
abbrev pub TypedIn : Type 0
TypedIn =
    (d : Desk) → d.draft ≡ none → (b : ℕ) → T (is_slot b) → 2 ≤ own_right d (slot_number b)
    → (s : Shape) (t : Table) → T (is_table_of s t) → (rest : Bytes)
    → feed (idle d) (open_record b s ++ (join_lines (pair_records t) ++ rest))
    ≡ feed (idle (with_draft d (record { slot = slot_number b; shape = s; rows = t }))) rest

-- two words as they are typed
pub record TypedPair : Type 0 where
  pub from : Bytes
  pub to : Bytes

abbrev pub typed_table : List TypedPair → Table
typed_table ps = map (λ p. record { from = word_of p.from; to = word_of p.to }) ps

-- P, an M for each pair, and E
abbrev pub typed_records : ℕ → Shape → List TypedPair → List Record
typed_records b s ps = P b s.arity s.roots ∷ (map (λ p. M p.from p.to) ps ++ E ∷ [])

-- what the paper asks of a typed plan: a slot that may be written, a shape, words of the shape within the limits, bases for columns, and
-- room in the count
pub record Acceptable (d : Desk) (b : ℕ) (s : Shape) (t : Table) : Type 0 where
  pub slot_named : T (is_slot b)
  pub right : 2 ≤ own_right d (slot_number b)
  pub in_range : T (shape_in_range s)
  pub words : T (all (λ p. is_plan_word s p.from && is_plan_word s p.to) t)
  pub few : length t ≤ max_pairs
  pub bases : Bases s t
  pub room : count_of d < max_changes

-- Plans are accepted exactly when both columns are bases, from the typed lines on: on a desk with no open plan a plan is kept where all
-- that is asked holds, and otherwise the desk is as it was.
pub record AcceptedFromLines : Type 0 where
  pub kept : (d : Desk) → d.draft ≡ none → (b : ℕ) (s : Shape) (ps : List TypedPair) → T (all well_formed (typed_records b s ps))
      → Acceptable d b s (typed_table ps)
      → desk_after d (run d (map record_text (typed_records b s ps)))
      ≡ changed d (slot_number b) (some (record { shape = s; rows = keep s (typed_table ps) }))
  pub not_kept : (d : Desk) → d.draft ≡ none → (b : ℕ) (s : Shape) (ps : List TypedPair) → T (all well_formed (typed_records b s ps))
      → (Acceptable d b s (typed_table ps) → ⊥)
      → desk_after d (run d (map record_text (typed_records b s ps))) ≡ d

-- What L replies, read back on a desk with no open plan and room for a change, where the slot that the listing names may be written, keeps
-- the plan in that slot.
abbrev pub ListingReadBack : Type 0
ListingReadBack =
    (d : Desk) → d.draft ≡ none → count_of d < max_changes → (b : ℕ) → T (is_slot b) → 2 ≤ own_right d (slot_number b)
    → (p : Plan) → Kept p
    → feed (idle d) (reply_bytes (lists b p))
    ≡ (idle (changed d (slot_number b) (some p)), reply_bytes (ok_number (length p.rows)))

-- Change request E10, "No shorter sheet": the lines that L replies are P, an M for each pair of the plan in the slot and E, and no table
-- that acts as the plan does (`ActsAs`) is shorter than the pairs of these lines.
pub record ShortestSheet (d : Desk) (c : ℕ) (e : Effect) : Type 0 where
  pub plan : Plan
  pub in_slot : held d (slot_number c) ≡ some plan
  pub printed : List TypedPair
  pub lines : lines_from [] (reply_bytes e.1) ≡ map record_text (typed_records c plan.shape printed)
  pub spelled : typed_table printed ≡ plan.rows
  pub none_shorter : (t : Table) → ActsAs plan.shape plan.rows t → NotShorter (typed_table printed) t

abbrev pub NoShorterSheet : Type 0
NoShorterSheet = (d : Desk) → IsDesk d → (c : ℕ) (e : Effect) → operation d (L c) ≡ pass e → ShortestSheet d c e

-- Library calls: 15 first, then the refusals of the work itself, 14 last; what is lent and the desk after each of them.
pub record LentCallsExact : Type 0 where
  -- no desk: 15, and everything is left as it came
  pub no_desk_lem : (d : Desk) (work : Work) (buffer : Bytes) → (IsDesk d → ⊥)
      → lent_call d work buffer ≡ (d, record { buffer = buffer; answer = refuse invalid_value none })
  -- a desk: a refusal of the work comes before 14
  pub refused : (d : Desk) (work : Work) (buffer : Bytes) (n : ℕ) (c : Option Letter) → IsDesk d → work d ≡ refuse n c
      → lent_call d work buffer ≡ (dropped d, record { buffer = buffer; answer = refuse n c })
  -- 14: "the lent buffer is shorter than the output"
  pub no_room : (d : Desk) (work : Work) (buffer : Bytes) (e : Effect) → IsDesk d → work d ≡ pass e
      → length buffer < length (reply_bytes e.1)
      → lent_call d work buffer ≡ (dropped d, record { buffer = buffer; answer = refuse buffer_too_short none })
  -- otherwise the work is done, and "only the bytes of the output change"
  pub done : (d : Desk) (work : Work) (buffer : Bytes) (e : Effect) → IsDesk d → work d ≡ pass e
      → length (reply_bytes e.1) ≤ length buffer
      → let output = reply_bytes e.1 in lent_call d work buffer
      ≡ (e.0, record { buffer = written buffer 0 output; answer = pass (length output) })
  pub only_output : OnlyOutputChanges
  -- "a lent buffer then holds what it held before", at any refusal; and a buffer keeps its length at any answer
  pub buffer_held : (d : Desk) (work : Work) (buffer : Bytes) (n : ℕ) (c : Option Letter)
      → (lent_call d work buffer).1.answer ≡ refuse n c → (lent_call d work buffer).1.buffer ≡ buffer
  pub buffer_length : (d : Desk) (work : Work) (buffer : Bytes)
      → length (lent_call d work buffer).1.buffer ≡ length buffer
  -- a call that is lent nothing
  pub plain_no_desk : (d : Desk) (work : Work) → (IsDesk d → ⊥) → plain_call d work ≡ (d, refuse invalid_value none)
  pub plain_refused : (d : Desk) (work : Work) (n : ℕ) (c : Option Letter) → IsDesk d → work d ≡ refuse n c
      → plain_call d work ≡ (dropped d, refuse n c)
  pub plain_done : (d : Desk) (work : Work) (e : Effect) → IsDesk d → work d ≡ pass e → plain_call d work ≡ (e.0, pass e.1)
