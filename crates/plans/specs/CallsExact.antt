-- What keeping, routing and matching answer, and the number of every refusal as document 01 writes it. A contract is an equality with a
-- definition, and both could be wrong alike; these statements tie the definitions to the columns of a draft, to the pairs of a plan and
-- to the paper's figures. `CallsExact` gathers them. Read Theorems.antt next.
use Rattle.std.specs.Prelude.{ℕ, ◌≤◌, ◌<◌, ◌≡◌, refl, ◌⊎◌, ◌↔◌, Bool, true, false, T, length, get_or, take, drop}
use Rattle.std.specs.Prelude.{ℤ, nat_abs, Result, Ok, Err}
use Rattle.std.specs.Result.{result_unwrap_or}
use mathlib.Core.List.{List, [], ◌∷◌, ◌++◌, map, Memᴰ}
use Rattle.std.proofs.Math.Option.{some}
use Rattle.higman.specs.Words.{Shape, Word, count, is_word, begins, spell}
use Rattle.higman.specs.Bases.{Basis, overlap, gap}
use Rattle.higman.specs.Tables.{Pair, froms, tos, image, row, ψ}
use Rattle.higman.specs.Normal.{compose, repeated, joined, normal, normal_form, keep}
use Rattle.higman.specs.Limits.{Plan as PlanOf, Bases, Kept, is_plan_word, is_code, granted, shape_in_range, max_pairs, max_digits, max_code}
use Rattle.higman.specs.Answers.{repeatable, verdict, is_kept, routed}
use Rattle.higman.specs.Places.{place_of, AtPlace, RoutesAt}
use Rattle.higman.specs.Text.{byte, bytes, word_bytes, word_of, digit_of}
use Rattle.higman.specs.Listing.{listing as lines_of}
use Rattle.words.specs.Packed.{pack_on, pack, unpack_in, unpack}
use Rattle.tables.specs.Routing.{matched_digits}
use Rattle.operations.specs.declared.Plan.{Plan}
use Rattle.operations.specs.declared.Fault.TheVariants.{InFrom, InTo}
use Rattle.operations.specs.declared.Reason.TheVariants.{Overlap, Gap}
use Rattle.tables.specs.declared.routing.Image.{Image}
use Rattle.operations.specs.declared.Route.{Route}
use Rattle.operations.specs.declared.Route.TheVariants as Reply
use Rattle.operations.specs.declared.refusals.Refusal.{Refusal}
use Rattle.operations.specs.declared.refusals.Refusal.TheVariants as The
use Rattle.operations.specs.Refusals.{number_of, answer_number}
use Rattle.plans.specs.declared.Rejection.{Rejection}
use Rattle.plans.specs.declared.Rejection.TheVariants.{NotADraft}
use Rattle.operations.specs.Plans.{shape_of, rows_of, plan_of, in_table, is_draft, is_plan, packed}
use Rattle.plans.specs.Answers.{faulty, judged, keeping, following, inverting, raising, alike}
use Rattle.operations.specs.Answers.{value21}
use Rattle.plans.specs.Answers.{verdict_in, judgement_number, judgement_column}
use Rattle.plans.specs.Routing.{matched, matching, matched_place, routing, routed_buffer}
use Rattle.operations.specs.Routing.{routing_number, routing_length, routing_place}
use Rattle.plans.specs.Listing.{listing_answer, listed_buffer}

-- A column of a draft: at the first n places words that M takes, not one "that is empty, too long or has a wrong digit", and "its unused
-- places zero".
pub record ColumnFilled (s : Shape) (n : ℕ) (column : List ℕ) : Type 0 where
  pub words : (i : ℕ) → i < n → T (is_plan_word s (unpack (get_or column i 0)))
  pub unused_zero : (i : ℕ) → n ≤ i → i < max_pairs → get_or column i 0 ≡ 0

-- A draft, pairs as P and M let them in: what 15 is not given for. Nothing is asked of its columns as bases.
pub record DraftByPlace (v : Plan) : Type 0 where
  -- "3, n or r outside its range", "n ways at every switch, 2 to 9, and r belts, 1 to 9"
  pub arity_low : 2 ≤ v.arity
  pub arity_high : v.arity ≤ 9
  pub roots_low : 1 ≤ v.roots
  pub roots_high : v.roots ≤ 9
  -- "5, a 129th pair"
  pub few : v.pairs ≤ 128
  pub from_filled : ColumnFilled (shape_of v) v.pairs v.from
  pub to_filled : ColumnFilled (shape_of v) v.pairs v.to

-- the from-words and the to-words of the pairs of a draft
abbrev pub from_column : Plan → List Word
from_column v = froms (rows_of v)

abbrev pub to_column : Plan → List Word
to_column v = tos (rows_of v)

-- "two checks, both made of the from column and after that both of the to column: 6, one word begins or equals another; 7, a belt isn't
-- covered": which answer a draft gets. It is one of these five.
pub record DraftJudged (v : Plan) : Type 0 where
  pub accepted : (judged v ≡ Ok tt) ↔ Bases (shape_of v) (rows_of v)
  pub from_overlaps : (judged v ≡ faulty (InFrom Overlap)) ↔ (overlap (from_column v) ≡ true)
  pub from_has_gap : (judged v ≡ faulty (InFrom Gap)) ↔ ((overlap (from_column v) ≡ false) × (gap (shape_of v) (from_column v) ≡ true))
  pub to_overlaps : (judged v ≡ faulty (InTo Overlap)) ↔ (Basis (shape_of v) (from_column v) × (overlap (to_column v) ≡ true))
  pub to_has_gap : (judged v ≡ faulty (InTo Gap))
      ↔ (Basis (shape_of v) (from_column v) × (overlap (to_column v) ≡ false) × (gap (shape_of v) (to_column v) ≡ true))

-- "E closes: reduce and keep": the value of a kept plan that sends each code where the pairs of the draft do.
pub record DraftKept (v : Plan) (p : PlanOf) : Type 0 where
  pub answer : keeping v ≡ Ok (packed p)
  pub shape : p.shape ≡ shape_of v
  pub kept : Kept p
  pub sends : (c x : Word) → T (is_word (shape_of v) c) → image (rows_of v) c ≡ some x → image p.rows c ≡ some x

-- The verdict on a value and what is kept of it.
pub record KeepingExact : Type 0 where
  -- the pairs of a draft, as of a plan, stand at the first places of its columns
  pub pairs_held : (v : Plan) → v.pairs ≤ length v.from → v.pairs ≤ length v.to
      → rows_of v ≡ map (λ i. record { from = unpack (get_or v.from i 0); to = unpack (get_or v.to i 0) }) (count 0 v.pairs)
  -- a value in columns of 128 places is taken exactly if it is a draft
  pub drafts : (v : Plan) → length v.from ≡ max_pairs → length v.to ≡ max_pairs → (is_draft v ≡ true) ↔ DraftByPlace v
  -- "A word in a plan has at most 16 digits"
  pub plan_words : (s : Shape) (w : Word) → T (is_plan_word s w) ↔ (T (is_word s w) × (length w ≤ 16))
  pub no_draft : (v : Plan) → is_draft v ≡ false → keeping v ≡ Err NotADraft
  pub judged_draft : (v : Plan) → is_draft v ≡ true → DraftJudged v
  pub kept_draft : (v : Plan) → is_draft v ≡ true → Bases (shape_of v) (rows_of v) → (p : PlanOf) × DraftKept v p
  -- what is kept or refused is so by the verdict, and what is not accepted is not kept
  pub verdict_beside : (v : Plan) → verdict_in (keeping v) ≡ judged v
  pub none_kept : (v : Plan) → (judged v ≡ Ok tt → ⊥) → (r : Rejection) × (keeping v ≡ Err r)

-- a refusal "is `no⇥` and its number"
pub record Refuses {A : Type 0} (answer : Result A Refusal) (number : ℕ) : Type 0 where
  pub refusal : Refusal
  pub refused : answer ≡ Err refusal
  pub numbered : number_of refusal ≡ number

-- W replies with the number of these bytes and this place, and writes the bytes at the front of the buffer: "On success only the bytes of
-- the output change".
pub record RoutesTo (v : Plan) (code out output : List ℕ) (k : ℕ) : Type 0 where
  pub answer : routing v code (length out) ≡ Reply.Image (record { length = length output; place = k })
  pub front : take (length output) (routed_buffer v code out) ≡ output
  pub rest : drop (length output) (routed_buffer v code out) ≡ drop (length output) out

-- another reply, with its number, and "a lent buffer then holds what it held before"
pub record RouteRefused (v : Plan) (code out : List ℕ) (reply : Route) (number : ℕ) : Type 0 where
  pub answer : routing v code (length out) ≡ reply
  pub numbered : routing_number reply ≡ number
  pub buffer : routed_buffer v code out ≡ out

-- "the code is a proper beginning of a from-word"
pub record ProperBeginning (v : Plan) (code : List ℕ) : Type 0 where
  pub pair : Pair
  pub way : ℕ
  pub ways : Word
  pub among : Memᴰ pair (rows_of v)
  pub longer : pair.from ≡ word_of code ++ way ∷ ways

-- a plan and a code of its shape: neither 15 nor 4 applies
pub record CodeTaken (v : Plan) (code : List ℕ) : Type 0 where
  pub plan : is_plan v ≡ true
  pub code_taken : is_code (shape_of v) (word_of code) ≡ true

-- "A route replies with an image, a code too short, or another refusal": 15, 4, 13 and 14, each under its condition.
pub record RoutingExact : Type 0 where
  -- "A routed code has at most 1,024", and is "a belt from 1 to r, then ways from 1 to n"
  pub codes : (s : Shape) (w : Word) → T (is_code s w) ↔ (T (is_word s w) × (length w ≤ 1_024))
  pub no_plan_lem : (v : Plan) (code out : List ℕ) → is_plan v ≡ false → RouteRefused v code out (Reply.Refused The.InvalidValue) 15
  pub no_code : (v : Plan) (code out : List ℕ) → is_plan v ≡ true → is_code (shape_of v) (word_of code) ≡ false
      → RouteRefused v code out (Reply.Refused The.BadWord) 4
  -- a code that is routed has an image or is too short
  pub image_or_short : (v : Plan) (code : List ℕ) → CodeTaken v code
      → ((x : Word) × (image (rows_of v) (word_of code) ≡ some x)) ⊎ ProperBeginning v code
  pub too_short : (v : Plan) (code out : List ℕ) → CodeTaken v code → ProperBeginning v code → RouteRefused v code out Reply.TooShort 13
  pub no_room : (v : Plan) (code out : List ℕ) (x : Word) → CodeTaken v code → image (rows_of v) (word_of code) ≡ some x
      → length out < length x → RouteRefused v code out (Reply.Refused The.BufferTooShort) 14
  -- the place is that of the pair that the image comes from (change request E7)
  pub routes : (v : Plan) (code out : List ℕ) (x : Word) → CodeTaken v code → image (rows_of v) (word_of code) ≡ some x
      → length x ≤ length out → (k : ℕ) × RoutesAt (rows_of v) (word_of code) x k × RoutesTo v code out (word_bytes x) k

-- "The library's match hands back the unmatched tail as a part of the parcel's code": behind this from-word, and its place beside the tail.
pub record MatchedBy (v : Plan) (code : List ℕ) (from : Word) (k : ℕ) : Type 0 where
  pub digits : matched v code ≡ length from
  pub place : matched_place v code ≡ k
  pub part : matching v code ≡ drop (length from) code
  pub tail : word_of code ≡ from ++ word_of (matching v code)

-- "that part is the whole code", and "The place is 0"
pub record NotMatched (v : Plan) (code : List ℕ) : Type 0 where
  pub digits : matched v code ≡ 0
  pub place : matched_place v code ≡ 0
  pub part : matching v code ≡ code

pub record MatchingExact : Type 0 where
  pub matches : (v : Plan) (code : List ℕ) (k : ℕ) (p : Pair) → CodeTaken v code → AtPlace (rows_of v) k p
      → begins p.from (word_of code) ≡ true → MatchedBy v code p.from k
  -- "Where no from-word begins the code, or 15 or 4 applies"
  pub none_begins : (v : Plan) (code : List ℕ) → CodeTaken v code
      → ((p : Pair) → Memᴰ p (rows_of v) → begins p.from (word_of code) ≡ false) → NotMatched v code
  pub no_plan_lem : (v : Plan) (code : List ℕ) → is_plan v ≡ false → NotMatched v code
  pub no_code : (v : Plan) (code : List ℕ) → is_plan v ≡ true → is_code (shape_of v) (word_of code) ≡ false → NotMatched v code

-- L refuses, and leaves the buffer as it was
pub record ListRefused (v : Plan) (slot : ℕ) (out : List ℕ) (number : ℕ) : Type 0 where
  pub answer : Refuses (listing_answer v slot (length out)) number
  pub buffer : listed_buffer v slot out ≡ out

-- two plans of different shapes
pub record TwoShapes (v w : Plan) : Type 0 where
  pub first : is_plan v ≡ true
  pub second : is_plan w ≡ true
  pub differ : shape_of v ≡ shape_of w → ⊥

-- "11, the reduced result breaks a limit"
pub record FollowBreaks (v w : Plan) : Type 0 where
  pub first : is_plan v ≡ true
  pub second : is_plan w ≡ true
  pub one_shape : shape_of v ≡ shape_of w
  pub broken : granted (compose (shape_of v) (rows_of v) (rows_of w)) ≡ false

-- "11, some reduced power from 1 up to the size of k breaks a limit"
pub record PowerBreaks (v : Plan) (k : ℤ) : Type 0 where
  pub plan : is_plan v ≡ true
  pub size : nat_abs k ≤ 1_000
  pub power : ℕ
  pub from_one : 1 ≤ power
  pub to_size : power ≤ nat_abs k
  pub broken : granted (repeated (shape_of v) (repeatable (plan_of v) k) power) ≡ false

-- "If an answer is an enum, a definition gives this paper's number and values for each of its cases": a refusal has its number and any
-- other answer 0; what was found, or how many bytes were written, is the answer itself.
pub record AnswersNumbered : Type 0 where
  pub granted : (p : Plan) → answer_number (Ok p) ≡ 0
  pub refused : (r : Refusal) → answer_number {A = Plan} (Err r) ≡ number_of r
  pub compared : (b : Bool) → (answer_number (Ok b) ≡ 0) × (result_unwrap_or {E = Refusal} (Ok b) false ≡ b)
  pub not_compared : (r : Refusal) → answer_number {A = Bool} (Err r) ≡ number_of r
  pub listed : (n : ℕ) → (answer_number (Ok n) ≡ 0) × (result_unwrap_or {E = Refusal} (Ok n) 0 ≡ n)
  pub not_listed : (r : Refusal) → answer_number {A = ℕ} (Err r) ≡ number_of r
  pub routed : (i : Image)
      → (routing_number (Reply.Image i) ≡ 0) × (routing_length (Reply.Image i) ≡ i.length) × (routing_place (Reply.Image i) ≡ i.place)
  pub too_short : (routing_number Reply.TooShort ≡ 13) × (routing_place Reply.TooShort ≡ 0)
  pub not_routed : (r : Refusal) → (routing_number (Reply.Refused r) ≡ number_of r) × (routing_place (Reply.Refused r) ≡ 0)
  -- in the order of their numbers
  pub numbers : map number_of (The.NoRecord ∷ The.WrongState ∷ The.ShapeOutside ∷ The.BadWord ∷ The.PairsFull ∷ The.WordsOverlap
      ∷ The.RootUncovered ∷ The.SlotOutside ∷ The.SlotEmpty ∷ The.ShapesDiffer ∷ The.LimitBroken ∷ The.PowerOutside ∷ The.CodeTooShort
      ∷ The.BufferTooShort ∷ The.InvalidValue ∷ The.CountFull ∷ The.SeedOutside ∷ The.StationOutside ∷ The.StationRefused
      ∷ The.RightMissing ∷ [])
      ≡ count 1 20
  -- 6 and 7, "those of E for a column add ⇥F or ⇥T (from, to)"
  pub verdicts : map judgement_number (Ok tt ∷ Err NotADraft ∷ faulty (InFrom Overlap) ∷ faulty (InFrom Gap) ∷ faulty (InTo Overlap)
      ∷ faulty (InTo Gap) ∷ [])
      ≡ 0 ∷ 15 ∷ 6 ∷ 7 ∷ 6 ∷ 7 ∷ []
  pub verdict_columns : map judgement_column (faulty (InFrom Overlap) ∷ faulty (InFrom Gap) ∷ faulty (InTo Overlap)
      ∷ faulty (InTo Gap) ∷ [])
      ≡ bytes "FFTT"

-- The numbers of document 01, "When each operation says no", as its figures; those of W stand in `RoutingExact`.
pub record NumbersExact : Type 0 where
  -- "15 before all these: a plan or desk handed in isn't one"
  pub follow_first : (v w : Plan) → is_plan v ≡ false → Refuses (following v w) 15
  pub follow_second : (v w : Plan) → is_plan w ≡ false → Refuses (following v w) 15
  pub no_inverse : (v : Plan) → is_plan v ≡ false → Refuses (inverting v) 15
  pub no_power : (v : Plan) (k : ℤ) → is_plan v ≡ false → Refuses (raising v k) 15
  pub alike_first : (v w : Plan) → is_plan v ≡ false → Refuses (alike v w) 15
  pub alike_second : (v w : Plan) → is_plan w ≡ false → Refuses (alike v w) 15
  pub no_listing : (v : Plan) (slot : ℕ) (out : List ℕ) → is_plan v ≡ false → ListRefused v slot out 15
  -- "10, shapes differ"
  pub follow_shapes : (v w : Plan) → TwoShapes v w → Refuses (following v w) 10
  pub alike_shapes : (v w : Plan) → TwoShapes v w → Refuses (alike v w) 10
  pub follow_limit : (v w : Plan) → FollowBreaks v w → Refuses (following v w) 11
  pub power_limit : (v : Plan) (k : ℤ) → PowerBreaks v k → Refuses (raising v k) 11
  -- "12, k outside −1,000 to 1,000"
  pub power_outside_lem : (v : Plan) (k : ℤ) → is_plan v ≡ true → 1_000 < nat_abs k → Refuses (raising v k) 12
  -- "8, a slot byte outside A to H"
  pub slot_outside_lem : (v : Plan) (slot : ℕ) (out : List ℕ) → is_plan v ≡ true → (slot < byte "A") ⊎ (byte "H" < slot)
      → ListRefused v slot out 8
  -- "14 last: the lent buffer is shorter than the output"
  pub listing_no_room : (v : Plan) (slot : ℕ) (out : List ℕ) → is_plan v ≡ true → byte "A" ≤ slot → slot ≤ byte "H"
      → length out < length (lines_of slot (plan_of v)) → ListRefused v slot out 14
  pub answers : AnswersNumbered

-- What the calls answer.
pub record CallsExact : Type 0 where
  pub keeping : KeepingExact
  pub routing : RoutingExact
  pub matching : MatchingExact
  pub numbers : NumbersExact

from_column_example : from_column (value21 ψ) ≡ spell 111 ∷ spell 112 ∷ spell 12 ∷ []
unfolding packed pack pack_on unpack unpack_in max_pairs
from_column_example = refl

to_column_example : to_column (value21 ψ) ≡ spell 11 ∷ spell 121 ∷ spell 122 ∷ []
unfolding packed pack pack_on unpack unpack_in max_pairs
to_column_example = refl

-- "1122 goes to 1212", by the second pair, in a buffer of five bytes
routes_to_example : RoutesTo (value21 ψ) (bytes "1122") (7 ∷ 7 ∷ 7 ∷ 7 ∷ 7 ∷ []) (bytes "1212") 2
unfolding routing routed_buffer place_of routed is_plan in_table is_kept is_code max_code shape_in_range granted max_pairs max_digits verdict
    keep normal_form normal joined packed pack pack_on unpack unpack_in digit_of
routes_to_example = record { answer = refl; front = refl; rest = refl }

-- "ψ .. on 11 gives 13": 11 begins 111
proper_beginning_example : ProperBeginning (value21 ψ) (bytes "11")
unfolding packed pack pack_on unpack unpack_in max_pairs digit_of
proper_beginning_example = record { pair = row 111 11; way = 1; ways = []; among = Memᴰ.head refl; longer = refl }

route_refused_example : RouteRefused (value21 ψ) (bytes "11") (7 ∷ 7 ∷ []) Reply.TooShort 13
unfolding routing routed_buffer routed is_plan in_table is_kept is_code max_code shape_in_range granted max_pairs max_digits verdict
    keep normal_form normal joined packed pack pack_on unpack unpack_in digit_of
route_refused_example = record { answer = refl; numbered = refl; buffer = refl }

-- 112 begins 1122, and no from-word begins 11
matched_by_example : MatchedBy (value21 ψ) (bytes "1122") (spell 112) 2
unfolding matched matched_digits matched_place place_of is_plan in_table is_kept is_code max_code shape_in_range granted max_pairs max_digits verdict
    keep normal_form normal joined packed pack pack_on unpack unpack_in digit_of
matched_by_example = record { digits = refl; place = refl; part = refl; tail = refl }

not_matched_example : NotMatched (value21 ψ) (bytes "11")
unfolding matched matched_digits matched_place place_of is_plan in_table is_kept is_code max_code shape_in_range granted max_pairs max_digits verdict
    keep normal_form normal joined packed pack pack_on unpack unpack_in digit_of
not_matched_example = record { digits = refl; place = refl; part = refl }
