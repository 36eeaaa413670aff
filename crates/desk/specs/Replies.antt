-- The reply to each record, and the desk after it (document 01, "Records" and "When each operation says no"). Each operation is a list of
-- steps: `n when t` refuses with n where t holds, and the first step that refuses ends it. What all records have in common stands around
-- the job of each. The answers about plans are those of higman, with their numbers. To be believed: `Reply`. What is replied is fixed:
-- refusals by `first_condition` of Demand1, the rest by Demand2, the survey's arranging by `SurveyExact`, and a G by its numbers by
-- `RightsExact`. Read Bytes.antt next.
use Rattle.std.specs.Prelude.{ℕ, suc, ◌+◌, ◌≡◌, refl, Bool, true, false, ◌&&◌, ◌||◌, not, List, [], ◌∷◌, ◌++◌, map, eqb, leb, ltb, pos, length, replicate}
use Rattle.std.proofs.Math.Option.{Option, none, some}
use Rattle.higman.specs.Words.{Shape, Word, given, spell}
use Rattle.higman.specs.Bases.{all}
use Rattle.higman.specs.Tables.{Table, froms, row, φ, ψ}
use Rattle.higman.specs.Normal.{joined, normal, normal_form, keep, identity, compose, inverse}
use Rattle.higman.specs.Limits.{Plan, shape_in_range, granted, is_code, max_pairs, max_digits, max_code, max_power, slot_count, is_plan_word}
use Rattle.higman.specs.Limits.{power_in_range, seed_in_range}
use Rattle.higman.specs.Answers.{Verdict, Accepted, InFrom, InTo, verdict, reason_number, Answer, Granted, Refused, refusal_number}
use Rattle.higman.specs.Answers.{followed, inverted, powered, Comparison, Alike, NotCompared, same, Route, Image, TooShort, NotRouted}
use Rattle.higman.specs.Answers.{raised, routed}
use Rattle.higman.specs.Places.{place_of, Placed, placed_from, placed_block}
use Rattle.higman.specs.Exercises.{next_draw, drawn, grown, shuffled, exercised, exercise}
use Rattle.higman.specs.Refusals.{no_record, wrong_state, shape_outside, bad_word, pairs_full, slot_outside, slot_empty, power_outside, count_full}
use Rattle.higman.specs.Refusals.{station_outside, station_refused, right_missing, Letter}
use Rattle.higman.specs.Text.{Bytes, byte, bytes, digit_of, word_of}
use Rattle.higman.specs.Listing.{slot_number, is_slot}
use Rattle.desk.specs.Limits.{station_count, max_right, max_changes, max_line}
use Rattle.desk.specs.Desk.{Draft, Desk, fresh_desk, count_of, held, changed, with_draft, dropped, at_station, at_count, with_pair}
use Rattle.desk.specs.Desk.{is_station, station_of, own_right, seen, with_right}
use Rattle.desk.specs.Records.{Record, P, M, E, F, I, K, S, W, L}
use Rattle.desk.specs.Records.{C, T, U, X, Z, G, H, grammar, parse, needs_open, SlotUse, needed_right, stations_named}
use Rattle.desk.specs.Records.{slots_named, is_change, kind, no_right, may_read, may_write, right_number, right_numbered}

-- a slot that holds a plan
pub record Held : Type 0 where
  pub slot : ℕ
  pub plan : Plan

pub data Reply : Type 0 where
  -- "Neither replies when accepted": P and M
  silent : Reply
  -- `ok`; `ok⇥` and a number; `ok⇥`, an image and a place (change request E7)
  ok : Reply
  ok_number : ℕ → Reply
  ok_image : Word → ℕ → Reply
  -- a line `B⇥from⇥to⇥place` for each of these pairs, and `ok⇥` and how many (change requests E1 and E7)
  ok_block : List Placed → Reply
  -- the plan as P, M and E records that name the slot
  lists : ℕ → Plan → Reply
  -- a line for each of these, as they stand, and `ok⇥` and how many
  surveys : List Held → Reply
  -- `no⇥` and a number; "those of E for a column add ⇥F or ⇥T (from, to)"
  refuses : ℕ → Option Letter → Reply

-- The steps of an operation: a refusal ends it, otherwise the next step has the value of this one.
pub data Outcome (A : Type 0) : Type 0 where
  refuse : ℕ → Option Letter → Outcome A
  pass : A → Outcome A

infixl 10 ◌>>=◌
unfoldable pub ◌>>=◌ : {A B : Type 0} → Outcome A → (A → Outcome B) → Outcome B
refuse n c >>= f = refuse n c
pass a >>= f = f a

infix 4 ◌when◌
abbrev pub ◌when◌ : ℕ → Bool → Outcome (Unit {0})
n when true = refuse n none
n when false = pass tt

abbrev pub is_open : Desk → Bool
is_open d = given d.draft

-- 2, "an M or E with no plan open, or any other record while one is open"
abbrev pub open_amiss : Desk → Record → Bool
open_amiss d r = elim (needs_open r) [ true ↦ not (is_open d) | false ↦ is_open d ]

-- the open plan, where there is one
abbrev pub open_plan : Desk → Outcome Draft
open_plan d = elim d.draft [ none ↦ refuse wrong_state none | some o ↦ pass o ]

-- 18, "a digit above 7" (change request E5)
abbrev pub no_station : List ℕ → Bool
no_station ss = not (all is_station ss)

-- 8, "a slot byte outside A to H"
abbrev pub outside : List SlotUse → Bool
outside us = not (all (λ u. is_slot u.slot) us)

-- 20, "a missing right": the named station has on every slot the right that is needed for what is done with it, or not (change request E6)
abbrev pub may_use : Desk → SlotUse → Bool
may_use d u = leb (needed_right u.does) (own_right d (slot_number u.slot))

abbrev pub denied : Desk → List SlotUse → Bool
denied d us = not (all (may_use d) us)

-- the plan in a slot; 9, "a or b empty"
abbrev pub plan_in : Desk → ℕ → Outcome Plan
plan_in d b = elim (held d (slot_number b)) [ none ↦ refuse slot_empty none | some p ↦ pass p ]

-- 16, "the count is at its limit": that of the named station, so that "one station at its limit leaves the others free to work"
abbrev pub at_limit : Desk → Bool
at_limit d = leb max_changes (count_of d)

-- E: "both made of the from column and after that both of the to column", with the column's letter
abbrev pub of_verdict : Verdict → Outcome (Unit {0})
of_verdict Accepted = pass tt
of_verdict (InFrom r) = refuse (reason_number r) (some Letter.F)
of_verdict (InTo r) = refuse (reason_number r) (some Letter.T)

-- F, I, K, X: the granted plan
abbrev pub of_answer : Answer → Outcome Plan
of_answer (Granted p) = pass p
of_answer (Refused r) = refuse (refusal_number r) none

abbrev pub of_comparison : Comparison → Outcome Bool
of_comparison (Alike b) = pass b
of_comparison (NotCompared r) = refuse (refusal_number r) none

-- W, by the route of the code w under p: the image and the place of the pair that it comes from or, where the code is too short for an
-- image, its block. "W no longer gives 13" (change request E1).
abbrev pub of_route : Plan → Word → Route → Outcome Reply
of_route p w (Image v) = pass (ok_image v (place_of (froms p.rows) w))
of_route p w TooShort = pass (ok_block (placed_block p.rows w))
of_route p w (NotRouted r) = refuse (refusal_number r) none

-- `ok⇥1` or `ok⇥0`
abbrev pub bit : Bool → ℕ
bit true = 1
bit false = 0

-- the slots that hold a plan, numbered from i on
abbrev pub held_from : ℕ → List (Option Plan) → List Held
held_from i [] = []
held_from i (none ∷ l) = held_from (suc i) l
held_from i (some p ∷ l) = record { slot = i; plan = p } ∷ held_from (suc i) l

-- a list arranged by a test that says whether one comes before another: each put in front of the first of the rest that it comes before
module _ {A : Type 0} (before : A → A → Bool) where
  abbrev pub insert : A → List A → List A
  insert x [] = x ∷ []
  insert x (y ∷ l) = elim (before x y) [ true ↦ x ∷ y ∷ l | false ↦ y ∷ insert x l ]

  abbrev pub arranged : List A → List A
  arranged [] = []
  arranged (x ∷ l) = insert x (arranged l)

-- U (change request E2): "with the most pairs first, and equal ones by slot letter". So m pairs in slot i come before n pairs in slot j:
abbrev pub line_first : ℕ → ℕ → ℕ → ℕ → Bool
line_first m i n j = ltb n m || (eqb m n && ltb i j)

-- the pairs of a held slot
abbrev pub pairs_in : Held → ℕ
pairs_in h = length h.plan.rows

abbrev pub comes_before : Held → Held → Bool
comes_before h k = line_first (pairs_in h) h.slot (pairs_in k) k.slot

-- the held slots that the named station can read, as U lists them: "U shows only readable slots" (change request E6)
unfoldable pub surveyed : Desk → List Held
surveyed d = arranged comes_before (held_from 0 (seen d))

-- the desk after an operation, and its reply
abbrev pub Effect : Type 0
Effect = Desk × Reply

-- keep a plan in a slot: "`ok⇥` and the number of pairs kept"
abbrev pub keep_in : Desk → ℕ → Plan → Effect
keep_in d i p = (changed d i (some p), ok_number (length p.rows))

-- what P opens
abbrev pub new_draft : ℕ → Shape → Draft
new_draft b s = record { slot = slot_number b; shape = s; rows = [] }

-- what E keeps: "reduce and keep"
abbrev pub closed : Draft → Plan
closed o = record { shape = o.shape; rows = keep o.shape o.rows }

-- The record's own numbers, in the paper's order, and what is done where none of them is given. It is asked behind the tests of
-- `operation`: M and E meet an open plan, and every slot that is named is one.
unfoldable pub job : Desk → Record → Outcome Effect
job d (P a n r) = do
  _ ← shape_outside when not (shape_in_range (record { arity = n; roots = r }))
  pass (with_draft d (new_draft a (record { arity = n; roots = r })), silent)
job d (M from to) = do
  o ← open_plan d
  _ ← bad_word when not (is_plan_word o.shape (word_of from) && is_plan_word o.shape (word_of to))
  _ ← pairs_full when leb max_pairs (length o.rows)
  pass (with_draft d (with_pair o (record { from = word_of from; to = word_of to })), silent)
job d E = do
  o ← open_plan d
  -- 6 and 7
  _ ← of_verdict (verdict o.shape o.rows)
  pass (keep_in d o.slot (closed o))
job d (F a b c) = do
  -- 9
  p ← plan_in d a
  q ← plan_in d b
  -- 10 and 11
  r ← of_answer (followed p q)
  pass (keep_in d (slot_number c) r)
job d (I a c) = do
  -- 9
  p ← plan_in d a
  r ← of_answer (inverted p)
  pass (keep_in d (slot_number c) r)
job d (K a k c) = do
  -- 12, before the slot is looked into
  _ ← power_outside when not (power_in_range k)
  -- 9
  p ← plan_in d a
  -- 11
  r ← of_answer (powered p k)
  pass (keep_in d (slot_number c) r)
job d (S a b) = do
  -- 9
  p ← plan_in d a
  q ← plan_in d b
  -- 10
  alike ← of_comparison (same p q)
  pass (d, ok_number (bit alike))
job d (W a code) = do
  -- 9
  p ← plan_in d a
  -- 4
  reply ← of_route p (word_of code) (routed p (word_of code))
  pass (d, reply)
job d (L a) = do
  -- 9
  p ← plan_in d a
  pass (d, lists a p)
job d (C a) = do
  -- 9
  p ← plan_in d a
  pass (changed d (slot_number a) none, ok)
job d T = pass (d, ok_number (count_of d))
job d U = pass (d, surveys (surveyed d))
job d (X a n r s seed) = do
  _ ← shape_outside when not (shape_in_range (record { arity = n; roots = r }))
  -- 17, 5 and 4
  p ← of_answer (exercise (record { arity = n; roots = r }) s seed)
  pass (keep_in d (slot_number a) p)
job d (Z s) = pass (at_station d s, ok)
job d (G s a x) = do
  -- 19
  _ ← station_refused when (not (eqb (station_of d) 0) || eqb s 0)
  pass (with_right d s (slot_number a) (right_number x), ok)
job d H = do
  -- 19
  _ ← station_refused when not (eqb (station_of d) 0)
  pass (d, ok_number d.control.pairs)

-- the tests that all records have in common, by what a record says of its kind: 2, then 18, then 8, and 20 "right after 8"
unfoldable pub admission : Desk → Record → Outcome (Unit {0})
admission d r = do
  _ ← wrong_state when open_amiss d r
  _ ← station_outside when no_station (stations_named r)
  _ ← slot_outside when outside (slots_named r)
  right_missing when denied d (slots_named r)

-- "When each operation says no": what all records have in common, then the record's own numbers, and 16 last where the record is a change
unfoldable pub operation : Desk → Record → Outcome Effect
operation d r = do
  _ ← admission d r
  e ← job d r
  _ ← count_full when (is_change r && at_limit d)
  pass e

-- "Every record: 1, unknown letter, wrong number of fields, a field form, or a line too long."
abbrev pub record_of : Bytes → Outcome Record
record_of line = elim (leb (length line) max_line) [ false ↦ refuse no_record none | true ↦ elim (parse line) [ none ↦ refuse no_record none | some r ↦ pass r ] ]

-- G by its numbers, as code hands them on: "a right above 2 is 1"
abbrev pub grant_by : ℕ → ℕ → ℕ → Outcome Record
grant_by s a x = elim (right_numbered x) [ none ↦ refuse no_record none | some y ↦ pass (G s a y) ]

-- what a line does
unfoldable pub line_operation : Desk → Bytes → Outcome Effect
line_operation d line = do
  r ← record_of line
  operation d r

-- "Any refusal drops an open plan and changes nothing else."
abbrev pub settle : Desk → Outcome Effect → Effect
settle d (refuse n c) = (dropped d, refuses n c)
settle d (pass e) = e

unfoldable pub respond_line : Desk → Bytes → Effect
respond_line d line = settle d (line_operation d line)

-- Lines answered one after the other: the desk after each of them, with its reply.
unfoldable pub run : Desk → List Bytes → List Effect
run d [] = []
run d (l ∷ ls) = let e = respond_line d l in e ∷ run e.0 ls

-- the desk after them all
abbrev pub desk_after : Desk → List Effect → Desk
desk_after d [] = d
desk_after d (e ∷ es) = desk_after e.0 es

-- On a fresh desk: T counts no change and U finds no plan; no pair without an open plan; a slot outside comes before an empty one,
-- and so does a power outside.
operation_example : map (λ r. (settle fresh_desk (operation fresh_desk r)).1)
    (T ∷ U ∷ M [] [] ∷ P (byte "I") 2 1 ∷ P (byte "H") 1 1 ∷ L (byte "A") ∷ F (byte "A") (byte "A") (byte "a") ∷ K (byte "A") (pos 1001) (byte "A") ∷ [])
    ≡ ok_number 0 ∷ surveys [] ∷ refuses 2 none ∷ refuses 8 none ∷ refuses 3 none ∷ refuses 9 none ∷ refuses 8 none ∷ refuses 12 none ∷ []
unfolding ◌>>=◌ operation admission job surveyed seen kind needed_right fresh_desk slot_count station_count max_right shape_in_range max_power
operation_example = refl

-- "Lines hold at most 1,100 bytes": W with a code so long that the line has 1,100, and one byte more
record_of_example : map (λ k. record_of (bytes "W\tA\t" ++ replicate k (byte "1"))) (1_096 ∷ 1_097 ∷ [])
    ≡ pass (W (byte "A") (replicate 1_096 (byte "1"))) ∷ refuse 1 none ∷ []
unfolding parse grammar max_line
record_of_example = refl

grant_by_example : map (grant_by 1 (byte "A")) (2 ∷ 3 ∷ []) ≡ pass (G 1 (byte "A") may_write) ∷ refuse 1 none ∷ []
grant_by_example = refl

-- a desk with a plan open: any record but M and E is refused with 2
abbrev open_desk : Desk
open_desk = with_draft fresh_desk (new_draft (byte "A") (record { arity = 2; roots = 1 }))

open_example : map (λ r. (settle open_desk (operation open_desk r)).1)
    (T ∷ U ∷ P (byte "A") 2 1 ∷ L (byte "A") ∷ X (byte "I") 2 1 2 1 ∷ M (bytes "1") (bytes "1") ∷ E ∷ [])
    ≡ refuses 2 none ∷ refuses 2 none ∷ refuses 2 none ∷ refuses 2 none ∷ refuses 2 none ∷ silent ∷ refuses 7 (some Letter.F) ∷ []
unfolding ◌>>=◌ operation admission job kind needed_right fresh_desk with_draft slot_count station_count max_right is_plan_word max_pairs max_digits
    verdict digit_of
open_example = refl

-- X on a fresh desk: two pairs kept; a slot outside, a shape outside, a seed outside and 199 pairs, some of whose words have 17 digits,
-- each before what follows it
exercise_example : map (λ r. (settle fresh_desk (operation fresh_desk r)).1)
    (X (byte "A") 2 1 2 1 ∷ X (byte "I") 1 1 99 0 ∷ X (byte "A") 1 1 99 0 ∷ X (byte "A") 3 1 99 0 ∷ X (byte "A") 3 1 99 22 ∷ [])
    ≡ ok_number 2 ∷ refuses 8 none ∷ refuses 3 none ∷ refuses 17 none ∷ refuses 5 none ∷ []
unfolding ◌>>=◌ operation admission job kind needed_right fresh_desk changed slot_count station_count max_right shape_in_range seed_in_range max_pairs
    max_digits max_changes exercise exercised grown shuffled drawn next_draw keep normal_form normal joined
exercise_example = refl

-- a line that is no record, and a record
respond_line_example : map (λ l. (respond_line fresh_desk (bytes l)).1) ("" ∷ "T " ∷ "T" ∷ [])
    ≡ refuses 1 none ∷ refuses 1 none ∷ ok_number 0 ∷ []
unfolding ◌>>=◌ respond_line line_operation operation admission job kind needed_right parse grammar fresh_desk slot_count station_count max_right
    max_line
respond_line_example = refl

-- 100 pairs, and two from-words of 17 digits among them
exercise_word_example : operation fresh_desk (X (byte "A") 2 1 99 5) ≡ refuse 4 none
unfolding ◌>>=◌ operation admission job kind needed_right fresh_desk slot_count station_count max_right shape_in_range seed_in_range max_pairs
    max_digits exercise exercised grown shuffled drawn next_draw
exercise_word_example = refl

-- plans of shape (2,1), for examples
abbrev plan21 : Table → Plan
plan21 t = record { shape = record { arity = 2; roots = 1 }; rows = t }

-- At the limit of the count, with ψ in slot A alone: 16 is the last of the refusals, and what changes nothing is still done.
abbrev full_count : Desk
full_count = at_count (changed fresh_desk 0 (some (plan21 ψ))) max_changes

full_count_example : map (λ r. (settle full_count (operation full_count r)).1)
    (T ∷ C (byte "A") ∷ C (byte "B") ∷ I (byte "A") (byte "B") ∷ K (byte "A") (pos 1001) (byte "B") ∷ X (byte "B") 2 1 2 1 ∷ X (byte "B") 2 1 2 0 ∷ W (byte "A") (bytes "12") ∷ [])
    ≡ ok_number 4_000_000_000 ∷ refuses 16 none ∷ refuses 9 none ∷ refuses 16 none ∷ refuses 12 none ∷ refuses 16 none
    ∷ refuses 17 none ∷ ok_image (spell 122) 3 ∷ []
unfolding ◌>>=◌ operation admission job kind needed_right fresh_desk changed slot_count station_count max_right max_changes max_power inverted
    inverse keep normal_form normal joined routed place_of is_code max_code digit_of shape_in_range seed_in_range max_pairs max_digits exercise
    exercised grown shuffled drawn next_draw
full_count_example = refl

-- ψ in slot A and φ in slot B
abbrev two_plans : Desk
two_plans = changed (changed fresh_desk 0 (some (plan21 ψ))) 1 (some (plan21 φ))

done_example : map (λ r. (settle two_plans (operation two_plans r)).1)
    (S (byte "A") (byte "A") ∷ S (byte "A") (byte "B") ∷ L (byte "B") ∷ C (byte "B") ∷ U ∷ [])
    ≡ ok_number 1 ∷ ok_number 0 ∷ lists (byte "B") (plan21 φ) ∷ ok ∷ surveys (record { slot = 0; plan = plan21 ψ } ∷ record { slot = 1; plan = plan21 φ } ∷ []) ∷ []
unfolding ◌>>=◌ operation admission job surveyed seen kind needed_right fresh_desk changed slot_count station_count max_right same max_changes
done_example = refl

-- one pair in A, three in B and in H: the most pairs first, and of equal ones the lower letter
surveyed_example : map (λ h. h.slot) (surveyed (changed (changed two_plans 7 (some (plan21 ψ))) 0 (some (plan21 (row 1 1 ∷ []))))) ≡ 1 ∷ 7 ∷ 0 ∷ []
unfolding surveyed seen fresh_desk changed slot_count station_count max_right
surveyed_example = refl

-- W by ψ: an image by the second pair, the blocks of 11 and of the belt, and a wrong digit
front_example : map (λ code. (settle two_plans (operation two_plans (W (byte "A") (bytes code)))).1)
    ("1122" ∷ "11" ∷ "1" ∷ "13" ∷ [])
    ≡ ok_image (spell 1212) 2 ∷ ok_block (record { place = 1; pair = row 111 11 } ∷ record { place = 2; pair = row 112 121 } ∷ [])
    ∷ ok_block (placed_from 1 ψ) ∷ refuses 4 none ∷ []
unfolding ◌>>=◌ operation admission job kind needed_right fresh_desk changed slot_count station_count max_right routed place_of placed_block
    is_code max_code digit_of
front_example = refl

emptied_example : (settle two_plans (operation two_plans (C (byte "B")))).0 ≡ at_count (changed fresh_desk 0 (some (plan21 ψ))) 3
unfolding ◌>>=◌ operation admission job kind needed_right fresh_desk changed slot_count station_count max_right max_changes
emptied_example = refl

-- "Operands are read before c is written, so letters may repeat."
repeated_letters_example : map (λ r. held (settle two_plans (operation two_plans r)).0 0)
    (F (byte "A") (byte "A") (byte "A") ∷ F (byte "B") (byte "A") (byte "A") ∷ F (byte "A") (byte "B") (byte "A") ∷ I (byte "A") (byte "A") ∷ [])
    ≡ some (plan21 (row 1111 11 ∷ row 1112 121 ∷ row 112 1221 ∷ row 12 1222 ∷ [])) ∷ some (plan21 (row 111 1222 ∷ row 112 1221 ∷ row 121 11 ∷ row 122 121 ∷ [])) ∷ some (plan21 (row 1111 122 ∷ row 1112 121 ∷ row 112 111 ∷ row 12 112 ∷ [])) ∷ some (plan21 (row 11 111 ∷ row 121 112 ∷ row 122 12 ∷ [])) ∷ []
unfolding ◌>>=◌ operation admission job kind needed_right fresh_desk changed slot_count station_count max_right max_changes followed inverted
    granted max_pairs max_digits compose inverse keep normal_form normal joined
repeated_letters_example = refl

-- Station 1 may read A, where ψ is held, and not B, where φ is; C is empty, and it may write there. 8 comes before 20, and 20 before 9, 12
-- and 3; a slot that is both read and written needs 2.
abbrev haulier : Desk
haulier = at_station (with_right (with_right two_plans 1 0 1) 1 1 0) 1

rights_example : map (λ r. (settle haulier (operation haulier r)).1)
    (S (byte "A") (byte "A") ∷ S (byte "A") (byte "B") ∷ S (byte "B") (byte "I") ∷ L (byte "A") ∷ L (byte "B")
    ∷ W (byte "A") (bytes "12") ∷ C (byte "A") ∷ C (byte "C") ∷ I (byte "A") (byte "A")
    ∷ I (byte "A") (byte "C") ∷ K (byte "B") (pos 1001) (byte "C") ∷ P (byte "A") 1 1 ∷ P (byte "C") 1 1 ∷ X (byte "B") 1 1 2 1 ∷ U ∷ [])
    ≡ ok_number 1 ∷ refuses 20 none ∷ refuses 8 none ∷ lists (byte "A") (plan21 ψ) ∷ refuses 20 none ∷ ok_image (spell 122) 3
    ∷ refuses 20 none ∷ refuses 9 none ∷ refuses 20 none
    ∷ ok_number 3 ∷ refuses 20 none ∷ refuses 20 none ∷ refuses 3 none ∷ refuses 20 none
    ∷ surveys (record { slot = 0; plan = plan21 ψ } ∷ []) ∷ []
unfolding ◌>>=◌ operation admission job surveyed seen kind needed_right fresh_desk changed with_right at_station slot_count station_count max_right
    max_changes same inverted inverse keep normal_form normal joined shape_in_range routed place_of is_code max_code
    digit_of
rights_example = refl

-- G from station 0: a right for station 7, for itself, for a station that there isn't, and on a slot that there isn't; and from station 1
grant_example : (map (λ r. (settle two_plans (operation two_plans r)).1)
    (G 7 (byte "H") no_right ∷ G 0 (byte "A") may_read ∷ G 8 (byte "I") may_read ∷ G 1 (byte "I") may_read ∷ [])
    ≡ ok ∷ refuses 19 none ∷ refuses 18 none ∷ refuses 8 none ∷ [])
    × (map (λ r. (settle haulier (operation haulier r)).1) (G 1 (byte "A") may_write ∷ G 0 (byte "A") may_write ∷ G 1 (byte "I") may_write ∷ [])
    ≡ refuses 19 none ∷ refuses 19 none ∷ refuses 8 none ∷ [])
unfolding ◌>>=◌ operation admission job kind needed_right fresh_desk changed with_right at_station slot_count station_count max_right
grant_example = (refl, refl)

-- H: ψ and φ have three pairs each. ψ's power 0, of one pair, is put over ψ; B is emptied; and C, which is empty, can't be. H is told to
-- station 0, whatever others may read: 19 for station 1, and 2 before it.
sum_example : (map (λ r. (settle two_plans (operation two_plans r)).0.control.pairs)
    (H ∷ I (byte "A") (byte "C") ∷ K (byte "A") (pos 0) (byte "A") ∷ C (byte "B") ∷ C (byte "C") ∷ [])
    ≡ 6 ∷ 9 ∷ 4 ∷ 3 ∷ 6 ∷ [])
    × (map (λ d. (settle d (operation d H)).1)
    (fresh_desk ∷ two_plans ∷ at_station haulier 0 ∷ haulier ∷ with_draft haulier (new_draft (byte "A") (record { arity = 2; roots = 1 })) ∷ [])
    ≡ ok_number 0 ∷ ok_number 6 ∷ ok_number 6 ∷ refuses 19 none ∷ refuses 2 none ∷ [])
unfolding ◌>>=◌ operation admission job kind needed_right fresh_desk changed with_draft with_right at_station dropped slot_count station_count
    max_right max_changes max_power inverted powered raised identity inverse keep normal_form normal joined granted max_pairs max_digits
sum_example = (refl, refl)
