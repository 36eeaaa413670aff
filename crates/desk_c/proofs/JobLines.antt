-- A job and the line of its record: a job that is laid out as a record's is that record and no other job is one; the text of such a record
-- is short enough for a line; and where its operation is done, the record has a text at all, and replies with nothing, `ok` or a number.
use Prim.Native.Nat.{ℕ, suc, ◌^◌, ◌≤◌, ◌<◌}
use mathlib.Core.Path.{◌≡◌, refl, sym, ◌∙◌, ap, subst}
use mathlib.Core.Logic.{◌⊎◌, inl, inr}
use mathlib.Core.Bool.{Bool, true, false, ◌&&◌}
use mathlib.Core.List.{List, [], ◌∷◌, ◌++◌, Memᴰ}
use mathlib.Core.Option.{Option, none, some, none-ne-some, some-ne-none}
use native.Mathlib.Omega.{arith}
use borrow.Author.Tests.{leb-true, leb-false, eqb-true}
use lib.Dec.{T, leb, eqb, leb→le}
use lib.IntN.{ℤ, pos, negsuc, nat_abs}
use lib.ListN.{length, length-append}
use Rattle.higman.specs.Words.{Shape, spelled}
use Rattle.higman.specs.Bases.{all}
use Rattle.higman.specs.Limits.{Plan, shape_in_range, seed_in_range, power_in_range, max_power}
use Rattle.higman.specs.Text.{Bytes, tab, byte, bytes, decimal}
use Rattle.higman.specs.Refusals.{no_record, shape_outside, power_outside, Letter}
use Rattle.higman.specs.Listing.{is_slot}
use Rattle.higman.specs.Exercises.{exercise}
use Rattle.higman.proofs.Tests.{and_left, and_right, all_head, all_tail, all_cons}
use Rattle.higman.proofs.Exercises.{exercises_exact}
use Rattle.desk.specs.Limits.{max_line, max_numeral, max_splits_numeral, max_seed_numeral}
use Rattle.desk.specs.Desk.{Desk as DeskOf, IsDesk, is_station}
use Rattle.desk.specs.Records.{Record, P, M, E, F, I, K, S, W, L, C, T as Tᴿ, U, X, Z, record_fields, record_text, no_tab, has_digits}
use Rattle.desk.specs.Records.{signed_decimal, numbers_fit, well_formed, SlotUse, slots_named, kind, G, H, Right, no_right, may_read, may_write}
use Rattle.desk.specs.Records.{right_number}
use Rattle.desk.specs.Replies.{Reply, silent, ok, ok_number, ok_image, ok_block, lists, surveys, refuses, Outcome, refuse, pass, Effect}
use Rattle.desk.specs.Replies.{of_answer, job, operation, grant_by}
use Rattle.desk.specs.Conditions.{Condition, conditions, first_of, refusal_of}
use Rattle.desk.specs.Grammar.{NumbersFit}
use Rattle.desk.proofs.Fields.{no_tab_cons, word_no_tab}
use Rattle.desk.proofs.Grammar.{text_exact}
use Rattle.desk.proofs.Outcomes.{Passes, stops, passes, passes_then, any_then, test_held, Tested, passes_operation}
use Rattle.desk.proofs.Conditions.{first_condition}
use Rattle.desk.proofs.ReadBack.{slot_plain}
use Rattle.desk.proofs.Demands.{demands}
use Rattle.stations.proofs.Granting.{numbered}
use Rattle.desk_c.specs.declared.Job.{Job}
use Rattle.desk_c.specs.Calls.{exercise_record, job_record}
use Rattle.desk_c.specs.CallsExact.{IsJobOf}
use Rattle.desk_c.proofs.Jobs.{few_splits, many_splits}

-- X by whether its splits have two digits
abbrev exercise_by : Record → Bool → Outcome Record
exercise_by r b = elim b [ true ↦ pass r | false ↦ refuse no_record none ]

-- G by its numbers, as a right with that number or none
abbrev grant_as : ℕ → ℕ → Option Right → Outcome Record
grant_as s a o = elim o [ none ↦ refuse no_record none | some y ↦ pass (G s a y) ]

-- a job that is laid out as a record's is that record
pub job_record_lem : (r : Record) (j : Job) → IsJobOf r j → job_record j ≡ pass r
job_record_lem (P a n r) j (l, x, y, z) =
    λ i. job_record (record { letter = l i; a = x i; b = y i; c = z i; k = j.k; seed = j.seed; splits = j.splits })
job_record_lem (M from to) j h = absurd h
job_record_lem E j l = λ i. job_record (record { letter = l i; a = j.a; b = j.b; c = j.c; k = j.k; seed = j.seed; splits = j.splits })
job_record_lem (F a b c) j (l, x, y, z) =
    λ i. job_record (record { letter = l i; a = x i; b = y i; c = z i; k = j.k; seed = j.seed; splits = j.splits })
job_record_lem (I a c) j (l, x, y) =
    λ i. job_record (record { letter = l i; a = x i; b = y i; c = j.c; k = j.k; seed = j.seed; splits = j.splits })
job_record_lem (K a k c) j (l, x, q, y) =
    λ i. job_record (record { letter = l i; a = x i; b = y i; c = j.c; k = q i; seed = j.seed; splits = j.splits })
job_record_lem (S a b) j (l, x, y) =
    λ i. job_record (record { letter = l i; a = x i; b = y i; c = j.c; k = j.k; seed = j.seed; splits = j.splits })
job_record_lem (W a code) j h = absurd h
job_record_lem (L a) j h = absurd h
job_record_lem (C a) j (l, x) =
    λ i. job_record (record { letter = l i; a = x i; b = j.b; c = j.c; k = j.k; seed = j.seed; splits = j.splits })
job_record_lem Tᴿ j l = λ i. job_record (record { letter = l i; a = j.a; b = j.b; c = j.c; k = j.k; seed = j.seed; splits = j.splits })
job_record_lem U j h = absurd h
job_record_lem (X a n r s seed) j (l, x, y, z, u, w, few) =
    (λ i. job_record (record { letter = l i; a = x i; b = y i; c = z i; k = j.k; seed = w i; splits = u i }))
    ∙ ap (exercise_by (X a n r s seed)) (few_splits s few)
job_record_lem (Z s) j (l, x) =
    λ i. job_record (record { letter = l i; a = x i; b = j.b; c = j.c; k = j.k; seed = j.seed; splits = j.splits })
job_record_lem (G s a x) j (l, u, y, z) =
    (λ i. job_record (record { letter = l i; a = u i; b = y i; c = z i; k = j.k; seed = j.seed; splits = j.splits }))
    ∙ demands.demand2.rights.by_number s a x
job_record_lem H j l = λ i. job_record (record { letter = l i; a = j.a; b = j.b; c = j.c; k = j.k; seed = j.seed; splits = j.splits })

-- its letter is one of twelve, and the splits of X have two digits at most
pub letter_known : (r : Record) (j : Job) → IsJobOf r j → Memᴰ j.letter (bytes "PEFIKSCTXZGH")
letter_known (P a n r) j h = Memᴰ.head h.0
letter_known (M from to) j h = absurd h
letter_known E j h = Memᴰ.tail (Memᴰ.head h)
letter_known (F a b c) j h = Memᴰ.tail (Memᴰ.tail (Memᴰ.head h.0))
letter_known (I a c) j h = Memᴰ.tail (Memᴰ.tail (Memᴰ.tail (Memᴰ.head h.0)))
letter_known (K a k c) j h = Memᴰ.tail (Memᴰ.tail (Memᴰ.tail (Memᴰ.tail (Memᴰ.head h.0))))
letter_known (S a b) j h = Memᴰ.tail (Memᴰ.tail (Memᴰ.tail (Memᴰ.tail (Memᴰ.tail (Memᴰ.head h.0)))))
letter_known (W a code) j h = absurd h
letter_known (L a) j h = absurd h
letter_known (C a) j h = Memᴰ.tail (Memᴰ.tail (Memᴰ.tail (Memᴰ.tail (Memᴰ.tail (Memᴰ.tail (Memᴰ.head h.0))))))
letter_known Tᴿ j h = Memᴰ.tail (Memᴰ.tail (Memᴰ.tail (Memᴰ.tail (Memᴰ.tail (Memᴰ.tail (Memᴰ.tail (Memᴰ.head h)))))))
letter_known U j h = absurd h
letter_known (X a n r s seed) j h = Memᴰ.tail (Memᴰ.tail (Memᴰ.tail (Memᴰ.tail (Memᴰ.tail (Memᴰ.tail (Memᴰ.tail (Memᴰ.tail (Memᴰ.head h.0))))))))
letter_known (Z s) j h = Memᴰ.tail (Memᴰ.tail (Memᴰ.tail (Memᴰ.tail (Memᴰ.tail (Memᴰ.tail (Memᴰ.tail (Memᴰ.tail (Memᴰ.tail (Memᴰ.head h.0)))))))))
letter_known (G s a x) j h = Memᴰ.tail (Memᴰ.tail (Memᴰ.tail
    (Memᴰ.tail (Memᴰ.tail (Memᴰ.tail (Memᴰ.tail
    (Memᴰ.tail (Memᴰ.tail (Memᴰ.tail (Memᴰ.head h.0))))))))))
letter_known H j h = Memᴰ.tail (Memᴰ.tail (Memᴰ.tail
    (Memᴰ.tail (Memᴰ.tail (Memᴰ.tail (Memᴰ.tail
    (Memᴰ.tail (Memᴰ.tail (Memᴰ.tail (Memᴰ.tail (Memᴰ.head h)))))))))))

pub splits_few : (r : Record) (j : Job) → IsJobOf r j → j.letter ≡ byte "X" → j.splits ≤ 99
splits_few (P a n r) j h e = absurd (omega arith)
splits_few (M from to) j h e = absurd h
splits_few E j h e = absurd (omega arith)
splits_few (F a b c) j h e = absurd (omega arith)
splits_few (I a c) j h e = absurd (omega arith)
splits_few (K a k c) j h e = absurd (omega arith)
splits_few (S a b) j h e = absurd (omega arith)
splits_few (W a code) j h e = absurd h
splits_few (L a) j h e = absurd h
splits_few (C a) j h e = absurd (omega arith)
splits_few Tᴿ j h e = absurd (omega arith)
splits_few U j h e = absurd h
splits_few (X a n r s seed) j h e = omega arith
splits_few (Z s) j h e = absurd (omega arith)
splits_few (G s a x) j h e = absurd (omega arith)
splits_few H j h e = absurd (omega arith)

-- nor is G with a right above 2 a record's job
pub none_above : (j : Job) → j.letter ≡ byte "G" → 2 < j.c → (r : Record) → IsJobOf r j → ⊥
none_above j l h r k =
    let none_read : job_record j ≡ refuse no_record none =
    (λ i. job_record (record { letter = l i; a = j.a; b = j.b; c = j.c; k = j.k; seed = j.seed; splits = j.splits }))
    ∙ demands.demand2.rights.above j.a j.b j.c h in
    absurd (some-ne-none _ (ap refusal_of (sym none_read ∙ job_record_lem r j k)))

-- and no other job is a record
module _ (j : Job) where
  abbrev pub Read : Outcome Record → Type 0
  Read o = ((r : Record) × (o ≡ pass r) × IsJobOf r j) ⊎ (o ≡ refuse no_record none)

  by_letter : (b : ℕ) (here rest : Outcome Record) → (j.letter ≡ b → Read here) → Read rest
      → Read (elim (eqb j.letter b) [ true ↦ here | false ↦ rest ])
  by_letter b here rest h k = by (eqb j.letter b) refl
    where
      by : (t : Bool) → eqb j.letter b ≡ t → Read (elim t [ true ↦ here | false ↦ rest ])
      by true e = h (eqb-true j.letter b e)
      by false e = k

  exercise_read : j.letter ≡ byte "X" → Read (exercise_record j)
  exercise_read l = by (leb j.splits 99) refl
    where
      by : (t : Bool) → leb j.splits 99 ≡ t → Read (exercise_record j)
      by true e =
          let few = leb-true j.splits 99 e in
          let r = X j.a j.b j.c j.splits j.seed in
          inl (r, ap (exercise_by r) (few_splits j.splits few), (l, refl, refl, refl, refl, refl, few))
      by false e =
          inr (ap (exercise_by (X j.a j.b j.c j.splits j.seed)) (many_splits j.splits (leb-false j.splits 99 e)))

  grant_read : j.letter ≡ byte "G" → Read (grant_by j.a j.b j.c)
  grant_read l = by (leb j.c 2) refl
    where
      by : (t : Bool) → leb j.c 2 ≡ t → Read (grant_by j.a j.b j.c)
      by true e =
          let n = numbered j.c (leb-true j.c 2 e) in
          inl (G j.a j.b n.right, ap (grant_as j.a j.b) n.by_number, (l, refl, refl, sym n.number))
      by false e = inr (demands.demand2.rights.above j.a j.b j.c (leb-false j.c 2 e))

  pub record_of_job : Read (job_record j)
  record_of_job =
      by_letter (byte "P") _ _ (λ l. inl (P j.a j.b j.c, refl, (l, refl, refl, refl)))
      (by_letter (byte "E") _ _ (λ l. inl (E, refl, l))
      (by_letter (byte "F") _ _ (λ l. inl (F j.a j.b j.c, refl, (l, refl, refl, refl)))
      (by_letter (byte "I") _ _ (λ l. inl (I j.a j.b, refl, (l, refl, refl)))
      (by_letter (byte "K") _ _ (λ l. inl (K j.a j.k j.b, refl, (l, refl, refl, refl)))
      (by_letter (byte "S") _ _ (λ l. inl (S j.a j.b, refl, (l, refl, refl)))
      (by_letter (byte "C") _ _ (λ l. inl (C j.a, refl, (l, refl)))
      (by_letter (byte "T") _ _ (λ l. inl (Tᴿ, refl, l))
      (by_letter (byte "X") _ _ exercise_read
      (by_letter (byte "Z") _ _ (λ l. inl (Z j.a, refl, (l, refl)))
      (by_letter (byte "G") _ _ grant_read
      (by_letter (byte "H") _ _ (λ l. inl (H, refl, l)) (inr refl))))))))))))

pub not_read : (j : Job) → ((r : Record) → IsJobOf r j → ⊥) → job_record j ≡ refuse no_record none
not_read j h = by (record_of_job j)
  where
    by : Read j (job_record j) → job_record j ≡ refuse no_record none
    by (inl (r, e, k)) = absurd (h r k)
    by (inr e) = e

-- a letter that is none of some
abbrev pub OtherThan : ℕ → Bytes → Type 0
OtherThan b [] = Unit {0}
OtherThan b (c ∷ l) = (b ≡ c → ⊥) × OtherThan b l

not_among : (b : ℕ) (l : Bytes) → OtherThan b l → Memᴰ b l → ⊥
not_among b [] o m = elim m [ ]
not_among b (c ∷ l) o (Memᴰ.head e) = o.0 e
not_among b (c ∷ l) o (Memᴰ.tail m) = not_among b l o.1 m

pub none_other : (j : Job) → OtherThan j.letter (bytes "PEFIKSCTXZGH") → (r : Record) → IsJobOf r j → ⊥
none_other j o r k = not_among j.letter (bytes "PEFIKSCTXZGH") o (letter_known r j k)

-- G, whatever its right
pub grant_lettered : (j : Job) → j.letter ≡ byte "G" → job_record j ≡ grant_by j.a j.b j.c
grant_lettered j l = λ i. job_record (record { letter = l i; a = j.a; b = j.b; c = j.c; k = j.k; seed = j.seed; splits = j.splits })

-- the digits of a number that fits its field
digits : (m k : ℕ) → T (has_digits m k) → length (decimal k) ≤ m
digits m k h = leb→le (length (decimal k)) m h

fit : (r : Record) → T (well_formed r) → T (numbers_fit r)
unfolding well_formed
fit r h = and_right (all no_tab (record_fields r)) (numbers_fit r) h

right_digit_lem : (x : Right) → length (decimal (right_number x)) ≡ 1
unfolding right_number
right_digit_lem no_right = refl
right_digit_lem may_read = refl
right_digit_lem may_write = refl

pub text_short : (r : Record) (j : Job) → IsJobOf r j → T (well_formed r) → length (record_text r) ≤ max_line
unfolding record_text max_line max_numeral max_splits_numeral max_seed_numeral
text_short (P a n r) j h wf =
    let f = fit (P a n r) wf in
    let n-digits = digits 1 n (and_left (has_digits 1 n) (has_digits 1 r) f) in
    let r-digits = digits 1 r (and_right (has_digits 1 n) (has_digits 1 r) f) in
    omega (arith, length-append (decimal n) (tab ∷ decimal r))
text_short (M from to) j h wf = absurd h
text_short E j h wf = omega arith
text_short (F a b c) j h wf = omega arith
text_short (I a c) j h wf = omega arith
text_short (K a (pos k) c) j h wf =
    let k-digits = digits 4 k (fit (K a (pos k) c) wf) in
    omega (arith, length-append (decimal k) (tab ∷ c ∷ []))
text_short (K a (negsuc k) c) j h wf =
    let k-digits = digits 4 (suc k) (fit (K a (negsuc k) c) wf) in
    omega (arith, length-append (decimal (suc k)) (tab ∷ c ∷ []))
text_short (S a b) j h wf = omega arith
text_short (W a code) j h wf = absurd h
text_short (L a) j h wf = absurd h
text_short (C a) j h wf = omega arith
text_short Tᴿ j h wf = omega arith
text_short U j h wf = absurd h
text_short (X a n r s seed) j h wf =
    let f = fit (X a n r s seed) wf in
    let front = and_left (has_digits 1 n && has_digits 1 r && has_digits 2 s) (has_digits 10 seed) f in
    let shape = and_left (has_digits 1 n && has_digits 1 r) (has_digits 2 s) front in
    let n-digits = digits 1 n (and_left (has_digits 1 n) (has_digits 1 r) shape) in
    let r-digits = digits 1 r (and_right (has_digits 1 n) (has_digits 1 r) shape) in
    let s-digits = digits 2 s (and_right (has_digits 1 n && has_digits 1 r) (has_digits 2 s) front) in
    let seed_digits = digits 10 seed (and_right (has_digits 1 n && has_digits 1 r && has_digits 2 s) (has_digits 10 seed) f) in
    omega (
      arith,
      length-append (decimal n) (tab ∷ (decimal r ++ tab ∷ (decimal s ++ tab ∷ decimal seed))),
      length-append (decimal r) (tab ∷ (decimal s ++ tab ∷ decimal seed)),
      length-append (decimal s) (tab ∷ decimal seed),
    )
text_short (Z s) j h wf = let s-digits = digits 1 s (fit (Z s) wf) in omega arith
text_short (G s a x) j h wf =
    let s-digits = digits 1 s (fit (G s a x) wf) in
    let right = decimal (right_number x) in
    omega (arith, right_digit_lem x, length-append (decimal s) (tab ∷ a ∷ tab ∷ right))
text_short H j h wf = omega arith

-- fields of slots and of numbers have no tab
slot_field_lem : (a : ℕ) → T (is_slot a) → T (no_tab (a ∷ []))
slot_field_lem a h = no_tab_cons a [] (slot_plain a tab h (omega arith)) tt

number_field_lem : (k : ℕ) → T (no_tab (decimal k))
number_field_lem k = word_no_tab (spelled (suc k) k)

signed_field_lem : (k : ℤ) → T (no_tab (signed_decimal k))
signed_field_lem (pos k) = number_field_lem k
signed_field_lem (negsuc k) = no_tab_cons (byte "-") (decimal (suc k)) refl (number_field_lem (suc k))

-- each field by itself, and each slot that is named
abbrev EachPlain : List Bytes → Type 0
EachPlain [] = Unit {0}
EachPlain (f ∷ fs) = T (no_tab f) × EachPlain fs

all_plain : (fs : List Bytes) → EachPlain fs → T (all no_tab fs)
all_plain [] h = tt
all_plain (f ∷ fs) h = all_cons no_tab f fs h.0 (all_plain fs h.1)

formed : (r : Record) → EachPlain (record_fields r) → NumbersFit r → T (well_formed r)
formed r plain fits = (text_exact.well_formed_lem r).1 (all_plain (record_fields r) plain, fits)

abbrev EachSlot : List SlotUse → Type 0
EachSlot [] = Unit {0}
EachSlot (u ∷ us) = T (is_slot u.slot) × EachSlot us

each_slot : (us : List SlotUse) → T (all (λ u. is_slot u.slot) us) → EachSlot us
each_slot [] h = tt
each_slot (u ∷ us) h = (all_head (λ v. is_slot v.slot) u us h, each_slot us (all_tail (λ v. is_slot v.slot) u us h))

slots_of_lem : (d : DeskOf) (r : Record) → Tested d r → EachSlot (slots_named r)
slots_of_lem d r t = each_slot (slots_named r) t.admitted.slots_named_fact

always : {A Q : Type 0} (o : Outcome A) → Q → Passes (λ _. Q) o
always (refuse n c) q = stops
always (pass a) q = passes q

-- n and r of one digit
record OneDigit (s : Shape) : Type 0 where
  ways : s.arity < 10
  belts : s.roots < 10

one_digit : (s : Shape) → T (shape_in_range s) → OneDigit s
unfolding shape_in_range
one_digit s h =
    let front = and_left (leb 2 s.arity && leb s.arity 9 && leb 1 s.roots) (leb s.roots 9) h in
    let ways = and_left (leb 2 s.arity && leb s.arity 9) (leb 1 s.roots) front in
    let n = leb→le s.arity 9 (and_right (leb 2 s.arity) (leb s.arity 9) ways) in
    let r = leb→le s.roots 9 (and_right (leb 2 s.arity && leb s.arity 9 && leb 1 s.roots) (leb s.roots 9) h) in
    record { ways = omega arith; belts = omega arith }

seed_digits : (seed : ℕ) → T (seed_in_range seed) → seed < 10 ^ 10
unfolding seed_in_range
seed_digits seed h = omega (arith, leb→le seed 2_147_483_646 (and_right (leb 1 seed) (leb seed 2_147_483_646) h))

power_digits : (k : ℤ) → T (power_in_range k) → nat_abs k < 10 ^ 4
unfolding max_power
power_digits k h = omega (arith, leb→le (nat_abs k) 1_000 h)

-- 17 is given for any other seed
seed_taken : (s : Shape) (k seed : ℕ) → Passes (λ (_ : Plan). T (seed_in_range seed)) (of_answer (exercise s k seed))
seed_taken s k seed = by (seed_in_range seed) refl
  where
    by : (b : Bool) → seed_in_range seed ≡ b → Passes (λ (_ : Plan). T (seed_in_range seed)) (of_answer (exercise s k seed))
    by true e = always (of_answer (exercise s k seed)) (subst T (sym e) tt)
    by false e = subst (λ a. Passes (λ (_ : Plan). T (seed_in_range seed)) (of_answer a)) (sym (exercises_exact.seed_first s k seed e)) stops

module _ (d : DeskOf) where
  -- what is done has a text
  pub done_well_formed : (r : Record) (j : Job) → IsJobOf r j → Passes (λ (_ : Effect). T (well_formed r)) (operation d r)
  unfolding kind job well_formed max_numeral max_splits_numeral max_seed_numeral
  done_well_formed (P a n r) j h =
      let s : Shape = record { arity = n; roots = r } in
      passes_operation d (P a n r) (λ t. passes_then (test_held shape_outside (shape_in_range s)) (λ _ k.
      let u = slots_of_lem d (P a n r) t in
      let digit = one_digit s k in
      passes (formed (P a n r) (tt, (slot_field_lem a u.0, (number_field_lem n, (number_field_lem r, tt)))) (digit.ways, digit.belts))))
  done_well_formed (M from to) j h = absurd h
  done_well_formed E j h = always (operation d E) tt
  done_well_formed (F a b c) j h =
      passes_operation d (F a b c) (λ t.
      let u = slots_of_lem d (F a b c) t in
      always (job d (F a b c))
      (formed (F a b c) (tt, (slot_field_lem a u.0, (slot_field_lem b u.1.0, (slot_field_lem c u.1.1.0, tt)))) tt))
  done_well_formed (I a c) j h =
      passes_operation d (I a c) (λ t.
      let u = slots_of_lem d (I a c) t in
      always (job d (I a c)) (formed (I a c) (tt, (slot_field_lem a u.0, (slot_field_lem c u.1.0, tt))) tt))
  done_well_formed (K a k c) j h =
      passes_operation d (K a k c) (λ t. passes_then (test_held power_outside (power_in_range k)) (λ _ p.
      let u = slots_of_lem d (K a k c) t in
      always _ (formed (K a k c) (tt, (slot_field_lem a u.0, (signed_field_lem k, (slot_field_lem c u.1.0, tt)))) (power_digits k p))))
  done_well_formed (S a b) j h =
      passes_operation d (S a b) (λ t.
      let u = slots_of_lem d (S a b) t in
      always (job d (S a b)) (formed (S a b) (tt, (slot_field_lem a u.0, (slot_field_lem b u.1.0, tt))) tt))
  done_well_formed (W a code) j h = absurd h
  done_well_formed (L a) j h = absurd h
  done_well_formed (C a) j h =
      passes_operation d (C a) (λ t.
      let u = slots_of_lem d (C a) t in
      always (job d (C a)) (formed (C a) (tt, (slot_field_lem a u.0, tt)) tt))
  done_well_formed Tᴿ j h = always (operation d Tᴿ) tt
  done_well_formed U j h = absurd h
  done_well_formed (X a n r s seed) j (_, _, _, _, _, _, few) =
      let shape : Shape = record { arity = n; roots = r } in
      passes_operation d (X a n r s seed) (λ t. passes_then (test_held shape_outside (shape_in_range shape)) (λ _ k.
      passes_then (seed_taken shape s seed) (λ _ q.
      let u = slots_of_lem d (X a n r s seed) t in
      let digit = one_digit shape k in
      passes (formed (X a n r s seed)
      (tt, (slot_field_lem a u.0, (number_field_lem n, (number_field_lem r, (number_field_lem s, (number_field_lem seed, tt))))))
      (digit.ways, digit.belts, omega arith, seed_digits seed q)))))
  done_well_formed (Z s) j h =
      passes_operation d (Z s) (λ t.
      let known = (demands.limits.station_numbers s).0 (all_head is_station s [] t.admitted.stations_known) in
      always (job d (Z s)) (formed (Z s) (tt, (number_field_lem s, tt)) (omega arith)))
  done_well_formed (G s a x) j h =
      passes_operation d (G s a x) (λ t.
      let known = (demands.limits.station_numbers s).0 (all_head is_station s [] t.admitted.stations_known) in
      let u = slots_of_lem d (G s a x) t in
      always (job d (G s a x)) (formed (G s a x) (tt, (number_field_lem s, (slot_field_lem a u.0, (number_field_lem (right_number x), tt))))
      (omega arith)))
  done_well_formed H j h = always (operation d H) tt

  -- what is done replies with nothing, `ok` or a number
  abbrev pub Plain : Reply → Type 0
  Plain silent = Unit {0}
  Plain ok = Unit {0}
  Plain (ok_number n) = Unit {0}
  Plain (ok_image w place) = ⊥
  Plain (ok_block ls) = ⊥
  Plain (lists b p) = ⊥
  Plain (surveys hs) = ⊥
  Plain (refuses n c) = ⊥

  job_plain : (r : Record) (j : Job) → IsJobOf r j → Passes (λ (e : Effect). Plain e.1) (job d r)
  unfolding job
  job_plain (P a n r) j h = any_then _ (λ _. passes tt)
  job_plain (M from to) j h = absurd h
  job_plain E j h = any_then _ (λ _. any_then _ (λ _. passes tt))
  job_plain (F a b c) j h = any_then _ (λ _. any_then _ (λ _. any_then _ (λ _. passes tt)))
  job_plain (I a c) j h = any_then _ (λ _. any_then _ (λ _. passes tt))
  job_plain (K a k c) j h = any_then _ (λ _. any_then _ (λ _. any_then _ (λ _. passes tt)))
  job_plain (S a b) j h = any_then _ (λ _. any_then _ (λ _. any_then _ (λ _. passes tt)))
  job_plain (W a code) j h = absurd h
  job_plain (L a) j h = absurd h
  job_plain (C a) j h = any_then _ (λ _. passes tt)
  job_plain Tᴿ j h = passes tt
  job_plain U j h = absurd h
  job_plain (X a n r s seed) j h = any_then _ (λ _. any_then _ (λ _. passes tt))
  job_plain (Z s) j h = passes tt
  job_plain (G s a x) j h = any_then _ (λ _. passes tt)
  job_plain H j h = any_then _ (λ _. passes tt)

  pub replies_plainly : (r : Record) (j : Job) → IsJobOf r j → Passes (λ (e : Effect). Plain e.1) (operation d r)
  replies_plainly r j h = passes_operation d r (λ _. job_plain r j h)

-- no refusal has the number 0
abbrev positive : Condition → Bool
positive c = leb 1 c.number

abbrev number_or : ℕ → Option (ℕ × Option Letter) → ℕ
number_or other none = other
number_or other (some (n, c)) = n

-- the first that holds, by whether this one does
abbrev first_by : Condition → List Condition → Bool → Option (ℕ × Option Letter)
first_by x xs b = elim b [ true ↦ some (x.number, x.column) | false ↦ first_of xs ]

first_positive : (cs : List Condition) → T (all positive cs) → (n : ℕ) (c : Option Letter) → first_of cs ≡ some (n, c) → 1 ≤ n
first_positive [] h n c e = absurd (none-ne-some _ e)
first_positive (x ∷ xs) h n c e = by x.holds e (first_positive xs (all_tail positive x xs h) n c)
  where
    by : (b : Bool) → first_by x xs b ≡ some (n, c)
        → (first_of xs ≡ some (n, c) → 1 ≤ n) → 1 ≤ n
    by true p rest = omega (arith, leb→le 1 x.number (all_head positive x xs h), ap (number_or 0) p)
    by false p rest = rest p

numbers_positive : (d : DeskOf) (r : Record) → T (all positive (conditions d r))
unfolding conditions
numbers_positive d (P a n r) = tt
numbers_positive d (M from to) = tt
numbers_positive d E = tt
numbers_positive d (F a b c) = tt
numbers_positive d (I a c) = tt
numbers_positive d (K a k c) = tt
numbers_positive d (S a b) = tt
numbers_positive d (W a code) = tt
numbers_positive d (L a) = tt
numbers_positive d (C a) = tt
numbers_positive d Tᴿ = tt
numbers_positive d U = tt
numbers_positive d (X a n r s seed) = tt
numbers_positive d (Z s) = tt
numbers_positive d (G s a x) = tt
numbers_positive d H = tt

pub refusal_positive : (d : DeskOf) → IsDesk d → (r : Record) (n : ℕ) (c : Option Letter) → operation d r ≡ refuse n c → 1 ≤ n
refusal_positive d D r n c e =
    first_positive (conditions d r) (numbers_positive d r) n c (sym (first_condition d D r) ∙ ap refusal_of e)
