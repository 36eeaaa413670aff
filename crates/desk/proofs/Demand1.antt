-- Demand 1: whatever its bytes, a line gets its job done or one numbered refusal, which is a line of its own. What becomes of the desk
-- is in Outcomes.antt and Stays.antt.
use Prim.Native.Nat.{ℕ, suc}
use mathlib.Core.Path.{◌≡◌, refl, sym, ◌∙◌, ap, subst}
use mathlib.Core.Logic.{◌⊎◌, inl, inr, ◌↔◌}
use mathlib.Core.Bool.{Bool, true, false, ◌&&◌, ◌||◌, not}
use mathlib.Core.List.Memᴰ
use mathlib.Core.List.{List, [], ◌∷◌, Memᴰ}
use mathlib.Core.Option.{Option, none, some, none-ne-some, some-injective}
use native.Mathlib.Omega.{arith}
use lib.Dec.{T, leb, eqb, eqb→eq}
use lib.IntN.{nat_abs}
use lib.ListN.{length}
use borrow.Author.Tests.{eq-eqb}
use Rattle.higman.specs.Words.{Word, spelled}
use Rattle.higman.specs.Text.{tab, line_end, digit_byte, word_bytes, Bytes, bytes, decimal, word_of}
use Rattle.higman.specs.Limits.{Plan, shape_in_range, is_plan_word, max_pairs, max_power}
use Rattle.higman.specs.Refusals.{no_record, wrong_state, shape_outside, bad_word, pairs_full, slot_outside, slot_empty, power_outside, count_full}
use Rattle.higman.specs.Refusals.{station_outside, Letter, right_missing, station_refused}
use Rattle.higman.specs.Answers as Answers
use Rattle.higman.specs.Answers.{Overlap, Gap, Verdict, Accepted, InFrom, InTo, verdict, Refusal, BadCode, ShapesDiffer, LimitBroken}
use Rattle.higman.specs.Answers.{PowerOutside, SeedOutside, TooManyPairs, WordTooLong, refusal_number, Answer, Granted, followed, inverted}
use Rattle.higman.specs.Answers.{powered, Comparison, Alike}
use Rattle.higman.specs.Answers.{NotCompared, same, Route, Image, TooShort, NotRouted, routed}
use Rattle.higman.specs.Listing.{slot_number}
use Rattle.higman.specs.Exercises.{exercise}
use Rattle.higman.proofs.Figures.{numbers_named}
use Rattle.higman.proofs.Tests.{so, T_of, clash, or_cases, or_true_left, or_true_right}
use Rattle.desk.specs.Limits.{max_line}
use Rattle.desk.specs.Desk.{Draft, Desk, held, station_of}
use Rattle.desk.specs.Records.{Record, P, M, E, F, I, K, S, W, L, C, T as Tᴿ, U, X, Z, parted, parse, stations_named, slots_named}
use Rattle.desk.specs.Records.{is_change}
use Rattle.desk.specs.Records.{kind, G, H}
use Rattle.desk.specs.Replies.{Outcome, refuse, pass, ◌>>=◌, Effect, open_amiss, no_station, outside, at_limit, open_plan, plan_in}
use Rattle.desk.specs.Replies.{of_verdict}
use Rattle.desk.specs.Replies.{of_answer, of_comparison, of_route, settle, job}
use Rattle.desk.specs.Replies.{operation, admission, record_of, line_operation, respond_line}
use Rattle.desk.specs.Replies.{◌when◌, denied}
use Rattle.desk.specs.Bytes.{column_field, reply_bytes}
use Rattle.desk.specs.Conditions.{refusal_of}
use Rattle.desk.specs.Demands.{operation_numbers, refusal_numbers, DoneLine, RefusedLine, OfOpenPlan, Demand1}
use Rattle.desk.proofs.Outcomes.{refusal_drops}
use Rattle.desk.proofs.Stays.{desk_stays}
use Rattle.desk.proofs.Desks.{desk_test}
use Rattle.desk.proofs.Calls.{lent_calls_exact}
use Rattle.desk.specs.Grammar.{NoRecord}
use Rattle.desk.proofs.Lines.{Read, read_or_not, not_read, line_of_record}
use Rattle.desk.proofs.Conditions.{first_condition}
use Rattle.desk.proofs.ColumnRefusals.{column_refusals}

-- a number of the list
among : ℕ → List ℕ → Bool
among n [] = false
among n (m ∷ l) = eqb n m || among n l

mem_of_among : (n : ℕ) (l : List ℕ) → among n l ≡ true → Memᴰ n l
unfolding among
mem_of_among n [] e = absurd (clash e refl)
mem_of_among n (m ∷ l) e = go (or_cases (eqb n m) (among n l) e) (λ k. mem_of_among n l k)
  where
    go : (eqb n m ≡ true) ⊎ (among n l ≡ true) → (among n l ≡ true → Memᴰ n l) → Memᴰ n (m ∷ l)
    go (inl h) rest = Memᴰ.head (eqb→eq n m (T_of h))
    go (inr h) rest = Memᴰ.tail (rest h)

-- an outcome is refused with a number of operations or not at all
data Numbered {A : Type 0} : Outcome A → Type 0 where
  numbered_refusal : {n : ℕ} {c : Option Letter} → T (among n operation_numbers) → Numbered (refuse n c)
  no_refusal : {a : A} → Numbered (pass a)

numbered_then : {A B : Type 0} {o : Outcome A} {f : A → Outcome B} → Numbered o → ((a : A) → Numbered (f a)) → Numbered (o >>= f)
unfolding ◌>>=◌
numbered_then (numbered_refusal h) k = numbered_refusal h
numbered_then (no_refusal {a}) k = k a

numbered_test : (n : ℕ) (b : Bool) → T (among n operation_numbers) → Numbered (n when b)
numbered_test n true h = numbered_refusal h
numbered_test n false h = no_refusal

numbered_open : (d : Desk) → Numbered (open_plan d)
unfolding among operation_numbers
numbered_open d = by_draft d.draft
  where
    by_draft : (x : Option Draft)
        → Numbered {A = Draft} (elim x as (λ _. Outcome Draft) [ none ↦ refuse wrong_state none | some o ↦ pass o ])
    by_draft none = numbered_refusal tt
    by_draft (some o) = no_refusal

numbered_plan : (d : Desk) (a : ℕ) → Numbered (plan_in d a)
unfolding among operation_numbers
numbered_plan d a = by_content (held d (slot_number a))
  where
    by_content : (x : Option Plan) → Numbered {A = Plan} (elim x as (λ _. Outcome Plan) [ none ↦ refuse slot_empty none | some p ↦ pass p ])
    by_content none = numbered_refusal tt
    by_content (some p) = no_refusal

-- the answers about plans
numbered_verdict : (v : Verdict) → Numbered (of_verdict v)
unfolding among operation_numbers
numbered_verdict Accepted = no_refusal
numbered_verdict (InFrom Overlap) = numbered_refusal tt
numbered_verdict (InFrom Gap) = numbered_refusal tt
numbered_verdict (InTo Overlap) = numbered_refusal tt
numbered_verdict (InTo Gap) = numbered_refusal tt

refusal_among : (r : Refusal) → T (among (refusal_number r) operation_numbers)
unfolding among operation_numbers
refusal_among BadCode = tt
refusal_among ShapesDiffer = tt
refusal_among LimitBroken = tt
refusal_among PowerOutside = tt
refusal_among SeedOutside = tt
refusal_among TooManyPairs = tt
refusal_among WordTooLong = tt

numbered_answer : (a : Answer) → Numbered (of_answer a)
numbered_answer (Granted p) = no_refusal
numbered_answer (Answers.Refused r) = numbered_refusal (refusal_among r)

numbered_comparison : (c : Comparison) → Numbered (of_comparison c)
numbered_comparison (Alike b) = no_refusal
numbered_comparison (NotCompared r) = numbered_refusal (refusal_among r)

numbered_route : (p : Plan) (w : Word) (r : Route) → Numbered (of_route p w r)
numbered_route p w (Image v) = no_refusal
numbered_route p w TooShort = no_refusal
numbered_route p w (NotRouted r) = numbered_refusal (refusal_among r)

job_numbered : (d : Desk) (r : Record) → Numbered (job d r)
unfolding job among operation_numbers
job_numbered d (P a n r) = numbered_then (numbered_test shape_outside (not (shape_in_range (record { arity = n; roots = r }))) tt) (λ _. no_refusal)
job_numbered d (M from to) =
    numbered_then (numbered_open d) (λ o. numbered_then
    (numbered_test bad_word (not (is_plan_word o.shape (word_of from) && is_plan_word o.shape (word_of to))) tt)
    (λ _. numbered_then (numbered_test pairs_full (leb max_pairs (length o.rows)) tt) (λ _. no_refusal)))
job_numbered d E = numbered_then (numbered_open d) (λ o. numbered_then (numbered_verdict (verdict o.shape o.rows)) (λ _. no_refusal))
job_numbered d (F a b c) =
    numbered_then (numbered_plan d a) (λ p. numbered_then (numbered_plan d b) (λ q. numbered_then (numbered_answer (followed p q)) (λ _. no_refusal)))
job_numbered d (I a c) = numbered_then (numbered_plan d a) (λ p. numbered_then (numbered_answer (inverted p)) (λ _. no_refusal))
job_numbered d (K a k c) =
    numbered_then (numbered_test power_outside (not (leb (nat_abs k) max_power)) tt) (λ _. numbered_then (numbered_plan d a) (λ p. numbered_then (numbered_answer (powered p k)) (λ _. no_refusal)))
job_numbered d (S a b) =
    numbered_then (numbered_plan d a) (λ p. numbered_then (numbered_plan d b) (λ q. numbered_then (numbered_comparison (same p q)) (λ _. no_refusal)))
job_numbered d (W a code) =
    numbered_then (numbered_plan d a) (λ p. numbered_then (numbered_route p (word_of code) (routed p (word_of code))) (λ _. no_refusal))
job_numbered d (L a) = numbered_then (numbered_plan d a) (λ _. no_refusal)
job_numbered d (C a) = numbered_then (numbered_plan d a) (λ _. no_refusal)
job_numbered d Tᴿ = no_refusal
job_numbered d U = no_refusal
job_numbered d (X a n r s seed) =
    numbered_then (numbered_test shape_outside (not (shape_in_range (record { arity = n; roots = r }))) tt)
    (λ _. numbered_then (numbered_answer (exercise (record { arity = n; roots = r }) s seed)) (λ _. no_refusal))
job_numbered d (Z s) = no_refusal
job_numbered d (G s a x) = numbered_then (numbered_test station_refused (not (eqb (station_of d) 0) || eqb s 0) tt) (λ _. no_refusal)
job_numbered d H = numbered_then (numbered_test station_refused (not (eqb (station_of d) 0)) tt) (λ _. no_refusal)

numbered_admission : (d : Desk) (r : Record) → Numbered (admission d r)
unfolding admission among operation_numbers
numbered_admission d r =
    numbered_then (numbered_test wrong_state (open_amiss d r) tt) (λ _.
    numbered_then (numbered_test station_outside (no_station (stations_named r)) tt)
    (λ _. numbered_then (numbered_test slot_outside (outside (slots_named r)) tt)
    (λ _. numbered_test right_missing (denied d (slots_named r)) tt)))

numbered_operation : (d : Desk) (r : Record) → Numbered (operation d r)
unfolding operation among operation_numbers
numbered_operation d r =
    numbered_then (numbered_admission d r) (λ _. numbered_then (job_numbered d r)
    (λ e. numbered_then (numbered_test count_full (is_change r && at_limit d) tt) (λ _. no_refusal)))

operation_numbered : (d : Desk) (r : Record) (n : ℕ) (c : Option Letter) → operation d r ≡ refuse n c → Memᴰ n operation_numbers
operation_numbered d r n c e = by_outcome (operation d r) (numbered_operation d r) e
  where
    by_outcome : (o : Outcome Effect) → Numbered o → o ≡ refuse n c → Memᴰ n operation_numbers
    by_outcome (refuse m b) (numbered_refusal h) e =
        let same : m ≡ n = ap (λ p. p.0) (some-injective _ _ (ap refusal_of e)) in
        subst (λ k. Memᴰ k operation_numbers) same (mem_of_among m operation_numbers (so (among m operation_numbers) h))
    by_outcome (pass x) h e = absurd (none-ne-some _ (ap refusal_of e))

-- the bytes of a field
abbrev Clean : Bytes → Type 0
Clean f = Memᴰ line_end f → ⊥

clean_word : (w : Word) → Clean (word_bytes w)
clean_word w m = let (d, k, e) = Memᴰ.of_map digit_byte w m in omega arith

-- fields that are clean, with tabs between them
clean_parted : (fs : List Bytes) → ((f : Bytes) → Memᴰ f fs → Clean f) → Clean (parted fs)
clean_parted [] h m = Memᴰ.not-nil m
clean_parted (f ∷ []) h m = h f (Memᴰ.head refl) m
clean_parted (f ∷ g ∷ fs) h m = by_part (Memᴰ.append_cases f m) (clean_parted (g ∷ fs) (λ x k. h x (Memᴰ.tail k)))
  where
    by_part : Memᴰ line_end f ⊎ Memᴰ line_end (tab ∷ parted (g ∷ fs)) → Clean (parted (g ∷ fs)) → ⊥
    by_part (inl k) rest = h f (Memᴰ.head refl) k
    by_part (inr k) rest = by_first (Memᴰ.cases_cons k)
      where
        by_first : (line_end ≡ tab) ⊎ Memᴰ line_end (parted (g ∷ fs)) → ⊥
        by_first (inl e) = omega arith
        by_first (inr j) = rest j

among_of_mem : (n : ℕ) (l : List ℕ) → Memᴰ n l → among n l ≡ true
unfolding among
among_of_mem n [] m = absurd (Memᴰ.not-nil m)
among_of_mem n (k ∷ l) m = go (Memᴰ.cases_cons m) (λ j. among_of_mem n l j)
  where
    go : (n ≡ k) ⊎ Memᴰ n l → (Memᴰ n l → among n l ≡ true) → (eqb n k || among n l) ≡ true
    go (inl e) rest = or_true_left (eqb n k) (among n l) (eq-eqb n k e)
    go (inr j) rest = or_true_right (eqb n k) (among n l) (rest j)

-- bytes that are written out
clean_by_test : (f : Bytes) → among line_end f ≡ false → Clean f
clean_by_test f e m = clash (among_of_mem line_end f m) e

clean_refusal : (n : ℕ) (c : Option Letter) (f : Bytes) → Memᴰ f (bytes "no" ∷ decimal n ∷ column_field c) → Clean f
unfolding among
clean_refusal n c f m = go (Memᴰ.cases_cons m)
  where
    letters : (c : Option Letter) → Memᴰ f (column_field c) → Clean f
    letters none m = absurd (Memᴰ.not-nil m)
    letters (some Letter.F) m = subst Clean (sym (Memᴰ.eq_of_singleton m)) (clean_by_test (bytes "F") refl)
    letters (some Letter.T) m = subst Clean (sym (Memᴰ.eq_of_singleton m)) (clean_by_test (bytes "T") refl)

    number : (f ≡ decimal n) ⊎ Memᴰ f (column_field c) → Clean f
    number (inl e) = subst Clean (sym e) (clean_word (spelled (suc n) n))
    number (inr m) = letters c m

    go : (f ≡ bytes "no") ⊎ Memᴰ f (decimal n ∷ column_field c) → Clean f
    go (inl e) = subst Clean (sym e) (clean_by_test (bytes "no") refl)
    go (inr m) = number (Memᴰ.cases_cons m)

-- a line is a record, or refused with 1
record_cases : (line : Bytes) → (record_of line ≡ refuse no_record none) ⊎ ((r : Record) × (record_of line ≡ pass r))
record_cases line = go (leb (length line) max_line) (parse line)
  where
    go : (b : Bool) (o : Option Record)
        → let x : Outcome Record = elim b [ false ↦ refuse no_record none | true ↦ elim o [ none ↦ refuse no_record none | some r ↦ pass r ] ] in (x ≡ refuse no_record none) ⊎ ((r : Record) × (x ≡ pass r))
    go false o = inl refl
    go true none = inl refl
    go true (some r) = inr (r, refl)

no_record_line : (d : Desk) (line : Bytes) (n : ℕ) (c : Option Letter) → record_of line ≡ refuse n c → line_operation d line ≡ refuse n c
unfolding line_operation ◌>>=◌
no_record_line d line n c e = ap (λ o. o >>= operation d) e

record_line : (d : Desk) (line : Bytes) (r : Record) → record_of line ≡ pass r → line_operation d line ≡ operation d r
unfolding line_operation ◌>>=◌
record_line d line r e = ap (λ o. o >>= operation d) e

-- 1 where the line is no record, another number where the record's operation is refused
line_cases : (d : Desk) (line : Bytes) (n : ℕ) (c : Option Letter) → line_operation d line ≡ refuse n c
    → ((n ≡ no_record) × (record_of line ≡ refuse n c)) ⊎ Memᴰ n operation_numbers
line_cases d line n c e = go (record_cases line)
  where
    first : ◌≡◌ {A = Outcome Effect} (refuse no_record none) (refuse n c)
        → (n ≡ no_record) × (◌≡◌ {A = Outcome Record} (refuse no_record none) (refuse n c))
    first h = let p = some-injective _ _ (ap refusal_of h) in (sym (ap (λ x. x.0) p), ap (λ x. refuse x.0 x.1) p)

    go : (record_of line ≡ refuse no_record none) ⊎ ((r : Record) × (record_of line ≡ pass r))
        → ((n ≡ no_record) × (record_of line ≡ refuse n c)) ⊎ Memᴰ n operation_numbers
    go (inl h) = let (p, q) = first (sym (no_record_line d line no_record none h) ∙ e) in inl (p, h ∙ q)
    go (inr (r, h)) = inr (operation_numbered d r n c (sym (record_line d line r h) ∙ e))

not_later : (n : ℕ) → n ≡ no_record → Memᴰ n operation_numbers → ⊥
unfolding among operation_numbers
not_later n e m = clash (among_of_mem n operation_numbers m) (ap (λ k. among k operation_numbers) e)

no_record_lem : (d : Desk) (line : Bytes) → ((c : Option Letter) × (line_operation d line ≡ refuse no_record c)) ↔ NoRecord line
no_record_lem d line = (λ h. by_reading (read_or_not line) h, λ h. (none, no_record_line d line no_record none (not_read line h)))
  where
    by_reading : (NoRecord line × (record_of line ≡ refuse no_record none)) ⊎ Read line
        → (c : Option Letter) × (line_operation d line ≡ refuse no_record c) → NoRecord line
    by_reading (inl (g, e)) h = g
    by_reading (inr r) (c, e) =
        absurd (not_later no_record refl (operation_numbered d r.typed no_record c (sym (record_line d line r.typed r.read) ∙ e)))

numbered : (d : Desk) (line : Bytes) (n : ℕ) (c : Option Letter) → line_operation d line ≡ refuse n c → Memᴰ n refusal_numbers
unfolding refusal_numbers operation_numbers
numbered d line n c e = go (line_cases d line n c e)
  where
    go : ((n ≡ no_record) × (record_of line ≡ refuse n c)) ⊎ Memᴰ n operation_numbers → Memᴰ n refusal_numbers
    go (inl (p, q)) = Memᴰ.head p
    go (inr m) = Memᴰ.tail m

responded : (d : Desk) (line : Bytes) (o : Outcome Effect) → line_operation d line ≡ o → respond_line d line ≡ settle d o
unfolding respond_line
responded d line o e = ap (settle d) e

answered : (d : Desk) (line : Bytes) → DoneLine d line ⊎ RefusedLine d line
unfolding reply_bytes
answered d line = go (line_operation d line) refl
  where
    go : (o : Outcome Effect) → line_operation d line ≡ o → DoneLine d line ⊎ RefusedLine d line
    go (pass x) e = inl (x, e, responded d line (pass x) e)
    go (refuse n c) e =
        let r = responded d line (refuse n c) e in
        let fs = bytes "no" ∷ decimal n ∷ column_field c in
        inr
        (record {
          number = n;
          column = c;
          numbered = numbered d line n c e;
          refused = e;
          replied = ap (λ x. x.1) r;
          text = parted fs;
          no_line_end = clean_parted fs (clean_refusal n c);
          one_line = ap (λ x. reply_bytes x.1) r;
        })

numbers : refusal_numbers ≡ 1 ∷ 2 ∷ 3 ∷ 4 ∷ 5 ∷ 6 ∷ 7 ∷ 8 ∷ 9 ∷ 10 ∷ 11 ∷ 12 ∷ 16 ∷ 17 ∷ 18 ∷ 19 ∷ 20 ∷ []
unfolding refusal_numbers operation_numbers
numbers = refl

none_open : (d : Desk) (r : Record) → d.draft ≡ none → OfOpenPlan r → operation d r ≡ refuse wrong_state none
unfolding operation admission kind ◌>>=◌
none_open d (M from to) e h = rw e
none_open d E e h = rw e
none_open d (P _ _ _) e h = elim h [ ]
none_open d (F _ _ _) e h = elim h [ ]
none_open d (I _ _) e h = elim h [ ]
none_open d (K _ _ _) e h = elim h [ ]
none_open d (S _ _) e h = elim h [ ]
none_open d (W _ _) e h = elim h [ ]
none_open d (L _) e h = elim h [ ]
none_open d (C _) e h = elim h [ ]
none_open d Tᴿ e h = elim h [ ]
none_open d U e h = elim h [ ]
none_open d (X _ _ _ _ _) e h = elim h [ ]
none_open d (Z _) e h = elim h [ ]
none_open d (G _ _ _) e h = elim h [ ]
none_open d H e h = elim h [ ]

one_open : (d : Desk) (o : Draft) (r : Record) → d.draft ≡ some o → (OfOpenPlan r → ⊥) → operation d r ≡ refuse wrong_state none
unfolding operation admission kind ◌>>=◌
one_open d o (P a n r) e h = rw e
one_open d o (M from to) e h = absurd (h tt)
one_open d o E e h = absurd (h tt)
one_open d o (F a b c) e h = rw e
one_open d o (I a c) e h = rw e
one_open d o (K a k c) e h = rw e
one_open d o (S a b) e h = rw e
one_open d o (W a code) e h = rw e
one_open d o (L a) e h = rw e
one_open d o (C a) e h = rw e
one_open d o Tᴿ e h = rw e
one_open d o U e h = rw e
one_open d o (X a n r s seed) e h = rw e
one_open d o (Z s) e h = rw e
one_open d o (G s a x) e h = rw e
one_open d o H e h = rw e

-- Demand 1.
pub demand1 : Demand1
demand1 =
    record {
      answered = answered;
      refusal_drops = refusal_drops;
      desk_stays = desk_stays;
      numbers_named = numbers_named;
      numbers = numbers;
      no_record = no_record_lem;
      record_line = line_of_record;
      first_condition = first_condition;
      wrong_state_fact = record { none_open = none_open; one_open = one_open };
      columns = column_refusals;
      desk_test = desk_test;
      calls = lent_calls_exact;
    }
