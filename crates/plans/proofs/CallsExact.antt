-- What the calls answer, of specs/CallsExact.antt: the verdict by the four checks of a draft, a route by the image of the code, a match by
-- the one from-word that begins it, and the numbers. The cases of the answers are laws of Accepted, Answered, Powered, Codes and Lists.
use Prim.Native.Nat.{ℕ, zero, suc, ◌+◌, ◌-◌, ◌≤◌, ◌<◌}
use mathlib.Core.Path.{◌≡◌, refl, sym, ◌∙◌, ap, subst}
use mathlib.Core.Logic.{◌↔◌, ◌⊎◌, inl, inr}
use mathlib.Core.Bool.{Bool, true, false, ◌&&◌}
use mathlib.Core.List.Memᴰ
use mathlib.Core.List.{List, [], ◌∷◌, ◌++◌, Memᴰ}
use mathlib.Core.Option
use mathlib.Core.Option.{Option, none, some}
use native.Mathlib.Omega.{arith}
use borrow.Author.Tests.{le-leb, lt-leb, eq-eqb}
use lib.Dec.{T, leb, eqb, leb→le, le→leb, eqb→eq}
use lib.ListN.{length, get_or, take, drop, length-drop, length-map}
use lib.Seq.{length-take-le, get_or-take, get_or-drop, take-append_seam, drop-append_seam}
use lib.IntN.{ℤ, nat_abs}
use Rattle.std.proofs.Common.{Result, Ok, Err}
use Rattle.higman.specs.Words.{Shape, Word, is_word, begins}
use Rattle.higman.specs.Bases.{Basis, overlap, gap, all}
use Rattle.higman.specs.Tables.{Pair, first_match, image}
use Rattle.higman.specs.Normal.{compose, keep}
use Rattle.higman.specs.Limits.{Plan as PlanOf, Bases, Kept, shape_in_range, is_plan_word, is_code, max_pairs, max_digits, max_code, max_power}
use Rattle.higman.specs.Text.{byte, digit_byte, word_bytes, word_of}
use Rattle.higman.specs.Buffers.{written}
use Rattle.higman.specs.Listing.{is_slot, listing as lines_of}
use Rattle.higman.specs.Answers as Of
use Rattle.higman.specs.Places.{place_of, AtPlace, RoutesAt}
use Rattle.higman.proofs.Tests.{passes, so, T_of, and_left, and_right, and_intro, all_head, all_tail, all_cons, clash}
use Rattle.higman.proofs.Prefixes.{tail_of_begins, comparable, begins_append}
use Rattle.higman.proofs.Proper.{Apart}
use Rattle.higman.proofs.Matches.{after_none}
use Rattle.higman.proofs.Columns.{column_is_basis}
use Rattle.higman.proofs.Buffers.{with_room, without_room, lent_written, lent_as_it_was}
use Rattle.higman.proofs.Answers.{shape_path, followed_is}
use Rattle.higman.proofs.KeptPlans.{in_range, arity_of_range, member_of_kept}
use Rattle.higman.proofs.Statements.{TableOf, table_of, normal_form_lem, answers_exact}
use Rattle.higman.proofs.Places.{places_exact, only_place}
use Rattle.higman.proofs.Images.{row_of_image}
use Rattle.words.specs.Packed.{unpack}
use Rattle.words.proofs.Codes.{digits_drop, after_drop}
use Rattle.columns.specs.Packed.{words_of}
use Rattle.tables.specs.declared.routing.Image.{Image}
use Rattle.tables.specs.Routing.{matched_digits}
use Rattle.operations.specs.declared.Plan.{Plan}
use Rattle.operations.specs.declared.Fault.TheVariants.{InFrom, InTo}
use Rattle.operations.specs.declared.Reason.TheVariants.{Overlap, Gap}
use Rattle.operations.specs.declared.Route.TheVariants as Reply
use Rattle.operations.specs.declared.refusals.Refusal.{Refusal}
use Rattle.operations.specs.declared.refusals.Refusal.TheVariants as The
use Rattle.plans.specs.declared.Rejection.{Rejection}
use Rattle.plans.specs.declared.Rejection.TheVariants.{NotADraft, Faulty}
use Rattle.operations.specs.Refusals.{number_of}
use Rattle.operations.specs.Plans.{shape_of, rows_of, plan_of, zeros, is_column, in_table, is_draft, is_plan}
use Rattle.plans.specs.Answers.{verdict_in, faulty, judgement_of, judged, keeping, following, raising, alike}
use Rattle.operations.specs.Answers.{making}
use Rattle.plans.specs.Routing.{matched, matching, matched_place, routing, routed_buffer}
use Rattle.operations.specs.Routing.{matched_in, matched_place_in, routing_in, image_into}
use Rattle.plans.specs.CallsExact.{ColumnFilled, DraftByPlace, from_column, to_column, DraftJudged, DraftKept, KeepingExact}
use Rattle.plans.specs.CallsExact.{Refuses, RoutesTo, RouteRefused, ProperBeginning, CodeTaken, RoutingExact}
use Rattle.plans.specs.CallsExact.{MatchedBy, NotMatched, MatchingExact}
use Rattle.plans.specs.CallsExact.{ListRefused, TwoShapes, FollowBreaks, PowerBreaks, AnswersNumbered, NumbersExact, CallsExact}
use Rattle.words.proofs.Checks.{check_map}
use Rattle.plans.proofs.DraftChecks.{draft_of_lem, test_draft, judged_none}
use Rattle.operations.proofs.Values.{pairs_by_place}
use Rattle.plans.proofs.Accepted.{keeping_by, verdict_told, none_kept as not_kept}
use Rattle.columns.proofs.Limits.{pair_limit}
use Rattle.operations.proofs.KeptValues.{kept}
use Rattle.plans.proofs.Answered.{first_no_plan, second_no_plan, both_plans}
use Rattle.operations.proofs.SameShapes.{shapes_differ}
use Rattle.plans.proofs.Answered.{first_not_alike, second_not_alike, both_compared, not_compared}
use Rattle.plans.proofs.Powered.{inverting_no_plan, raising_no_plan, raising_plan, raising_outside}
use Rattle.operations.proofs.Codes.{code_limit}
use Rattle.plans.proofs.Codes.{matched_no_code, matched_no_plan, place_no_code, place_no_plan, routing_no_plan, routing_no_code}
use Rattle.operations.proofs.Lists.{slot_low, slot_high}
use Rattle.plans.proofs.Lists.{listing_no_plan, listing_no_slot, listing_no_room}

-- a refusal and its number
refuses : {A : Type 0} {answer : Result A Refusal} (r : Refusal) → Err r ≡ answer → Refuses answer (number_of r)
refuses r e = record { refusal = r; refused = sym e; numbered = refl }

-- a test with a limit beside it, and what the limit is
within_exactly : (b : Bool) (n m limit : ℕ) → m ≡ limit → T (b && leb n m) ↔ (T b × (n ≤ limit))
within_exactly b n m limit e = (
  λ t. (and_left b (leb n m) t, subst (λ k. n ≤ k) e (leb→le n m (and_right b (leb n m) t))),
  λ h. and_intro b (leb n m) h.0 (le→leb n m (subst (λ k. n ≤ k) (sym e) h.1)),
)

plan_word_exactly : (s : Shape) (w : Word) → T (is_plan_word s w) ↔ (T (is_word s w) × (length w ≤ 16))
unfolding is_plan_word max_digits
plan_word_exactly s w = within_exactly (is_word s w) (length w) max_digits 16 refl

-- a test of all numbers of a list, place by place
module _ (f : ℕ → Bool) where
  test_at_place : (l : List ℕ) → T (all f l) → (i : ℕ) → i < length l → T (f (get_or l i 0))
  test_at_place [] t i h = absurd (omega arith)
  test_at_place (x ∷ l) t zero h = all_head f x l t
  test_at_place (x ∷ l) t (suc i) h = test_at_place l (all_tail f x l t) i (omega arith)

  test_of_places : (l : List ℕ) → ((i : ℕ) → i < length l → T (f (get_or l i 0))) → T (all f l)
  test_of_places [] h = tt
  test_of_places (x ∷ l) h = all_cons f x l (h 0 (omega arith)) (test_of_places l (λ i k. h (suc i) (omega arith)))

module _ (s : Shape) (n : ℕ) (l : List ℕ) (places : length l ≡ max_pairs) (few : n ≤ max_pairs) where
  abbrev is_zero : ℕ → Bool
  is_zero x = eqb x 0

  abbrev holds_word : ℕ → Bool
  holds_word x = is_plan_word s (unpack x)

  front_places : length (take n l) ≡ n
  front_places = length-take-le n l (omega arith)

  filled_of_column : T (is_column s n l) → ColumnFilled s n l
  filled_of_column t = record { words = words; unused_zero = unused_zero }
    where
      words : (i : ℕ) → i < n → T (holds_word (get_or l i 0))
      words i h =
          let front = and_right (zeros (drop n l)) (all (is_plan_word s) (words_of (take n l))) t in
          subst (λ x. T (holds_word x)) (get_or-take n l i 0 h)
          (test_at_place holds_word (take n l) (subst T (check_map (is_plan_word s) unpack (take n l)) front) i (omega (arith, front_places)))

      unused_zero : (i : ℕ) → n ≤ i → i < max_pairs → get_or l i 0 ≡ 0
      unused_zero i h k =
          let behind = and_left (zeros (drop n l)) (all (is_plan_word s) (words_of (take n l))) t in
          let place : n + (i - n) ≡ i = omega arith in
          let zero-there = test_at_place is_zero (drop n l) behind (i - n) (omega (arith, length-drop n l)) in
          ap (λ j. get_or l j 0) (sym place) ∙ sym (get_or-drop n l (i - n) 0) ∙ eqb→eq (get_or (drop n l) (i - n) 0) 0 zero-there

  column_of_filled : ColumnFilled s n l → T (is_column s n l)
  column_of_filled c =
      and_intro (zeros (drop n l)) (all (is_plan_word s) (words_of (take n l)))
      (test_of_places is_zero (drop n l) zero_behind)
      (subst T (sym (check_map (is_plan_word s) unpack (take n l))) (test_of_places holds_word (take n l) word_in_front))
    where
      zero_behind : (i : ℕ) → i < length (drop n l) → T (is_zero (get_or (drop n l) i 0))
      zero_behind i h =
          let zero-there = c.unused_zero (n + i) (omega arith) (omega (arith, length-drop n l)) in
          T_of (eq-eqb (get_or (drop n l) i 0) 0 (get_or-drop n l i 0 ∙ zero-there))

      word_in_front : (i : ℕ) → i < length (take n l) → T (holds_word (get_or (take n l) i 0))
      word_in_front i h =
          let inside : i < n = omega (arith, front_places) in
          subst (λ x. T (holds_word x)) (sym (get_or-take n l i 0 inside)) (c.words i inside)

module _ (v : Plan) (from_Places : length v.from ≡ max_pairs) (to_places : length v.to ≡ max_pairs) where
  draft_by_place : is_draft v ≡ true → DraftByPlace v
  draft_by_place d =
      let checks = draft_of_lem v (from_Places ∙ sym to_places) (T_of d) in
      let range = in_range (shape_of v) checks.in_range in
      record {
        arity_low = range.arity_low;
        arity_high = range.arity_high;
        roots_low = range.roots_low;
        roots_high = range.roots_high;
        few = subst (λ n. v.pairs ≤ n) pair_limit checks.few;
        from_filled = filled_of_column (shape_of v) v.pairs v.from from_Places checks.few checks.from_column_lem;
        to_filled = filled_of_column (shape_of v) v.pairs v.to to_places checks.few checks.to_column_lem;
      }

  test_in_range : DraftByPlace v → T (shape_in_range (shape_of v))
  unfolding shape_in_range
  test_in_range d =
      let a = leb 2 v.arity in
      let b = leb v.arity 9 in
      let c = leb 1 v.roots in
      let arity = and_intro a b (le→leb 2 v.arity d.arity_low) (le→leb v.arity 9 d.arity_high) in
      let roots = and_intro (a && b) c arity (le→leb 1 v.roots d.roots_low) in
      and_intro (a && b && c) (leb v.roots 9) roots (le→leb v.roots 9 d.roots_high)

  draft_of_places : DraftByPlace v → is_draft v ≡ true
  draft_of_places d =
      let few = subst (λ n. v.pairs ≤ n) (sym pair_limit) d.few in
      so (is_draft v)
      (test_draft v (from_Places ∙ sym to_places)
      (record {
        in_range = test_in_range d;
        few = few;
        from_column_lem = column_of_filled (shape_of v) v.pairs v.from from_Places few d.from_filled;
        to_column_lem = column_of_filled (shape_of v) v.pairs v.to to_places few d.to_filled;
      }))

-- the judgement by the four checks: overlap and gap of the from column, overlap and gap of the to column
abbrev fault_by : Bool → Bool → Option Of.Reason
fault_by overlaps gaps = elim overlaps [ true ↦ some Of.Overlap | false ↦ elim gaps [ true ↦ some Of.Gap | false ↦ none ] ]

abbrev verdict_by : Option Of.Reason → Option Of.Reason → Of.Verdict
verdict_by from to = elim from [ some r ↦ Of.InFrom r | none ↦ elim to [ some r ↦ Of.InTo r | none ↦ Of.Accepted ] ]

abbrev judged_by : Bool → Bool → Bool → Bool → Result (Unit {0}) Rejection
judged_by a b c d = judgement_of (verdict_by (fault_by a b) (fault_by c d))

-- what the checks have found where a draft is judged so
abbrev Found : Result (Unit {0}) Rejection → Bool → Bool → Bool → Bool → Type 0
Found (Ok x) a b c d = (a ≡ false) × (b ≡ false) × (c ≡ false) × (d ≡ false)
Found (Err NotADraft) a b c d = ⊥
Found (Err (Faulty (InFrom Overlap))) a b c d = a ≡ true
Found (Err (Faulty (InFrom Gap))) a b c d = (a ≡ false) × (b ≡ true)
Found (Err (Faulty (InTo Overlap))) a b c d = (a ≡ false) × (b ≡ false) × (c ≡ true)
Found (Err (Faulty (InTo Gap))) a b c d = (a ≡ false) × (b ≡ false) × (c ≡ false) × (d ≡ true)

found_of_judged : (a b c d : Bool) → Found (judged_by a b c d) a b c d
found_of_judged true b c d = refl
found_of_judged false true c d = (refl, refl)
found_of_judged false false true d = (refl, refl, refl)
found_of_judged false false false true = (refl, refl, refl, refl)
found_of_judged false false false false = (refl, refl, refl, refl)

judged_of_found : (j : Result (Unit {0}) Rejection) (a b c d : Bool) → Found j a b c d → judged_by a b c d ≡ j
judged_of_found (Ok x) a b c d (e, f, g, h) = rw (e, f, g, h, judged_by)
judged_of_found (Err NotADraft) a b c d f = absurd f
judged_of_found (Err (Faulty (InFrom Overlap))) a b c d e = rw (e, judged_by)
judged_of_found (Err (Faulty (InFrom Gap))) a b c d (e, f) = rw (e, f, judged_by)
judged_of_found (Err (Faulty (InTo Overlap))) a b c d (e, f, g) = rw (e, f, g, judged_by)
judged_of_found (Err (Faulty (InTo Gap))) a b c d (e, f, g, h) = rw (e, f, g, h, judged_by)

module _ (v : Plan) (draft : is_draft v ≡ true) where
  abbrev s : Shape
  s = shape_of v

  abbrev from : List Word
  from = from_column v

  abbrev to : List Word
  to = to_column v

  table : TableOf s (rows_of v)
  unfolding is_draft
  table = table_of s (rows_of v) (and_right (in_table v) (Of.is_table_of s (rows_of v)) (T_of draft))

  judged_by_lem : judged v ≡ judged_by (overlap from) (gap s from) (overlap to) (gap s to)
  unfolding judged Rattle.higman.specs.Answers.verdict
  judged_by_lem = rw (draft, judged)

  judged_exactly : (j : Result (Unit {0}) Rejection) → (judged v ≡ j) ↔ Found j (overlap from) (gap s from) (overlap to) (gap s to)
  judged_exactly j =
      let found = found_of_judged (overlap from) (gap s from) (overlap to) (gap s to) in (
        λ e. subst (λ x. Found x (overlap from) (gap s from) (overlap to) (gap s to)) (sym judged_by_lem ∙ e) found,
        λ f. judged_by_lem ∙ judged_of_found j (overlap from) (gap s from) (overlap to) (gap s to) f,
      )

  -- a column of words in which nothing is found is a basis
  basis_exactly : (c : List Word) → T (all (is_word s) c) → Basis s c ↔ ((overlap c ≡ false) × (gap s c ≡ false))
  basis_exactly c y =
      let exactly = column_is_basis s (arity_of_range s table.in_range) c in (
        λ b. let k = exactly.0 b in (k.apart, k.covers),
        λ f. exactly.1 (record { words = y; apart = f.0; covers = f.1 }),
      )

  from_basis : Basis s from ↔ ((overlap from ≡ false) × (gap s from ≡ false))
  from_basis = basis_exactly from table.from_words

  to_basis : Basis s to ↔ ((overlap to ≡ false) × (gap s to ≡ false))
  to_basis = basis_exactly to table.to_words

  accepted_bases : judged v ≡ Ok tt → Bases s (rows_of v)
  accepted_bases e =
      let (a, b, c, d) = (judged_exactly (Ok tt)).0 e in
      record { from_basis = from_basis.1 (a, b); to_basis = to_basis.1 (c, d) }

  bases_accepted : Bases s (rows_of v) → judged v ≡ Ok tt
  bases_accepted k =
      let (a, b) = from_basis.0 k.from_basis in
      let (c, d) = to_basis.0 k.to_basis in
      (judged_exactly (Ok tt)).1 (a, b, c, d)

  draft_judged : DraftJudged v
  draft_judged =
      record {
        accepted = (accepted_bases, bases_accepted);
        from_overlaps = judged_exactly (faulty (InFrom Overlap));
        from_has_gap = judged_exactly (faulty (InFrom Gap));
        to_overlaps = (
          λ e. let (a, b, c) = (judged_exactly (faulty (InTo Overlap))).0 e in (from_basis.1 (a, b), c),
          λ f. let (a, b) = from_basis.0 f.0 in (judged_exactly (faulty (InTo Overlap))).1 (a, b, f.1),
        );
        to_has_gap = (
          λ e. let (a, b, c, d) = (judged_exactly (faulty (InTo Gap))).0 e in (from_basis.1 (a, b), c, d),
          λ f. let (a, b) = from_basis.0 f.0 in (judged_exactly (faulty (InTo Gap))).1 (a, b, f.1, f.2),
        );
      }

  abbrev reduced : PlanOf
  reduced = record { shape = s; rows = keep s (rows_of v) }

  draft_kept : Bases s (rows_of v) → DraftKept v reduced
  draft_kept k =
      record {
        answer = sym (keeping_by v (Ok tt) (sym (bases_accepted k)));
        shape = refl;
        kept = answers_exact.keeps s table.in_range (rows_of v) k table.within;
        sends = normal_form_lem.acts s (arity_of_range s table.in_range) (rows_of v) k;
      }

verdict_beside : (v : Plan) → verdict_in (keeping v) ≡ judged v
unfolding keeping
verdict_beside v = verdict_told v (judged v)

none_kept : (v : Plan) → (judged v ≡ Ok tt → ⊥) → (r : Rejection) × (keeping v ≡ Err r)
unfolding keeping
none_kept v h = not_kept v (judged v) h

keeping_exact : KeepingExact
keeping_exact =
    record {
      pairs_held = pairs_by_place;
      drafts = λ v f t. (draft_by_place v f t, draft_of_places v f t);
      plan_words = plan_word_exactly;
      no_draft = λ v h. sym (keeping_by v (Err NotADraft) (sym (judged_none v h)));
      judged_draft = draft_judged;
      kept_draft = λ v d k. (reduced v d, draft_kept v d k);
      verdict_beside = verdict_beside;
      none_kept = none_kept;
    }

module _ (v : Plan) (code : List ℕ) (y : CodeTaken v code) where
  plan_kept : Kept (plan_of v)
  plan_kept = kept v y.plan

  routed_by : (o : Option Word) → image (rows_of v) (word_of code) ≡ o
      → Of.routed (plan_of v) (word_of code) ≡ elim o as (λ _. Of.Route) [ some x ↦ Of.Image x | none ↦ Of.TooShort ]
  unfolding Rattle.higman.specs.Answers.routed
  routed_by o e =
      rw (y.code_taken, Of.routed)
      (ap (λ z. elim z as (λ _. Of.Route) [ some x ↦ Of.Image x | none ↦ Of.TooShort ]) e)

  short_exactly : (Of.routed (plan_of v) (word_of code) ≡ Of.TooShort)
      ↔ ((p : Pair) × (i : ℕ) × (x : Word) × Memᴰ p (rows_of v) × (p.from ≡ word_of code ++ i ∷ x))
  short_exactly = answers_exact.too_short (plan_of v) plan_kept (word_of code) (T_of y.code_taken)

  image_or_short : ((x : Word) × (image (rows_of v) (word_of code) ≡ some x)) ⊎ ProperBeginning v code
  image_or_short = by_image (image (rows_of v) (word_of code)) refl
    where
      by_image : (o : Option Word) → image (rows_of v) (word_of code) ≡ o
          → ((x : Word) × (image (rows_of v) (word_of code) ≡ some x)) ⊎ ProperBeginning v code
      by_image (some x) e = inl (x, e)
      by_image none e =
          let (p, i, x, m, f) = short_exactly.0 (routed_by none e) in
          inr (record { pair = p; way = i; ways = x; among = m; longer = f })

  abbrev place : ℕ
  place = place_of (from_column v) (word_of code)

  module _ (out : List ℕ) (o : Of.Route) (e : Of.routed (plan_of v) (word_of code) ≡ o) where
    routing_by_lem : routing v code (length out) ≡ routing_in place o (length out)
    unfolding routing
    routing_by_lem = rw (y.plan, routing) (ap (λ z. routing_in place z (length out)) e)

    buffer_by : routed_buffer v code out ≡ image_into o out
    unfolding routed_buffer
    buffer_by = rw (y.plan, routed_buffer) (ap (λ z. image_into z out) e)

  too_short : (out : List ℕ) → ProperBeginning v code → RouteRefused v code out Reply.TooShort 13
  too_short out b =
      let short = short_exactly.1 (b.pair, b.way, b.ways, b.among, b.longer) in
      record { answer = routing_by_lem out Of.TooShort short; numbered = refl; buffer = buffer_by out Of.TooShort short }

  module _ (out : List ℕ) (x : Word) (e : image (rows_of v) (word_of code) ≡ some x) where
    abbrev size : ℕ
    size = length (word_bytes x)

    abbrev in_front : Image
    in_front = record { length = size; place = place }

    no_room : length out < length x → RouteRefused v code out (Reply.Refused The.BufferTooShort) 14
    no_room h =
        let over : length out < size = omega (arith, length-map x digit_byte) in
        record {
          answer = routing_by_lem out (Of.Image x) (routed_by (some x) e)
              ∙ without_room size (length out) (Reply.Image in_front) (Reply.Refused The.BufferTooShort) over;
          numbered = refl;
          buffer = buffer_by out (Of.Image x) (routed_by (some x) e) ∙ lent_as_it_was (word_bytes x) out over;
        }

    written_in_front : written out 0 (word_bytes x) ≡ word_bytes x ++ drop size out
    written_in_front = let start : 0 + size ≡ size = omega arith in ap (λ n. word_bytes x ++ drop n out) start

    routes : length x ≤ length out → (k : ℕ) × RoutesAt (rows_of v) (word_of code) x k × RoutesTo v code out (word_bytes x) k
    routes h =
        let room : size ≤ length out = omega (arith, length-map x digit_byte) in
        let held : routed_buffer v code out ≡ word_bytes x ++ drop size out =
        buffer_by out (Of.Image x) (routed_by (some x) e) ∙ lent_written (word_bytes x) out room ∙ written_in_front
        in
        let to : RoutesTo v code out (word_bytes x) place =
        record {
          answer = routing_by_lem out (Of.Image x) (routed_by (some x) e)
              ∙ with_room size (length out) (Reply.Image in_front) (Reply.Refused The.BufferTooShort) room;
          front = ap (take size) held ∙ take-append_seam (word_bytes x) (drop size out);
          rest = ap (drop size) held ∙ drop-append_seam (word_bytes x) (drop size out);
        }
        in
        (place, places_exact.routes (rows_of v) (word_of code) x e, to)

code_exactly : (s : Shape) (w : Word) → T (is_code s w) ↔ (T (is_word s w) × (length w ≤ 1_024))
unfolding is_code
code_exactly s w = within_exactly (is_word s w) (length w) max_code 1_024 code_limit

routing_exact : RoutingExact
routing_exact =
    record {
      codes = code_exactly;
      no_plan_lem = λ v code out h. let r = routing_no_plan v code out h in record { answer = sym r.0; numbered = refl; buffer = sym r.1 };
      no_code = λ v code out h k. let r = routing_no_code v code h out k in record { answer = sym r.0; numbered = refl; buffer = sym r.1 };
      image_or_short = image_or_short;
      too_short = λ v code out y. too_short v code y out;
      no_room = λ v code out x y. no_room v code y out x;
      routes = λ v code out x y. routes v code y out x;
    }

-- the digits of the first word of a column that begins w
abbrev first_digits : List Word → Word → Option ℕ
first_digits c w = first_match (λ u. u) (λ place u tail. length u) c w

-- in a column whose words are apart, no other word begins w
digits_of_word : (c : List Word) (w u : Word) → Apart c → Memᴰ u c → begins u w ≡ true → first_digits c w ≡ some (length u)
digits_of_word [] w u a m b = absurd (Memᴰ.not-nil m)
digits_of_word (x ∷ c) w u a m b = by_place (Memᴰ.cases_cons m) (λ k. digits_of_word c w u a.1 k b)
  where
    at_first : begins x w ≡ true → first_digits (x ∷ c) w ≡ some (length x)
    at_first t = rw (after_drop x w t, first_match)

    by_first : Memᴰ u c → first_digits c w ≡ some (length u) → (begins x w ≡ true) ⊎ (begins x w ≡ false)
        → first_digits (x ∷ c) w ≡ some (length u)
    by_first k later (inr f) = rw (after_none x w f, first_match) later
    by_first k later (inl t) =
        let (p, e) = tail_of_begins x w t in
        let (q, f) = tail_of_begins u w b in
        clashes (comparable x u p q (sym e ∙ f))
      where
        clashes : ((z : Word) × (u ≡ x ++ z)) ⊎ ((z : Word) × (x ≡ u ++ z)) → first_digits (x ∷ c) w ≡ some (length u)
        clashes (inl (z, g)) = absurd ((a.0 u k z).0 g)
        clashes (inr (z, g)) = absurd ((a.0 u k z).1 g)

    by_place : (u ≡ x) ⊎ Memᴰ u c → (Memᴰ u c → first_digits c w ≡ some (length u)) → first_digits (x ∷ c) w ≡ some (length u)
    by_place (inl e) later = at_first (subst (λ z. begins z w ≡ true) e b) ∙ ap (λ z. some (length z)) (sym e)
    by_place (inr k) later = by_first k (later k) (passes (begins x w))

no_digits : (c : List Word) (w : Word) → ((u : Word) → Memᴰ u c → begins u w ≡ false) → first_digits c w ≡ none
no_digits [] w h = refl
no_digits (x ∷ c) w h = rw (after_none x w (h x (Memᴰ.head refl)), first_match) (no_digits c w (λ u m. h u (Memᴰ.tail m)))

whole_code : (v : Plan) (code : List ℕ) → matched v code ≡ 0 → matched_place v code ≡ 0 → NotMatched v code
whole_code v code e f = record { digits = e; place = f; part = ap (λ n. drop n code) e }

module _ (v : Plan) (code : List ℕ) (y : CodeTaken v code) where
  matched_by : (o : Option ℕ) → first_digits (from_column v) (word_of code) ≡ o → matched v code ≡ Option.get_or o 0
  unfolding matched matched_digits
  matched_by o e = rw (y.plan, matched, y.code_taken, matched_in) (ap (λ z. Option.get_or z 0) e)

  placed_by_lem : (k : ℕ) → place_of (from_column v) (word_of code) ≡ k → matched_place v code ≡ k
  unfolding matched_place
  placed_by_lem k e = rw (y.plan, matched_place, y.code_taken, matched_place_in) e

  matches : (k : ℕ) (p : Pair) → AtPlace (rows_of v) k p → begins p.from (word_of code) ≡ true → MatchedBy v code p.from k
  matches k p there b =
      let m = subst (Memᴰ p) (sym there.parts) (Memᴰ.append_right there.before (Memᴰ.head refl)) in
      let apart = (member_of_kept (plan_of v) (kept v y.plan)).element.from_proper.apart in
      let among = Memᴰ.map (λ q. q.from) m in
      let digits = matched_by _ (digits_of_word (from_column v) (word_of code) p.from apart among b) in
      let part : matching v code ≡ drop (length p.from) code = ap (λ n. drop n code) digits in
      let (x, e) = tail_of_begins p.from (word_of code) b in
      let behind : word_of (matching v code) ≡ x =
      ap word_of part ∙ digits_drop (length p.from) code ∙ ap (drop (length p.from)) e ∙ drop-append_seam p.from x
      in
      record {
        digits = digits;
        place = placed_by_lem k (sym (only_place (plan_of v) (kept v y.plan) (word_of code) k p there b));
        part = part;
        tail = e ∙ ap (λ z. p.from ++ z) (sym behind);
      }

  none_begins : ((p : Pair) → Memᴰ p (rows_of v) → begins p.from (word_of code) ≡ false) → NotMatched v code
  none_begins h =
      whole_code v code (matched_by none (no_digits (from_column v) (word_of code) word_begins_not))
      (placed_by_lem 0 ((places_exact.nowhere (rows_of v) (word_of code)).1 (no_image (image (rows_of v) (word_of code)) refl)))
    where
      no_image : (o : Option Word) → image (rows_of v) (word_of code) ≡ o → image (rows_of v) (word_of code) ≡ none
      no_image none e = e
      no_image (some x) e =
          let (p, tail, m, f, g) = row_of_image (rows_of v) (word_of code) x e in
          absurd (clash (ap (begins p.from) f ∙ begins_append p.from tail) (h p m))

      word_begins_not : (u : Word) → Memᴰ u (from_column v) → begins u (word_of code) ≡ false
      word_begins_not u m =
          let (p, k, e) = Memᴰ.of_map (λ q. q.from) (rows_of v) m in subst (λ z. begins z (word_of code) ≡ false) e (h p k)

matching_exact : MatchingExact
matching_exact =
    record {
      matches = λ v code k p y. matches v code y k p;
      none_begins = none_begins;
      no_plan_lem = λ v code h. whole_code v code (matched_no_plan v code h) (place_no_plan v code h);
      no_code = λ v code h k. whole_code v code (matched_no_code v code h k) (place_no_code v code h k);
    }

module _ (v w : Plan) where
  follow_second : is_plan w ≡ false → Refuses (following v w) 15
  follow_second k = by_first (passes (is_plan v))
    where
      by_first : (is_plan v ≡ true) ⊎ (is_plan v ≡ false) → Refuses (following v w) 15
      by_first (inl h) = refuses The.InvalidValue (second_no_plan v w h k)
      by_first (inr h) = refuses The.InvalidValue (first_no_plan v w h)

  alike_second : is_plan w ≡ false → Refuses (alike v w) 15
  alike_second k = by_first (passes (is_plan v))
    where
      by_first : (is_plan v ≡ true) ⊎ (is_plan v ≡ false) → Refuses (alike v w) 15
      by_first (inl h) = refuses The.InvalidValue (second_not_alike v w h k)
      by_first (inr h) = refuses The.InvalidValue (first_not_alike v w h)

  shape_test : TwoShapes v w → Of.same_shape (shape_of v) (shape_of w) ≡ false
  shape_test d = by_test (passes (Of.same_shape (shape_of v) (shape_of w)))
    where
      by_test : (Of.same_shape (shape_of v) (shape_of w) ≡ true) ⊎ (Of.same_shape (shape_of v) (shape_of w) ≡ false)
          → Of.same_shape (shape_of v) (shape_of w) ≡ false
      by_test (inl t) = absurd (d.differ (shape_path (shape_of v) (shape_of w) (T_of t)))
      by_test (inr f) = f

  follow_shapes : TwoShapes v w → Refuses (following v w) 10
  follow_shapes d = refuses The.ShapesDiffer (shapes_differ v w (shape_test d) ∙ both_plans v w d.first d.second)

  alike_shapes : TwoShapes v w → Refuses (alike v w) 10
  alike_shapes d = refuses The.ShapesDiffer (not_compared v w (shape_test d) ∙ both_compared v w d.first d.second)

  follow_limit : FollowBreaks v w → Refuses (following v w) 11
  follow_limit b =
      refuses The.LimitBroken
      (sym (ap making (followed_is (plan_of v) (plan_of w) b.one_shape ∙ not_granted)) ∙ both_plans v w b.first b.second)
    where
      not_granted : Of.grant (shape_of v) (compose (shape_of v) (rows_of v) (rows_of w)) ≡ Of.Refused Of.LimitBroken
      not_granted = rw (b.broken, Of.grant)

power_limit : max_power ≡ 1_000
unfolding max_power
power_limit = refl

power_breaks : (v : Plan) (k : ℤ) → PowerBreaks v k → Refuses (raising v k) 11
power_breaks v k b =
    let inside = subst (λ n. T (leb (nat_abs k) n)) (sym power_limit) (le→leb (nat_abs k) 1_000 b.size) in
    refuses The.LimitBroken
    (sym (raising_plan v b.plan k ∙ ap making ((answers_exact.power_refused (plan_of v) k).1 (inside, (b.power, b.from_one, b.to_size, b.broken)))))

power_outside_lem : (v : Plan) (k : ℤ) → is_plan v ≡ true → 1_000 < nat_abs k → Refuses (raising v k) 12
power_outside_lem v k h l = refuses The.PowerOutside (raising_outside v h k (subst (λ n. n < nat_abs k) (sym power_limit) l))

outside_no_slot : (slot : ℕ) → (slot < byte "A") ⊎ (byte "H" < slot) → is_slot slot ≡ false
outside_no_slot slot (inl h) = sym (slot_low slot h)
outside_no_slot slot (inr h) =
    let above : 72 < slot = h in
    let from : byte "A" ≤ slot = (let low : 65 ≤ slot = omega arith in low) in
    sym (slot_high slot from) ∙ lt-leb slot (byte "H") h

inside_slot : (slot : ℕ) → byte "A" ≤ slot → slot ≤ byte "H" → is_slot slot ≡ true
inside_slot slot h k = sym (slot_high slot h) ∙ le-leb slot (byte "H") k

module _ (v : Plan) (slot : ℕ) (out : List ℕ) where
  no_listing : is_plan v ≡ false → ListRefused v slot out 15
  no_listing h = let r = listing_no_plan v slot out h in record { answer = refuses The.InvalidValue r.0; buffer = sym r.1 }

  slot_outside_lem : is_plan v ≡ true → (slot < byte "A") ⊎ (byte "H" < slot) → ListRefused v slot out 8
  slot_outside_lem h o = let r = listing_no_slot v slot out h (outside_no_slot slot o) in record { answer = refuses The.SlotOutside r.0; buffer = sym r.1 }

  no_room_listed : is_plan v ≡ true → byte "A" ≤ slot → slot ≤ byte "H" → length out < length (lines_of slot (plan_of v))
      → ListRefused v slot out 14
  no_room_listed h low high l =
      let r = listing_no_room v slot out h (inside_slot slot low high) l in record { answer = refuses The.BufferTooShort r.0; buffer = sym r.1 }

answers_numbered : AnswersNumbered
answers_numbered =
    record {
      granted = λ p. refl;
      refused = λ r. refl;
      compared = λ b. (refl, refl);
      not_compared = λ r. refl;
      listed = λ n. (refl, refl);
      not_listed = λ r. refl;
      routed = λ i. (refl, refl, refl);
      too_short = (refl, refl);
      not_routed = λ r. (refl, refl);
      numbers = refl;
      verdicts = refl;
      verdict_columns = refl;
    }

numbers_exact : NumbersExact
numbers_exact =
    record {
      follow_first = λ v w h. refuses The.InvalidValue (first_no_plan v w h);
      follow_second = follow_second;
      no_inverse = λ v h. refuses The.InvalidValue (inverting_no_plan v h);
      no_power = λ v k h. refuses The.InvalidValue (raising_no_plan v k h);
      alike_first = λ v w h. refuses The.InvalidValue (first_not_alike v w h);
      alike_second = alike_second;
      no_listing = no_listing;
      follow_shapes = follow_shapes;
      alike_shapes = alike_shapes;
      follow_limit = follow_limit;
      power_limit = power_breaks;
      power_outside_lem = power_outside_lem;
      slot_outside_lem = slot_outside_lem;
      listing_no_room = no_room_listed;
      answers = answers_numbered;
    }

pub calls_exact : CallsExact
calls_exact = record { keeping = keeping_exact; routing = routing_exact; matching = matching_exact; numbers = numbers_exact }
