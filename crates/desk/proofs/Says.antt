-- Each step of an operation with the conditions that it is refused under: one law for each kind of step. For 11 of a power, which the answer
-- decides in its own way, the theorems of higman say that the paper's words mean the same.
use Prim.Native.Nat.{ℕ}
use native.Mathlib.Omega.{arith}
use mathlib.Core.Logic.{◌⊎◌, inl, inr}
use mathlib.Core.Path.{◌≡◌, refl, sym, ◌∙◌, ap, subst}
use mathlib.Core.Bool.{Bool, true, false, ◌||◌, not}
use mathlib.Core.List.Memᴰ
use mathlib.Core.List.{List, [], ◌∷◌, ◌++◌, Memᴰ}
use mathlib.Core.Option.{Option, none, some}
use lib.Dec.{leb}
use borrow.Author.Tests.{not-true}
use lib.IntN.{ℤ, pos, negsuc, nat_abs}
use lib.ListN.{length}
use Rattle.higman.specs.Words.{Shape, Word, count, given}
use Rattle.higman.specs.Bases.{all, any_of, overlap, gap}
use Rattle.higman.specs.Tables.{Table, froms, tos, image, same_table}
use Rattle.higman.specs.Normal.{compose, repeated, power}
use Rattle.higman.specs.Limits.{Plan, Kept, seed_in_range, granted, pair_fits, is_code, max_pairs, max_power}
use Rattle.higman.specs.Answers.{Reason, Overlap, Gap, Verdict, Accepted, InFrom, InTo, verdict, Answer, Granted, Refused, ShapesDiffer}
use Rattle.higman.specs.Answers.{LimitBroken, BadCode, Comparison, Alike, NotCompared, Route, Image, TooShort, NotRouted, same_shape}
use Rattle.higman.specs.Answers.{raised, repeatable, followed, inverted, powered, same, routed, SeedOutside, TooManyPairs, WordTooLong}
use Rattle.higman.specs.Exercises.{exercised, exercise_plan, exercise}
use Rattle.higman.specs.Refusals.{pairs_full, wrong_state, bad_word, words_overlap}
use Rattle.higman.specs.Refusals.{root_uncovered, slot_empty, shapes_differ, limit_broken, seed_outside}
use Rattle.higman.specs.Refusals.{Letter}
use Rattle.higman.proofs.Tests.{T_of, clash, or_cases, or_true_left, or_true_right, count_bounds, count_mem}
use Rattle.higman.proofs.Statements.{answers_exact}
use Rattle.desk.specs.Desk.{Draft, Desk, held}
use Rattle.desk.specs.Records.{F}
use Rattle.higman.specs.Listing.{slot_number}
use Rattle.higman.specs.Places.{place_of, placed_block}
use Rattle.desk.specs.Replies.{Reply, ok_image, ok_block, Outcome, refuse, pass, ◌>>=◌, is_open}
use Rattle.desk.specs.Replies.{open_plan, plan_in, of_verdict, of_answer, of_comparison, of_route, ◌when◌}
use Rattle.desk.specs.Conditions.{Condition, in_column, is_empty, of_plan, of_both, first_of, refusal_of, ◌if◌}

-- an outcome is refused as the first condition that holds says
pub record Says {A : Type 0} (o : Outcome A) (cs : List Condition) : Type 0 where
  pub says : refusal_of o ≡ first_of cs

pub done : {A : Type 0} {a : A} → Says (pass a) []
done = record { says = refl }

-- a test that refuses, and the steps behind it, which are taken where it fails
pub when_then : {A : Type 0} {n : ℕ} (b : Bool) {f : Unit {0} → Outcome A} {cs : List Condition}
    → ((u : Unit {0}) → b ≡ false → Says (f u) cs)
    → Says ((n when b) >>= f) ((n if b) ∷ cs)
unfolding ◌>>=◌
when_then true h = record { says = refl }
when_then false h = record { says = (h tt refl).says }

-- steps with their conditions, and the steps behind them with theirs
first_append : (cs ds : List Condition) → first_of (cs ++ ds) ≡ elim (first_of cs) [ none ↦ first_of ds | some x ↦ some x ]
first_append [] ds = refl
first_append (c ∷ cs) ds = by_test c.holds (first_append cs ds)
  where
    by_test : (b : Bool) → first_of (cs ++ ds) ≡ elim (first_of cs) [ none ↦ first_of ds | some x ↦ some x ]
        → ◌≡◌ {A = Option (ℕ × Option Letter)} (elim b [ true ↦ some (c.number, c.column) | false ↦ first_of (cs ++ ds) ])
        (elim (elim b as (λ _. Option (ℕ × Option Letter)) [
          | true ↦ some
              (c.number, c.column)
          | false ↦ first_of cs
        ]) [ none ↦ first_of ds | some x ↦ some x ])
    by_test true e = refl
    by_test false e = e

pub says_then : {A B : Type 0} (o : Outcome A) {f : A → Outcome B} {cs ds : List Condition} → Says o cs → ((a : A) → Says (f a) ds)
    → Says (o >>= f) (cs ++ ds)
unfolding ◌>>=◌
says_then (refuse n c) {cs = cs} {ds} h k = record {
  says = sym
      (first_append cs ds ∙ ap (λ x. elim x [ none ↦ first_of ds | some y ↦ some y ]) (sym h.says));
}
says_then (pass a) {cs = cs} {ds} h k = record {
  says = (k a).says
      ∙ sym (first_append cs ds ∙ ap (λ x. elim x [ none ↦ first_of ds | some y ↦ some y ]) (sym h.says));
}

-- the open plan, where there is one
pub open_then : {A : Type 0} (d : Desk) {f : Draft → Outcome A} {cs : List Condition} → not (is_open d) ≡ false
    → ((o : Draft) → d.draft ≡ some o → Says (f o) cs) → Says (open_plan d >>= f) cs
unfolding ◌>>=◌
open_then d {f} {cs} e h = by_draft d.draft e h
  where
    by_draft : (x : Option Draft) → not (given x) ≡ false → ((o : Draft) → x ≡ some o → Says (f o) cs)
        → Says ((elim x as (λ _. Outcome Draft) [ none ↦ refuse wrong_state none | some o ↦ pass o ]) >>= f) cs
    by_draft none e h = absurd (clash refl e)
    by_draft (some o) e h = record { says = (h o refl).says }

-- the plan in a slot
pub plan_then : {A : Type 0} (d : Desk) (a : ℕ) {f : Plan → Outcome A} {cs : List Condition}
    → ((p : Plan) → held d (slot_number a) ≡ some p → Says (f p) cs) → Says (plan_in d a >>= f) ((slot_empty if is_empty d a) ∷ cs)
unfolding ◌>>=◌
plan_then d a {f} {cs} h = go (held d (slot_number a)) h
  where
    go : (x : Option Plan) → ((p : Plan) → x ≡ some p → Says (f p) cs)
        → Says ((elim x as (λ _. Outcome Plan) [ none ↦ refuse slot_empty none | some p ↦ pass p ]) >>= f)
        ((slot_empty if not (given x)) ∷ cs)
    go none h = record { says = refl }
    go (some p) h = record { says = (h p refl).says }

-- the plans in two slots
pub plans_then : {A : Type 0} (d : Desk) (a b : ℕ) {f : Plan → Plan → Outcome A} {cs : List Condition}
    → ((p q : Plan) → held d (slot_number a) ≡ some p → held d (slot_number b) ≡ some q → Says (f p q) cs)
    → Says (plan_in d a >>= λ p. plan_in d b >>= λ q. f p q) ((slot_empty if is_empty d a || is_empty d b) ∷ cs)
unfolding ◌>>=◌
plans_then d a b {f} {cs} h = go (held d (slot_number a)) (held d (slot_number b)) h
  where
    go : (x y : Option Plan) → ((p q : Plan) → x ≡ some p → y ≡ some q → Says (f p q) cs)
        → Says ((elim x as (λ _. Outcome Plan) [ none ↦ refuse slot_empty none | some p ↦ pass p ]) >>=
        λ p. (elim y as (λ _. Outcome Plan) [ none ↦ refuse slot_empty none | some q ↦ pass q ]) >>= λ q. f p q)
        ((slot_empty if not (given x) || not (given y)) ∷ cs)
    go none y h = record { says = refl }
    go (some p) none h = record { says = refl }
    go (some p) (some q) h = record { says = (h p q refl refl).says }

-- E: the verdict is the two checks of the one column and then of the other
pub verdict_then : {A : Type 0} (s : Shape) (t : Table) {f : Unit {0} → Outcome A} {cs : List Condition} → ((u : Unit {0}) → Says (f u) cs)
    → Says (of_verdict (verdict s t) >>= f) (in_column words_overlap Letter.F (overlap (froms t))
    ∷ in_column root_uncovered Letter.F (gap s (froms t)) ∷ in_column words_overlap Letter.T (overlap (tos t))
    ∷ in_column root_uncovered Letter.T (gap s (tos t)) ∷ cs)
unfolding ◌>>=◌ verdict
verdict_then s t {f} {cs} h = go (overlap (froms t)) (gap s (froms t)) (overlap (tos t)) (gap s (tos t))
  where
    faulty : Bool → Bool → Option Reason
    faulty a b = elim a [ true ↦ some Overlap | false ↦ elim b [ true ↦ some Gap | false ↦ none ] ]

    go : (a b c d : Bool)
        → Says (of_verdict (elim (faulty a b) as (λ _. Verdict) [
          | some r ↦ InFrom r
          | none ↦ elim
              (faulty c d) [ some r ↦ InTo r | none ↦ Accepted ]
        ]) >>= f)
        (in_column words_overlap Letter.F a ∷ in_column root_uncovered Letter.F b ∷ in_column words_overlap Letter.T c
        ∷ in_column root_uncovered Letter.T d ∷ cs)
    go true b c d = record { says = refl }
    go false true c d = record { says = refl }
    go false false true d = record { says = refl }
    go false false false true = record { says = refl }
    go false false false false = record { says = (h tt).says }

-- F: the shapes, and then the limits
followed_then : {A : Type 0} (p q : Plan) {f : Plan → Outcome A} {cs : List Condition} → ((r : Plan) → Says (f r) cs)
    → Says (of_answer (followed p q) >>= f) ((shapes_differ if not (same_shape p.shape q.shape))
    ∷ (limit_broken if not (granted (compose p.shape p.rows q.rows))) ∷ cs)
unfolding ◌>>=◌ followed
followed_then p q {f} {cs} h = go (same_shape p.shape q.shape) (granted (compose p.shape p.rows q.rows))
  where
    go : (a b : Bool)
        → Says (of_answer (elim a as (λ _. Answer) [
          | true ↦ elim b [
            | true ↦ Granted
                (record {
                  shape = p.shape;
                  rows = compose p.shape p.rows
                      q.rows;
                })
            | false ↦ Refused LimitBroken
          ]
          | false ↦ Refused ShapesDiffer
        ]) >>= f)
        ((shapes_differ if not a) ∷ (limit_broken if not b) ∷ cs)
    go false b = record { says = refl }
    go true false = record { says = refl }
    go true true = record { says = (h _).says }

-- I: nothing more
pub inverted_then : {A : Type 0} (p : Plan) {f : Plan → Outcome A} {cs : List Condition} → ((r : Plan) → Says (f r) cs)
    → Says (of_answer (inverted p) >>= f) cs
unfolding ◌>>=◌ inverted
inverted_then p h = record { says = (h _).says }

-- what a test at some element found
any_found : {A : Type 0} (f : A → Bool) (l : List A) → any_of f l ≡ true → (x : A) × Memᴰ x l × (f x ≡ true)
any_found f [] e = absurd (clash e refl)
any_found {A = A} f (x ∷ l) e = by_place (or_cases (f x) (any_of f l) e) (λ k. any_found f l k)
  where
    by_place : (f x ≡ true) ⊎ (any_of f l ≡ true) → (any_of f l ≡ true → (y : A) × Memᴰ y l × (f y ≡ true))
        → (y : A) × Memᴰ y (x ∷ l) × (f y ≡ true)
    by_place (inl h) later = (x, Memᴰ.head refl, h)
    by_place (inr h) later = let (y, m, k) = later h in (y, Memᴰ.tail m, k)

any_of_lem : {A : Type 0} (f : A → Bool) (l : List A) (x : A) → Memᴰ x l → f x ≡ true → any_of f l ≡ true
any_of_lem f [] x m e = absurd (Memᴰ.not-nil m)
any_of_lem f (y ∷ l) x m e = by_place (Memᴰ.cases_cons m) (λ k. any_of_lem f l x k e)
  where
    by_place : (x ≡ y) ⊎ Memᴰ x l → (Memᴰ x l → any_of f l ≡ true) → (f y || any_of f l) ≡ true
    by_place (inl h) later = or_true_left (f y) (any_of f l) (subst (λ z. f z ≡ true) h e)
    by_place (inr k) later = or_true_right (f y) (any_of f l) (later k)

-- K: "some reduced power from 1 up to the size of k breaks a limit", where k itself is in its range
module _ (p : Plan) (kept : Kept p) (k : ℤ) (e : leb (nat_abs k) max_power ≡ true) where
  abbrev breaks_at : ℕ → Bool
  breaks_at j = not (granted (power p.shape p.rows (pos j)))

  abbrev some_breaks : Bool
  some_breaks = any_of breaks_at (count 1 (nat_abs k))

  -- below zero the powers are those of the inverse, which break a limit where the plan's do
  same_limits : (k : ℤ) (j : ℕ) → granted (repeated p.shape (repeatable p k) j) ≡ granted (power p.shape p.rows (pos j))
  unfolding power
  same_limits (pos n) j = refl
  same_limits (negsuc n) j = answers_exact.power_below p kept j

  refused_of_some : some_breaks ≡ true → powered p k ≡ Refused LimitBroken
  refused_of_some s =
      let (j, m, b) = any_found breaks_at (count 1 (nat_abs k)) s in
      let (low, high) = count_bounds 1 (nat_abs k) j m in
      let broken = same_limits k j ∙ not-true (granted (power p.shape p.rows (pos j))) b in
      (answers_exact.power_refused p k).1 (T_of e, (j, low, omega arith, broken))

  some_of_refused : powered p k ≡ Refused LimitBroken → some_breaks ≡ true
  some_of_refused r =
      let (j, low, high, broken) = ((answers_exact.power_refused p k).0 r).1 in
      any_of_lem breaks_at (count 1 (nat_abs k)) j (count_mem 1 (nat_abs k) j low (omega arith)) (ap not (sym (same_limits k j) ∙ broken))

  granted_of_none : some_breaks ≡ false → (q : Plan) × (powered p k ≡ Granted q)
  unfolding powered
  granted_of_none s = by_power (raised p.shape (repeatable p k) (nat_abs k)) refl
    where
      answer : (o : Option Table) → raised p.shape (repeatable p k) (nat_abs k) ≡ o
          → powered p k ≡ elim o [ some t ↦ Granted (record { shape = p.shape; rows = t }) | none ↦ Refused LimitBroken ]
      answer o h = rw (e, powered) (ap (λ o. elim o as (λ _. Answer) [
        | some t ↦ Granted
            (record { shape = p.shape; rows = t })
        | none ↦ Refused LimitBroken
      ]) h)

      by_power : (o : Option Table) → raised p.shape (repeatable p k) (nat_abs k) ≡ o → (q : Plan) × (powered p k ≡ Granted q)
      by_power none h = absurd (clash (some_of_refused (answer none h)) s)
      by_power (some t) h = (record { shape = p.shape; rows = t }, answer (some t) h)

  pub powered_then : {A : Type 0} {f : Plan → Outcome A} {cs : List Condition} → ((r : Plan) → Says (f r) cs)
      → Says (of_answer (powered p k) >>= f) ((limit_broken if some_breaks) ∷ cs)
  unfolding ◌>>=◌
  powered_then {f = f} {cs} h = by_test some_breaks refl
    where
      by_test : (b : Bool) → some_breaks ≡ b → Says (of_answer (powered p k) >>= f) ((limit_broken if b) ∷ cs)
      by_test true s = subst (λ x. Says (of_answer x >>= f) ((limit_broken if true) ∷ cs)) (sym (refused_of_some s)) (record { says = refl })
      by_test false s =
          let (q, g) = granted_of_none s in
          subst (λ x. Says (of_answer x >>= f) ((limit_broken if false) ∷ cs)) (sym g) (record { says = (h q).says })

-- S: the shapes
same_then : {A : Type 0} (p q : Plan) {f : Bool → Outcome A} → ((b : Bool) → Says (f b) [])
    → Says (of_comparison (same p q) >>= f) ((shapes_differ if not (same_shape p.shape q.shape)) ∷ [])
unfolding ◌>>=◌ same
same_then p q {f} h = go (same_shape p.shape q.shape)
  where
    go : (a : Bool)
        → Says (of_comparison (elim a as (λ _. Comparison) [
          | true ↦ Alike
              (same_table p.rows q.rows)
          | false ↦ NotCompared ShapesDiffer
        ]) >>= f) ((shapes_differ if not a) ∷ [])
    go false = record { says = refl }
    go true = record { says = (h _).says }

-- W: the code
pub routed_then : {A : Type 0} (p : Plan) (c : Word) {f : Reply → Outcome A} → ((reply : Reply) → Says (f reply) [])
    → Says (of_route p c (routed p c) >>= f) ((bad_word if not (is_code p.shape c)) ∷ [])
unfolding ◌>>=◌ routed
routed_then p c {f} h = by_code (is_code p.shape c) (image p.rows c)
  where
    by_code : (a : Bool) (o : Option Word)
        → Says (of_route p c (elim a as (λ _. Route) [
          | true ↦ elim o [ some v ↦ Image v | none ↦ TooShort ]
          | false ↦ NotRouted BadCode
        ]) >>= f)
        ((bad_word if not a) ∷ [])
    by_code false o = record { says = refl }
    by_code true none = record { says = (h (ok_block (placed_block p.rows c))).says }
    by_code true (some v) = record { says = (h (ok_image v (place_of (froms p.rows) c))).says }

-- X: the seed, the pairs and then the words
pub exercise_then : {A : Type 0} (s : Shape) (k seed : ℕ) {f : Plan → Outcome A} → ((p : Plan) → Says (f p) [])
    → Says (of_answer (exercise s k seed) >>= f)
    ((seed_outside if not (seed_in_range seed)) ∷
    (pairs_full if not (leb (length (exercised s k seed)) max_pairs)) ∷
    (bad_word if not (all pair_fits (exercised s k seed))) ∷
    [])
unfolding ◌>>=◌ exercise
exercise_then s k seed {f} h =
    by_tests (seed_in_range seed) (leb (length (exercised s k seed)) max_pairs) (all pair_fits (exercised s k seed))
  where
    made : Bool → Answer
    made c = elim c [ false ↦ Refused WordTooLong | true ↦ Granted (exercise_plan s k seed) ]

    by_tests : (a b c : Bool)
        → Says (of_answer (elim a as (λ _. Answer) [ false ↦ Refused SeedOutside | true ↦ elim b [ false ↦ Refused TooManyPairs | true ↦ made c ] ]) >>= f)
        ((seed_outside if not a) ∷ (pairs_full if not b) ∷ (bad_word if not c) ∷ [])
    by_tests false b c = record { says = refl }
    by_tests true false c = record { says = refl }
    by_tests true true false = record { says = refl }
    by_tests true true true = record { says = (h _).says }

-- what is asked of the plans that two slots hold
of_both_lem : (d : Desk) (a b : ℕ) (p q : Plan) → held d (slot_number a) ≡ some p → held d (slot_number b) ≡ some q
    → (test : Plan → Plan → Bool) → of_both d a b test ≡ test p q
of_both_lem d a b p q e f test =
    ap (λ x. elim x as (λ _. Bool) [ none ↦ false | some p ↦ of_plan d b (λ q. test p q) ]) e
    ∙ ap (λ y. elim y as (λ _. Bool) [ none ↦ false | some q ↦ test p q ]) f

differ : Plan → Plan → Bool
differ p q = not (same_shape p.shape q.shape)

breaks : Plan → Plan → Bool
breaks p q = not (granted (compose p.shape p.rows q.rows))

pub followed_says : {A : Type 0} (d : Desk) (a b : ℕ) (p q : Plan) → held d (slot_number a) ≡ some p → held d (slot_number b) ≡ some q
    → {f : Plan → Outcome A} {cs : List Condition} → ((r : Plan) → Says (f r) cs)
    → Says (of_answer (followed p q) >>= f) ((shapes_differ if of_both d a b (λ p q. not (same_shape p.shape q.shape)))
    ∷ (limit_broken if of_both d a b (λ p q. not (granted (compose p.shape p.rows q.rows)))) ∷ cs)
unfolding differ breaks
followed_says d a b p q e e' {f = g} {cs} h =
    subst (λ x. Says (of_answer (followed p q) >>= g) ((shapes_differ if x) ∷ (limit_broken if of_both d a b breaks) ∷ cs))
    (sym (of_both_lem d a b p q e e' differ))
    (subst (λ y. Says (of_answer (followed p q) >>= g) ((shapes_differ if differ p q) ∷ (limit_broken if y) ∷ cs))
    (sym (of_both_lem d a b p q e e' breaks)) (followed_then p q h))

pub same_says : {A : Type 0} (d : Desk) (a b : ℕ) (p q : Plan) → held d (slot_number a) ≡ some p → held d (slot_number b) ≡ some q
    → {f : Bool → Outcome A} → ((x : Bool) → Says (f x) [])
    → Says (of_comparison (same p q) >>= f) ((shapes_differ if of_both d a b (λ p q. not (same_shape p.shape q.shape))) ∷ [])
unfolding differ
same_says d a b p q e e' {f = g} h = subst (λ x. Says (of_comparison (same p q) >>= g) ((shapes_differ if x) ∷ []))
    (sym (of_both_lem d a b p q e e' differ)) (same_then p q h)
