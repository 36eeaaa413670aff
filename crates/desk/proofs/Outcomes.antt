-- What holds of every outcome that is no refusal: a step hands it on to the next, and what was passed has it; what an operation passes,
-- its job passes behind the tests around it. With it, that a refusal only drops the open plan.
use Prim.Native.Nat.{ℕ}
use mathlib.Core.Path.{◌≡◌, refl, sym, ap, subst}
use mathlib.Core.Bool.{Bool, true, false, ◌&&◌, not}
use mathlib.Core.Option.{Option, none, some}
use lib.Dec.{T}
use Rattle.higman.specs.Limits.{Plan}
use Rattle.higman.specs.Bases.{all}
use Rattle.higman.specs.Answers.{Route, Image, TooShort, NotRouted, routed}
use Rattle.higman.specs.Refusals.{wrong_state, slot_outside, slot_empty, count_full, station_outside, right_missing, Letter}
use Rattle.higman.specs.Text.{Bytes, word_of}
use Rattle.desk.specs.Desk.{Draft, Desk, held, dropped, is_station}
use Rattle.desk.specs.Records.{Record, P, M, E, F, I, K, S, W, L, C, T as Tᴿ, U, X, Z, G, H, stations_named, slots_named}
use Rattle.desk.specs.Records.{is_change}
use Rattle.higman.specs.Listing.{slot_number, is_slot}
use Rattle.higman.specs.Words.{Word}
use Rattle.desk.specs.Replies.{Reply, silent, ok, ok_number, ok_image, ok_block, lists, surveys, refuses, Outcome, refuse, pass, ◌>>=◌}
use Rattle.desk.specs.Replies.{open_amiss, open_plan, plan_in, may_use, at_limit, of_route, job}
use Rattle.desk.specs.Replies.{Effect, settle, operation, admission, line_operation, respond_line}
use Rattle.desk.specs.Replies.{◌when◌}
use Rattle.desk.specs.Theorems.{RefusalDrops}

pub data Passes {A : Type 0} (Q : A → Type 0) : Outcome A → Type 0 where
  stops : {n : ℕ} {c : Option Letter} → Passes Q (refuse n c)
  passes : {a : A} → Q a → Passes Q (pass a)

-- what is known of a step's value serves the next
pub passes_then : {A B : Type 0} {H : A → Type 0} {Q : B → Type 0} {o : Outcome A} {f : A → Outcome B} → Passes H o
    → ((a : A) → H a → Passes Q (f a)) → Passes Q (o >>= f)
unfolding ◌>>=◌
passes_then stops k = stops
passes_then (passes {a} h) k = k a h

-- or nothing need be known of it
pub any_then : {A B : Type 0} {Q : B → Type 0} (o : Outcome A) {f : A → Outcome B} → ((a : A) → Passes Q (f a)) → Passes Q (o >>= f)
unfolding ◌>>=◌
any_then (refuse n c) k = stops
any_then (pass a) k = k a

abbrev IsPass : {A : Type 0} → Outcome A → Type 0
IsPass (refuse n c) = ⊥
IsPass (pass a) = Unit {0}

abbrev value_or : {A : Type 0} → A → Outcome A → A
value_or other (refuse n c) = other
value_or other (pass a) = a

-- what is known of all that an operation passes is known of what it passed
pub passed : {A : Type 0} {Q : A → Type 0} {o : Outcome A} → Passes Q o → (a : A) → o ≡ pass a → Q a
passed stops a e = absurd (subst IsPass (sym e) tt)
passed {Q = Q} (passes {a = b} h) a e = subst Q (ap (value_or b) e) h

-- what the steps pass on
pub test_failed : (n : ℕ) (t : Bool) → Passes (λ _. t ≡ false) (n when t)
test_failed n true = stops
test_failed n false = passes refl

pub test_held : (n : ℕ) (t : Bool) → Passes (λ _. T t) (n when not t)
test_held n true = passes tt
test_held n false = stops

pub plan_held : (d : Desk) (a : ℕ) → Passes (λ p. held d (slot_number a) ≡ some p) (plan_in d a)
plan_held d a = by_content (held d (slot_number a)) refl
  where
    by_content : (x : Option Plan) → held d (slot_number a) ≡ x
        → Passes (λ p. held d (slot_number a) ≡ some p) (elim x [ none ↦ refuse slot_empty none | some p ↦ pass p ])
    by_content none e = stops
    by_content (some p) e = passes e

pub plan_open : (d : Desk) → Passes (λ o. d.draft ≡ some o) (open_plan d)
plan_open d = by_draft d.draft refl
  where
    by_draft : (x : Option Draft) → d.draft ≡ x
        → Passes (λ o. d.draft ≡ some o) (elim x [ none ↦ refuse wrong_state none | some o ↦ pass o ])
    by_draft none e = stops
    by_draft (some o) e = passes e

-- what the tests before a job have found where it is done, and the one behind it
pub record Admitted (d : Desk) (r : Record) : Type 0 where
  pub open_fits : open_amiss d r ≡ false
  pub stations_known : T (all is_station (stations_named r))
  pub slots_named_fact : T (all (λ u. is_slot u.slot) (slots_named r))
  pub allowed : T (all (may_use d) (slots_named r))

pub record Tested (d : Desk) (r : Record) : Type 0 where
  pub admitted : Admitted d r
  pub room : (is_change r && at_limit d) ≡ false

pub admitted : (d : Desk) (r : Record) → Passes (λ _. Admitted d r) (admission d r)
unfolding admission
admitted d r =
    passes_then (test_failed wrong_state (open_amiss d r)) (λ _ o.
    passes_then (test_held station_outside (all is_station (stations_named r))) (λ _ s.
    passes_then (test_held slot_outside (all (λ u. is_slot u.slot) (slots_named r))) (λ _ k.
    last (all (may_use d) (slots_named r)) (λ m. record { open_fits = o; stations_known = s; slots_named_fact = k; allowed = m }))))
  where
    last : {A : Type 0} (b : Bool) → (T b → A) → Passes (λ _. A) (right_missing when not b)
    last true f = passes (f tt)
    last false f = stops

pub passes_operation : (d : Desk) (r : Record) {Q : Effect → Type 0} → (Tested d r → Passes Q (job d r)) → Passes Q (operation d r)
unfolding operation
passes_operation d r {Q} done =
    passes_then (admitted d r)
    (λ _ a. by_room (is_change r && at_limit d) refl (λ m. record { admitted = a; room = m }))
  where
    by_room : (b : Bool) → (is_change r && at_limit d) ≡ b → ((is_change r && at_limit d) ≡ false → Tested d r)
        → Passes Q (job d r >>= λ e. (count_full when b) >>= λ _. pass e)
    by_room true m t = any_then (job d r) (λ e. passes_then {H = λ _. ⊥} stops (λ _ h. absurd h))
    by_room false m t = passes_then (done (t m)) (λ e q. any_then (pass tt) (λ _. passes q))

-- the other way round: an operation is done where the tests fail and its job is
pub operation_pass : (d : Desk) (r : Record) (e : Effect) → Tested d r → job d r ≡ pass e → operation d r ≡ pass e
unfolding operation admission ◌>>=◌
operation_pass d r e t j =
    rw (
      t.admitted.open_fits,
      test_passed (all is_station (stations_named r)) t.admitted.stations_known,
      test_passed (all (λ u. is_slot u.slot) (slots_named r)) t.admitted.slots_named_fact,
      test_passed (all (may_use d) (slots_named r)) t.admitted.allowed,
      j,
      t.room,
    )
    refl
  where
    test_passed : (b : Bool) → T b → b ≡ true
    test_passed true h = refl
    test_passed false h = absurd h

-- a reply that is no refusal
abbrev pub NoRefusal : Reply → Type 0
NoRefusal silent = Unit {0}
NoRefusal ok = Unit {0}
NoRefusal (ok_number n) = Unit {0}
NoRefusal (ok_image w k) = Unit {0}
NoRefusal (ok_block ls) = Unit {0}
NoRefusal (lists b p) = Unit {0}
NoRefusal (surveys hs) = Unit {0}
NoRefusal (refuses n c) = ⊥

route_answers : (p : Plan) (w : Word) (r : Route) → Passes NoRefusal (of_route p w r)
route_answers p w (Image v) = passes tt
route_answers p w TooShort = passes tt
route_answers p w (NotRouted r) = stops

abbrev pub Answered : Effect → Type 0
Answered e = NoRefusal e.1

job_answers : (d : Desk) (r : Record) → Passes Answered (job d r)
unfolding job
job_answers d (P a n r) = any_then _ (λ _. passes tt)
job_answers d (M from to) = any_then _ (λ _. any_then _ (λ _. any_then _ (λ _. passes tt)))
job_answers d E = any_then _ (λ _. any_then _ (λ _. passes tt))
job_answers d (F a b c) = any_then _ (λ _. any_then _ (λ _. any_then _ (λ _. passes tt)))
job_answers d (I a c) = any_then _ (λ _. any_then _ (λ _. passes tt))
job_answers d (K a k c) = any_then _ (λ _. any_then _ (λ _. any_then _ (λ _. passes tt)))
job_answers d (S a b) = any_then _ (λ _. any_then _ (λ _. any_then _ (λ _. passes tt)))
job_answers d (W a code) =
    any_then _ (λ p. passes_then
    (route_answers p (word_of code) (routed p (word_of code))) (λ reply h. passes {a = (d, reply)} h))
job_answers d (L a) = any_then _ (λ _. passes tt)
job_answers d (C a) = any_then _ (λ _. passes tt)
job_answers d Tᴿ = passes tt
job_answers d U = passes tt
job_answers d (X a n r s seed) = any_then _ (λ _. any_then _ (λ _. passes tt))
job_answers d (Z s) = passes tt
job_answers d (G s a x) = any_then _ (λ _. passes tt)
job_answers d H = any_then _ (λ _. passes tt)

-- only a refusal replies as one
pub operation_answers : (d : Desk) (r : Record) → Passes Answered (operation d r)
operation_answers d r = passes_operation d r (λ _. job_answers d r)

pub line_answers : (d : Desk) (line : Bytes) → Passes Answered (line_operation d line)
unfolding line_operation
line_answers d line = any_then _ (operation_answers d)

settled_refusal : (d : Desk) (o : Outcome Effect) → Passes Answered o → (n : ℕ) (c : Option Letter) → (settle d o).1 ≡ refuses n c
    → (settle d o).0 ≡ dropped d
settled_refusal d (refuse m b) h n c e = refl
settled_refusal d (pass x) (passes h) n c e = absurd (subst NoRefusal e h)

pub refusal_drops : RefusalDrops
unfolding respond_line
refusal_drops d line n c e = settled_refusal d (line_operation d line) (line_answers d line) n c e
