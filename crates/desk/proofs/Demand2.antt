-- Demand 2: what E, F, I, K, W and S do when they are not refused, by higman's theorems; X is in Exercises.antt, and the other records are
-- in Replies.antt. From what an operation passed it is read off which steps it took.
use Prim.Native.Nat.{ℕ, ◌<◌}
use mathlib.Core.Path.{◌≡◌, refl, sym, ◌∙◌, ap, subst}
use mathlib.Core.Logic.{◌⊎◌, inl, inr, ◌↔◌}
use mathlib.Core.Bool.{Bool, true, false}
use mathlib.Core.List.{List, Memᴰ}
use mathlib.Core.Option.{some, some-injective}
use native.Mathlib.Omega.{arith}
use lib.Dec.{T}
use lib.IntN.{ℤ}
use borrow.Author.Tests.{lt-leb}
use Rattle.higman.specs.Words.{Word, is_word, begins}
use Rattle.higman.specs.Tables.{image, same_table, froms, Pair}
use Rattle.higman.specs.Normal.{and_then, power}
use Rattle.higman.specs.Limits.{Plan, Bases, Kept, slot_count}
use Rattle.higman.specs.Answers.{Accepted, verdict, Granted, followed, inverted, powered, Comparison, Alike, NotCompared}
use Rattle.higman.specs.Answers.{same, same_shape, Image, TooShort, ShapesDiffer, routed}
use Rattle.higman.specs.Theorems.{ActAlike}
use Rattle.higman.specs.Fronts.{BlockOf, SendsInTurn}
use Rattle.higman.specs.Places.{place_of, Placed, placed_block, pairs_of, AtPlace, RoutesAt}
use Rattle.higman.proofs.Tests.{T_of, so}
use Rattle.higman.proofs.KeptPlans.{arity_of_range}
use Rattle.higman.proofs.Answers.{followed_cases, inverted_cases, shape_path, image_of_route, none_of_short}
use Rattle.higman.proofs.Demand3.{demand3}
use Rattle.higman.proofs.Statements.{normal_form_lem, followed_acts, group_acts, answers_exact}
use Rattle.higman.proofs.Fronts.{fronts_exact}
use Rattle.higman.proofs.Places.{places_exact, only_place}
use Rattle.higman.specs.Text.{Bytes, word_of}
use Rattle.desk.specs.Limits.{max_changes}
use Rattle.desk.specs.Desk.{Draft, Desk, count_of, held, IsDesk}
use Rattle.desk.specs.Records.{E, F, I, K, S, W, writing, kind}
use Rattle.higman.specs.Listing.{slot_number}
use Rattle.desk.specs.Replies.{pass, Effect, Reply, silent, ok, ok_number, ok_image, ok_block, lists, surveys, refuses, bit}
use Rattle.desk.specs.Replies.{of_comparison, keep_in, closed, job, operation}
use Rattle.desk.specs.Theorems.{BlockReplied, PlacesReplied}
use Rattle.desk.specs.Demands.{KeptAsTyped, KeptIn, RoutedBy, Demand2}
use Rattle.desk.proofs.ReadBack.{typed_in, listing_read_back}
use Rattle.desk.proofs.TypedLines.{accepted_from_lines}
use Rattle.desk.proofs.Outcomes.{Passes, stops, passes, passes_then, any_then, passed, plan_held, passes_operation}
use Rattle.desk.proofs.Stays.{below_limit, slot_of_record}
use Rattle.desk.proofs.OpenPlans.{close_pass, close_steps, draft_verdict}
use Rattle.desk.proofs.RouteMade.{RouteMade, route_made}
use Rattle.desk.proofs.Replies.{replies_exact, desk_parts}
use Rattle.desk.proofs.SlotsUsed.{slots_used}
use Rattle.desk.proofs.CountsOfStations.{counts_of_stations}
use Rattle.desk.proofs.RightsExact.{rights_exact}
use Rattle.desk.proofs.StationsApart.{stations_apart}
use Rattle.desk.proofs.PairsHeld.{pairs_held}
use Rattle.desk.proofs.Surveys.{survey_exact}
use Rattle.desk.proofs.Exercises.{answer_granted, kept_there, exercises, exercises_fixed}

-- what the answers about plans pass on
comparison_made : (c : Comparison) → Passes (λ b. c ≡ Alike b) (of_comparison c)
comparison_made (Alike b) = passes refl
comparison_made (NotCompared r) = stops

-- E
one_draft : (d : Desk) (o o' : Draft) → d.draft ≡ some o → d.draft ≡ some o' → o' ≡ o
one_draft d o o' x y = some-injective o' o (sym y ∙ x)

accepted : (d : Desk) (o : Draft) → IsDesk d → d.draft ≡ some o
    → ((e : Effect) × (operation d E ≡ pass e)) ↔ (Bases o.shape o.rows × (count_of d < max_changes))
accepted d o h x = (to, from)
  where
    to : (e : Effect) × (operation d E ≡ pass e) → Bases o.shape o.rows × (count_of d < max_changes)
    to (e, p) =
        let c = passed (close_steps d) e p in
        let here = one_draft d o c.plan x c.was_open in
        ((draft_verdict o (h.drafted o x)).0 (subst (λ z. verdict z.shape z.rows ≡ Accepted) here c.accepted), below_limit d c.room)

    from : Bases o.shape o.rows × (count_of d < max_changes) → (e : Effect) × (operation d E ≡ pass e)
    from (b, l) = (keep_in d o.slot (closed o), close_pass d o x ((draft_verdict o (h.drafted o x)).1 b) (lt-leb max_changes (count_of d) l))

typed : (d : Desk) (o : Draft) (e : Effect) → IsDesk d → d.draft ≡ some o → operation d E ≡ pass e → KeptAsTyped d o e
typed d o e h x p =
    let c = passed (close_steps d) e p in
    let k = h.drafted o x in
    let b = ((accepted d o h x).0 (e, p)).0 in
    let f = c.effect ∙ ap (λ z. keep_in d z.slot (closed z)) (one_draft d o c.plan x c.was_open) in
    record {
      effect = f;
      there = kept_there d o.slot e (closed o) h k.slot_named f;
      kept = answers_exact.keeps o.shape k.in_range o.rows b k.within;
      acts = normal_form_lem.acts o.shape (arity_of_range o.shape k.in_range) o.rows b;
    }

-- F
abbrev Follows : Desk → ℕ → ℕ → ℕ → Effect → Type 0
Follows d a b c e = (p : Plan) × (q : Plan) × (r : Plan) × (held d (slot_number a) ≡ some p) × (held d (slot_number b) ≡ some q) × (followed p q ≡ Granted r) × (e ≡ keep_in d (slot_number c) r) × (slot_number c < slot_count)

follow_steps : (d : Desk) (a b c : ℕ) → Passes (Follows d a b c) (operation d (F a b c))
unfolding job kind
follow_steps d a b c =
    passes_operation d (F a b c) (λ t. passes_then (plan_held d a) (λ p x. passes_then (plan_held d b) (λ q y. passes_then
    (answer_granted (followed p q))
    (λ r g. passes (p, q, r, x, y, g, refl, slot_of_record d (F a b c) t (writing c) (Memᴰ.tail (Memᴰ.tail (Memᴰ.head refl))))))))

follows : (d : Desk) (a b c : ℕ) (e : Effect) → IsDesk d → operation d (F a b c) ≡ pass e
    → (p : Plan) × (q : Plan) × (r : Plan) × (held d (slot_number a) ≡ some p) × (held d (slot_number b) ≡ some q) × KeptIn d c e r × (p.shape ≡ q.shape) × (r.shape ≡ p.shape)
    × ((w v : Word) → T (is_word p.shape w) → and_then (image p.rows) (image q.rows) w ≡ some v → image r.rows w ≡ some v)
follows d a b c e h o =
    let (p, q, r, x, y, g, f, l') = passed (follow_steps d a b c) e o in
    let P = h.kept (slot_number a) p x in
    let Q = h.kept (slot_number b) q y in
    let (s, l, u) = followed_cases p q r g in (
      p,
      q,
      r,
      x,
      y,
      record { effect = f; there = kept_there d (slot_number c) e r h l' f; kept = demand3.followed_kept p q r P Q g },
      s,
      ap (λ z. z.shape) u,
      followed_acts p q r P Q g,
    )

-- I
abbrev Inverts : Desk → ℕ → ℕ → Effect → Type 0
Inverts d a c e = (p : Plan) × (r : Plan) × (held d (slot_number a) ≡ some p) × (inverted p ≡ Granted r) × (e ≡ keep_in d (slot_number c) r) × (slot_number c < slot_count)

invert_steps : (d : Desk) (a c : ℕ) → Passes (Inverts d a c) (operation d (I a c))
unfolding job kind
invert_steps d a c =
    passes_operation d (I a c) (λ t. passes_then (plan_held d a) (λ p x. passes_then (answer_granted (inverted p))
    (λ r g. passes (p, r, x, g, refl, slot_of_record d (I a c) t (writing c) (Memᴰ.tail (Memᴰ.head refl))))))

inverts : (d : Desk) (a c : ℕ) (e : Effect) → IsDesk d → operation d (I a c) ≡ pass e
    → (p : Plan) × (r : Plan) × (held d (slot_number a) ≡ some p) × KeptIn d c e r × (r.shape ≡ p.shape)
    × ((w v : Word) → T (is_word p.shape w) → image p.rows w ≡ some v → image r.rows v ≡ some w)
inverts d a c e h o =
    let (p, r, x, g, f, l) = passed (invert_steps d a c) e o in
    let P = h.kept (slot_number a) p x in (
      p,
      r,
      x,
      record { effect = f; there = kept_there d (slot_number c) e r h l f; kept = demand3.inverted_kept p r P g },
      ap (λ z. z.shape) (inverted_cases p r g),
      λ w v i j.
          subst (λ z. image z.rows v ≡ some w) (sym (inverted_cases p r g))
          (group_acts.inverse_acts p.shape (arity_of_range p.shape P.in_range) p.rows P.bases w v i j),
    )

-- K
abbrev Repeats : Desk → ℕ → ℤ → ℕ → Effect → Type 0
Repeats d a k c e = (p : Plan) × (r : Plan) × (held d (slot_number a) ≡ some p) × (powered p k ≡ Granted r) × (e ≡ keep_in d (slot_number c) r) × (slot_number c < slot_count)

repeat_steps : (d : Desk) (a c : ℕ) (k : ℤ) → Passes (Repeats d a k c) (operation d (K a k c))
unfolding job kind
repeat_steps d a c k =
    passes_operation d (K a k c) (λ t. any_then _ (λ _. passes_then (plan_held d a) (λ p x. passes_then (answer_granted (powered p k))
    (λ r g. passes (p, r, x, g, refl, slot_of_record d (K a k c) t (writing c) (Memᴰ.tail (Memᴰ.head refl)))))))

repeats : (d : Desk) (a c : ℕ) (k : ℤ) (e : Effect) → IsDesk d → operation d (K a k c) ≡ pass e
    → (p : Plan) × (held d (slot_number a) ≡ some p) × KeptIn d c e (record { shape = p.shape; rows = power p.shape p.rows k })
repeats d a c k e h o =
    let (p, r, x, g, f, l) = passed (repeat_steps d a c k) e o in
    let u = answers_exact.power_granted p r k g in
    let f' = f ∙ ap (keep_in d (slot_number c)) u in
    (p, x, record { effect = f'; there = kept_there d (slot_number c) e _ h l f'; kept = subst Kept u (demand3.powered_kept p r k (h.kept (slot_number a) p x) g) })

-- W
abbrev Routes : Desk → ℕ → Bytes → Effect → Type 0
Routes d a code e =
    (p : Plan) × (reply : Reply) × (held d (slot_number a) ≡ some p)
    × RouteMade p (word_of code) (routed p (word_of code)) reply × (e ≡ (d, reply))

route_steps : (d : Desk) (a : ℕ) (code : Bytes) → Passes (Routes d a code) (operation d (W a code))
unfolding job
route_steps d a code =
    passes_operation d (W a code) (λ _. passes_then (plan_held d a) (λ p x. passes_then
    (route_made p (word_of code) (routed p (word_of code))) (λ reply r. passes (p, reply, x, r, refl))))

routes : (d : Desk) (a : ℕ) (code : Bytes) (e : Effect) → operation d (W a code) ≡ pass e
    → (p : Plan) × (held d (slot_number a) ≡ some p) × RoutedBy p (word_of code) d e
routes d a code e o = let (p, reply, x, r, f) = passed (route_steps d a code) e o in (p, x, by_route p reply f r)
  where
    by_route : (p : Plan) (reply : Reply) → e ≡ (d, reply) → RouteMade p (word_of code) (routed p (word_of code)) reply
        → RoutedBy p (word_of code) d e
    by_route p reply f (inl (v, r, g)) = inl (v, (image_of_route p (word_of code) v r).1, f ∙ ap (λ x. (d, x)) g)
    by_route p reply f (inr (r, g)) = inr ((none_of_short p (word_of code) r).1, f ∙ ap (λ x. (d, x)) g)

-- a block that is replied is that of a code too short for the plan in the slot
block_made : (d : Desk) (c : ℕ) (code : Bytes) (lines : List Placed) → operation d (W c code) ≡ pass (d, ok_block lines)
    → (p : Plan) × (held d (slot_number c) ≡ some p) × (routed p (word_of code) ≡ TooShort) × (lines ≡ placed_block p.rows (word_of code))
block_made d c code lines o =
    let (p, reply, x, r, f) = passed (route_steps d c code) (d, ok_block lines) o in
    let (short, made) = by_route p reply (ap (λ e. e.1) f) r in
    (p, x, short, made)
  where
    by_route : (p : Plan) (reply : Reply) → ok_block lines ≡ reply → RouteMade p (word_of code) (routed p (word_of code)) reply
        → (routed p (word_of code) ≡ TooShort) × (lines ≡ placed_block p.rows (word_of code))
    by_route p reply f (inl (v, r, g)) = let z : ◌≡◌ {A = ℕ} 0 1 = cc in absurd (omega arith)
    by_route p reply f (inr (r, g)) = (r, cc)

block_replied : BlockReplied
block_replied d D c code lines o =
    let (p, x, short, made) = block_made d c code lines o in
    let same = ap pairs_of made ∙ places_exact.pairs p.rows (word_of code) in
    let kept = D.kept (slot_number c) p x in (
      p,
      x,
      subst (BlockOf p (word_of code)) (sym same) (fronts_exact.kept_plan p kept (word_of code) short),
      λ a b A B g. subst (SendsInTurn a b (word_of code)) (sym same) (fronts_exact.composed a b p A B g (word_of code) short).1,
    )

image_made : (d : Desk) (c : ℕ) (code : Bytes) (v : Word) (k : ℕ) → operation d (W c code) ≡ pass (d, ok_image v k)
    → (p : Plan) × (held d (slot_number c) ≡ some p) × (routed p (word_of code) ≡ Image v) × (k ≡ place_of (froms p.rows) (word_of code))
image_made d c code v k o =
    let (p, reply, x, r, f) = passed (route_steps d c code) (d, ok_image v k) o in
    let (routed-there, made) = by_route p reply (ap (λ e. e.1) f) r in
    (p, x, routed-there, made)
  where
    by_route : (p : Plan) (reply : Reply) → ok_image v k ≡ reply → RouteMade p (word_of code) (routed p (word_of code)) reply
        → (routed p (word_of code) ≡ Image v) × (k ≡ place_of (froms p.rows) (word_of code))
    by_route p reply f (inl (u, r, g)) = (cc, cc)
    by_route p reply f (inr (r, g)) = let z : ◌≡◌ {A = ℕ} 0 1 = cc in absurd (omega arith)

places_replied : PlacesReplied
places_replied = record { images = images; blocks = blocks }
  where
    images : (d : Desk) → IsDesk d → (c : ℕ) (code : Bytes) (v : Word) (k : ℕ) → operation d (W c code) ≡ pass (d, ok_image v k)
        → (r : Plan) × (held d (slot_number c) ≡ some r) × RoutesAt r.rows (word_of code) v k
        × ((j : ℕ) (p : Pair) → AtPlace r.rows j p → T (begins p.from (word_of code)) → j ≡ k)
    images d D c code v k o =
        let (r, x, f, e) = image_made d c code v k o in
        let w = word_of code in (
          r,
          x,
          subst (RoutesAt r.rows w v) (sym e) (places_exact.routes r.rows w v (image_of_route r w v f).1),
          λ j p y b. only_place r (D.kept (slot_number c) r x) w j p y (so (begins p.from w) b) ∙ sym e,
        )

    blocks : (d : Desk) (c : ℕ) (code : Bytes) (ls : List Placed) → operation d (W c code) ≡ pass (d, ok_block ls)
        → (r : Plan) × (held d (slot_number c) ≡ some r) × ((l : Placed) → Memᴰ l ls → AtPlace r.rows l.place l.pair)
    blocks d c code ls o =
        let (r, x, short, made) = block_made d c code ls o in
        (r, x, λ l m. places_exact.places r.rows (word_of code) l (subst (Memᴰ l) made m))

-- S
abbrev Compares : Desk → ℕ → ℕ → Effect → Type 0
Compares d a b e = (p : Plan) × (q : Plan) × (x : Bool) × (held d (slot_number a) ≡ some p) × (held d (slot_number b) ≡ some q) × (same p q ≡ Alike x) × (e ≡ (d, ok_number (bit x)))

compare_steps : (d : Desk) (a b : ℕ) → Passes (Compares d a b) (operation d (S a b))
unfolding job
compare_steps d a b =
    passes_operation d (S a b) (λ _. passes_then (plan_held d a) (λ p x. passes_then (plan_held d b) (λ q y. passes_then
    (comparison_made (same p q)) (λ z c. passes (p, q, z, x, y, c, refl)))))

abbrev is_alike : Comparison → Type 0
is_alike (Alike b) = Unit {0}
is_alike (NotCompared r) = ⊥

abbrev test_of : Comparison → Bool
test_of (Alike b) = b
test_of (NotCompared r) = false

-- shapes are one where two plans are compared
shapes_of_alike : (p q : Plan) (x : Bool) → same p q ≡ Alike x → p.shape ≡ q.shape
unfolding same
shapes_of_alike p q x e = go (same_shape p.shape q.shape) refl e
  where
    go : (b : Bool) → same_shape p.shape q.shape ≡ b
        → elim b as (λ _. Comparison) [ true ↦ Alike (same_table p.rows q.rows) | false ↦ NotCompared ShapesDiffer ] ≡ Alike x
        → p.shape ≡ q.shape
    go true h k = shape_path p.shape q.shape (T_of h)
    go false h k = absurd (subst is_alike (sym k) tt)

abbrev number_of : Reply → ℕ
number_of silent = 0
number_of ok = 0
number_of (ok_number n) = n
number_of (ok_image w k) = 0
number_of (ok_block ls) = 0
number_of (lists b p) = 0
number_of (surveys hs) = 0
number_of (refuses n c) = 0

one_or_zero : (d : Desk) (x : Bool) (e : Effect) → e ≡ (d, ok_number (bit x)) → (e ≡ (d, ok_number 1)) ⊎ (e ≡ (d, ok_number 0))
one_or_zero d true e f = inl f
one_or_zero d false e f = inr f

bit_one : (x : Bool) → bit x ≡ 1 → x ≡ true
bit_one true e = refl
bit_one false e = absurd (omega arith)

compared : (d : Desk) (p q : Plan) (x : Bool) (e : Effect) → Kept p → Kept q → same p q ≡ Alike x → e ≡ (d, ok_number (bit x))
    → (e ≡ (d, ok_number 1)) ↔ ActAlike p q
compared d p q x e P Q c f =
    let i = answers_exact.alike p q P Q (shapes_of_alike p q x c) in (
      λ g. i.0 (c ∙ ap Alike (bit_one x (ap (λ y. number_of y.1) (sym f ∙ g)))),
      λ g. f ∙ ap (λ y. (d, ok_number (bit y))) (ap test_of (sym c ∙ i.1 g)),
    )

compares : (d : Desk) (a b : ℕ) (e : Effect) → IsDesk d → operation d (S a b) ≡ pass e
    → (p : Plan) × (q : Plan) × (held d (slot_number a) ≡ some p) × (held d (slot_number b) ≡ some q)
    × ((e ≡ (d, ok_number 1)) ⊎ (e ≡ (d, ok_number 0))) × ((e ≡ (d, ok_number 1)) ↔ ActAlike p q)
compares d a b e h o =
    let (p, q, x, y, z, c, f) = passed (compare_steps d a b) e o in
    (p, q, y, z, one_or_zero d x e f, compared d p q x e (h.kept (slot_number a) p y) (h.kept (slot_number b) q z) c f)

-- Demand 2.
pub demand2 : Demand2
demand2 =
    record {
      accepted = accepted;
      typed = typed;
      follows = follows;
      inverts = inverts;
      repeats = repeats;
      routes = routes;
      blocks = block_replied;
      places = places_replied;
      exercises = exercises;
      exercises_fixed = exercises_fixed;
      compares = compares;
      replies = replies_exact;
      slots_used = slots_used;
      stations = counts_of_stations;
      rights = rights_exact;
      stations_apart = stations_apart;
      pairs_held = pairs_held;
      desk_parts = desk_parts;
      survey = survey_exact;
      typed_in = typed_in;
      accepted_from_lines = accepted_from_lines;
      read_back = listing_read_back;
    }
