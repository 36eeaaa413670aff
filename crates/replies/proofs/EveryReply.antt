-- Every reply to a line fits: what each record replies, by demand 2, and the number of each refusal, by demand 1. The term of the statement
-- of specs/Sizes.antt.
use Prim.Native.Nat.{ℕ, ◌^◌, ◌≤◌, ◌<◌}
use mathlib.Core.Path.{◌≡◌, refl, sym, subst}
use mathlib.Core.Logic.{◌⊎◌, inl, inr, ⊎_elim}
use mathlib.Core.List.{[], ◌∷◌, Memᴰ}
use mathlib.Core.Option.{Option}
use native.Mathlib.Omega.{arith}
use lib.Dec.{leb, leb→le}
use lib.ListN.{length}
use Rattle.higman.specs.Words.{Word}
use Rattle.higman.specs.Text.{Bytes, word_bytes, word_of}
use Rattle.higman.specs.Limits.{Plan, Kept, max_pairs}
use Rattle.higman.specs.Refusals.{Letter}
use Rattle.higman.specs.Answers.{Route, Image, TooShort, NotRouted, routed}
use Rattle.higman.specs.Tables.{froms}
use Rattle.higman.specs.Places.{place_of}
use Rattle.higman.specs.Listing.{slot_number}
use Rattle.higman.proofs.Tests.{all_at}
use Rattle.desk.specs.Limits.{max_changes}
use Rattle.desk.specs.Desk.{Desk, IsDesk, station_of, count_of}
use Rattle.desk.specs.Records.{Record, P, M, E, F, I, K, S, W, L, C, T, U, X, Z, G, H}
use Rattle.desk.specs.Replies.{ok_number, ok_image, refuses, Effect, Outcome, refuse, pass, of_route, closed, job, operation, record_of}
use Rattle.desk.specs.Replies.{line_operation, respond_line}
use Rattle.desk.specs.Bytes.{reply_bytes}
use Rattle.desk.specs.Demands.{refusal_numbers, DoneLine, RefusedLine}
use Rattle.desk.proofs.Outcomes.{Passes, stops, passes, passes_then, any_then, passed, plan_held, passes_operation}
use Rattle.desk.proofs.OpenPlans.{close_steps}
use Rattle.desk.proofs.Sums.{few_pairs, few_held}
use Rattle.desk.proofs.Demand1.{demand1}
use Rattle.desk.proofs.Demand2.{demand2}
use Rattle.replies.specs.Sizes.{max_reply, RepliesFit}
use Rattle.replies.proofs.Sizes.{rooms, listing_fits, image_fits, image_line_size, block_fits, ok_number_size, no_size_lem}
use Rattle.replies.proofs.Sizes.{survey_size}

-- 1 to 12, and 16 to 20
number_small : (n : ℕ) → Memᴰ n refusal_numbers → n < 10 ^ 3
number_small n m =
    let within = all_at (λ k. leb k 20) (1 ∷ 2 ∷ 3 ∷ 4 ∷ 5 ∷ 6 ∷ 7 ∷ 8 ∷ 9 ∷ 10 ∷ 11 ∷ 12 ∷ 16 ∷ 17 ∷ 18 ∷ 19 ∷ 20 ∷ []) tt n
    (subst (λ l. Memᴰ n l) demand1.numbers m) in
    omega (arith, leb→le n 20 within)

-- an outcome of which every value has something passes it on
passes_of : {A : Type 0} {Q : A → Type 0} (o : Outcome A) → ((a : A) → o ≡ pass a → Q a) → Passes Q o
passes_of (refuse n c) h = stops
passes_of (pass a) h = passes (h a refl)

abbrev Fits : Effect → Type 0
Fits e = length (reply_bytes e.1) ≤ max_reply

as_known : {e f : Effect} → e ≡ f → Fits f → Fits e
as_known q h = subst Fits (sym q) h

number_fits : (n : ℕ) → n < 10 ^ 10 → length (reply_bytes (ok_number n)) ≤ max_reply
unfolding reply_bytes
number_fits n h = omega (arith, rooms.ok_number_fact, ok_number_size n h)

pairs_fit : (p : Plan) → Kept p → length (reply_bytes (ok_number (length p.rows))) ≤ max_reply
unfolding max_pairs
pairs_fit p k = number_fits (length p.rows) (omega (arith, few_pairs p k))

refusal_fits : (n : ℕ) (c : Option Letter) → Memᴰ n refusal_numbers → length (reply_bytes (refuses n c)) ≤ max_reply
unfolding reply_bytes
refusal_fits n c m = omega (arith, rooms.no_column, no_size_lem n c (number_small n m))

word_fits : (p : Plan) (code v : Word) → Kept p → routed p code ≡ Image v
    → length (reply_bytes (ok_image v (place_of (froms p.rows) code))) ≤ max_reply
unfolding reply_bytes
word_fits p code v k e =
    let f = image_fits p code v k e in
    omega (arith, f.room, image_line_size (word_bytes v) (place_of (froms p.rows) code) f.place_granted)

routed_fits : (p : Plan) (code : Word) → Kept p → (r : Route) → routed p code ≡ r
    → Passes (λ reply. length (reply_bytes reply) ≤ max_reply) (of_route p code r)
routed_fits p code k (Image v) e = passes (word_fits p code v k e)
routed_fits p code k TooShort e = passes (block_fits p code k)
routed_fits p code k (NotRouted r) e = stops

module _ (d : Desk) (D : IsDesk d) where
  route_fits : (a : ℕ) (code : Bytes) → Passes Fits (operation d (W a code))
  unfolding job
  route_fits a code =
      passes_operation d (W a code) (λ _. passes_then (plan_held d a) (λ p x. passes_then
      (routed_fits p (word_of code) (D.kept (slot_number a) p x) (routed p (word_of code)) refl) (λ reply h. passes {a = (d, reply)} h)))

  record_fits : (r : Record) (e : Effect) → operation d r ≡ pass e → Fits e
  unfolding reply_bytes max_changes
  record_fits (P a n r) e o = as_known (demand2.replies.opens d a n r e o).1 (omega arith)
  record_fits (M from to) e o = let (draft, x, q) = demand2.replies.adds d from to e o in as_known q (omega arith)
  record_fits E e o =
      let c = passed (close_steps d) e o in
      let k = demand2.typed d c.plan e D c.was_open o in
      as_known k.effect (pairs_fit (closed c.plan) k.kept)
  record_fits (F a b c) e o =
      let (p, q, r, x, y, k, same_shape, kept-shape, acts) = demand2.follows d a b c e D o in
      as_known k.effect (pairs_fit r k.kept)
  record_fits (I a c) e o =
      let (p, r, x, k, kept-shape, acts) = demand2.inverts d a c e D o in
      as_known k.effect (pairs_fit r k.kept)
  record_fits (K a k c) e o =
      let (p, x, in_c) = demand2.repeats d a c k e D o in
      as_known in_c.effect (pairs_fit _ in_c.kept)
  record_fits (S a b) e o =
      let (p, q, x, y, one_or_zero, alike) = demand2.compares d a b e D o in
      ⊎_elim (λ q. as_known q (number_fits 1 (omega arith))) (λ q. as_known q (number_fits 0 (omega arith))) one_or_zero
  record_fits (W a code) e o = passed (route_fits a code) e o
  record_fits (L a) e o =
      let (p, x, q) = demand2.replies.lists d a e o in
      as_known q (listing_fits a p (D.kept (slot_number a) p x))
  record_fits (C a) e o = let (p, x, q) = demand2.replies.empties d a e o in as_known q rooms.ok
  record_fits T e o =
      as_known (demand2.replies.counts d e o) (number_fits (count_of d) (omega (arith, D.control.within (station_of d))))
  record_fits U e o = as_known (demand2.replies.surveys d e o) (omega (arith, rooms.survey, survey_size d D))
  record_fits (X a n r s seed) e o =
      let k = (demand2.exercises d a (record { arity = n; roots = r }) s seed e D o).plan in
      as_known k.effect (pairs_fit _ k.kept)
  record_fits (Z s) e o = as_known (demand2.stations.named d s e o).1 rooms.ok
  record_fits (G s a x) e o = as_known (demand2.rights.given d s a x e o).4 rooms.ok
  record_fits H e o = as_known (demand2.pairs_held.told d e o).1 (number_fits d.control.pairs (omega (arith, few_held d D)))

  line_fits : (line : Bytes) → Passes Fits (line_operation d line)
  unfolding line_operation
  line_fits line = any_then (record_of line) (λ r. passes_of (operation d r) (record_fits r))

  reply_fits : (line : Bytes) → length (reply_bytes (respond_line d line).1) ≤ max_reply
  reply_fits line = by_answer (demand1.answered d line)
    where
      by_answer : DoneLine d line ⊎ RefusedLine d line → length (reply_bytes (respond_line d line).1) ≤ max_reply
      by_answer (inl (e, done, effect)) = as_known effect (passed (line_fits line) e done)
      by_answer (inr r) =
          subst (λ x. length (reply_bytes x) ≤ max_reply) (sym r.replied) (refusal_fits r.number r.column r.numbered)

pub replies_fit : RepliesFit
replies_fit = record { rooms = rooms; listing = listing_fits; image = image_fits; block = block_fits; every_reply = reply_fits }
