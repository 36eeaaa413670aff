-- The statements about values, gathered: `library_exact`. Handed.antt ties a value to its plan and ValueLaws.antt has the laws; here
-- is what L writes, which is the listing of the plan and so determines the value.
use Prim.Native.Nat.{ℕ, ◌+◌, ◌≤◌}
use mathlib.Core.Path.{◌≡◌, sym, ◌∙◌, ap}
use mathlib.Core.Logic.{◌⊎◌, inl, inr}
use mathlib.Core.Bool.{true, false}
use mathlib.Core.List.{List, ◌++◌}
use native.Mathlib.Omega.{arith}
use borrow.Author.Tests.{leb-true, leb-false}
use Rattle.std.proofs.Common.{Result, Ok, Err}
use lib.Dec.{leb}
use lib.ListN.{length, take, drop}
use lib.Seq.{take-append_seam, drop-append_seam}
use Rattle.higman.specs.Listing.{listing as lines_of, is_slot}
use Rattle.higman.proofs.Tests.{passes}
use Rattle.higman.proofs.Listing.{listing_faithful}
use Rattle.higman.specs.Buffers.{written}
use Rattle.operations.specs.declared.Plan.{Plan}
use Rattle.operations.specs.declared.refusals.Refusal.{Refusal}
use Rattle.operations.specs.Plans.{plan_of, packed}
use Rattle.plans.specs.Listing.{listing_answer, listed_buffer}
use Rattle.plans.specs.Theorems.{Handed, Lists, ListingsExact, LibraryExact}
use Rattle.plans.proofs.Lists.{listing_no_slot, listing_no_room, listing_written}
use Rattle.plans.proofs.Handed.{held_packed, words_pack, values_hold}
use Rattle.plans.proofs.Made.{values_granted, values_act}
use Rattle.plans.proofs.ValueLaws.{value_demand3}
use Rattle.plans.proofs.CallsExact.{calls_exact}

not_listed : {e : Refusal} {n : ℕ} → ◌≡◌ {A = Result ℕ Refusal} (Err e) (Ok n) → ⊥
not_listed e = cc

module _ (v : Plan) (slot : ℕ) (out : List ℕ) (h : Handed v) where
  abbrev lines : List ℕ
  lines = lines_of slot (plan_of v)

  -- with room for the listing
  module _ (k : is_slot slot ≡ true) (room : length lines ≤ length out) where
    written_in_front : lines ++ drop (length lines) out ≡ written out 0 lines
    written_in_front = let start : length lines ≡ 0 + length lines = omega arith in ap (λ n. lines ++ drop n out) start

    answers : (Ok (length lines) ≡ listing_answer v slot (length out)) × (lines ++ drop (length lines) out ≡ listed_buffer v slot out)
    answers =
        listing_written v slot out h.taken k room (length lines) (lines ++ drop (length lines) out)
        (record { place = omega arith; contents = written_in_front })

    listed : Lists v slot out lines
    listed =
        record {
          answer = sym answers.0;
          front = ap (take (length lines)) (sym answers.1) ∙ take-append_seam lines (drop (length lines) out);
          rest = ap (drop (length lines)) (sym answers.1) ∙ drop-append_seam lines (drop (length lines) out);
        }

  -- what L writes is the listing, for there is a slot and room where it writes
  lines_of_lists : (bytes : List ℕ) → Lists v slot out bytes → bytes ≡ lines
  lines_of_lists bytes l = slot_cases (passes (is_slot slot))
    where
      room_cases : is_slot slot ≡ true → (leb (length lines) (length out) ≡ true) ⊎ (leb (length lines) (length out) ≡ false) → bytes ≡ lines
      room_cases k (inl r) =
          let w = listed k (leb-true (length lines) (length out) r) in
          let long : length bytes ≡ length lines = cc (l.answer, w.answer) in
          sym l.front ∙ ap (λ n. take n (listed_buffer v slot out)) long ∙ w.front
      room_cases k (inr r) =
          let short = leb-false (length lines) (length out) r in
          absurd (not_listed ((listing_no_room v slot out h.taken k short).0 ∙ l.answer))

      slot_cases : (is_slot slot ≡ true) ⊎ (is_slot slot ≡ false) → bytes ≡ lines
      slot_cases (inl k) = room_cases k (passes (leb (length lines) (length out)))
      slot_cases (inr k) = absurd (not_listed ((listing_no_slot v slot out h.taken k).0 ∙ l.answer))

determines : (v w : Plan) (slot : ℕ) (out out' bytes : List ℕ) → Handed v → Handed w
    → Lists v slot out bytes → Lists w slot out' bytes → v ≡ w
determines v w slot out out' bytes h k l m =
    let same = sym (lines_of_lists v slot out h bytes l) ∙ lines_of_lists w slot out' k bytes m in
    sym (held_packed v h) ∙ ap packed ((listing_faithful.whole_listing slot (plan_of v) (plan_of w)).0 same) ∙ held_packed w k

listings_exact : ListingsExact
listings_exact = record { listed = λ v slot out h. listed v slot out h; determines = determines }

pub library_exact : LibraryExact
library_exact =
    record {
      words = words_pack;
      values = values_hold;
      grants = values_granted;
      acts = values_act;
      laws = value_demand3;
      listings = listings_exact;
      calls = calls_exact;
    }
