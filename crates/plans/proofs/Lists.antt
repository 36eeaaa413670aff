-- What L answers of values: 15, and then the listing of the plan; in it 8, 14 by the length of the listing, and the listing.
use Prim.Native.Nat.{ℕ, ◌≤◌, ◌<◌}
use mathlib.Core.Path.{◌≡◌, sym, ◌∙◌}
use mathlib.Core.Bool.{true, false}
use mathlib.Core.List.{List}
use lib.ListN.{length}
use Rattle.std.proofs.Common.{Result, Ok, Err}
use Rattle.higman.specs.Listing.{is_slot, listing as lines_of}
use Rattle.words.specs.Writing.{Wrote}
use Rattle.operations.specs.declared.Plan.{Plan}
use Rattle.operations.specs.declared.refusals.Refusal.{Refusal}
use Rattle.operations.specs.declared.refusals.Refusal.TheVariants.{SlotOutside, BufferTooShort, InvalidValue}
use Rattle.operations.specs.Plans.{plan_of, is_plan}
use Rattle.operations.specs.Listing.{listing_for, listed_for}
use Rattle.operations.proofs.Lists.{list_no_slot, list_no_room, list_written}
use Rattle.plans.specs.Listing.{listing_answer, listed_buffer}

module _ (p : Plan) (slot : ℕ) (out : List ℕ) where
  pub listing_no_plan : is_plan p ≡ false → (Err InvalidValue ≡ listing_answer p slot (length out)) × (out ≡ listed_buffer p slot out)
  unfolding listing_answer listed_buffer
  listing_no_plan h = (sym (rw (h, listing_answer)), sym (rw (h, listed_buffer)))

  module _ (h : is_plan p ≡ true) where
    pub listing_is : listing_for slot (plan_of p) (length out) ≡ listing_answer p slot (length out)
    unfolding listing_answer
    listing_is = sym (rw (h, listing_answer))

    pub buffer_is : listed_for slot (plan_of p) out ≡ listed_buffer p slot out
    unfolding listed_buffer
    buffer_is = sym (rw (h, listed_buffer))

    pub listing_plan : (r : Result ℕ Refusal) (out' : List ℕ)
        → (r ≡ listing_for slot (plan_of p) (length out)) × (out' ≡ listed_for slot (plan_of p) out)
        → (r ≡ listing_answer p slot (length out)) × (out' ≡ listed_buffer p slot out)
    listing_plan r out' (e, f) = (e ∙ listing_is, f ∙ buffer_is)

    pub listing_no_slot : is_slot slot ≡ false → (Err SlotOutside ≡ listing_answer p slot (length out)) × (out ≡ listed_buffer p slot out)
    listing_no_slot k = listing_plan (Err SlotOutside) out (list_no_slot (plan_of p) slot out k)

    module _ (k : is_slot slot ≡ true) where
      pub listing_no_room : length out < length (lines_of slot (plan_of p))
          → (Err BufferTooShort ≡ listing_answer p slot (length out)) × (out ≡ listed_buffer p slot out)
      listing_no_room l = listing_plan (Err BufferTooShort) out (list_no_room (plan_of p) slot out k l)

      pub listing_written : length (lines_of slot (plan_of p)) ≤ length out → (r : ℕ) (out' : List ℕ)
          → Wrote (lines_of slot (plan_of p)) out 0 out' r
          → (Ok r ≡ listing_answer p slot (length out)) × (out' ≡ listed_buffer p slot out)
      listing_written l r out' w = listing_plan (Ok r) out' (list_written (plan_of p) slot out k l r out' w)
