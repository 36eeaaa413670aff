-- What a listing answers, case by case: 8, 14 by the length of the listing, and the listing.
use Prim.Native.Nat.{ℕ, suc, ◌≤◌, ◌<◌}
use mathlib.Core.Path.{◌≡◌, sym, ◌∙◌, ap}
use mathlib.Core.Bool.{true, false, ◌&&◌}
use mathlib.Core.List.{List}
use native.Mathlib.Nat.{zero-add}
use borrow.Author.Tests.{le-leb, lt-leb}
use lib.Dec.{leb, leb-suc-suc}
use lib.ListN.{length}
use Rattle.higman.specs.Text.{byte}
use Rattle.higman.specs.Limits.{Plan, slot_count}
use Rattle.higman.specs.Listing.{slot_byte, is_slot, listing as lines_of}
use Rattle.higman.specs.Buffers.{lent_into}
use Rattle.higman.proofs.Buffers.{with_room, without_room, lent_written, lent_as_it_was}
use Rattle.words.specs.Writing.{Wrote}
use Rattle.std.specs.Prelude.{Ok, Err}
use Rattle.operations.specs.declared.refusals.Refusal.TheVariants.{SlotOutside, BufferTooShort}
use Rattle.operations.specs.Listing.{listing_in, listing_for, listed_for}

pub slot_low : (b : ℕ) → b < byte "A" → false ≡ is_slot b
slot_low b h = sym (ap (λ t. t && leb (suc b) (slot_byte slot_count)) (lt-leb (byte "A") b h))

pub slot_high : (b : ℕ) → byte "A" ≤ b → leb b (byte "H") ≡ is_slot b
unfolding slot_count
slot_high b h =
    sym (ap (λ t. t && leb (suc b) (slot_byte slot_count)) (le-leb (byte "A") b h) ∙ leb-suc-suc b (byte "H"))

module _ (p : Plan) (slot : ℕ) (out : List ℕ) where
  pub list_no_slot : is_slot slot ≡ false → (Err SlotOutside ≡ listing_for slot p (length out)) × (out ≡ listed_for slot p out)
  list_no_slot k = (sym (rw (k, listing_for)), sym (rw (k, listed_for)))

  module _ (k : is_slot slot ≡ true) where
    abbrev lines : List ℕ
    lines = lines_of slot p

    listing_is : listing_for slot p (length out) ≡ listing_in lines (length out)
    listing_is = rw (k, listing_for)

    buffer_is : listed_for slot p out ≡ lent_into lines out
    buffer_is = rw (k, listed_for)

    pub list_no_room : length out < length lines
        → (Err BufferTooShort ≡ listing_for slot p (length out)) × (out ≡ listed_for slot p out)
    list_no_room l = (
      sym (listing_is ∙ without_room (length lines) (length out) (Ok (length lines)) (Err BufferTooShort) l),
      sym (buffer_is ∙ lent_as_it_was lines out l),
    )

    pub list_written : length lines ≤ length out → (r : ℕ) (out' : List ℕ) → Wrote lines out 0 out' r
        → (Ok r ≡ listing_for slot p (length out)) × (out' ≡ listed_for slot p out)
    list_written l r out' w = (
      ap Ok (w.place ∙ zero-add (length lines))
          ∙ sym (listing_is ∙ with_room (length lines) (length out) (Ok (length lines)) (Err BufferTooShort) l),
      w.contents ∙ sym (buffer_is ∙ lent_written lines out l),
    )
