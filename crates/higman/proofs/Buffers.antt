-- Laws of lent buffers: what a call answers, and what it leaves in the buffer, where the output has room in it and where it has not.
use Prim.Native.Nat.{ℕ, ◌+◌, ◌≤◌, ◌<◌}
use mathlib.Core.Path.{◌≡◌, sym, ◌∙◌, ap, ap₂}
use mathlib.Core.List.{◌++◌}
use lib.ListN.{length, take, drop}
use lib.Seq.{take-append_seam, drop-append_seam, drop-append-add}
use borrow.Author.Tests.{le-leb, lt-leb}
use Rattle.higman.specs.Text.{Bytes}
use Rattle.higman.specs.Buffers.{written, if_room, lent_into, OnlyOutputChanges}

module _ {A : Type 0} (size room : ℕ) (done short : A) where
  pub with_room : size ≤ room → if_room size room done short ≡ done
  with_room h = rw (le-leb size room h, if_room)

  pub without_room : room < size → if_room size room done short ≡ short
  without_room h = rw (lt-leb size room h, if_room)

module _ (output buffer : Bytes) where
  pub lent_written : length output ≤ length buffer → lent_into output buffer ≡ written buffer 0 output
  lent_written h = with_room (length output) (length buffer) (written buffer 0 output) buffer h

  pub lent_as_it_was : length buffer < length output → lent_into output buffer ≡ buffer
  lent_as_it_was h = without_room (length output) (length buffer) (written buffer 0 output) buffer h

pub only_output_changes : OnlyOutputChanges
only_output_changes front old rest output e =
    ap₂ (λ x y. x ++ (output ++ y)) (take-append_seam front (old ++ rest))
    (drop-append-add front (old ++ rest) (length output) ∙ ap (λ n. drop n (old ++ rest)) (sym e) ∙ drop-append_seam old rest)
