-- Library calls: what each answer says of the desk and of the lent buffer.
use Prim.Native.Nat.{ℕ, ◌+◌, ◌≤◌, ◌<◌}
use native.Mathlib.Omega.{arith}
use mathlib.Core.Path.{◌≡◌, refl, sym, ◌∙◌, ap, subst}
use mathlib.Core.Bool.{Bool, true, false}
use mathlib.Core.List.{◌++◌}
use mathlib.Core.Option.{Option, none}
use borrow.Author.Tests.{leb-true, lt-leb}
use lib.Dec.{leb, le→leb}
use lib.ListN.{length, drop, length-append, length-drop}
use Rattle.higman.specs.Refusals.{buffer_too_short, invalid_value, Letter}
use Rattle.higman.specs.Buffers.{written, if_room}
use Rattle.higman.proofs.Tests.{so, T_of}
use Rattle.higman.specs.Text.{Bytes}
use Rattle.higman.proofs.Buffers.{only_output_changes}
use Rattle.desk.specs.Desk.{Desk, IsDesk, is_desk, dropped}
use Rattle.desk.specs.Replies.{Reply, Outcome, refuse, pass, ◌>>=◌, Effect, settle}
use Rattle.desk.specs.Bytes.{reply_bytes}
use Rattle.desk.specs.Buffers.{Work, Lent, lent, output_of, desk_left, lent_call, reply_of, plain_call}
use Rattle.desk.specs.Theorems.{LentCallsExact}
use Rattle.desk.proofs.Desks.{desk_test}

-- the test for a desk, by what the desk is
desk_true : (d : Desk) → IsDesk d → is_desk d ≡ true
desk_true d h = so (is_desk d) ((desk_test d).1 h)

desk_false : (d : Desk) → (IsDesk d → ⊥) → is_desk d ≡ false
desk_false d h = go (is_desk d) refl
  where
    go : (b : Bool) → is_desk d ≡ b → b ≡ false
    go true e = absurd (h ((desk_test d).0 (T_of e)))
    go false e = refl

-- the answer to a piece of work that has been done on a desk
on_desk : Desk → Outcome Effect → Bytes → Desk × Lent
on_desk d o buffer = let l = lent buffer (output_of o) in (desk_left d o l.answer, l)

call_on_desk : (d : Desk) (work : Work) (buffer : Bytes) → IsDesk d
    → lent_call d work buffer ≡ on_desk d (work d) buffer
unfolding lent_call on_desk
call_on_desk d work buffer h = rw (desk_true d h, lent_call)

call_no_desk : (d : Desk) (work : Work) (buffer : Bytes) → is_desk d ≡ false
    → lent_call d work buffer ≡ (d, record { buffer = buffer; answer = refuse invalid_value none })
unfolding lent_call lent
call_no_desk d work buffer h = rw (h, lent_call)

lent_short : (buffer output : Bytes) → leb (length output) (length buffer) ≡ false
    → lent buffer (pass output) ≡ record { buffer = buffer; answer = refuse buffer_too_short none }
unfolding lent
lent_short buffer output e = rw (e, if_room)

lent_long : (buffer output : Bytes) → leb (length output) (length buffer) ≡ true
    → lent buffer (pass output) ≡ record { buffer = written buffer 0 output; answer = pass (length output) }
unfolding lent
lent_long buffer output e = rw (e, if_room)

no_room : (d : Desk) (e : Effect) (buffer : Bytes) → length buffer < length (reply_bytes e.1)
    → on_desk d (pass e) buffer ≡ (dropped d, record { buffer = buffer; answer = refuse buffer_too_short none })
unfolding on_desk ◌>>=◌
no_room d e buffer h =
    ap (λ l. (desk_left d (pass e) l.answer, l)) (lent_short buffer (reply_bytes e.1) (lt-leb (length (reply_bytes e.1)) (length buffer) h))

done : (d : Desk) (e : Effect) (buffer : Bytes) → length (reply_bytes e.1) ≤ length buffer
    → on_desk d (pass e) buffer
    ≡ (e.0, record { buffer = written buffer 0 (reply_bytes e.1); answer = pass (length (reply_bytes e.1)) })
unfolding on_desk ◌>>=◌
done d e buffer h =
    let output = reply_bytes e.1 in
    ap (λ l. (desk_left d (pass e) l.answer, l)) (lent_long buffer output (so (leb (length output) (length buffer)) (le→leb (length output) (length buffer) h)))

stopped : (d : Desk) (n : ℕ) (c : Option Letter) (buffer : Bytes)
    → on_desk d (refuse n c) buffer ≡ (dropped d, record { buffer = buffer; answer = refuse n c })
unfolding on_desk lent ◌>>=◌
stopped d n c buffer = refl

-- the length of a buffer after output was written to it
written_length : (buffer output : Bytes) → length output ≤ length buffer → length (written buffer 0 output) ≡ length buffer
written_length buffer output h = front_length
  where
    front_length : length (output ++ drop (0 + length output) buffer) ≡ length buffer
    front_length = omega (arith, length-append output (drop (0 + length output) buffer), length-drop (0 + length output) buffer)

abbrev IsRefusal : Outcome ℕ → Type 0
IsRefusal (refuse n c) = Unit {0}
IsRefusal (pass n) = ⊥

-- what is said of the buffer alone
record Sound (buffer : Bytes) (l : Lent) : Type 0 where
  held : IsRefusal l.answer → l.buffer ≡ buffer
  same_length : length l.buffer ≡ length buffer

lent_sound : (buffer : Bytes) (o : Outcome Bytes) → Sound buffer (lent buffer o)
unfolding lent
lent_sound buffer (refuse n c) = record { held = λ _. refl; same_length = refl }
lent_sound buffer (pass output) = by_room (leb (length output) (length buffer)) refl
  where
    by_room : (b : Bool) → leb (length output) (length buffer) ≡ b → Sound buffer (lent buffer (pass output))
    by_room true e =
        let long = written_length buffer output (leb-true (length output) (length buffer) e) in
        subst (Sound buffer) (sym (lent_long buffer output e)) (record { held = λ r. absurd r; same_length = long })
    by_room false e = subst (Sound buffer) (sym (lent_short buffer output e)) (record { held = λ _. refl; same_length = refl })

call_sound : (d : Desk) (work : Work) (buffer : Bytes) → Sound buffer (lent_call d work buffer).1
unfolding lent_call
call_sound d work buffer = go (is_desk d)
  where
    go : (b : Bool)
        → Sound buffer
        (elim b as (λ _. Desk × Lent) [
          | true ↦ (let l = lent buffer (output_of (work d)) in (desk_left d (work d) l.answer, l))
          | false ↦ (d, lent buffer (refuse invalid_value none))
        ]).1
    go true = lent_sound buffer (output_of (work d))
    go false = lent_sound buffer (refuse invalid_value none)

plain_on_desk : (d : Desk) (work : Work) → IsDesk d → plain_call d work ≡ ((settle d (work d)).0, reply_of (work d))
unfolding plain_call
plain_on_desk d work h = rw (desk_true d h, plain_call)

plain_no_desk : (d : Desk) (work : Work) → is_desk d ≡ false → plain_call d work ≡ (d, refuse invalid_value none)
unfolding plain_call
plain_no_desk d work h = rw (h, plain_call)

abbrev settled : Desk → Outcome Effect → Desk × Outcome Reply
settled d o = ((settle d o).0, reply_of o)

pub lent_calls_exact : LentCallsExact
unfolding ◌>>=◌
lent_calls_exact =
    record {
      no_desk_lem = λ d work buffer h. call_no_desk d work buffer (desk_false d h);
      refused = λ d work buffer n c h e. call_on_desk d work buffer h ∙ ap (λ o. on_desk d o buffer) e ∙ stopped d n c buffer;
      no_room = λ d work buffer e h p k. call_on_desk d work buffer h ∙ ap (λ o. on_desk d o buffer) p ∙ no_room d e buffer k;
      done = λ d work buffer e h p k. call_on_desk d work buffer h ∙ ap (λ o. on_desk d o buffer) p ∙ done d e buffer k;
      only_output = only_output_changes;
      buffer_held = λ d work buffer n c e. (call_sound d work buffer).held (subst IsRefusal (sym e) tt);
      buffer_length = λ d work buffer. (call_sound d work buffer).same_length;
      plain_no_desk = λ d work h. plain_no_desk d work (desk_false d h);
      plain_refused = λ d work n c h e. plain_on_desk d work h ∙ ap (settled d) e;
      plain_done = λ d work e h p. plain_on_desk d work h ∙ ap (settled d) p;
    }
