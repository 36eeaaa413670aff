-- Bytes that a writer holds and a reader has left, after calls that move nothing and after calls that move some.
use Rattle.std.proofs.Common.{◌≡◌, ℕ, ◌+◌, ◌-◌, ◌≤◌, Bool, true, true≢false, List, [], ◌++◌, length, take, drop, Option, Result, Ok, Err, IsErr, is_ok, refl, sym, ap, ◌∙◌, subst, append-nil, append_assoc, take-append-drop, take-add, drop_of_length-le}
use Rattle.std.proofs.lemmas.List.{take_rest}
use Rattle.std.specs.Io.KnownBytes.{Appends}
use Rattle.std.proofs.KnownBytes.{Appends-trans}
use Rattle.plandesk.specs.Session.{Sent}

-- an error is no `Ok`
pub not_ok : {A E : Type 0} (r : Result A E) → IsErr r → is_ok r ≡ true → ⊥
not_ok (Ok x) h e = true≢false (sym h)
not_ok (Err x) h e = true≢false (sym e)

-- ---- some bytes sent, and then some more

pub sent_whole : (a b : Option (List ℕ)) (bytes : List ℕ) → Appends a b bytes → (w : Bool) → Sent a b bytes w
sent_whole a b bytes p w = record { sent = bytes; rest = []; appended = p; begin = sym (append-nil bytes); all = λ e. refl }

pub appends_of_sent : (a b : Option (List ℕ)) (bytes : List ℕ) → Sent a b bytes true → Appends a b bytes
appends_of_sent a b bytes s = subst (Appends a b) (sym (s.begin ∙ ap (λ l. s.sent ++ l) (s.all refl) ∙ append-nil s.sent)) s.appended

-- the last of some bytes, and a beginning of what comes behind them
pub sent_behind : (a b c : Option (List ℕ)) (x y : List ℕ) (w : Bool) → Appends a b x → Sent b c y w → Sent a c (x ++ y) w
sent_behind a b c x y w p s =
    record {
      sent = x ++ s.sent;
      rest = s.rest;
      appended = Appends-trans a b c x s.sent p s.appended;
      begin = ap (λ l. x ++ l) s.begin ∙ sym (append_assoc x s.sent s.rest);
      all = s.all;
    }

-- a beginning of some bytes is one of all that comes behind them, too
pub sent_of_front : (a b : Option (List ℕ)) (x y : List ℕ) (w v : Bool) → Sent a b x w → (v ≡ true → ⊥) → Sent a b (x ++ y) v
sent_of_front a b x y w v s n =
    record {
      sent = s.sent;
      rest = s.rest ++ y;
      appended = s.appended;
      begin = ap (λ l. l ++ y) s.begin ∙ append_assoc s.sent s.rest y;
      all = λ e. absurd (n e);
    }

-- one more write, of some of what is left
pub sent_more : (a b c : Option (List ℕ)) (bytes : List ℕ) (at n : ℕ) → Appends a b (take at bytes)
    → Appends b c (take n (take (length bytes - at) (drop at bytes))) → Appends a c (take (at + n) bytes)
sent_more a b c bytes at n p q =
    let q' : Appends b c (take n (drop at bytes)) = subst (λ x. Appends b c (take n x)) (take_rest bytes at) q in
    subst (Appends a c) (sym (take-add at n bytes)) (Appends-trans a b c _ _ p q')

-- a beginning, where a write failed
pub sent_up_to : (a b : Option (List ℕ)) (bytes : List ℕ) (at : ℕ) (w : Bool) → Appends a b (take at bytes) → (w ≡ true → length bytes ≤ at)
    → Sent a b bytes w
sent_up_to a b bytes at w p h =
    record {
      sent = take at bytes;
      rest = drop at bytes;
      appended = p;
      begin = sym (take-append-drop at bytes);
      all = λ e. let k : length bytes ≤ at = h e in drop_of_length-le bytes {i = at} k;
    }
