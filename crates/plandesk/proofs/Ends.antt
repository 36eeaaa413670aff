-- A whole session: what was read to its end from a fresh desk on, and its end. Where a call failed, what was written is a beginning of
-- the replies to all of the input.
use Rattle.std.proofs.Common.{◌≡◌, List, ℕ, ◌++◌, Bool, true, false, Option, None, Some, IfSome, refl, sym, ap, ◌∙◌, subst, append-nil, append_assoc, Result, IsErr, is_ok}
use Rattle.std.specs.Io.KnownBytes.{IsAtEnd}
use Rattle.desk.specs.Desk.{fresh_desk}
use Rattle.desk.specs.Session.{State as StateOf, idle, feed, finish, session, fed_whole}
use Rattle.desk.proofs.Session.{feed_append, session_fed}
use Rattle.desk_core.specs.declared.feeding.State.{State}
use Rattle.desk_core.specs.Feeding.{state_of}
use Rattle.plandesk.specs.Session.{replies_of, Sent, Conversed}
use Rattle.plandesk.proofs.Known.{not_ok, appends_of_sent, sent_behind, sent_of_front}

-- a session is what is fed whole from a fresh desk on
session_from : (s : State) → state_of s ≡ idle fresh_desk → (input : List ℕ) → session input ≡ fed_whole (state_of s) input
session_from s e input = sym (session_fed input) ∙ ap (λ x. fed_whole x input) (sym e)

pub session_ended : (s : State) (a b h k m : Option (List ℕ)) (whole : Bool) (t : State) → state_of s ≡ idle fresh_desk
    → Conversed s a b h k true t → IsAtEnd b → (last : List ℕ) → last ≡ (finish (state_of t)).1 → Sent k m last whole
    → IfSome a (λ input. Sent h m (session input) whole)
session_ended s None b h k m whole t fresh c end last e sent = tt
session_ended s (Some x) None h k m whole t fresh c end last e sent = absurd c.read
session_ended s (Some x) (Some y) h k m whole t fresh c end last e sent =
    let all : x ≡ c.input = c.read ∙ ap (λ l. c.input ++ l) end ∙ append-nil c.input in
    let written : session x ≡ replies_of s c.input ++ last =
    ap session all ∙ session_from s fresh c.input ∙ ap (λ z. replies_of s c.input ++ (finish z).1) (sym (c.fed refl).state)
    ∙ ap (λ z. replies_of s c.input ++ z) (sym e) in
    subst (λ z. Sent h m z whole) (sym written) (sent_behind h k m _ _ whole (appends_of_sent h k _ c.replied) sent)

pub session_cut : (s : State) (a b h k : Option (List ℕ)) (t : State) → state_of s ≡ idle fresh_desk → Conversed s a b h k false t
    → {A E : Type 0} (r : Result A E) → IsErr r → IfSome a (λ input. Sent h k (session input) (is_ok r))
session_cut s None b h k t fresh c r err = tt
session_cut s (Some x) None h k t fresh c r err = absurd c.read
session_cut s (Some x) (Some y) h k t fresh c r err =
    let u = feed (state_of s) c.input in
    let v = feed u.0 y in
    let written : session x ≡ replies_of s c.input ++ (v.1 ++ (finish v.0).1) =
    ap session c.read ∙ session_from s fresh (c.input ++ y)
    ∙ ap (λ (r : StateOf × List ℕ). r.1 ++ (finish r.0).1) (feed_append (state_of s) c.input y)
    ∙ append_assoc u.1 v.1 (finish v.0).1 in
    subst (λ z. Sent h k z (is_ok r)) (sym written) (sent_of_front h k _ _ false (is_ok r) c.replied (not_ok r err))
