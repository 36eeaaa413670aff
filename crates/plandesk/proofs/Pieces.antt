-- A piece that is fed in parts, and pieces one after the other: each part is taken whole or leaves no room, so that with room for the
-- longest reply some of it is taken; what is fed to a state that was reached reaches further; and the replies to it come behind those that
-- came before.
use Rattle.std.proofs.Common.{◌≡◌, ℕ, zero, suc, ◌+◌, ◌-◌, ◌≤◌, ◌<◌, Bool, true, false, List, [], ◌++◌, Option, length, take, drop, refl, sym, ap, ◌∙◌, subst, arith, length-drop, take-add, take_all, take-append-drop, true≢false}
use lib.Seq.{take-append_seam}
use Rattle.std.specs.Io.KnownBytes.{Keeps, Appends}
use Rattle.std.proofs.KnownBytes.{Appends-nil, Appends-trans, Consumes-nil, Consumes-kept, Consumes-trans}
use Rattle.higman.specs.Buffers.{written}
use Rattle.desk.specs.Session.{State as StateOf, feed}
use Rattle.desk.proofs.Session.{feed_append}
use Rattle.replies.specs.Sizes.{max_reply}
use Rattle.desk_core.specs.declared.feeding.State.{State}
use Rattle.desk_core.specs.declared.feeding.Fed.{Fed}
use Rattle.desk_core.specs.Feeding.{state_of, HoldsState, FedBy}
use Rattle.plandesk.specs.Session.{FedAll, ReachedFrom, replies_of, Sent, Conversed}
use Rattle.plandesk.proofs.Known.{appends_of_sent, sent_whole, sent_behind, sent_of_front}

-- some bytes and then some more
fed_then : (s t : StateOf) (x y : List ℕ) → t ≡ (feed s x).0 → (feed t y).0 ≡ (feed s (x ++ y)).0
fed_then s t x y e =
    ap (λ z. (feed z y).0) e ∙ sym (ap (λ (z : StateOf × List ℕ). z.0) (feed_append s x y))

replied_then : (s t : StateOf) (x y : List ℕ) → t ≡ (feed s x).0 → (feed s (x ++ y)).1 ≡ (feed s x).1 ++ (feed t y).1
replied_then s t x y e =
    ap (λ (z : StateOf × List ℕ). z.1) (feed_append s x y) ∙ ap (λ z. (feed s x).1 ++ (feed z y).1) (sym e)

pub fed_none : (s : State) → HoldsState s → FedAll s [] s
unfolding feed
fed_none s H = record { holds = H; state = refl }

positive : (n : ℕ) → (n ≡ 0 → ⊥) → 0 < n
positive zero h = absurd (h refl)
positive (suc n) h = omega arith

-- so much of a piece was fed, and the replies to it were written
pub record FedUpTo (s₀ : State) (piece : List ℕ) (held held' : Option (List ℕ)) (at : ℕ) (s : State) : Type 0 where
  pub inside : at ≤ length piece
  pub fed : FedAll s₀ (take at piece) s
  pub replied : Appends held held' (replies_of s₀ (take at piece))

-- what was written is what stands at the front of the buffer
pub written_front : (bytes buffer buffer' : List ℕ) (end : ℕ) → end ≡ 0 + length bytes → buffer' ≡ written buffer 0 bytes → take end buffer' ≡ bytes
written_front bytes buffer buffer' end place contents =
    let e : end ≡ length bytes = omega arith in
    ap (λ n. take n buffer') e ∙ ap (take (length bytes)) contents ∙ take-append_seam bytes (drop (0 + length bytes) buffer)

module _ (s₀ : State) (piece : List ℕ) (held : Option (List ℕ)) where
  pub up_to_start : HoldsState s₀ → FedUpTo s₀ piece held held 0 s₀
  unfolding feed
  up_to_start H = record { inside = omega arith; fed = fed_none s₀ H; replied = Appends-nil held }

  module _ (held₁ : Option (List ℕ)) (at : ℕ) (s : State) (u : FedUpTo s₀ piece held held₁ at s) (out : List ℕ) (r : Fed)
      (out' : List ℕ) (f : FedBy s (take (length piece - at) (drop at piece)) out r out') where
    abbrev rest : List ℕ
    rest = take (length piece - at) (drop at piece)

    whole_rest : rest ≡ drop at piece
    whole_rest = take_all (length piece - at) (drop at piece) (omega (arith, length-drop at piece))

    -- the replies to what was taken come behind the replies before
    replies_next : replies_of s₀ (take (at + r.taken) piece) ≡ replies_of s₀ (take at piece) ++ take r.used out'
    replies_next =
        ap (replies_of s₀) (take-add at r.taken piece)
        ∙ replied_then (state_of s₀) (state_of s) (take at piece) (take r.taken (drop at piece)) u.fed.state
        ∙ ap (λ x. replies_of s₀ (take at piece) ++ (feed (state_of s) (take r.taken x)).1) (sym whole_rest)
        ∙ ap (λ x. replies_of s₀ (take at piece) ++ x) (sym (written_front _ out out' r.used f.fed.wrote.place f.fed.wrote.contents))

    pub up_to_next : (held₂ : Option (List ℕ)) → Sent held₁ held₂ (take r.used out') true → FedUpTo s₀ piece held held₂ (at + r.taken) r.state
    up_to_next held₂ sent =
        let long : length rest ≡ length piece - at = ap length whole_rest ∙ length-drop at piece in
        record {
          inside = omega (arith, u.inside, f.fed.taken, long);
          fed = record {
            holds = f.fed.holds;
            state = f.fed.state
                ∙ ap (λ x. (feed (state_of s) (take r.taken x)).0) whole_rest
                ∙ fed_then (state_of s₀) (state_of s) (take at piece) (take r.taken (drop at piece)) u.fed.state
                ∙ ap (λ x. (feed (state_of s₀) x).0) (sym (take-add at r.taken piece));
          };
          replied = subst (Appends held held₂) (sym replies_next)
              (Appends-trans held held₁ held₂ _ _ u.replied (appends_of_sent held₁ held₂ _ sent));
        }

    -- what was written where a write failed is a beginning of the replies to all of the piece
    pub replied_part : (held₂ : Option (List ℕ)) → Sent held₁ held₂ (take r.used out') false → Sent held held₂ (replies_of s₀ piece) false
    replied_part held₂ sent =
        let front = take (at + r.taken) piece in
        let back = drop (at + r.taken) piece in
        let all : replies_of s₀ piece ≡ (replies_of s₀ (take at piece) ++ take r.used out') ++ (feed (feed (state_of s₀) front).0 back).1 =
        ap (replies_of s₀) (sym (take-append-drop (at + r.taken) piece))
        ∙ replied_then (state_of s₀) (feed (state_of s₀) front).0 front back refl
        ∙ ap (λ x. x ++ (feed (feed (state_of s₀) front).0 back).1) replies_next in
        subst (λ x. Sent held held₂ x false) (sym all)
        (sent_of_front held held₂ _ _ false false (sent_behind held held₁ held₂ _ _ false u.replied sent) (λ e. true≢false (sym e)))

    -- nothing taken is nothing written, and so there was room
    none_written : r.taken ≡ 0 → r.used ≡ 0
    unfolding feed
    none_written e =
        let none : length (feed (state_of s) (take r.taken rest)).1 ≡ 0 =
        ap (λ n. length (feed (state_of s) (take n rest)).1) e in
        omega (arith, f.fed.wrote.place, none)

    pub takes_some : max_reply ≤ length out → at < length piece → 0 < r.taken
    takes_some room more =
        let long : length rest ≡ length piece - at = ap length whole_rest ∙ length-drop at piece in
        let full : r.taken ≡ 0 → length out < r.used + max_reply =
        λ e. f.stopped (λ q. omega (arith, e, q, long, more)) in
        positive r.taken (λ e. omega (arith, none_written e, full e, room))

-- ---- what was read, fed and answered, and then some more

-- nothing was read
pub conversed_start : (s : State) (left left' held : Option (List ℕ)) (whole : Bool) → HoldsState s → Keeps left left'
    → Conversed s left left' held held whole s
unfolding feed
conversed_start s left left' held whole H kept =
    record {
      input = [];
      read = Consumes-kept left left left' [] (Consumes-nil left) kept;
      fed = λ e. fed_none s H;
      replied = sent_whole held held [] (Appends-nil held) whole;
    }

pub conversed_next : (s : State) (a b h k : Option (List ℕ)) (t : State) (c m : Option (List ℕ)) (whole : Bool) (u : State)
    → Conversed s a b h k true t → Conversed t b c k m whole u → Conversed s a c h m whole u
conversed_next s a b h k t c m whole u p q =
    let e = p.fed refl in
    let replies : replies_of s (p.input ++ q.input) ≡ replies_of s p.input ++ replies_of t q.input =
    replied_then (state_of s) (state_of t) p.input q.input e.state in
    record {
      input = p.input ++ q.input;
      read = Consumes-trans a b c p.input q.input p.read q.read;
      fed = λ w.
          let f = q.fed w in
          record {
            holds = f.holds;
            state = f.state ∙ fed_then (state_of s) (state_of t) p.input q.input e.state;
          };
      replied = subst (λ x. Sent h m x whole) (sym replies)
          (sent_behind h k m _ _ whole (appends_of_sent h k _ p.replied) q.replied);
    }

pub reached_of : (s : State) (left left' held held' : Option (List ℕ)) (t : State) → Conversed s left left' held held' true t → ReachedFrom s t
reached_of s left left' held held' t k = record { input = k.input; fed = k.fed refl }
