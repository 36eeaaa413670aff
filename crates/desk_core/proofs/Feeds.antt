-- Input fed so far: nothing, a run of bytes that ends no line, and a line with its byte 10. With room for a reply at first, what was fed
-- and what the definition does with the rest is what it does with the whole.
use Prim.Native.Nat.{ℕ, ◌+◌, ◌-◌, ◌≤◌, ◌<◌}
use mathlib.Core.Path.{◌≡◌, refl, sym, ◌∙◌, ap, subst}
use mathlib.Core.Bool.{true, false}
use mathlib.Core.Logic.{◌⊎◌, inl, inr}
use mathlib.Core.List.{List, [], ◌∷◌, ◌++◌, append_assoc, append-nil}
use native.Mathlib.Omega.{arith}
use native.Mathlib.Numerals.{add-one}
use lib.ListN.{length, take, drop, length-drop, take-append-drop, drop_of_length-le}
use lib.Seq.{length-take-le, take-add, take_all, drop-cons, drop-drop}
use Rattle.higman.specs.Text.{Bytes, line_end}
use Rattle.higman.specs.Buffers.{written}
use Rattle.words.specs.Writing.{Wrote}
use Rattle.words.proofs.Runs.{wrote_then}
use Rattle.desk.specs.Limits.{max_line}
use Rattle.desk.specs.Desk.{Desk}
use Rattle.desk.specs.Replies.{Effect, respond_line}
use Rattle.desk.specs.Bytes.{reply_bytes}
use Rattle.desk.specs.Session.{State as StateOf, idle, is_idle, effect_of, feed}
use Rattle.desk.specs.Feeds.{Fed as FedLines, stopped_at, behind, fed_within, then_within}
use Rattle.desk.proofs.Session.{feed_append, Begun, begun_effect, fed_line, quiet, fed_last, begun_one}
use Rattle.desk.proofs.LinesWithin.{stops, stops_without_room, goes_on_with_room, line_within, begun_within}
use Rattle.replies.specs.Sizes.{max_reply}
use Rattle.replies.proofs.Images.{written_lent}
use Rattle.replies.proofs.EveryReply.{replies_fit}
use Rattle.slots.specs.Desks.{desk_of}
use Rattle.slots.proofs.Windows.{written_length}
use Rattle.lines.specs.declared.Stepped.{Stepped}
use Rattle.desk_core.specs.declared.feeding.Begun.{Begun as Grown}
use Rattle.desk_core.specs.declared.feeding.State.{State}
use Rattle.lines.specs.Lines.{Answered}
use Rattle.desk_core.specs.Feeding.{state_of, HoldsState, fed_up_to, FedTo, LineEnd, grown_line, grown_at, GrownBy}
use Rattle.desk_core.proofs.Runs.{run_next}
use Rattle.desk_core.proofs.Grown.{begun_grows, some_line}

pub reply_limit : max_reply ≡ 5127
unfolding max_reply
reply_limit = refl

behind_again : (x y : Bytes) (w : FedLines) → behind x (behind y w) ≡ behind (x ++ y) w
behind_again x y w =
    ap (λ z. record { desk = w.desk; overlong = w.overlong; rest = w.rest; output = z }) (sym (append_assoc x y w.output))

module _ (s₀ : State) (input out₀ : List ℕ) where
  fed_start : HoldsState s₀ → FedTo s₀ input out₀ s₀ 0 out₀ 0
  unfolding feed
  fed_start H =
      record { holds = H; taken = omega arith; room = omega arith; long = refl; state = refl; wrote = record { place = refl; contents = refl } }

  -- the definition, from a state on
  abbrev onward : StateOf → ℕ → ℕ → FedLines
  onward s at used = fed_within max_reply (length out₀ - used) s (drop at input)

  -- what was written
  abbrev output : ℕ → Bytes
  output at = (feed (state_of s₀) (take at input)).1

  -- at a turn of the loop: so much was fed, a line begins here or nothing was written, and the rest is left to the definition
  pub record Turn (s : State) (at : ℕ) (out : List ℕ) (used : ℕ) : Type 0 where
    pub fed : FedTo s₀ input out₀ s at out used
    pub begins : (used ≡ 0) ⊎ (is_idle (state_of s) ≡ true)
    pub within : max_reply ≤ length out₀
        → fed_within max_reply (length out₀) (state_of s₀) input ≡ behind (output at) (onward (state_of s) at used)

  pub turn_start : HoldsState s₀ → Turn s₀ 0 out₀ 0
  unfolding feed
  turn_start H =
      let all : length out₀ ≡ length out₀ - 0 = omega arith in
      record { fed = fed_start H; begins = inl refl; within = λ _. ap (λ n. fed_within max_reply n (state_of s₀) input) all }

  -- where the loop ends
  abbrev AllWithin : State → ℕ → Type 0
  AllWithin s at =
      max_reply ≤ length out₀ → fed_within max_reply (length out₀) (state_of s₀) input ≡ fed_up_to (state_of s) input at (output at)

  fed_up_to_fact : (s : State) (at : ℕ) (out : List ℕ) (used : ℕ) → Turn s at out used
      → onward (state_of s) at used ≡ stopped_at (state_of s) (drop at input) → AllWithin s at
  fed_up_to_fact s at out used k e h =
      k.within h ∙ ap (behind (output at)) e ∙ ap (fed_up_to (state_of s) input at) (append-nil (output at))

  module _ (s : State) (at : ℕ) (out : List ℕ) (used : ℕ) (k : Turn s at out used) where
    -- no room for a reply
    pub stopped_within : length out - used < max_reply → AllWithin s at
    stopped_within few h = fed_up_to_fact s at out used k (by k.begins) h
      where
        none : length out₀ - used < max_reply
        none = omega (arith, k.fed.long)

        by : (used ≡ 0) ⊎ (is_idle (state_of s) ≡ true) → onward (state_of s) at used ≡ stopped_at (state_of s) (drop at input)
        by (inl q) = absurd (omega (arith, q, none, h))
        by (inr q) =
            stops max_reply (length out₀ - used) (state_of s) (drop at input)
            (stops_without_room max_reply (length out₀ - used) (state_of s) q none)

    -- no input left
    pub ended_within : length input ≤ at → AllWithin s at
    unfolding fed_within
    ended_within all h = fed_up_to_fact s at out used k nothing_left h
      where
        nothing_left : onward (state_of s) at used ≡ stopped_at (state_of s) (drop at input)
        nothing_left = rw (drop_of_length-le input all)

  module _ (s : State) (at : ℕ) (out : List ℕ) (used : ℕ) (k : Turn s at out used) (end : ℕ) (e : LineEnd input at end) where
    abbrev part : Bytes
    part = take (end - at) (drop at input)

    abbrev d : Desk
    d = desk_of s.head s.columns

    abbrev before : StateOf × Bytes
    before = feed (state_of s₀) (take at input)

    -- the line that has begun
    line_of_lem : (x : Bytes) × Begun d (state_of s) x
    unfolding state_of
    line_of_lem =
        let held = length-take-le s.begun s.line (omega (arith, k.fed.holds.lined, k.fed.holds.fits)) in
        some_line d (take s.begun s.line) s.overlong (omega (arith, held, k.fed.holds.fits))
        (λ q. ap (λ n. take n s.line) (k.fed.holds.let_go q))

    -- what was fed and some bytes more
    more : (y : Bytes) → feed (state_of s₀) (take at input ++ y)
        ≡ ((feed (state_of s) y).0, before.1 ++ (feed (state_of s) y).1)
    more y =
        feed_append (state_of s₀) (take at input) y
        ∙ ap (λ z. ((feed z y).0, before.1 ++ (feed z y).1)) (sym k.fed.state)

    taken_part : take end input ≡ take at input ++ part
    taken_part =
        let whole : end ≡ at + (end - at) = omega (arith, e.from) in
        ap (λ n. take n input) whole ∙ take-add at (end - at) input

    -- and the room is what the definition has
    room_left : max_reply ≤ length out - used → max_reply ≤ length out₀ - used
    room_left room = omega (arith, k.fed.long)

    -- the rest of the input begins a line, or goes on with one
    module _ (r : Grown) (line' : List ℕ) (g : GrownBy s.line s.begun s.overlong part r line') where
      abbrev grown : State
      grown = record { head = s.head; columns = s.columns; line = line'; begun = r.begun; overlong = r.overlong }

      fed_part : feed (state_of s₀) (take end input) ≡ ((feed (state_of s) part).0, before.1 ++ (feed (state_of s) part).1)
      fed_part = ap (feed (state_of s₀)) taken_part ∙ more part

      grown_state : state_of grown ≡ (feed (state_of s) part).0
      unfolding state_of
      grown_state =
          let (x, b) = line_of_lem in
          let grows : Begun d (grown_at s.head s.columns (take r.begun line', r.overlong)) (x ++ part) =
          subst (λ z. Begun d (grown_at s.head s.columns z) (x ++ part)) (sym g.grown) (begun_grows b part) in
          begun_one grows (fed_last part b e.line)

      nothing_written : output end ≡ output at
      nothing_written =
          ap (λ (z : StateOf × Bytes). z.1) fed_part
          ∙ ap (λ z. before.1 ++ z) (quiet (state_of s) part e.line)
          ∙ append-nil before.1

      pub fed_rest : FedTo s₀ input out₀ grown end out used
      fed_rest =
          record {
            holds = record { holds = k.fed.holds.holds; lined = g.held.lined; fits = g.held.fits; let_go = g.held.let_go };
            taken = e.inside;
            room = k.fed.room;
            long = k.fed.long;
            state = grown_state ∙ sym (ap (λ (z : StateOf × Bytes). z.0) fed_part);
            wrote = subst (λ z. Wrote z out₀ 0 out used) (sym nothing_written) k.fed.wrote;
          }

      rest_onward : length input ≤ end → max_reply ≤ length out - used
          → onward (state_of s) at used ≡ stopped_at (feed (state_of s) part).0 []
      rest_onward all room =
          let last : drop at input ≡ part = sym (take_all (end - at) (drop at input) (omega (arith, length-drop at input))) in
          ap (fed_within max_reply (length out₀ - used) (state_of s)) last
          ∙ begun_within max_reply (length out₀ - used) (state_of s) part e.line
          (goes_on_with_room max_reply (length out₀ - used) (state_of s) (room_left room))

      pub rest_within : length input ≤ end → max_reply ≤ length out - used → AllWithin grown end
      rest_within all room h =
          let state = sym grown_state in
          let none = sym (drop_of_length-le input all) in
          let same = append-nil (output at) ∙ sym nothing_written in
          k.within h
          ∙ ap (behind (output at)) (rest_onward all room)
          ∙ (λ i. record { desk = (state i).desk; overlong = (state i).overlong; rest = (state i).line ++ none i; output = same i })

    -- a line with its byte 10
    module _ (inside : end < length input) (room : max_reply ≤ length out - used) (r : Stepped) (columns' line' back : List ℕ) (lined : length line' ≡ max_line)
        (a : Answered (effect_of (grown_at s.head s.columns (grown_line (take s.begun s.line) s.overlong part))) (take (length out - used) (drop used out)) r columns' back) where
      abbrev effect : Effect
      effect = respond_line d (line_of_lem.0 ++ part)

      is_effect : effect_of (grown_at s.head s.columns (grown_line (take s.begun s.line) s.overlong part)) ≡ effect
      unfolding state_of
      is_effect = begun_effect (begun_grows line_of_lem.1 part)

      abbrev reply : Bytes
      reply = reply_bytes effect.1

      answered : Answered effect (take (length out - used) (drop used out)) r columns' back
      answered = subst (λ z. Answered z (take (length out - used) (drop used out)) r columns' back) is_effect a

      taken_line : take (end + 1) input ≡ take at input ++ (part ++ line_end ∷ [])
      taken_line =
          let whole : end + 1 ≡ at + (end + 1 - at) = omega (arith, e.from) in
          ap (λ n. take n input) whole
          ∙ take-add at (end + 1 - at) input
          ∙ ap (λ z. take at input ++ z) (run_next input at end e.from inside ∙ ap (λ z. part ++ (z ∷ [])) (e.ended inside))

      fed : feed (state_of s₀) (take (end + 1) input) ≡ (idle effect.0, before.1 ++ reply)
      unfolding feed
      fed =
          ap (feed (state_of s₀)) taken_line
          ∙ more (part ++ line_end ∷ [])
          ∙ ap (λ (z : StateOf × Bytes). (z.0, before.1 ++ z.1)) (fed_line part [] line_of_lem.1 e.line)
          ∙ ap (λ z. (idle effect.0, before.1 ++ z)) (append-nil reply)

      -- the whole output
      abbrev out' : List ℕ
      out' = take used out ++ (back ++ drop (length out - used) (drop used out))

      small : length reply ≤ length out - used
      small =
          let fits = replies_fit.every_reply d k.fed.holds.holds.is_desk_lem (line_of_lem.0 ++ part) in
          omega (arith, fits)

      whole : out' ≡ written out used reply
      whole = written_lent out reply back used answered.wrote.contents

      run : Wrote reply out used out' (used + r.used)
      run = record { place = ap (λ n. used + n) (answered.wrote.place ∙ omega arith); contents = whole }

      abbrev next : State
      next = record { head = r.head; columns = columns'; line = line'; begun = 0; overlong = false }

      count : r.used ≡ length reply
      count = answered.wrote.place ∙ omega arith

      next_state : state_of next ≡ idle effect.0
      unfolding state_of
      next_state = ap idle answered.desk

      fed_ended : FedTo s₀ input out₀ next (end + 1) out' (used + r.used)
      unfolding state_of
      fed_ended =
          let size : length out' ≡ length out = ap length whole ∙ written_length out used reply (omega (arith, small, k.fed.room)) in
          record {
            holds = record { holds = answered.holds; lined = lined; fits = omega arith; let_go = λ _. refl };
            taken = omega arith;
            room = omega (arith, size, small, k.fed.room, count);
            long = size ∙ k.fed.long;
            state = next_state ∙ sym (ap (λ (z : StateOf × Bytes). z.0) fed);
            wrote =
                subst (λ z. Wrote z out₀ 0 out' (used + r.used)) (sym (ap (λ (z : StateOf × Bytes). z.1) fed))
                (wrote_then (omega arith) k.fed.wrote run);
          }

      -- the definition answers the same line
      line_there : drop at input ≡ part ++ line_end ∷ drop (end + 1) input
      line_there =
          let place : at + (end - at) ≡ end = omega (arith, e.from) in
          sym (take-append-drop (end - at) (drop at input))
          ∙ ap (λ z. part ++ z) (drop-drop (end - at) at input ∙ ap (λ n. drop n input) place ∙ drop-cons input end 0 inside)
          ∙ (λ i. part ++ e.ended inside i ∷ drop (sym (add-one end) i) input)

      line_onward : onward (state_of s) at used ≡ then_within max_reply (length out₀ - used) effect (drop (end + 1) input)
      line_onward =
          ap (fed_within max_reply (length out₀ - used) (state_of s)) line_there
          ∙ line_within max_reply (length out₀ - used) part (drop (end + 1) input) line_of_lem.1 e.line
          (goes_on_with_room max_reply (length out₀ - used) (state_of s) (room_left room))

      pub turn_ended : Turn next (end + 1) out' (used + r.used)
      turn_ended = record { fed = fed_ended; begins = inr (ap is_idle next_state); within = within }
        where
          within : max_reply ≤ length out₀
              → fed_within max_reply (length out₀) (state_of s₀) input
              ≡ behind (output (end + 1)) (onward (state_of next) (end + 1) (used + r.used))
          within h =
              let rest = length out₀ - used - length reply in
              let less : rest ≡ length out₀ - (used + r.used) = omega (arith, count) in
              let wrote = sym (ap (λ (z : StateOf × Bytes). z.1) fed) in
              let state = sym next_state in
              k.within h
              ∙ ap (behind (output at)) line_onward
              ∙ behind_again (output at) reply (fed_within max_reply rest (idle effect.0) (drop (end + 1) input))
              ∙ (λ i. behind (wrote i) (fed_within max_reply (less i) (state i) (drop (end + 1) input)))
