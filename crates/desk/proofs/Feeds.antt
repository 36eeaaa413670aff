-- A piece of input with many lines, as a whole (FeedsExact): byte by byte, by what is held of a line on the way. What was taken is what was
-- fed, and the room lasts for the replies.
use Prim.Native.Nat.{ℕ, ◌+◌, ◌-◌, ◌≤◌, ◌<◌, zero-le}
use native.Mathlib.Omega.{arith}
use mathlib.Core.Path.{◌≡◌, refl, sym, ◌∙◌, ap, subst}
use mathlib.Core.Bool.{Bool, true, false, not, ◌&&◌, true≢false}
use mathlib.Core.List.{[], ◌∷◌, ◌++◌, append_assoc, append-nil}
use borrow.Author.Tests.{ltb-true, ltb-false, eqb-true}
use lib.Dec.{T, eqb, ltb}
use lib.ListN.{length, length-append}
use Rattle.higman.specs.Text.{line_end, Bytes}
use Rattle.higman.proofs.Tests.{T_of, all_snoc}
use Rattle.desk.specs.Limits.{max_line}
use Rattle.desk.specs.Desk.{Desk, IsDesk}
use Rattle.desk.specs.Replies.{Effect, respond_line}
use Rattle.desk.specs.Bytes.{reply_bytes}
use Rattle.desk.specs.Session.{unended, State, idle, is_idle, with_byte, effect_of, feed, finish, fed_whole}
use Rattle.desk.specs.Theorems.{then_fed}
use Rattle.desk.specs.Feeds.{Fed, between, stopped_at, stops_at, fed_within, then_within, TakenOf, LongestReply, FeedsExact}
use Rattle.desk.proofs.Stays.{desk_stays}
use Rattle.desk.proofs.Session.{feed_append, Begun, kept, lost, long_line, long_length, begun_effect, byte_ends, byte_inside}
use Rattle.desk.proofs.Session.{fed_line, quiet, fed_last, begun_one}
use Rattle.desk.proofs.LinesWithin.{stops, ends_line, inside_line, by_lines}

-- what may be held of a line on the way: its bytes, none of them 10, or that it is too long
data HeldOf : State → Type 0 where
  short : (d : Desk) (l : Bytes) → T (unended l) → length l ≤ max_line → HeldOf (record { desk = d; line = l; overlong = false })
  over : (d : Desk) → HeldOf (between d true)

held_idle : (d : Desk) → HeldOf (idle d)
held_idle d = short d [] tt zero-le

held_between : (d : Desk) (overlong : Bool) → HeldOf (between d overlong)
held_between d true = over d
held_between d false = held_idle d

unended_held : {s : State} → HeldOf s → T (unended (s.line ++ []))
unended_held (short d l u h) = subst (λ x. T (unended x)) (sym (append-nil l)) u
unended_held (over d) = tt

-- it is answered as some line is
line_of_held : {s : State} → HeldOf s → (x : Bytes) × (effect_of s ≡ respond_line s.desk x)
line_of_held (short d l u h) = (l, refl)
line_of_held (over d) = (long_line, begun_effect (lost long_line long_length))

effect_stays : {s : State} → HeldOf s → IsDesk s.desk → IsDesk (effect_of s).0
effect_stays {s} h D =
    let (x, e) = line_of_held h in
    subst (λ (y : Effect). IsDesk y.0) (sym e) (desk_stays.line s.desk x D)

-- a byte that ends no line
with_byte_desk : (s : State) (b : ℕ) → (with_byte s b).desk ≡ s.desk
with_byte_desk s b = by s.overlong refl (ltb (length s.line) max_line) refl
  where
    by : (o : Bool) → s.overlong ≡ o → (r : Bool) → ltb (length s.line) max_line ≡ r → (with_byte s b).desk ≡ s.desk
    by true e r q = rw (e, with_byte)
    by false e true q = rw (e, with_byte) (rw (q, with_byte))
    by false e false q = rw (e, with_byte) (rw (q, with_byte))

module _ (d : Desk) (l : Bytes) (u : T (unended l)) (b : ℕ) (e : eqb b line_end ≡ false) where
  abbrev held : State
  held = record { desk = d; line = l; overlong = false }

  abbrev longer : Bytes
  longer = l ++ (b ∷ [])

  unended_longer : T (unended longer)
  unended_longer = all_snoc (λ c. not (eqb c line_end)) l b u (T_of (ap not e))

  with_byte_short : ltb (length l) max_line ≡ true → with_byte held b ≡ record { desk = d; line = longer; overlong = false }
  with_byte_short q = rw (q, with_byte)

  with_byte_long : ltb (length l) max_line ≡ false → with_byte held b ≡ between d true
  with_byte_long q = rw (q, with_byte)

  longer_fits : ltb (length l) max_line ≡ true → length longer ≤ max_line
  longer_fits q = omega (arith, ltb-true (length l) max_line q, length-append l (b ∷ []))

  -- fed from its beginning it is let go
  longer_let_go : ltb (length l) max_line ≡ false → feed (idle d) longer ≡ (between d true, [])
  longer_let_go q =
      let long : max_line < length longer = omega (arith, ltb-false (length l) max_line q, length-append l (b ∷ [])) in
      let state = begun_one (fed_last longer (kept [] zero-le) unended_longer) (lost longer long) in
      let silent = quiet (idle d) longer unended_longer in
      λ i. (state i, silent i)

held_with_byte : {s : State} → HeldOf s → (b : ℕ) → eqb b line_end ≡ false → HeldOf (with_byte s b)
held_with_byte (over d) b e = over d
held_with_byte (short d l u h) b e = by (ltb (length l) max_line) refl
  where
    by : (t : Bool) → ltb (length l) max_line ≡ t → HeldOf (with_byte (held d l u b e) b)
    by true q =
        let more = short d (l ++ (b ∷ [])) (unended_longer d l u b e) (longer_fits d l u b e q) in
        subst HeldOf (sym (with_byte_short d l u b e q)) more
    by false q = subst HeldOf (sym (with_byte_long d l u b e q)) (over d)

-- what is held, the end of its line and the rest, fed from its beginning
held_ended : {s : State} → HeldOf s → (b : ℕ) (rest : Bytes) → eqb b line_end ≡ true
    → feed (between s.desk s.overlong) (s.line ++ b ∷ rest) ≡ then_fed (effect_of s) rest
held_ended (short d l u h) b rest e =
    ap (λ c. feed (idle d) (l ++ c ∷ rest)) (eqb-true b line_end e) ∙ fed_line l rest (kept [] zero-le) u
held_ended (over d) b rest e =
    unfold feed in ap (λ (r : State × Bytes). let q = feed r.0 rest in (q.0, r.1 ++ q.1)) (byte_ends (between d true) b e)

-- the bytes that were taken, from the beginning of the line on
abbrev TakenFrom : State → Bytes → Fed → Type 0
TakenFrom s input w = TakenOf s.desk s.overlong (s.line ++ input) w

none_taken : (s : State) (input : Bytes) → TakenFrom s input (stopped_at s input)
unfolding feed
none_taken s input = record { taken = []; whole = refl; fed = refl }

taken_inside : {s : State} → HeldOf s → (b : ℕ) (input : Bytes) → eqb b line_end ≡ false → (w : Fed) → TakenFrom (with_byte s b) input w
    → TakenFrom s (b ∷ input) w
unfolding feed
taken_inside (over d) b input e w k =
    record {
      taken = b ∷ k.taken;
      whole = ap (λ x. b ∷ x) k.whole;
      fed = ap (λ (r : State × Bytes). let q = feed r.0 k.taken in (q.0, r.1 ++ q.1)) (byte_inside (between d true) b e) ∙ k.fed;
    }
taken_inside (short d l u h) b input e w k = by (ltb (length l) max_line) refl
  where
    by : (t : Bool) → ltb (length l) max_line ≡ t → TakenOf d false (l ++ b ∷ input) w
    by true q =
        let k' : TakenOf d false ((l ++ (b ∷ [])) ++ input) w = subst (λ x. TakenFrom x input w) (with_byte_short d l u b e q) k in
        record { taken = k'.taken; whole = sym (append_assoc l (b ∷ []) input) ∙ k'.whole; fed = k'.fed }
    by false q =
        let k' : TakenOf d true input w = subst (λ x. TakenFrom x input w) (with_byte_long d l u b e q) k in
        record {
          taken = l ++ b ∷ k'.taken;
          whole = ap (λ x. l ++ b ∷ x) k'.whole ∙ sym (append_assoc l (b ∷ k'.taken) w.rest);
          fed = ap (feed (idle d)) (sym (append_assoc l (b ∷ []) k'.taken))
              ∙ feed_append (idle d) (l ++ (b ∷ [])) k'.taken
              ∙ ap (λ (r : State × Bytes). let q = feed r.0 k'.taken in (q.0, r.1 ++ q.1)) (longer_let_go d l u b e q)
              ∙ k'.fed;
        }

-- some bytes and then the rest of the input, up to its end
fed_whole_append : (s : State) (x y : Bytes) → fed_whole s (x ++ y) ≡ (feed s x).1 ++ fed_whole (feed s x).0 y
fed_whole_append s x y =
    ap (λ (r : State × Bytes). r.1 ++ (finish r.0).1) (feed_append s x y) ∙ append_assoc (feed s x).1 _ _

taken_again : (d : Desk) (overlong : Bool) (input next : Bytes) (w : Fed) → TakenOf d overlong input w
    → fed_whole (between d overlong) (input ++ next) ≡ w.output ++ fed_whole (between w.desk w.overlong) (w.rest ++ next)
taken_again d overlong input next w k =
    ap (λ x. fed_whole (between d overlong) (x ++ next)) k.whole
    ∙ ap (fed_whole (between d overlong)) (append_assoc k.taken w.rest next)
    ∙ fed_whole_append (between d overlong) k.taken (w.rest ++ next)
    ∙ ap (λ (r : State × Bytes). r.1 ++ fed_whole r.0 (w.rest ++ next)) k.fed

module _ (most : ℕ) where
  stops_for_room : (room : ℕ) (t : Bool) → (t && ltb room most) ≡ true → room < most
  stops_for_room room true e = ltb-true room most e
  stops_for_room room false e = absurd (true≢false (sym e))

  goes_on_for_room : (room : ℕ) (t : Bool) → (t && ltb room most) ≡ false → (t ≡ false → most ≤ room) → most ≤ room
  goes_on_for_room room true e h = ltb-false room most e
  goes_on_for_room room false e h = h refl

  -- what holds of a piece, by its first byte: the call stops before it, it ends a line, or it is one more of a line
  module _ (P : Fed → Type 0) (b : ℕ) (input : Bytes) (room : ℕ) (s : State) where
    by_byte : (stops_at most room s ≡ true → P (stopped_at s (b ∷ input)))
        → (stops_at most room s ≡ false → eqb b line_end ≡ true → P (then_within most room (effect_of s) input))
        → (stops_at most room s ≡ false → eqb b line_end ≡ false → P (fed_within most room (with_byte s b) input))
        → P (fed_within most room s (b ∷ input))
    by_byte stop end inside = by (stops_at most room s) refl
      where
        by_end : stops_at most room s ≡ false → (t : Bool) → eqb b line_end ≡ t → P (fed_within most room s (b ∷ input))
        by_end g true e = subst P (sym (ends_line most room s b input g e)) (end g e)
        by_end g false e = subst P (sym (inside_line most room s b input g e)) (inside g e)

        by : (t : Bool) → stops_at most room s ≡ t → P (fed_within most room s (b ∷ input))
        by true e = subst P (sym (stops most room s (b ∷ input) e)) (stop e)
        by false e = by_end e (eqb b line_end) refl

  -- the room behind a line's reply
  abbrev room_after : ℕ → State → ℕ
  room_after room s = room - length (reply_bytes (effect_of s).1)

  taken_ended : {s : State} → HeldOf s → (b : ℕ) (input : Bytes) (room : ℕ) → eqb b line_end ≡ true
      → TakenFrom (idle (effect_of s).0) input (fed_within most (room_after room s) (idle (effect_of s).0) input)
      → TakenFrom s (b ∷ input) (then_within most room (effect_of s) input)
  taken_ended {s} h b input room e k =
      let after = fed_within most (room_after room s) (idle (effect_of s).0) input in
      record {
        taken = s.line ++ b ∷ k.taken;
        whole = ap (λ x. s.line ++ b ∷ x) k.whole ∙ sym (append_assoc s.line (b ∷ k.taken) after.rest);
        fed = held_ended h b k.taken e ∙ ap (λ (q : State × Bytes). (q.0, reply_bytes (effect_of s).1 ++ q.1)) k.fed;
      }

  taken_within : (input : Bytes) (room : ℕ) {s : State} → HeldOf s → TakenFrom s input (fed_within most room s input)
  unfolding fed_within
  taken_within [] room {s} h = none_taken s []
  taken_within (b ∷ input) room {s} h =
      by_byte (TakenFrom s (b ∷ input)) b input room s
      (λ e. none_taken s (b ∷ input))
      (λ g e. taken_ended h b input room e (taken_within input (room_after room s) (held_idle (effect_of s).0)))
      (λ g e. taken_inside h b input e (fed_within most room (with_byte s b) input) (taken_within input room (held_with_byte h b e)))

  -- a whole line is left for want of room
  abbrev LeftFor : ℕ → Fed → Type 0
  LeftFor room w = (T (unended w.rest) → ⊥) → room < length w.output + most

  left_within : (input : Bytes) (room : ℕ) {s : State} → HeldOf s → LeftFor room (fed_within most room s input)
  unfolding fed_within
  left_within [] room h = λ n. absurd (n (unended_held h))
  left_within (b ∷ input) room {s} h =
      by_byte (LeftFor room) b input room s
      (λ e n. omega (arith, stops_for_room room (is_idle s) e))
      (λ g e n. behind_reply _ (left_within input (room_after room s) (held_idle (effect_of s).0) n))
      (λ g e. left_within input room (held_with_byte h b e))
    where
      behind_reply : (output : Bytes) → room_after room s < length output + most
          → room < length (reply_bytes (effect_of s).1 ++ output) + most
      behind_reply output k = omega (arith, length-append (reply_bytes (effect_of s).1) output)

  progress : (room : ℕ) (d : Desk) (overlong : Bool) (input : Bytes) (w : Fed) → TakenOf d overlong input w → LeftFor room w → most ≤ room
      → (T (unended input) → ⊥) → length w.rest < length input
  unfolding feed
  progress room d overlong input w k left h n = by k.taken k.whole k.fed
    where
      by : (x : Bytes) → input ≡ x ++ w.rest → feed (between d overlong) x ≡ (between w.desk w.overlong, w.output)
          → length w.rest < length input
      by [] e f =
          let none : 0 ≡ length w.output = ap (λ (r : State × Bytes). length r.1) f in
          omega (arith, none, left (λ u. n (subst (λ y. T (unended y)) (sym e) u)))
      by (b ∷ x) e f = omega (arith, ap length e, length-append (b ∷ x) w.rest)

  fits_within : LongestReply most → (input : Bytes) (room : ℕ) {s : State} → HeldOf s → IsDesk s.desk → (is_idle s ≡ false → most ≤ room)
      → length (fed_within most room s input).output ≤ room
  unfolding fed_within
  fits_within L [] room h D k = zero-le
  fits_within L (b ∷ input) room {s} h D k =
      by_byte (λ w. length w.output ≤ room) b input room s
      (λ e. zero-le)
      (λ g e. behind_reply g _
      (fits_within L input (room_after room s) (held_idle (effect_of s).0) (effect_stays h D) (λ q. absurd (true≢false q))))
      (λ g e. fits_within L input room (held_with_byte h b e) (subst IsDesk (sym (with_byte_desk s b)) D) (λ _. enough g))
    where
      enough : stops_at most room s ≡ false → most ≤ room
      enough g = goes_on_for_room room (is_idle s) g k

      small : length (reply_bytes (effect_of s).1) ≤ most
      small =
          let (x, e) = line_of_held h in
          subst (λ (y : Effect). length (reply_bytes y.1) ≤ most) (sym e) (L s.desk D x)

      behind_reply : stops_at most room s ≡ false → (output : Bytes) → length output ≤ room_after room s
          → length (reply_bytes (effect_of s).1 ++ output) ≤ room
      behind_reply g output j = omega (arith, length-append (reply_bytes (effect_of s).1) output, small, enough g)

  stays_within : (input : Bytes) (room : ℕ) {s : State} → HeldOf s → IsDesk s.desk → IsDesk (fed_within most room s input).desk
  unfolding fed_within
  stays_within [] room h D = D
  stays_within (b ∷ input) room {s} h D =
      by_byte (λ w. IsDesk w.desk) b input room s
      (λ e. D)
      (λ g e. stays_within input (room_after room s) (held_idle (effect_of s).0) (effect_stays h D))
      (λ g e. stays_within input room (held_with_byte h b e) (subst IsDesk (sym (with_byte_desk s b)) D))

  module _ (room : ℕ) (d : Desk) (overlong : Bool) (input : Bytes) where
    abbrev fed : Fed
    fed = fed_within most room (between d overlong) input

    taken : TakenOf d overlong input fed
    taken = taken_within input room (held_between d overlong)

    left : LeftFor room fed
    left = left_within input room (held_between d overlong)

  pub feeds_exact : FeedsExact most
  feeds_exact =
      record {
        by_lines = by_lines most;
        taken = taken;
        again = λ room d o input next. taken_again d o input next (fed room d o input) (taken room d o input);
        left = left;
        progress = λ room d o input. progress room d o input (fed room d o input) (taken room d o input) (left room d o input);
        fits = λ L room d o input D h. fits_within L input room (held_between d o) D (λ _. h);
        stays = λ room d o input D. stays_within input room (held_between d o) D;
      }
