-- A piece of input with many lines, by its lines (FedByLines): a line with its byte 10, the beginning of one, and no room for a reply. The
-- code goes by the same three.
use Prim.Native.Nat.{ℕ, ◌-◌, ◌≤◌, ◌<◌, zero-le}
use native.Mathlib.Omega.{arith}
use mathlib.Core.Path.{◌≡◌, refl, sym, ◌∙◌, ap}
use mathlib.Core.Bool.{Bool, true, false, ◌&&◌}
use mathlib.Core.List.{[], ◌∷◌, ◌++◌, append_assoc, append-nil}
use borrow.Author.Tests.{lt-ltb, le-ltb}
use lib.Dec.{T, eqb, ltb}
use lib.ListN.{length, length-append}
use Rattle.higman.specs.Text.{line_end, Bytes, bytes}
use Rattle.desk.specs.Limits.{max_line}
use Rattle.desk.specs.Desk.{Desk, dropped}
use Rattle.desk.specs.Replies.{Effect, respond_line}
use Rattle.desk.specs.Bytes.{reply_bytes}
use Rattle.desk.specs.Session.{unended, State, idle, is_idle, with_byte, effect_of, feed_byte, feed}
use Rattle.desk.specs.Feeds.{Fed, between, stopped_at, behind, stops_at, fed_within, then_within, FedByLines}
use Rattle.desk.proofs.Session.{Begun, kept, lost, long_line, long_length, begun_effect, begun_with_byte, byte_ends, byte_inside}
use Rattle.desk.proofs.Session.{inside_first, inside_rest, fed_last, begun_one}

-- behind a byte that ends no line a line has begun
begun_not_idle : (s : State) (b : ℕ) → is_idle (with_byte s b) ≡ false
begun_not_idle s b = by s.overlong refl (ltb (length s.line) max_line) refl
  where
    some_bytes : (l : Bytes) → is_idle (record { desk = s.desk; line = l ++ (b ∷ []); overlong = false }) ≡ false
    some_bytes [] = refl
    some_bytes (c ∷ l) = refl

    by : (o : Bool) → s.overlong ≡ o → (r : Bool) → ltb (length s.line) max_line ≡ r → is_idle (with_byte s b) ≡ false
    by true e r q = rw (e, with_byte) (rw (e, is_idle))
    by false e true q = rw (e, with_byte) (rw (q, with_byte) (some_bytes s.line))
    by false e false q = rw (e, with_byte) (rw (q, with_byte))

module _ (most : ℕ) where
  module _ (room : ℕ) (s : State) where
    pub stops : (input : Bytes) → stops_at most room s ≡ true → fed_within most room s input ≡ stopped_at s input
    unfolding fed_within
    stops [] e = refl
    stops (b ∷ input) e = rw (e, fed_within)

    -- a byte and what it does
    abbrev behind_byte : Bytes → State × Bytes → Fed
    behind_byte input r = behind r.1 (fed_within most (room - length r.1) r.0 input)

    goes_on : (b : ℕ) (input : Bytes) → stops_at most room s ≡ false → fed_within most room s (b ∷ input) ≡ behind_byte input (feed_byte s b)
    unfolding fed_within
    goes_on b input e = rw (e, fed_within)

    pub ends_line : (b : ℕ) (input : Bytes) → stops_at most room s ≡ false → eqb b line_end ≡ true
        → fed_within most room s (b ∷ input) ≡ then_within most room (effect_of s) input
    ends_line b input g e = goes_on b input g ∙ ap (behind_byte input) (byte_ends s b e)

    pub inside_line : (b : ℕ) (input : Bytes) → stops_at most room s ≡ false → eqb b line_end ≡ false
        → fed_within most room s (b ∷ input) ≡ fed_within most room (with_byte s b) input
    inside_line b input g e =
        let none : room - 0 ≡ room = omega arith in
        goes_on b input g ∙ ap (behind_byte input) (byte_inside s b e) ∙ ap (λ n. fed_within most n (with_byte s b) input) none

    goes_on_within : (b : ℕ) → stops_at most room (with_byte s b) ≡ false
    goes_on_within b = ap (λ t. t && ltb room most) (begun_not_idle s b)

    -- with room for the longest reply
    pub goes_on_with_room : most ≤ room → stops_at most room s ≡ false
    goes_on_with_room h = by (is_idle s)
      where
        by : (t : Bool) → (t && ltb room most) ≡ false
        by true = le-ltb room most h
        by false = refl

    pub stops_without_room : is_idle s ≡ true → room < most → stops_at most room s ≡ true
    stops_without_room e h = ap (λ t. t && ltb room most) e ∙ lt-ltb room most h

  -- a line with its byte 10
  pub line_within : (room : ℕ) (line rest : Bytes) {d : Desk} {s : State} {l : Bytes} → Begun d s l → T (unended line)
      → stops_at most room s ≡ false
      → fed_within most room s (line ++ line_end ∷ rest) ≡ then_within most room (respond_line d (l ++ line)) rest
  line_within room [] rest {d} {s} {l} b u g =
      ends_line room s line_end rest g refl
      ∙ ap (λ e. then_within most room e rest) (begun_effect b ∙ ap (respond_line d) (sym (append-nil l)))
  line_within room (c ∷ line) rest {d} {s} {l} b u g =
      inside_line room s c (line ++ line_end ∷ rest) g (inside_first c line u)
      ∙ line_within room line rest (begun_with_byte c b) (inside_rest c line u) (goes_on_within room s c)
      ∙ ap (λ x. then_within most room (respond_line d x) rest) (append_assoc l (c ∷ []) line)

  -- the beginning of one
  pub begun_within : (room : ℕ) (s : State) (line : Bytes) → T (unended line) → stops_at most room s ≡ false
      → fed_within most room s line ≡ stopped_at (feed s line).0 []
  unfolding fed_within feed
  begun_within room s [] u g = refl
  begun_within room s (c ∷ line) u g =
      inside_line room s c line g (inside_first c line u)
      ∙ begun_within room (with_byte s c) line (inside_rest c line u) (goes_on_within room s c)
      ∙ ap (λ (r : State × Bytes). stopped_at (feed r.0 line).0 []) (sym (byte_inside s c (inside_first c line u)))

  -- by what is held of it
  begun_held : (room : ℕ) (line : Bytes) {d : Desk} {s t : State} {l : Bytes} → Begun d s l → Begun d t (l ++ line) → T (unended line)
      → stops_at most room s ≡ false → fed_within most room s line ≡ stopped_at t []
  begun_held room line {d} {s} b c u g =
      begun_within room s line u g ∙ ap (λ (x : State). stopped_at x []) (begun_one (fed_last line b u) c)

  short_within : (room : ℕ) (d : Desk) (line : Bytes) → T (unended line) → length line ≤ max_line
      → fed_within most room (idle d) line ≡ stopped_at (idle d) line
  short_within room d line u h = by (ltb room most) refl
    where
      by : (t : Bool) → ltb room most ≡ t → fed_within most room (idle d) line ≡ stopped_at (idle d) line
      by true e = stops room (idle d) line e
      by false e =
          begun_held room line (kept [] zero-le) (kept line h) u e
          ∙ ap (λ l. record { desk = d; overlong = false; rest = l; output = [] }) (append-nil line)

  -- a line that is too long already
  over_begun : (d : Desk) → Begun d (between d true) long_line
  over_begun d = lost long_line long_length

  over_longer : (d : Desk) (line : Bytes) → Begun d (between d true) (long_line ++ line)
  over_longer d line = lost (long_line ++ line) (omega (arith, length-append long_line line, long_length))

  refused_within : (room : ℕ) (d : Desk) (line rest : Bytes) → T (unended line)
      → fed_within most room (between d true) (line ++ line_end ∷ rest)
      ≡ behind (bytes "no\t1\n") (fed_within most (room - 5) (idle (dropped d)) rest)
  unfolding reply_bytes
  refused_within room d line rest u =
      line_within room line rest (over_begun d) u refl
      ∙ ap (λ (e : Effect). then_within most room e rest) (sym (begun_effect (over_longer d line)))

  pub by_lines : FedByLines most
  unfolding max_line
  by_lines =
      record {
        answered = λ room d line rest u h. line_within room line rest (kept [] zero-le) u (goes_on_with_room room (idle d) h);
        refused = refused_within;
        stopped = λ room d rest h. stops room (idle d) rest (stops_without_room room (idle d) refl h);
        begun = λ room d line u h. short_within room d line u h;
        too_long = λ room d line u h k.
            begun_held room line (kept [] zero-le) (lost line h) u (goes_on_with_room room (idle d) k);
        longer = λ room d line u. begun_held room line (over_begun d) (over_longer d line) u refl;
      }
