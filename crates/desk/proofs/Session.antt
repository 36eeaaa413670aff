-- Sessions fed in pieces, and by lines: a piece behind another continues from the state that the first one left, and that state
-- answers for the whole of the line that has begun, however long it is.
use Prim.Native.Nat.{ℕ, ◌+◌, ◌≤◌, ◌<◌, zero-le}
use native.Mathlib.Omega.{arith}
use mathlib.Core.Path.{◌≡◌, refl, sym, ◌∙◌, ap, subst}
use mathlib.Core.Bool.{Bool, true, false, not}
use mathlib.Core.Logic.{◌↔◌}
use mathlib.Core.List.Memᴰ
use mathlib.Core.List.{List, [], ◌∷◌, ◌++◌, append_assoc, append-nil, Memᴰ}
use mathlib.Core.Option.{none}
use borrow.Author.Tests.{not-true, ne_eqb}
use lib.Dec.{T, leb, ltb, eqb, leb→le, ltb→lt, nltb→le, not_T}
use lib.ListN.{length, length-append, replicate, length-replicate}
use Rattle.higman.proofs.Tests.{so, T_of, clash, all_head, all_tail, all_at, all_of}
use Rattle.higman.specs.Text.{line_end, Bytes}
use Rattle.higman.specs.Refusals.{no_record}
use Rattle.higman.specs.Listing.{join_lines}
use Rattle.desk.specs.Limits.{max_line}
use Rattle.desk.specs.Desk.{Desk, dropped}
use Rattle.desk.specs.Replies.{◌>>=◌, refuse, settle, record_of, line_operation, respond_line, run}
use Rattle.desk.specs.Bytes.{reply_bytes}
use Rattle.desk.specs.Session.{unended, State, idle, with_byte, effect_of, line_ended, feed_byte, feed, finish, lines_from, replies_to}
use Rattle.desk.specs.Session.{fed_whole}
use Rattle.desk.specs.Session.{session}
use Rattle.desk.specs.Theorems.{LinesExact, then_fed, LinesFed, feed_both, feed_pieces, FedInPieces, SessionFed}

pub feed_append : (s : State) (x y : Bytes) → feed s (x ++ y) ≡ feed_both s x y
unfolding feed
feed_append s [] y = refl
feed_append s (b ∷ x) y = rw (feed_append (feed_byte s b).0 x y, append_assoc)

feed_pieces_lem : (s : State) (pieces : List Bytes) → feed s (join_lines pieces) ≡ feed_pieces s pieces
feed_pieces_lem s [] = unfold feed in refl
feed_pieces_lem s (x ∷ pieces) = rw (feed_append s x (join_lines pieces), feed_pieces_lem (feed s x).0 pieces)

pub fed_in_pieces : FedInPieces
fed_in_pieces = record { two = feed_append; any = feed_pieces_lem }

-- a state answers for a line that has begun: it holds the line, or the line is too long
pub data Begun (d : Desk) : State → Bytes → Type 0 where
  kept : (l : Bytes) → length l ≤ max_line → Begun d (record { desk = d; line = l; overlong = false }) l
  lost : (l : Bytes) → max_line < length l → Begun d (record { desk = d; line = []; overlong = true }) l

-- a line of more bytes than a line may have
pub long_line : Bytes
long_line = replicate (max_line + 1) 0

pub long_length : max_line < length long_line
unfolding long_line
long_length = omega (arith, length-replicate {A = ℕ} (max_line + 1) 0)

pub begun_effect : {d : Desk} {s : State} {l : Bytes} → Begun d s l → effect_of s ≡ respond_line d l
unfolding ◌>>=◌ respond_line line_operation
begun_effect (kept l h) = refl
begun_effect {d} (lost l h) = by_length (leb (length l) max_line) refl
  where
    by_length : (t : Bool) → leb (length l) max_line ≡ t → settle d (refuse no_record none) ≡ settle d (line_operation d l)
    by_length true e = let h' : length l ≤ max_line = leb→le (length l) max_line (T_of e) in absurd (omega arith)
    by_length false e = rw (e, settle, ◌>>=◌, record_of)

pub begun_with_byte : {d : Desk} {s : State} {l : Bytes} (b : ℕ) → Begun d s l → Begun d (with_byte s b) (l ++ (b ∷ []))
begun_with_byte {d} b (kept l h) = by_room (ltb (length l) max_line) refl
  where
    by_room : (t : Bool) → ltb (length l) max_line ≡ t → Begun d (with_byte (record { desk = d; line = l; overlong = false }) b) (l ++ (b ∷ []))
    by_room true e = rw (e, with_byte) (kept (l ++ (b ∷ [])) (let h' : length l < max_line = ltb→lt (length l) max_line (T_of e) in simp length-append (omega arith)))
    by_room false e = rw (e, with_byte) (lost (l ++ (b ∷ [])) (let h' : max_line ≤ length l = nltb→le (length l) max_line (not_T (ltb (length l) max_line) (λ t. clash (so (ltb (length l) max_line) t) e)) in simp length-append (omega arith)))
begun_with_byte b (lost l h) = lost (l ++ (b ∷ [])) (simp length-append (omega arith))

fed_cons : (s : State) (b : ℕ) (input : Bytes)
    → fed_whole s (b ∷ input) ≡ (feed_byte s b).1 ++ fed_whole (feed_byte s b).0 input
unfolding feed
fed_cons s b input = append_assoc (feed_byte s b).1 _ _

pub byte_ends : (s : State) (b : ℕ) → eqb b line_end ≡ true → feed_byte s b ≡ line_ended s
unfolding feed_byte
byte_ends s b e = rw (e, feed_byte)

pub byte_inside : (s : State) (b : ℕ) → eqb b line_end ≡ false → feed_byte s b ≡ (with_byte s b, [])
unfolding feed_byte
byte_inside s b e = rw (e, feed_byte)

-- at the end of the input
last_lines : {d : Desk} {s : State} {l : Bytes} → Begun d s l → fed_whole s [] ≡ replies_to d (lines_from l [])
unfolding feed finish run
last_lines (kept [] h) = refl
last_lines (kept (b ∷ l) h) = sym (append-nil _)
last_lines (lost [] h) = absurd (omega arith)
last_lines {d} (lost (b ∷ l) h) = ap (λ e. reply_bytes e.1) (begun_effect {d = d} (lost (b ∷ l) h)) ∙ sym (append-nil _)

fed_lines : (input : Bytes) {d : Desk} {s : State} {l : Bytes} → Begun d s l
    → fed_whole s input ≡ replies_to d (lines_from l input)
unfolding run
fed_lines [] g = last_lines g
fed_lines (b ∷ input) {d} {s} {l} g =
    fed_cons s b input
    ∙ by_byte (eqb b line_end) refl (λ e. fed_lines input (kept [] zero-le)) (fed_lines input (begun_with_byte b g))
  where
    by_byte : (t : Bool) → eqb b line_end ≡ t → ((e : Desk) → fed_whole (idle e) input ≡ replies_to e (lines_from [] input))
        → fed_whole (with_byte s b) input ≡ replies_to d (lines_from (l ++ (b ∷ [])) input)
        → (feed_byte s b).1 ++ fed_whole (feed_byte s b).0 input ≡ replies_to d (lines_from l (b ∷ input))
    by_byte true e next more = rw (byte_ends s b e, e, lines_from, begun_effect g, next (respond_line d l).0)
    by_byte false e next more = rw (byte_inside s b e, e, lines_from) more

pub session_fed : SessionFed
unfolding session
session_fed input = fed_lines input (kept [] zero-le)

-- bytes without byte 10, by the first of them
pub inside_first : (b : ℕ) (l : Bytes) → T (unended (b ∷ l)) → eqb b line_end ≡ false
inside_first b l h = not-true (eqb b line_end) (so (not (eqb b line_end)) (all_head (λ c. not (eqb c line_end)) b l h))

pub inside_rest : (b : ℕ) (l : Bytes) → T (unended (b ∷ l)) → T (unended l)
inside_rest b l h = all_tail (λ c. not (eqb c line_end)) b l h

-- the lines of some bytes
lines_ended : (begun line rest : Bytes) → T (unended line) → lines_from begun (line ++ line_end ∷ rest) ≡ (begun ++ line) ∷ lines_from [] rest
lines_ended begun [] rest h = ap (λ l. l ∷ lines_from [] rest) (sym (append-nil begun))
lines_ended begun (b ∷ line) rest h =
    rw (inside_first b line h, lines_from)
    (lines_ended (begun ++ (b ∷ [])) line rest (inside_rest b line h) ∙ ap (λ l. l ∷ lines_from [] rest) (append_assoc begun (b ∷ []) line))

lines_last : (b : ℕ) (begun line : Bytes) → T (unended line) → lines_from (b ∷ begun) line ≡ (b ∷ (begun ++ line)) ∷ []
lines_last b begun [] h = ap (λ l. (b ∷ l) ∷ []) (sym (append-nil begun))
lines_last b begun (c ∷ line) h =
    rw (inside_first c line h, lines_from)
    (lines_last b (begun ++ (c ∷ [])) line (inside_rest c line h) ∙ ap (λ l. (b ∷ l) ∷ []) (append_assoc begun (c ∷ []) line))

no_end_within : (line : Bytes) → T (unended line) ↔ (Memᴰ 10 line → ⊥)
no_end_within line = (λ h m. all_at other line h 10 m, λ absent. all_of other line (off absent))
  where
    other : ℕ → Bool
    other b = not (eqb b line_end)

    off : (Memᴰ 10 line → ⊥) → (b : ℕ) → Memᴰ b line → T (other b)
    off absent b m = T_of (ap not (ne_eqb b 10 (λ e. absent (Memᴰ.cast (sym e) m))))

pub lines_exact : LinesExact
lines_exact =
    record {
      no_end_within = no_end_within;
      none_left = refl;
      ended = λ line rest h. lines_ended [] line rest h;
      last = λ b line h. rw (inside_first b line h, lines_from) (lines_last b [] line (inside_rest b line h));
    }

-- a line that has begun, fed to its end
pub fed_line : (line rest : Bytes) {d : Desk} {s : State} {l : Bytes} → Begun d s l → T (unended line)
    → feed s (line ++ line_end ∷ rest) ≡ then_fed (respond_line d (l ++ line)) rest
unfolding feed feed_byte
fed_line [] rest {d} {s} {l} g h = ap (λ e. then_fed e rest) (begun_effect g ∙ ap (respond_line d) (sym (append-nil l)))
fed_line (b ∷ line) rest {d} {s} {l} g h =
    rw (byte_inside s b (inside_first b line h))
    (fed_line line rest (begun_with_byte b g) (inside_rest b line h) ∙ ap (λ x. then_fed (respond_line d x) rest) (append_assoc l (b ∷ []) line))

-- and one that the input ends
pub fed_last : (line : Bytes) {d : Desk} {s : State} {l : Bytes} → Begun d s l → T (unended line)
    → Begun d (feed s line).0 (l ++ line)
unfolding feed
fed_last [] {d} {s} {l} g h = subst (Begun d s) (sym (append-nil l)) g
fed_last (b ∷ line) {d} {s} {l} g h =
    let more = fed_last line (begun_with_byte b g) (inside_rest b line h) in
    subst (λ x. Begun d (feed x.0 line).0 (l ++ b ∷ line)) (sym (byte_inside s b (inside_first b line h)))
    (subst (Begun d (feed (with_byte s b) line).0) (append_assoc l (b ∷ []) line) more)

-- a run of bytes that ends no line is answered by nothing
pub quiet : (s : State) (part : Bytes) → T (unended part) → (feed s part).1 ≡ []
unfolding feed
quiet s [] u = refl
quiet s (b ∷ part) u =
    ap (λ x. x.1 ++ (feed x.0 part).1) (byte_inside s b (inside_first b part u))
    ∙ quiet (with_byte s b) part (inside_rest b part u)

-- a line that has begun is held in one way
pub begun_one : {d : Desk} {s t : State} {l : Bytes} → Begun d s l → Begun d t l → s ≡ t
begun_one (kept l h) (kept m k) = refl
begun_one (kept l h) (lost m k) = absurd (omega arith)
begun_one (lost l h) (kept m k) = absurd (omega arith)
begun_one (lost l h) (lost m k) = refl

pub finished : {d : Desk} {s : State} {b : ℕ} {l : Bytes} → Begun d s (b ∷ l)
    → finish s ≡ (dropped (respond_line d (b ∷ l)).0, reply_bytes (respond_line d (b ∷ l)).1)
unfolding finish
finished (kept (b ∷ l) h) = refl
finished {d} (lost (b ∷ l) h) = ap (λ e. (dropped e.0, reply_bytes e.1)) (begun_effect {d = d} (lost (b ∷ l) h))

pub lines_fed : LinesFed
unfolding finish
lines_fed =
    record {
      ended = λ d line rest h. fed_line line rest (kept [] zero-le) h;
      last = λ d b line h. finished (fed_last (b ∷ line) (kept [] zero-le) h);
      none_left = λ d. refl;
    }
