-- What is typed is what the lines say: each P and M record of words within the limits is accepted, and they open the plan that they
-- spell. So a listing read back is the same plan: what E keeps of a kept plan is that plan, by higman's theorems.
use Prim.Native.Nat.{ℕ, suc, ◌+◌, ◌≤◌, ◌<◌}
use native.Mathlib.Omega.{arith}
use mathlib.Core.Path.{◌≡◌, refl, sym, ◌∙◌, ap, subst}
use mathlib.Core.Bool.{true, false, ◌&&◌}
use mathlib.Core.List.{[], ◌∷◌, ◌++◌, append_assoc, append-nil}
use mathlib.Core.Option.{some}
use borrow.Author.Tests.{ne_eqb, lt-leb}
use lib.Dec.{T, leb, ltb, eqb, leb→le, lt→ltb, lit<, lit≤}
use lib.ListN.{length, length-append, length-map}
use Rattle.higman.specs.Words.{Shape, Word, is_word, spelled}
use Rattle.higman.specs.Bases.{all}
use Rattle.higman.specs.Tables.{Pair, Table, froms, tos}
use Rattle.higman.specs.Limits.{shape_in_range, granted, fits, pair_fits, max_pairs, max_digits, slot_count, is_plan_word}
use Rattle.higman.specs.Normal.{keep}
use Rattle.higman.specs.Answers.{Accepted, verdict}
use Rattle.higman.specs.Text.{tab, line_end, digit_byte, word_bytes, Bytes, bytes, decimal, word_of}
use Rattle.higman.specs.Listing.{pair_fields, pair_record, pair_records, join_lines, close_record, slot_number, slot_byte, is_slot}
use Rattle.higman.proofs.Tests.{so, and_left, and_right, and_intro, all_cons, all_head, all_tail, pair_path}
use Rattle.higman.proofs.Statements.{table_of, test_table, normal_form_lem, answers_exact}
use Rattle.higman.proofs.Columns.{column_is_basis}
use Rattle.higman.proofs.KeptPlans.{in_range, arity_of_range}
use Rattle.higman.proofs.PlanWords.{plan_word_of, plan_word_length, plan_word_ways}
use Rattle.higman.proofs.Text.{word_of_bytes}
use Rattle.desk.specs.Limits.{max_changes, max_line}
use Rattle.desk.specs.Desk.{Draft, Desk, count_of, with_draft, with_pair, changed}
use Rattle.desk.specs.Records.{Record, P, M, E, parse, record_fields, record_text, no_tab, has_digits, well_formed}
use Rattle.desk.specs.Replies.{pass, Effect, silent, ok_number, new_draft, operation, settle, respond_line}
use Rattle.desk.specs.Bytes.{reply_bytes}
use Rattle.desk.specs.Session.{State, idle, with_byte, feed_byte, feed}
use Rattle.desk.specs.Theorems.{TypedIn, ListingReadBack}
use Rattle.desk.proofs.OpenPlans.{typed_pair, open_pass, pair_pass, close_pass}
use Rattle.desk.proofs.Fields.{no_tab_cons, word_no_tab}
use Rattle.higman.proofs.Decimals.{decimal_digit}
use Rattle.desk.proofs.Grammar.{parse_text}
use Rattle.desk.proofs.Lines.{respond_record}

-- bytes without a certain one
abbrev pub Without : ℕ → Bytes → Type 0
Without c [] = Unit {0}
Without c (b ∷ l) = (eqb b c ≡ false) × Without c l

word_without : (c : ℕ) → c < 48 → (w : Word) → Without c (word_bytes w)
word_without c h [] = tt
word_without c h (a ∷ w) = (ne_eqb (48 + a) c (λ e. omega arith), word_without c h w)

without_append : (c : ℕ) (x y : Bytes) → Without c x → Without c y → Without c (x ++ y)
without_append c [] y h k = k
without_append c (b ∷ x) y h k = (h.0, without_append c x y h.1 k)

-- the three kinds of lines, as a listing has them, are texts of records
abbrev pub open_line : ℕ → Shape → Bytes
open_line b s = 80 ∷ tab ∷ b ∷ tab ∷ digit_byte s.arity ∷ tab ∷ digit_byte s.roots ∷ []

abbrev pub pair_line : Pair → Bytes
pair_line p = pair_fields 77 p

one_digit : (a : ℕ) → a ≤ 9 → T (has_digits 1 a)
one_digit a h = subst (λ l. T (leb (length l) 1)) (sym (decimal_digit a (omega arith))) tt

module _ (b : ℕ) (s : Shape) (plain : eqb b tab ≡ false) (n : s.arity ≤ 9) (r : s.roots ≤ 9) where
  pub open_text : record_text (P b s.arity s.roots) ≡ open_line b s
  unfolding record_text
  open_text = rw (decimal_digit s.arity (omega arith), decimal_digit s.roots (omega arith))

  open_well_formed : T (well_formed (P b s.arity s.roots))
  unfolding well_formed
  open_well_formed =
      let number : (k : ℕ) → T (no_tab (decimal k)) = λ k. word_no_tab (spelled (suc k) k) in
      and_intro (all no_tab (record_fields (P b s.arity s.roots))) (has_digits 1 s.arity && has_digits 1 s.roots)
      (all_cons no_tab (b ∷ []) (decimal s.arity ∷ decimal s.roots ∷ []) (no_tab_cons b [] plain tt)
      (all_cons no_tab (decimal s.arity) (decimal s.roots ∷ []) (number s.arity) (all_cons no_tab (decimal s.roots) [] (number s.roots) tt)))
      (and_intro (has_digits 1 s.arity) (has_digits 1 s.roots) (one_digit s.arity n) (one_digit s.roots r))

  parse_open : parse (open_line b s) ≡ some (P b s.arity s.roots)
  parse_open = ap parse (sym open_text) ∙ parse_text (P b s.arity s.roots) open_well_formed

parse_pair : (p : Pair) → parse (pair_line p) ≡ some (M (word_bytes p.from) (word_bytes p.to))
unfolding record_text well_formed
parse_pair p = parse_text (M (word_bytes p.from) (word_bytes p.to)) well_formed_lem
  where
    well_formed_lem : T (all no_tab (bytes "M" ∷ word_bytes p.from ∷ word_bytes p.to ∷ []) && true)
    well_formed_lem =
        and_intro (all no_tab (word_bytes p.from ∷ word_bytes p.to ∷ [])) true
        (all_cons no_tab (word_bytes p.from) (word_bytes p.to ∷ []) (word_no_tab p.from) (all_cons no_tab (word_bytes p.to) [] (word_no_tab p.to) tt)) tt

-- the words of a pair, written and read again
pub pair_back : (s : Shape) → T (shape_in_range s) → (p : Pair) → T (is_plan_word s p.from && is_plan_word s p.to)
    → typed_pair (word_bytes p.from) (word_bytes p.to) ≡ p
pair_back s r p h =
    pair_path
    (word_back p.from (and_left (is_plan_word s p.from) (is_plan_word s p.to) h))
    (word_back p.to (and_right (is_plan_word s p.from) (is_plan_word s p.to) h))
  where
    word_back : (w : Word) → T (is_plan_word s w) → word_of (word_bytes w) ≡ w
    word_back w t = word_of_bytes w (plan_word_ways s w t r)

operation_pair : (d : Desk) (o : Draft) (p : Pair) → T (shape_in_range o.shape)
    → T (is_plan_word o.shape p.from && is_plan_word o.shape p.to)
    → length o.rows < max_pairs
    → operation (with_draft d o) (M (word_bytes p.from) (word_bytes p.to)) ≡ pass (with_draft d (with_pair o p), silent)
operation_pair d o p r h k =
    let back = pair_back o.shape r p h in
    pair_pass d o (word_bytes p.from) (word_bytes p.to)
    (subst (λ q. T (is_plan_word o.shape q.from && is_plan_word o.shape q.to)) (sym back) h) k
    ∙ ap (λ q. pass (with_draft d (with_pair o q), silent)) back

operation_close : (d : Desk) (o : Draft) → verdict o.shape o.rows ≡ Accepted → keep o.shape o.rows ≡ o.rows
    → count_of d < max_changes
    → operation (with_draft d o) E
    ≡ pass (changed d o.slot (some (record { shape = o.shape; rows = o.rows })), ok_number (length o.rows))
unfolding with_draft changed
operation_close d o v k h =
    close_pass (with_draft d o) o refl v (lt-leb max_changes (count_of d) h)
    ∙ ap (λ t. pass (changed d o.slot (some (record { shape = o.shape; rows = t })), ok_number (length t))) k

-- the words of a table are words in a plan
abbrev pub Spelt : Shape → Table → Type 0
Spelt s [] = Unit {0}
Spelt s (p ∷ t) = T (is_plan_word s p.from && is_plan_word s p.to) × Spelt s t

pub spelt : (s : Shape) (t : Table) → T (all (is_word s) (froms t)) → T (all (is_word s) (tos t)) → T (all pair_fits t) → Spelt s t
spelt s [] f g h = tt
spelt s (p ∷ t) f g h =
    let few = all_head pair_fits p t h in (
      and_intro (is_plan_word s p.from) (is_plan_word s p.to)
          (plan_word_of s p.from (all_head (is_word s) p.from (froms t) f) (and_left (fits p.from) (fits p.to) few))
          (plan_word_of s p.to (all_head (is_word s) p.to (tos t) g) (and_right (fits p.from) (fits p.to) few)),
      spelt s t (all_tail (is_word s) p.from (froms t) f) (all_tail (is_word s) p.to (tos t) g) (all_tail pair_fits p t h),
    )

pair_line_fits : (p : Pair) → length p.from ≤ max_digits → length p.to ≤ max_digits → length (pair_line p) ≤ max_line
unfolding max_digits max_line
pair_line_fits p h k = simp (length-append, length-map) (omega arith)

pub pair_line_inside : (p : Pair) → Without line_end (pair_line p)
pair_line_inside p = (refl, (refl, without_append line_end (word_bytes p.from) (tab ∷ word_bytes p.to) (word_without line_end (lit< tt) p.from) (refl, word_without line_end (lit< tt) p.to)))

pub pair_record_lem : (p : Pair) (y : Bytes) → pair_record p ++ y ≡ pair_line p ++ line_end ∷ y
pair_record_lem p y = simp append_assoc

abbrev draft_of : ℕ → Shape → Table → Draft
draft_of i s t = record { slot = i; shape = s; rows = t }

-- the rest of the input, after a line
abbrev after : Effect → Bytes → State × Bytes
after e rest = let q = feed (idle e.0) rest in (q.0, reply_bytes e.1 ++ q.1)

line_ends : (d : Desk) (l rest : Bytes)
    → feed (record { desk = d; line = l; overlong = false }) (line_end ∷ rest) ≡ after (respond_line d l) rest
unfolding feed feed_byte
line_ends d l rest = refl

byte_kept : (d : Desk) (l : Bytes) (b : ℕ) → eqb b line_end ≡ false → length l < max_line
    → feed_byte (record { desk = d; line = l; overlong = false }) b
    ≡ (record { desk = d; line = l ++ (b ∷ []); overlong = false }, [])
unfolding feed_byte
byte_kept d l b e h = rw (e, feed_byte, so (ltb (length l) max_line) (lt→ltb (length l) max_line h), with_byte)

feed_line : (d : Desk) (l x rest : Bytes) → Without line_end x → length (l ++ x) ≤ max_line
    → feed (record { desk = d; line = l; overlong = false }) (x ++ line_end ∷ rest) ≡ after (respond_line d (l ++ x)) rest
unfolding feed
feed_line d l [] rest w h = line_ends d l rest ∙ rw append-nil
feed_line d l (b ∷ x) rest w h =
    let k : length l < max_line = omega (arith, simp length-append at h) in
    rw (byte_kept d l b w.0) (feed_line d (l ++ (b ∷ [])) x rest w.1 (rw append_assoc h) ∙ rw append_assoc)

-- a line of a record that passes
feed_record : (d : Desk) (line : Bytes) (r : Record) (e : Effect) (rest : Bytes) → Without line_end line → length line ≤ max_line
    → parse line ≡ some r → operation d r ≡ pass e → feed (idle d) (line ++ line_end ∷ rest) ≡ after e rest
feed_record d line r e rest w h q o = feed_line d [] line rest w h ∙ ap (λ x. after x rest) (respond_record d line r h q ∙ ap (settle d) o)

feed_pairs : (d : Desk) (i : ℕ) (s : Shape) (todo past : Table) (rest : Bytes) → T (shape_in_range s) → Spelt s todo
    → length (past ++ todo) ≤ max_pairs
    → feed (idle (with_draft d (draft_of i s past))) (join_lines (pair_records todo) ++ rest)
    ≡ feed (idle (with_draft d (draft_of i s (past ++ todo)))) rest
unfolding reply_bytes
feed_pairs d i s [] past rest r w h = rw append-nil
feed_pairs d i s (p ∷ todo) past rest r w h =
    let room : length past < max_pairs = omega (arith, simp length-append at h) in
    let more : Bytes = join_lines (pair_records todo) ++ rest in
    let from-short = plan_word_length s p.from (and_left (is_plan_word s p.from) (is_plan_word s p.to) w.0) in
    let to-short = plan_word_length s p.to (and_right (is_plan_word s p.from) (is_plan_word s p.to) w.0) in
    ap (feed (idle (with_draft d (draft_of i s past)))) (append_assoc (pair_record p) (join_lines (pair_records todo)) rest ∙ pair_record_lem p more)
    ∙ feed_record (with_draft d (draft_of i s past)) (pair_line p) (M (word_bytes p.from) (word_bytes p.to))
    (with_draft d (draft_of i s (past ++ (p ∷ []))), silent) more (pair_line_inside p) (pair_line_fits p from-short to-short) (parse_pair p)
    (operation_pair d (draft_of i s past) p r w.0 room)
    ∙ feed_pairs d i s todo (past ++ (p ∷ [])) rest r w.1 (rw append_assoc h)
    ∙ ap (λ t. feed (idle (with_draft d (draft_of i s t))) rest) (append_assoc past (p ∷ []) todo)

-- nothing is left of the input
after_all : (e : Effect) → after e [] ≡ (idle e.0, reply_bytes e.1)
unfolding feed
after_all e = λ i. (idle e.0, append-nil (reply_bytes e.1) i)

parse_close : parse (69 ∷ []) ≡ some E
unfolding record_text well_formed
parse_close = parse_text E tt

pub open_line_inside : (b : ℕ) (s : Shape) → eqb b line_end ≡ false → Without line_end (open_line b s)
open_line_inside b s h = (refl, (refl, (h, (refl, (digit s.arity, (refl, (digit s.roots, tt)))))))
  where
    digit : (a : ℕ) → eqb (digit_byte a) line_end ≡ false
    digit a = (word_without line_end (lit< tt) (a ∷ [])).0

open_line_fits : (b : ℕ) (s : Shape) → length (open_line b s) ≤ max_line
unfolding max_line
open_line_fits b s = lit≤ tt

close_line_fits : length {A = ℕ} (69 ∷ []) ≤ max_line
unfolding max_line
close_line_fits = lit≤ tt

pub slot_plain : (b c : ℕ) → T (is_slot b) → c < 65 → eqb b c ≡ false
slot_plain b c h k = ne_eqb b c (λ e. let low : 65 ≤ b = leb→le 65 b (and_left (leb 65 b) (leb (suc b) (slot_byte slot_count)) h) in omega arith)

pub typed_in : TypedIn
unfolding reply_bytes granted
typed_in d e b h m s t k rest =
    let table = table_of s t k in
    let range = in_range s table.in_range in
    let few = and_left (leb (length t) max_pairs) (all pair_fits t) table.within in
    let short = and_right (leb (length t) max_pairs) (all pair_fits t) table.within in
    feed_record d (open_line b s) (P b s.arity s.roots) (with_draft d (new_draft b s), silent) (join_lines (pair_records t) ++ rest)
    (open_line_inside b s (slot_plain b line_end h (lit< tt))) (open_line_fits b s)
    (parse_open b s (slot_plain b tab h (lit< tt)) range.arity_high range.roots_high) (open_pass d e b s h m table.in_range)
    ∙ feed_pairs d (slot_number b) s t [] rest table.in_range (spelt s t table.from_words table.to_words short)
    (leb→le (length t) max_pairs few)

pub listing_read_back : ListingReadBack
unfolding reply_bytes
listing_read_back d e room b h m p k =
    let s : Shape = p.shape in
    let t : Table = p.rows in
    let n = arity_of_range s k.in_range in
    let from_words = ((column_is_basis s n (froms t)).0 k.bases.from_basis).words in
    let to_words = ((column_is_basis s n (tos t)).0 k.bases.to_basis).words in
    let accepted = (answers_exact.accepted s n t from_words to_words).1 k.bases in
    let own = (normal_form_lem.own s n t k.bases).0 (k.reduced, k.in_order) in
    let i : ℕ = slot_number b in
    typed_in d e b h m s t
    (test_table s t (record { in_range = k.in_range; within = k.within; from_words = from_words; to_words = to_words })) close_record
    ∙ feed_record (with_draft d (draft_of i s t)) (69 ∷ []) E (changed d i (some p), ok_number (length t)) [] (refl, tt) close_line_fits
    parse_close (operation_close d (draft_of i s t) accepted own room)
    ∙ after_all (changed d i (some p), ok_number (length t))
