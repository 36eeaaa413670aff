-- A listing determines its plan. The byte of a digit is at least 48, so a run of digit bytes ends at the first tab or line end,
-- and the two columns of an M record can be read back. And letters name slots one to one.
use Prim.Native.Nat.{ℕ, suc, ◌≤◌, ◌<◌}
use mathlib.Core.Path.{◌≡◌, refl, ap, ap₂}
use mathlib.Core.List.{List, [], ◌∷◌, ◌++◌, nil≢cons, cons≢nil, head-eq_of_cons-eq, tail-eq_of_cons-eq, append_assoc, append_cancel_right, map-append}
use native.Mathlib.Omega.{arith}
use lib.Dec.{T, leb, leb→le, le→leb}
use Rattle.higman.specs.Words.{Word}
use Rattle.higman.specs.Tables.{Pair, Table}
use Rattle.higman.specs.Limits.{Plan, slot_count}
use Rattle.higman.specs.Text.{byte, tab, line_end, digit_byte, word_bytes, word_of}
use Rattle.higman.specs.Listing.{slot_byte, is_slot, pair_record, close_record, pair_records, join_lines, listing}
use Rattle.higman.specs.Theorems.{ListingFaithful, SlotsExact}
use Rattle.higman.proofs.Tests.{and_left, and_right, and_intro, pair_path, ways_of_test}
use Rattle.higman.proofs.Text.{word_of_bytes, bytes_of_word}

digit_of_byte : (d c : ℕ) → digit_byte d ≡ digit_byte c → d ≡ c
digit_of_byte d c e = omega arith

-- a word ends where a byte below the digits stands
word_read_back : (b : ℕ) → b < digit_byte 0 → (u v : Word) (x y : List ℕ) → word_bytes u ++ b ∷ x ≡ word_bytes v ++ b ∷ y → (u ≡ v) × (x ≡ y)
word_read_back b h [] [] x y e = (refl, tail-eq_of_cons-eq e)
word_read_back b h [] (c ∷ v) x y e = let k = head-eq_of_cons-eq e in absurd (omega arith)
word_read_back b h (d ∷ u) [] x y e = let k = head-eq_of_cons-eq e in absurd (omega arith)
word_read_back b h (d ∷ u) (c ∷ v) x y e =
    let r = word_read_back b h u v x y (tail-eq_of_cons-eq e) in
    (ap₂ ◌∷◌ (digit_of_byte d c (head-eq_of_cons-eq e)) r.0, r.1)

pair_read_back : (p q : Pair) (x y : List ℕ) → pair_record p ++ x ≡ pair_record q ++ y → (p ≡ q) × (x ≡ y)
pair_read_back p q x y e =
    let f = word_read_back tab (omega arith) p.from q.from _ _ (tail-eq_of_cons-eq (tail-eq_of_cons-eq (simp append_assoc at e))) in
    let t = word_read_back line_end (omega arith) p.to q.to x y f.1 in
    (pair_path f.0 t.0, t.1)

lines_read_back : (t u : Table) → join_lines (pair_records t) ≡ join_lines (pair_records u) → t ≡ u
lines_read_back [] [] e = refl
lines_read_back [] (q ∷ u) e = absurd (nil≢cons e)
lines_read_back (p ∷ t) [] e = absurd (cons≢nil e)
lines_read_back (p ∷ t) (q ∷ u) e =
    let r = pair_read_back p q (join_lines (pair_records t)) (join_lines (pair_records u)) e in
    ap₂ ◌∷◌ r.0 (lines_read_back t u r.1)

plan_path : {a b : Plan} → a.shape.arity ≡ b.shape.arity → a.shape.roots ≡ b.shape.roots → a.rows ≡ b.rows → a ≡ b
plan_path n r t i = record { shape = record { arity = n i; roots = r i }; rows = t i }

plan_read_back : (slot : ℕ) (a b : Plan) → listing slot a ≡ listing slot b → a ≡ b
plan_read_back slot a b e =
    let r : join_lines (pair_records a.rows) ++ close_record ≡ join_lines (pair_records b.rows) ++ close_record = cc in
    plan_path (digit_of_byte _ _ (cc)) (digit_of_byte _ _ (cc)) (lines_read_back _ _ (append_cancel_right _ _ close_record r))

pub listing_faithful : ListingFaithful
listing_faithful = record {
  words = λ w h. word_of_bytes w (ways_of_test 9 w h);
  bytes = λ code h. bytes_of_word code (ways_of_test 9 (word_of code) h);
  last_digit = λ w d. map-append digit_byte w (d ∷ []);
  records = λ t u. (λ e. lines_read_back t u (ap join_lines e), ap pair_records);
  lines = λ t u. (lines_read_back t u, ap (λ t. join_lines (pair_records t)));
  whole_listing = λ slot a b. (plan_read_back slot a b, ap (listing slot));
}

module _ (b : ℕ) (h : T (is_slot b)) where
  slot_low : byte "A" ≤ b
  slot_low = leb→le (byte "A") b (and_left (leb (byte "A") b) (leb (suc b) (slot_byte slot_count)) h)

  slot_high : b < slot_byte slot_count
  slot_high = leb→le (suc b) (slot_byte slot_count) (and_right (leb (byte "A") b) (leb (suc b) (slot_byte slot_count)) h)

slot_of_number : (i : ℕ) → i < slot_count → T (is_slot (slot_byte i))
slot_of_number i h =
    let b = slot_byte i in
    let low = le→leb (byte "A") b (omega arith) in
    let high = le→leb (suc b) (slot_byte slot_count) (omega arith) in
    and_intro (leb (byte "A") b) (leb (suc b) (slot_byte slot_count)) low high

pub slots_exact : SlotsExact
slots_exact =
    record {
      named = slot_of_number;
      number_of_byte = λ i. omega arith;
      numbered = λ b h. omega (arith, slot_low b h, slot_high b h);
      byte_of_number = λ b h. omega (arith, slot_low b h);
    }
