-- What is read of a line means the record that the definitions give: a record's line is its text, in which its words stand at the places
-- that `placed` names. The term of specs/Reading.antt.
use Prim.Native.Nat.{ℕ, ◌+◌, ◌-◌, ◌^◌, ◌≤◌, ◌<◌}
use mathlib.Core.Path.{◌≡◌, refl, sym, ◌∙◌, ap, ap₂, subst}
use mathlib.Core.Bool.{Bool, true, false, ◌&&◌}
use mathlib.Core.List.{[], ◌∷◌, ◌++◌, append-nil}
use mathlib.Core.Option.{Option, none, some}
use native.Mathlib.Omega.{arith}
use lib.Dec.{T, leb}
use lib.ListN.{length, take, drop, length-append}
use lib.Seq.{drop_at, take-append_seam, append_snoc}
use Rattle.std.specs.Prelude.{IfSome}
use Rattle.higman.specs.Bases.{all}
use Rattle.higman.specs.Refusals.{no_record}
use Rattle.higman.specs.Text.{Bytes, byte, tab, decimal}
use Rattle.higman.proofs.Tests.{and_left, and_right}
use Rattle.desk.specs.Limits.{max_line, max_numeral, max_splits_numeral, max_seed_numeral}
use Rattle.desk.specs.Records.{Record, P, M, E, F, I, K, S, W, L, C, U, X, Z, G, H, parse, record_fields, record_text}
use Rattle.desk.specs.Records.{Right, no_right, may_read, may_write, right_number}
use Rattle.desk.specs.Records.{no_tab, numbers_fit, has_digits, signed_decimal, well_formed}
use Rattle.desk.specs.Replies.{Outcome, refuse, pass, record_of, grant_by}
use Rattle.desk.proofs.NumberFields.{number_exact, signed_exact}
use Rattle.desk.proofs.Grammar.{text_exact}
use Rattle.records.specs.Reading.{part, placed, placed_by, read_line, bytes_of, meant, meant_by, Within, InBounds, ReadExact}
use Rattle.records.proofs.fields.Numbers.{number_below, signed_below}

-- a word of a line, by what stands in front of it and behind it
module _ (line front word behind : Bytes) (e : line ≡ front ++ (word ++ behind)) where
  word_there : bytes_of line (part (length front) (length word)) ≡ word
  word_there =
      let size : length front + length word - length front ≡ length word = omega arith in
      ap₂ take size (ap (drop (length front)) e ∙ drop_at front (word ++ behind) (length front) refl) ∙ take-append_seam word behind

  word_within : Within line (part (length front) (length word))
  word_within =
      record {
        ordered = omega arith;
        inside = omega (arith, ap length e, length-append front (word ++ behind), length-append word behind);
      }

-- where the words of M stand, and the code of W
module _ (line from to : Bytes) (e : line ≡ record_text (M from to)) where
  in_front_of_from : line ≡ (byte "M" ∷ tab ∷ []) ++ (from ++ (tab ∷ to))
  unfolding record_text
  in_front_of_from = e

  in_front_of_to : line ≡ (byte "M" ∷ tab ∷ from ++ (tab ∷ [])) ++ (to ++ [])
  unfolding record_text
  in_front_of_to =
      let whole = sym (append_snoc from tab to) ∙ ap (λ l. (from ++ (tab ∷ [])) ++ l) (sym (append-nil to)) in
      e ∙ ap (λ l. byte "M" ∷ tab ∷ l) whole

  -- what stands in front of the second word
  to_start : length (byte "M" ∷ tab ∷ from ++ (tab ∷ [])) ≡ 2 + length from + 1
  to_start = omega (arith, length-append from (tab ∷ []))

module _ (line : Bytes) (a : ℕ) (code : Bytes) (e : line ≡ record_text (W a code)) where
  in_front_of_code : line ≡ (byte "W" ∷ tab ∷ a ∷ tab ∷ []) ++ (code ++ [])
  unfolding record_text
  in_front_of_code = e ∙ ap (λ l. byte "W" ∷ tab ∷ a ∷ tab ∷ l) (sym (append-nil code))

-- a right and its number
right_means : (s a : ℕ) (x : Right) → grant_by s a (right_number x) ≡ pass (G s a x)
unfolding right_number
right_means s a no_right = refl
right_means s a may_read = refl
right_means s a may_write = refl

right_within : (x : Right) → right_number x ≤ 2
unfolding right_number
right_within no_right = omega arith
right_within may_read = omega arith
right_within may_write = omega arith

-- a record's places, in the line that is its text
placed_means : (line : Bytes) (r : Record) → line ≡ record_text r → meant line (placed r) ≡ pass r
placed_means line (P a n r) e = refl
placed_means line (M from to) e =
    let second = ap (λ s. bytes_of line (part s (length to))) (sym (to_start line from to e)) in
    ap₂ (λ f t. pass (M f t))
    (word_there line (byte "M" ∷ tab ∷ []) from (tab ∷ to) (in_front_of_from line from to e))
    (second ∙ word_there line (byte "M" ∷ tab ∷ from ++ (tab ∷ [])) to [] (in_front_of_to line from to e))
placed_means line E e = refl
placed_means line (F a b c) e = refl
placed_means line (I a c) e = refl
placed_means line (K a k c) e = refl
placed_means line (S a b) e = refl
placed_means line (W a code) e =
    ap (λ w. pass (W a w)) (word_there line (byte "W" ∷ tab ∷ a ∷ tab ∷ []) code [] (in_front_of_code line a code e))
placed_means line (L a) e = refl
placed_means line (C a) e = refl
placed_means line Record.T e = refl
placed_means line U e = refl
placed_means line (X a n r s seed) e = refl
placed_means line (Z s) e = refl
placed_means line (G s a x) e = right_means s a x
placed_means line H e = refl

below_of_digits : (m n : ℕ) → T (has_digits m n) → n < 10 ^ m
below_of_digits m n h = number_below m (decimal n) n ((number_exact m).reads n h)

one_digit : (n : ℕ) → T (has_digits 1 n) → n ≤ 9
one_digit n h = omega (arith, below_of_digits 1 n h)

placed_in_bounds : (line : Bytes) (r : Record) → T (numbers_fit r) → line ≡ record_text r → InBounds line (placed r)
placed_in_bounds line (P a n r) h e =
    (one_digit n (and_left (has_digits 1 n) (has_digits 1 r) h), one_digit r (and_right (has_digits 1 n) (has_digits 1 r) h))
placed_in_bounds line (M from to) h e =
    let second = word_within line (byte "M" ∷ tab ∷ from ++ (tab ∷ [])) to [] (in_front_of_to line from to e) in (
      word_within line (byte "M" ∷ tab ∷ []) from (tab ∷ to) (in_front_of_from line from to e),
      subst (λ s. Within line (part s (length to))) (to_start line from to e) second,
    )
placed_in_bounds line E h e = tt
placed_in_bounds line (F a b c) h e = tt
placed_in_bounds line (I a c) h e = tt
placed_in_bounds line (K a k c) h e = signed_below max_numeral (signed_decimal k) k ((signed_exact max_numeral).reads k h)
placed_in_bounds line (S a b) h e = tt
placed_in_bounds line (W a code) h e = word_within line (byte "W" ∷ tab ∷ a ∷ tab ∷ []) code [] (in_front_of_code line a code e)
placed_in_bounds line (L a) h e = tt
placed_in_bounds line (C a) h e = tt
placed_in_bounds line Record.T h e = tt
placed_in_bounds line U h e = tt
placed_in_bounds line (X a n r s seed) h e =
    let up-to-roots = has_digits 1 n && has_digits 1 r in
    let up-to-splits = up-to-roots && has_digits max_splits_numeral s in
    let splits = and_left up-to-splits (has_digits max_seed_numeral seed) h in
    let shape = and_left up-to-roots (has_digits max_splits_numeral s) splits in (
      one_digit n (and_left (has_digits 1 n) (has_digits 1 r) shape),
      one_digit r (and_right (has_digits 1 n) (has_digits 1 r) shape),
      below_of_digits max_splits_numeral s (and_right up-to-roots (has_digits max_splits_numeral s) splits),
      below_of_digits max_seed_numeral seed (and_right up-to-splits (has_digits max_seed_numeral seed) h),
    )
placed_in_bounds line (Z s) h e = one_digit s h
placed_in_bounds line (G s a x) h e = (one_digit s h, right_within x)
placed_in_bounds line H h e = tt

-- What holds of a line that is no record, and of every record in the line that is its text, holds of what a line is read as.
module _ (line : Bytes) (Q : Outcome Record → Type 0) (refused : Q (refuse no_record none))
    (passed : (r : Record) → T (numbers_fit r) → line ≡ record_text r → Q (pass r)) where
  holds_of_parsed : (o : Option Record) → parse line ≡ o → Q (elim o [ none ↦ refuse no_record none | some r ↦ pass r ])
  unfolding well_formed
  holds_of_parsed none e = refused
  holds_of_parsed (some r) e =
      let typed = (text_exact.grammar line r).0 e in
      passed r (and_right (all no_tab (record_fields r)) (numbers_fit r) typed.0) typed.1

  holds_of_length : (short : Bool)
      → Q (elim short [ false ↦ refuse no_record none | true ↦ elim (parse line) [ none ↦ refuse no_record none | some r ↦ pass r ] ])
  holds_of_length false = refused
  holds_of_length true = holds_of_parsed (parse line) refl

  holds_of_line : Q (record_of line)
  holds_of_line = holds_of_length (leb (length line) max_line)

read_means : (line : Bytes) → meant_by line (read_line line) ≡ record_of line
unfolding read_line
read_means line = holds_of_line line (λ o. meant_by line (placed_by o) ≡ o) refl (λ r h e. placed_means line r e)

read_in_bounds : (line : Bytes) → IfSome (read_line line) (InBounds line)
unfolding read_line
read_in_bounds line = holds_of_line line (λ o. IfSome (placed_by o) (InBounds line)) tt (placed_in_bounds line)

pub read_exact : ReadExact
read_exact = record { means = read_means; in_bounds = read_in_bounds }
