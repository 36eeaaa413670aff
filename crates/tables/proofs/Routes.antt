-- Routing a code of any length: the word of a column that begins it begins its front, the tail behind that word is a part of the code,
-- and the image, in bytes, is the to-word's bytes and then that part.
use Prim.Native.Nat.{ℕ, suc, ◌+◌, ◌≤◌, ◌<◌}
use mathlib.Core.Path.{◌≡◌, refl, sym, ◌∙◌, ap, ap₂, subst}
use mathlib.Core.Bool.{true}
use mathlib.Core.List.{List, ◌++◌, append_assoc, map-append}
use mathlib.Core.Option.{Option, none, some, get_or}
use native.Mathlib.Nat.{zero-add}
use native.Mathlib.Numerals.{add-one}
use native.Mathlib.Omega.{arith}
use lib.ListN.{length, take, drop, length-append, length-map, take-append-drop}
use lib.Seq.{take_at, drop_at, drop-drop}
use Rattle.std.specs.Prelude.{Ok, Err, Some, None, ltb, if◌then◌else◌}
use Rattle.higman.specs.Words.{Word, begins}
use Rattle.higman.specs.Tables.{first_match, image}
use Rattle.higman.specs.Places.{place_of}
use Rattle.higman.specs.Text.{digit_byte, word_bytes, digit_of, word_of}
use Rattle.higman.specs.Limits.{max_digits}
use Rattle.higman.proofs.Tests.{Ways, ways_of_test}
use Rattle.higman.proofs.Prefixes.{tail_of_begins, ways_right}
use Rattle.higman.proofs.Matches.{match_found, match_nowhere, match_map}
use Rattle.words.specs.Packed.{unpack}
use Rattle.higman.specs.Buffers.{written}
use Rattle.higman.proofs.Buffers.{with_room, without_room, lent_written, lent_as_it_was}
use Rattle.words.specs.Writing.{Wrote}
use Rattle.words.proofs.Packed.{packed_length}
use Rattle.higman.proofs.Text.{bytes_of_word}
use Rattle.words.proofs.Codes.{digits_drop, begins_take, after_drop}
use Rattle.columns.specs.Packed.{words_of, table}
use Rattle.columns.specs.Columns.{word_at, place_in, begun_at}
use Rattle.tables.specs.Spreading.{packed_words, Operand}
use Rattle.tables.specs.Routing.{IsCode, matched_digits, further, routed_in, routed_into}
use Rattle.tables.specs.declared.routing.Image.{Image}
use Rattle.tables.specs.declared.routing.RouteError.TheVariants.{TooShort, NoRoom}
use Rattle.columns.proofs.Search.{FirstIn, place_of_first, first_of_place, first_of_begun}
use Rattle.tables.proofs.Lookup.{image_at_lem, packed_at}

-- the whole code starts where it starts
pub here : (place : ℕ × ℕ) → place ≡ further 0 place
here place = ap (λ n. (place.0, n)) (sym (zero-add place.1))

pub code_ways : (code : List ℕ) → IsCode code → Ways 9 (word_of code)
code_ways code t = ways_of_test 9 (word_of code) t

-- the word that begins the front of w is the word that begins w
pub begun_at_front : (column : List ℕ) (x : ℕ) (w : Word) → packed_words column → unpack x ≡ take max_digits w
    → begun_at (words_of column) (unpack x) ≡ begun_at (words_of column) w
begun_at_front column x w t e =
    let c = words_of column in
    ap (λ r. if ltb r (length c) then Some r else None) (place_of_front (place_in c (unpack x)) refl)
  where
    same : (k : ℕ) → k < length column → begins (word_at column k) w ≡ begins (word_at column k) (unpack x)
    same k h =
        let u = word_at column k in
        sym (begins_take u w max_digits (packed_length _ (packed_at column t k h))) ∙ ap (begins u) (sym e)

    place_of_front : (r : ℕ) → r ≡ place_in (words_of column) (unpack x) → r ≡ place_in (words_of column) w
    place_of_front r p =
        let f = first_of_place column (unpack x) r p in
        place_of_first column w r
        record {
          within = f.within;
          earlier = λ j h. same j (omega (arith, f.within)) ∙ f.earlier j h;
          found = λ h. same r h ∙ f.found h;
        }

module _ (column : List ℕ) (w : Word) (k : ℕ) (f : FirstIn column w k) where
  -- a number made of the word that begins w, or 0
  module _ (make : ℕ → Word → Word → ℕ) where
    made_found : (h : k < length column)
        → get_or (first_match (λ u. u) make (words_of column) w) 0 ≡ make k (word_at column k) (drop (length (word_at column k)) w)
    made_found h =
        let tail = after_drop (word_at column k) w (f.found h) in
        ap (λ o. get_or o 0)
        (match_map (λ u. u) unpack make column w ∙ match_found unpack 0 (λ j x. make j (unpack x)) column w k f h _ tail)

    made_nowhere : k ≡ length column → get_or (first_match (λ u. u) make (words_of column) w) 0 ≡ 0
    made_nowhere e =
        ap (λ o. get_or o 0)
        (match_map (λ u. u) unpack make column w ∙ match_nowhere unpack 0 (λ j x. make j (unpack x)) column w k f e)

  module _ (h : k < length column) where
    pub matched_digits_lem : matched_digits (words_of column) w ≡ length (word_at column k)
    unfolding matched_digits
    matched_digits_lem = made_found (λ before u tail. length u) h

    pub matched_place_lem : place_of (words_of column) w ≡ k + 1
    unfolding place_of
    matched_place_lem = made_found (λ before u tail. suc before) h ∙ sym (add-one k)

  module _ (e : k ≡ length column) where
    pub matched_none : matched_digits (words_of column) w ≡ 0
    unfolding matched_digits
    matched_none = made_nowhere (λ before u tail. length u) e

    pub matched_nowhere : place_of (words_of column) w ≡ 0
    unfolding place_of
    matched_nowhere = made_nowhere (λ before u tail. suc before) e

-- a word that begins a code has no more digits than the code has bytes
pub begins_within : (p : Word) (code : List ℕ) → begins p (word_of code) ≡ true → length p ≤ length code
begins_within p code b =
    let t = tail_of_begins p (word_of code) b in
    omega (arith, ap length t.1, length-append p t.0, length-map code digit_of)

-- what the first from-word that begins a code gives, k being its place: the to-word, and behind it the tail
pub record Found (from to code : List ℕ) (k : ℕ) : Type 0 where
  pub word : Word
  pub image : image (table from to) (word_of code) ≡ some word
  pub place : place_of (words_of from) (word_of code) ≡ k + 1
  pub bytes : word_bytes word ≡ word_bytes (word_at to k) ++ drop (length (word_at from k)) code
  pub long : length (word_bytes word) ≡ length (word_at to k) + length (drop (length (word_at from k)) code)

module _ (from to : List ℕ) (o : Operand from to) (code : List ℕ) (t : IsCode code) (k : ℕ) where
  n : ℕ
  n = length (word_at from k)

  tail_ways : Ways 9 (word_of (drop n code))
  unfolding n
  tail_ways =
      let w = word_of code in
      let ways = ways_right 9 (take n w) (drop n w) (subst (Ways 9) (sym (take-append-drop n w)) (code_ways code t)) in
      subst (Ways 9) (sym (digits_drop n code)) ways

  found_bytes : word_bytes (word_at to k ++ word_of (drop n code)) ≡ word_bytes (word_at to k) ++ drop n code
  found_bytes =
      map-append digit_byte (word_at to k) (word_of (drop n code))
      ∙ ap (λ l. word_bytes (word_at to k) ++ l) (bytes_of_word (drop n code) tail_ways)

  pub found_at : begun_at (words_of from) (word_of code) ≡ Some k → Found from to code k
  unfolding n
  found_at e =
      let (f, h) = first_of_begun from (word_of code) k e in
      record {
        word = word_at to k ++ word_of (drop n code);
        image =
            image_at_lem from to o.plain.long (word_of code) k f h _ (after_drop (word_at from k) (word_of code) (f.found h))
            ∙ ap (λ x. some (word_at to k ++ x)) (sym (digits_drop n code));
        place = matched_place_lem from (word_of code) k f h;
        bytes = found_bytes;
        long =
            ap length found_bytes
            ∙ length-append (word_bytes (word_at to k)) (drop n code)
            ∙ ap (λ m. m + length (drop n code)) (length-map (word_at to k) digit_byte);
      }

-- bytes written to the start, and more bytes copied to the place behind them
pub written_part : (out s t whole back : List ℕ) (e n : ℕ) → Wrote s out 0 whole e → back ≡ t → n ≡ length t
    → take e whole ++ (back ++ drop n (drop e whole)) ≡ written out 0 (s ++ t)
written_part out s t whole back e n w b l =
    let rest = drop (0 + length s) out in
    let size : 0 + length s + n ≡ 0 + length (s ++ t) = omega (arith, length-append s t) in
    ap₂ (λ k x. take k x ++ (back ++ drop n (drop k x))) (w.place ∙ zero-add (length s)) w.contents
    ∙ ap₂ (λ x y. x ++ (back ++ drop n y)) (take_at s rest (length s) refl) (drop_at s rest (length s) refl)
    ∙ ap₂ (λ x y. s ++ (x ++ y)) b (drop-drop n (0 + length s) out ∙ ap (λ k. drop k out) size)
    ∙ sym (append_assoc s t (drop (0 + length (s ++ t)) out))

-- the three answers, by the image of the code and the place of the pair
module _ (out : List ℕ) (k : ℕ) {o : Option Word} where
  pub route_too_short : o ≡ none → (Err TooShort ≡ routed_in k o (length out)) × (out ≡ routed_into o out)
  route_too_short e = (sym (ap (λ o. routed_in k o (length out)) e), sym (ap (λ o. routed_into o out) e))

  module _ (v : Word) (e : o ≡ some v) where
    abbrev done : Image
    done = record { length = length (word_bytes v); place = k }

    pub route_no_room : length out < length (word_bytes v) → (Err NoRoom ≡ routed_in k o (length out)) × (out ≡ routed_into o out)
    route_no_room h =
        let size = length (word_bytes v) in (
          sym (ap (λ o. routed_in k o (length out)) e ∙ without_room size (length out) (Ok done) (Err NoRoom) h),
          sym (ap (λ o. routed_into o out) e ∙ lent_as_it_was (word_bytes v) out h),
        )

    pub route_image : length (word_bytes v) ≤ length out
        → (Ok done ≡ routed_in k o (length out)) × (written out 0 (word_bytes v) ≡ routed_into o out)
    route_image h =
        let size = length (word_bytes v) in (
          sym (ap (λ o. routed_in k o (length out)) e ∙ with_room size (length out) (Ok done) (Err NoRoom) h),
          sym (ap (λ o. routed_into o out) e ∙ lent_written (word_bytes v) out h),
        )
