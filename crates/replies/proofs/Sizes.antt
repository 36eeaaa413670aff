-- Every reply has room in `max_reply` bytes: a listing and a block by the limits of a plan, an image by those of a plan and of a code, a
-- survey by the number of slots, and every other reply by the digits of its number.
use Prim.Native.Nat.{ℕ, suc, ◌+◌, ◌*◌, ◌^◌, ◌≤◌, ◌<◌}
use mathlib.Core.Path.{◌≡◌, refl, ◌∙◌, ap, subst}
use mathlib.Core.List.Memᴰ
use mathlib.Core.List.{List, [], ◌∷◌, map, Memᴰ}
use mathlib.Core.Option.{Option, none, some}
use native.Mathlib.Nat.{suc-mul}
use native.Mathlib.Omega.{arith}
use lib.Dec.{T, leb, leb→le}
use lib.ListN.{length, length-append, length-map}
use Rattle.higman.specs.Words.{Shape, Word, is_word}
use Rattle.higman.specs.Bases.{all}
use Rattle.higman.specs.Tables.{Pair, froms}
use Rattle.higman.specs.Limits.{Plan, Kept, max_pairs, max_digits, max_code, slot_count, fits, pair_fits, granted, is_code}
use Rattle.higman.specs.Text.{Bytes, word_bytes, decimal, line_end}
use Rattle.higman.specs.Answers.{Image, routed}
use Rattle.higman.specs.Places.{place_of, Placed, placed_block, AtPlace}
use Rattle.higman.specs.Refusals.{Letter}
use Rattle.higman.specs.Listing.{pair_record, pair_records, join_lines, close_record, listing}
use Rattle.higman.proofs.Tests.{and_left, and_right, all_at}
use Rattle.higman.proofs.Expansions.{length_of_perm}
use Rattle.higman.proofs.Images.{row_of_image}
use Rattle.higman.proofs.KeptPlans.{in_range}
use Rattle.higman.proofs.Answers.{image_of_route}
use Rattle.higman.proofs.Fronts.{block_own, block_few}
use Rattle.higman.proofs.Places.{places_exact}
use Rattle.words.proofs.Runs.{word_size}
use Rattle.desk.specs.Desk.{Desk, IsDesk, seen}
use Rattle.desk.proofs.Seen.{seen_length}
use Rattle.desk.proofs.Sums.{few_pairs}
use Rattle.desk.specs.Replies.{Held, held_from, comes_before, surveyed, surveys, ok_block}
use Rattle.desk.specs.Bytes.{line_of, ok_line, no_line, column_field, part_fields, held_fields, reply_bytes}
use Rattle.desk.proofs.Grammar.{text_exact}
use Rattle.desk.proofs.Arranged.{arranged_perm}
use Rattle.desk.proofs.Surveys.{survey_of}
use Rattle.replies.specs.Lines.{ImageFits, HeldFits}
use Rattle.replies.specs.Sizes.{max_reply, Rooms}
use Rattle.replies.proofs.Lines.{decimal_size}

-- lines one behind the other, each of at most k bytes
lines_fit : {A : Type 0} (f : A → Bytes) (k : ℕ) (l : List A) → ((a : A) → Memᴰ a l → length (f a) ≤ k)
    → length (join_lines (map f l)) ≤ length l * k
lines_fit f k [] h = omega arith
lines_fit f k (a ∷ l) h =
    let first = h a (Memᴰ.head refl) in
    let rest = lines_fit f k l (λ b m. h b (Memᴰ.tail m)) in
    omega (arith, length-append (f a) (join_lines (map f l)), suc-mul (length l) k)

-- "at most 16 digits"
module _ (p : Plan) (k : Kept p) where
  pub words_fit : (q : Pair) → Memᴰ q p.rows → T (pair_fits q)
  unfolding granted
  words_fit q m = all_at pair_fits p.rows (and_right (leb (length p.rows) max_pairs) (all pair_fits p.rows) k.within) q m

module _ (q : Pair) (h : T (pair_fits q)) where
  pub from_fits : length q.from ≤ max_digits
  from_fits = leb→le (length q.from) max_digits (and_left (fits q.from) (fits q.to) h)

  to_fits : length q.to ≤ max_digits
  to_fits = leb→le (length q.to) max_digits (and_right (fits q.from) (fits q.to) h)

  record_fits : length (pair_record q) ≤ 36
  unfolding max_digits
  record_fits = simp (length-append, length-map) (omega (arith, from_fits, to_fits))

  part_fits : (k : ℕ) → k ≤ max_pairs → length (line_of (part_fields (record { place = k; pair = q }))) ≤ 40
  unfolding max_digits max_pairs
  part_fits k h =
      let digits = decimal_size 2 k (omega arith) in
      simp length-append (omega (arith, word_size q.from, word_size q.to, from_fits, to_fits))

pub listing_fits : (slot : ℕ) (p : Plan) → Kept p → length (listing slot p) ≤ max_reply
unfolding max_reply max_pairs
listing_fits slot p k =
    let pairs = lines_fit pair_record 36 p.rows (λ q m. record_fits q (words_fit p k q m)) in
    omega (arith, few_pairs p k, length-append (join_lines (pair_records p.rows)) close_record)

-- places are those of the plan's pairs
place_few : (p : Plan) → Kept p → (k : ℕ) (q : Pair) → AtPlace p.rows k q → k ≤ max_pairs
place_few p K k q y =
    omega (arith, y.counted, ap length y.parts, length-append y.before (q ∷ y.behind), few_pairs p K)

-- the lines of a block are no more than the pairs, and their number has at most three digits
module _ (p : Plan) (w : Word) (k : Kept p) where
  abbrev inside : List Placed
  inside = placed_block p.rows w

  inside_few : length inside ≤ max_pairs
  inside_few =
      let same = ap length (places_exact.pairs p.rows w) in
      omega (arith, length-map inside (λ l. l.pair), same, few_pairs p k, block_few p.rows w)

  inside_fits : (l : Placed) → Memᴰ l inside → length (line_of (part_fields l)) ≤ 40
  inside_fits l m =
      let y = places_exact.places p.rows w l m in
      let among = subst (Memᴰ l.pair) (places_exact.pairs p.rows w) (Memᴰ.map (λ n. n.pair) m) in
      let fits = words_fit p k l.pair (block_own p.rows w l.pair among).0 in
      part_fits l.pair fits l.place (place_few p k l.place l.pair y)

  pub block_lines_fit : length (join_lines (map (λ l. line_of (part_fields l)) inside)) ≤ max_pairs * 40
  unfolding max_pairs
  block_lines_fit = omega (arith, inside_few, lines_fit (λ l. line_of (part_fields l)) 40 inside inside_fits)

  pub block_count_fits : length (ok_line (decimal (length inside) ∷ [])) ≤ 7
  unfolding max_pairs
  block_count_fits =
      let n = length inside in
      omega (arith, decimal_size 2 n (omega (arith, inside_few)), length-append (decimal n) (line_end ∷ []))

  pub block_fits : length (reply_bytes (ok_block inside)) ≤ max_reply
  unfolding max_reply max_pairs reply_bytes
  block_fits =
      let lines = join_lines (map (λ l. line_of (part_fields l)) inside) in
      let whole = ap length (text_exact.replies.block inside) ∙ length-append lines (ok_line (decimal (length inside) ∷ [])) in
      omega (arith, block_lines_fit, block_count_fits)

code_fits : (s : Shape) (code : Word) → T (is_code s code) → length code ≤ max_code
unfolding is_code
code_fits s code h = leb→le (length code) max_code (and_right (is_word s code) (leb (length code) max_code) h)

-- the to-word and the rest of the code: "its image may have more and isn't refused for it"
pub image_fits : (p : Plan) (code v : Word) → Kept p → routed p code ≡ Image v
    → ImageFits (length (word_bytes v)) (place_of (froms p.rows) code) max_reply
unfolding max_reply max_digits max_code
image_fits p code v k e =
    let (c, i) = image_of_route p code v e in
    let (q, x, m, from, to) = row_of_image p.rows code v i in
    let head = to_fits q (words_fit p k q m) in
    let whole : length code ≡ length q.from + length x = ap length from ∙ length-append q.from x in
    let sent : length v ≡ length q.to + length x = ap length to ∙ length-append q.to x in
    let y = places_exact.routes p.rows code v i in
    record { place_granted = place_few p k _ y.pair y.there; room = omega (arith, word_size v, code_fits p.shape code c) }

-- the line of an image has at most eight bytes more
pub image_line_size : (image : Bytes) (k : ℕ) → k ≤ max_pairs → length (ok_line (image ∷ decimal k ∷ [])) ≤ length image + 8
unfolding max_pairs
image_line_size image k h = let digits = decimal_size 2 k (omega arith) in simp length-append (omega arith)

pub rooms : Rooms max_reply
unfolding max_reply slot_count
rooms = record { ok = omega arith; ok_number_fact = omega arith; no = omega arith; no_column = omega arith; survey = omega arith }

-- the lines that hold numbers
pub ok_number_size : (k : ℕ) → k < 10 ^ 10 → length (ok_line (decimal k ∷ [])) ≤ 14
ok_number_size k h = omega (arith, decimal_size 9 k h, length-append (decimal k) (line_end ∷ []))

pub no_size_lem : (n : ℕ) (c : Option Letter) → n < 10 ^ 3 → length (no_line (decimal n ∷ column_field c)) ≤ 9
no_size_lem n none h = omega (arith, decimal_size 2 n h, length-append (decimal n) (line_end ∷ []))
no_size_lem n (some c) h = simp length-append (omega (arith, decimal_size 2 n h))

-- a kept plan is one that `held` may be asked for, where its line has room
pub held_fits : (p : Plan) → Kept p → (at size : ℕ) → at + 10 ≤ size → HeldFits p.shape.arity p.shape.roots (length p.rows) at size
held_fits p k at size h =
    let shape = in_range p.shape k.in_range in
    record { arity_digit = shape.arity_high; roots_digit = shape.roots_high; pairs_granted = few_pairs p k; room = h }

pub held_size : (h : Held) → Kept h.plan → length (line_of (held_fields h)) ≤ 10
unfolding max_pairs
held_size h k =
    let p = h.plan in
    let shape = in_range p.shape k.in_range in
    let pairs = few_pairs p k in
    let arity-digits = decimal_size 0 p.shape.arity (omega arith) in
    let roots-digits = decimal_size 0 p.shape.roots (omega arith) in
    let pairs-digits = decimal_size 2 (length p.rows) (omega arith) in
    simp length-append (omega arith)

-- the lines of a survey: there are no more than slots
held_few : (i : ℕ) (l : List (Option Plan)) → length (held_from i l) ≤ length l
held_few i [] = omega arith
held_few i (none ∷ l) = omega (arith, held_few (suc i) l)
held_few i (some p ∷ l) = omega (arith, held_few (suc i) l)

surveyed_few : (d : Desk) → length (surveyed d) ≤ length d.slots
unfolding surveyed
surveyed_few d =
    let hs = held_from 0 (seen d) in
    omega (arith, length_of_perm (arranged_perm comes_before hs), held_few 0 (seen d), seen_length d)

pub survey_size : (d : Desk) → IsDesk d → length (reply_bytes (surveys (surveyed d))) ≤ slot_count * 10 + 14
unfolding slot_count reply_bytes
survey_size d D =
    let hs = surveyed d in
    let few : length hs ≤ 8 = omega (arith, surveyed_few d, D.eight) in
    let line : Held → Bytes = λ h. line_of (held_fields h) in
    let count = ok_line (decimal (length hs) ∷ []) in
    let whole = ap length (text_exact.replies.survey hs) ∙ length-append (join_lines (map line hs)) count in
    let kept : (h : Held) → Memᴰ h hs → Kept h.plan =
    λ h m. D.kept h.slot h.plan (((survey_of d).each h.slot h.plan).1 m).0 in
    let each = lines_fit line 10 hs (λ h m. held_size h (kept h m)) in
    omega (arith, ok_number_size (length hs) (omega arith))
