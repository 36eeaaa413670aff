-- U's lines by the head alone: the shape and the number of pairs of each slot that has some. They are the lines of what U lists of the desk,
-- whatever its columns are, and they follow one another in the order that the slots were arranged in.
use Prim.Native.Nat.{ℕ, zero, suc, ◌+◌, ◌*◌, ◌≤◌, ◌<◌}
use mathlib.Core.Path.{◌≡◌, refl, sym, ◌∙◌, ap, ap₂, subst}
use mathlib.Core.Bool.{Bool, true, false}
use mathlib.Core.List.{List, [], ◌∷◌, ◌++◌, map, append-nil, append_assoc, Memᴰ}
use mathlib.Core.Option.{Option, none, some}
use native.Mathlib.Numerals.{add-one}
use native.Mathlib.Omega.{arith}
use lib.Dec.{leb, eqb}
use lib.ListN.{length, get_or, take, drop, length-drop, length-map}
use lib.Seq.{take_all, take_at, take-suc, length-take-le}
use Rattle.higman.specs.Words.{count}
use Rattle.higman.specs.Limits.{Plan as PlanOf, max_pairs, slot_count}
use Rattle.higman.specs.Text.{Bytes, decimal}
use Rattle.higman.specs.Listing.{join_lines, slot_byte}
use Rattle.higman.proofs.Tests.{count_bounds}
use Rattle.columns.proofs.Rows.{rows_length}
use Rattle.words.specs.Writing.{Wrote}
use Rattle.words.proofs.Runs.{wrote_nothing, wrote_then}
use Rattle.tables.proofs.Lookup.{mem_number}
use Rattle.desk.specs.Desk.{right_of, seen_from, seen}
use Rattle.desk.specs.Replies.{Held, held_from, line_first, comes_before, arranged, surveyed, surveys}
use Rattle.desk.specs.Bytes.{line_of, ok_line, held_fields, reply_bytes}
use Rattle.desk.proofs.Grammar.{text_exact}
use Rattle.desk.proofs.Arranged.{arranged_map}
use Rattle.operations.specs.Plans.{plan_of, rows_of}
use Rattle.replies.specs.Lines.{HeldFits}
use Rattle.replies.specs.Sizes.{max_reply}
use Rattle.replies.proofs.Sizes.{rooms, held_fits, held_size}
use Rattle.slots.specs.declared.Size.{Size}
use Rattle.slots.specs.declared.Head.{Head}
use Rattle.slots.specs.Blocks.{size_at, from_place, to_place, value_at}
use Rattle.slots.specs.Desks.{slot_at, control_of, desk_of, HoldsDesk}
use Rattle.columns.proofs.Limits.{pair_limit}
use Rattle.slots.proofs.Windows.{written_length}
use Rattle.slots.proofs.Held.{slots_eight, slot_kept}
use Rattle.asking.specs.Arranged.{slot_first, shown_among, shown_in_order}
use Rattle.asking.proofs.Lent.{few_pairs}
use Rattle.asking.proofs.Arranged.{shown_if, held_in, in_order_held, in_order_few}

-- "`slot⇥n⇥r⇥pairs`"
abbrev pub size_fields : ℕ → Size → List Bytes
size_fields i z = (slot_byte i ∷ []) ∷ decimal z.arity ∷ decimal z.roots ∷ decimal z.pairs ∷ []

-- the lines of some slots
abbrev pub line_at : Head → ℕ → Bytes
line_at h i = line_of (size_fields i (size_at h i))

abbrev pub lines_at : Head → List ℕ → Bytes
lines_at h is = join_lines (map (line_at h) is)

-- one line more
lines_more : (h : Head) (is : List ℕ) (i : ℕ) → lines_at h (is ++ (i ∷ [])) ≡ lines_at h is ++ line_at h i
lines_more h [] i = append-nil (line_at h i)
lines_more h (j ∷ is) i =
    ap (λ x. line_at h j ++ x) (lines_more h is i) ∙ sym (append_assoc (line_at h j) (lines_at h is) (line_at h i))

-- the plan of a slot is as its size says
module _ (h : Head) (columns : List ℕ) (H : HoldsDesk h columns) (i : ℕ) (k : i < slot_count) where
  pairs_held : length (rows_of (value_at h columns i)) ≡ (size_at h i).pairs
  unfolding value_at
  pairs_held =
      let from = drop (from_place i) columns in
      let to = drop (to_place i) columns in
      let few = few_pairs h columns H i k in
      let from_long = length-take-le max_pairs from (omega (arith, pair_limit, slots_eight, length-drop (from_place i) columns, H.sized)) in
      let to_long = length-take-le max_pairs to (omega (arith, pair_limit, slots_eight, length-drop (to_place i) columns, H.sized)) in
      rows_length (size_at h i).pairs (take max_pairs from) (take max_pairs to) (omega (arith, few, from_long)) (omega (arith, few, to_long))

  held_as_sized : held_fields (record { slot = i; plan = plan_of (value_at h columns i) }) ≡ size_fields i (size_at h i)
  unfolding value_at
  held_as_sized = ap (λ n. (slot_byte i ∷ []) ∷ decimal (size_at h i).arity ∷ decimal (size_at h i).roots ∷ decimal n ∷ []) pairs_held

  module _ (full : (size_at h i).pairs ≡ 0 → ⊥) where
    pub line_fits : (at size : ℕ) → at + 10 ≤ size → HeldFits (size_at h i).arity (size_at h i).roots (size_at h i).pairs at size
    unfolding value_at
    line_fits at size room =
        subst (λ n. HeldFits (size_at h i).arity (size_at h i).roots n at size) pairs_held
        (held_fits (plan_of (value_at h columns i)) (slot_kept h columns H i k full) at size room)

    line_size : length (line_of (size_fields i (size_at h i))) ≤ 10
    line_size =
        subst (λ fs. length (line_of fs) ≤ 10) held_as_sized
        (held_size (record { slot = i; plan = plan_of (value_at h columns i) }) (slot_kept h columns H i k full))

-- so the lines are those of what U lists of the desk
module _ (h : Head) (columns : List ℕ) (H : HoldsDesk h columns) where
  abbrev held_at : ℕ → Held
  held_at i = record { slot = i; plan = plan_of (value_at h columns i) }

  -- the slots from one on, as the named station sees them
  abbrev seen_slots : ℕ → ℕ → List (Option PlanOf)
  seen_slots a n = seen_from (desk_of h columns) a (map (slot_at h columns) (count a n))

  held_slots : (a n : ℕ) → held_from a (seen_slots a n) ≡ map held_at (shown_among h (count a n))
  unfolding value_at desk_of
  held_slots a zero = refl
  held_slots a (suc n) = by (eqb (size_at h a).pairs 0) (leb 1 (right_of (control_of h.control).rights h.control.station a))
      (held_slots (suc a) n)
    where
      by : (b m : Bool) → held_from (suc a) (seen_slots (suc a) n) ≡ map held_at (shown_among h (count (suc a) n))
          → held_from a ((elim m as (λ _. Option PlanOf) [
            | true ↦ elim b [
              | true ↦ none
              | false ↦ some
                  (plan_of (value_at h columns a))
            ]
            | false ↦ none
          ]) ∷ seen_slots (suc a) n)
          ≡ map held_at (shown_if h a (count (suc a) n) (elim b [ true ↦ false | false ↦ m ]))
      by true true rest = rest
      by true false rest = rest
      by false true rest = ap (λ l. held_at a ∷ l) rest
      by false false rest = rest

  -- the head's test is that of the definitions
  same_test : (i j : ℕ) → i < slot_count → j < slot_count → comes_before (held_at i) (held_at j) ≡ slot_first h i j
  same_test i j k l =
      ap₂ (λ m n. line_first m i n j) (pairs_held h columns H i k) (pairs_held h columns H j l)

  surveyed_slots : surveyed (desk_of h columns) ≡ map held_at (shown_in_order h)
  unfolding surveyed seen desk_of shown_in_order
  surveyed_slots =
      let named : (i : ℕ) → Memᴰ i (shown_among h (count 0 slot_count)) → i < slot_count =
      λ i m. let b = (count_bounds 0 slot_count i (held_in h (count 0 slot_count) i m).0).1 in omega arith in
      ap (arranged comes_before) (held_slots 0 slot_count)
      ∙ arranged_map held_at (slot_first h) comes_before (shown_among h (count 0 slot_count)) (λ i j m n. same_test i j (named i m) (named j n))

  lines_held : (is : List ℕ) → ((i : ℕ) → Memᴰ i is → i < slot_count)
      → join_lines (map (λ k. line_of (held_fields k)) (map held_at is)) ≡ lines_at h is
  lines_held [] k = refl
  lines_held (i ∷ is) k =
      ap₂ (λ fs x. line_of fs ++ x) (held_as_sized h columns H i (k i (Memᴰ.head refl))) (lines_held is (λ j m. k j (Memᴰ.tail m)))

  survey_bytes : reply_bytes (surveys (surveyed (desk_of h columns)))
      ≡ lines_at h (shown_in_order h) ++ ok_line (decimal (length (shown_in_order h)) ∷ [])
  unfolding reply_bytes
  survey_bytes =
      let is = shown_in_order h in
      text_exact.replies.survey (surveyed (desk_of h columns))
      ∙ ap (λ hs. join_lines (map (λ k. line_of (held_fields k)) hs) ++ ok_line (decimal (length hs) ∷ [])) surveyed_slots
      ∙ ap₂ (λ x n. x ++ ok_line (decimal n ∷ [])) (lines_held is (λ i m. (in_order_held h i m).0)) (length-map is held_at)

-- What is written when the lines of so many slots were: ten bytes each at most.
pub record Surveyed (h : Head) (out out' : Bytes) (used i : ℕ) : Type 0 where
  pub below : i ≤ length (shown_in_order h)
  pub wrote : Wrote (lines_at h (take i (shown_in_order h))) out 0 out' used
  pub short : used ≤ i * 10

pub survey_start : (h : Head) (out : Bytes) → Surveyed h out out 0 0
survey_start h out = record { below = omega arith; wrote = wrote_nothing out 0; short = omega arith }

-- the output is as long as before, and there is room for another line, and for the last
module _ {h : Head} {out out' : Bytes} {used i : ℕ} (s : Surveyed h out out' used i) (room : max_reply ≤ length out) where
  enough : slot_count * 10 + 14 ≤ length out
  enough = omega (arith, rooms.survey)

  pub survey_long : length out' ≡ length out
  survey_long =
      ap length s.wrote.contents
      ∙ written_length out 0 (lines_at h (take i (shown_in_order h)))
      (omega (arith, s.below, in_order_few h, s.short, s.wrote.place, enough, slots_eight))

  pub survey_room : used + 14 ≤ length out'
  survey_room = omega (arith, s.below, in_order_few h, s.short, survey_long, enough, slots_eight)

pub all_few : (h : Head) {order₀ order : List ℕ} {held : ℕ} → Wrote (shown_in_order h) order₀ 0 order held → held ≤ 8
all_few h w = omega (arith, w.place, in_order_few h, slots_eight)

-- the slots that have a line, as they were arranged
pub all_taken : (h : Head) {order₀ order : List ℕ} {held : ℕ} → Wrote (shown_in_order h) order₀ 0 order held → take held order ≡ shown_in_order h
all_taken h {order₀} {held = held} w =
    let is = shown_in_order h in
    ap (take held) w.contents ∙ take_at is (drop (0 + length is) order₀) held (omega (arith, w.place))

-- the slot whose line comes next
module _ (h : Head) {l : List ℕ} (whole : l ≡ shown_in_order h) {i : ℕ} (below : i < length l) where
  next_slot : get_or l i 0 ≡ get_or (shown_in_order h) i 0
  next_slot = ap (λ k. get_or k i 0) whole

  inside : i < length (shown_in_order h)
  inside = omega (arith, ap length whole)

  next_held : Memᴰ (get_or l i 0) (shown_in_order h)
  next_held = subst (λ k. Memᴰ k (shown_in_order h)) (sym next_slot) (mem_number (shown_in_order h) i inside)

  pub next_named : get_or l i 0 < 8
  next_named = omega (arith, (in_order_held h (get_or l i 0) next_held).0, slots_eight)

  pub next_full : (size_at h (get_or l i 0)).pairs ≡ 0 → ⊥
  next_full = (in_order_held h (get_or l i 0) next_held).1

  pub survey_next : {columns out out' out'' : List ℕ} {used used' : ℕ} → HoldsDesk h columns → Surveyed h out out' used i
      → Wrote (line_at h (get_or l i 0)) out' used out'' used' → Surveyed h out out'' used' (i + 1)
  survey_next {columns} {out} {out'' = out''} {used' = used'} H s v =
      let slot = get_or l i 0 in
      let is = shown_in_order h in
      let small = line_size h columns H slot (omega (arith, next_named, slots_eight)) next_full in
      let more : take (i + 1) is ≡ take i is ++ (slot ∷ []) =
      ap (λ n. take n is) (add-one i) ∙ take-suc is i 0 inside ∙ ap (λ k. take i is ++ (k ∷ [])) (sym next_slot) in
      record {
        below = omega (arith, inside);
        wrote =
            subst (λ l. Wrote l out 0 out'' used') (sym (ap (lines_at h) more ∙ lines_more h (take i is) slot))
            (wrote_then (omega arith) s.wrote v);
        short = omega (arith, s.short, v.place, small);
      }

-- all lines, and then how many they are
pub survey_ends : {h : Head} {columns order₀ order out out' out'' : List ℕ} {used used' held i : ℕ} → HoldsDesk h columns
    → Wrote (shown_in_order h) order₀ 0 order held → Surveyed h out out' used i → held ≤ i
    → Wrote (ok_line (decimal held ∷ [])) out' used out'' used' → Wrote (reply_bytes (surveys (surveyed (desk_of h columns)))) out 0 out'' used'
survey_ends {h} {columns} {out = out} {out' = out'} {out'' = out''} {used = used} {used' = used'} {held = held} {i = i} H w s e v =
    let is = shown_in_order h in
    let all : held ≡ length is = omega (arith, w.place) in
    let whole : take i is ≡ is = take_all i is (omega (arith, all)) in
    let lines = subst (λ l. Wrote (lines_at h l) out 0 out' used) whole s.wrote in
    let last = subst (λ n. Wrote (ok_line (decimal n ∷ [])) out' used out'' used') all v in
    subst (λ l. Wrote l out 0 out'' used') (sym (survey_bytes h columns H)) (wrote_then (omega arith) lines last)
