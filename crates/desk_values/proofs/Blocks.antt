-- The blocks of a desk as a value: what stands in each is what the desk holds there, and their words, one block behind the other, are the
-- columns.
use Prim.Native.Nat.{ℕ, zero, suc, ◌+◌, ◌*◌, ◌-◌, ◌≤◌, ◌<◌}
use mathlib.Core.Path.{◌≡◌, refl, sym, ◌∙◌, ap, ap₂, subst}
use mathlib.Core.Bool.{Bool, true, false, ◌&&◌}
use mathlib.Core.List.{List, [], ◌∷◌, ◌++◌, map, append_assoc}
use mathlib.Core.Option.{Option, none, some}
use native.Mathlib.Omega.{arith}
use borrow.Author.Tests.{eqb-true, eqb-false}
use lib.Dec.{T, leb, eqb}
use lib.ListN.{length, get_or, take, drop, replicate, length-append, length-replicate, length-drop, take-append-drop, drop_of_length-le}
use lib.Seq.{length-take-le, drop-drop}
use Rattle.std.specs.Prelude.{Option as Opened, None, Some, is_some}
use Rattle.higman.specs.Words.{count}
use Rattle.higman.specs.Limits.{Plan as PlanOf, max_pairs, slot_count}
use Rattle.higman.proofs.Tests.{and_left, and_right}
use Rattle.desk.specs.Desk.{Draft}
use Rattle.operations.specs.declared.Plan.{Plan}
use Rattle.operations.specs.Plans.{plan_of, zeros, in_table, column, blank}
use Rattle.operations.specs.Filled.{filling, filled_plan}
use Rattle.operations.proofs.Filled.{filled_packed}
use Rattle.plans.proofs.Handed.{zeros_replicated, held_packed}
use Rattle.slots.specs.declared.Size.{Size}
use Rattle.slots.specs.declared.Head.{Head}
use Rattle.slots.specs.Blocks.{no_size, columns_size, size_at, size_of, from_place, to_place, value_at, put, InColumns}
use Rattle.slots.specs.Desks.{slot_at, draft_block, draft_in, draft_of, desk_of, HoldsDesk}
use Rattle.columns.proofs.Limits.{pair_limit}
use Rattle.slots.proofs.Held.{slots_eight, slot_plan}
use Rattle.slots.proofs.Windows.{put_length, put_from, put_to, put_before}
use Rattle.slots.proofs.Rows.{control_again}
use Rattle.desk_values.specs.Values.{held_value, draft_value, opened_by, words_in, tidy_size, tidy_sizes, packed_desk}

-- a value in its table has zeros behind its pairs
pub unused_zeros : (v : Plan) → T (in_table v) → T (zeros (drop v.pairs v.from)) × T (zeros (drop v.pairs v.to))
unfolding in_table
unused_zeros v t =
    let few = leb v.pairs max_pairs in
    let from = zeros (drop v.pairs v.from) in
    let to = zeros (drop v.pairs v.to) in
    (and_right few from (and_left (few && from) to t), and_right (few && from) to t)

-- a column of zeros is that of no plan
zero_column : (l : List ℕ) → length l ≡ max_pairs → T (zeros l) → column [] ≡ l
zero_column l e t =
    let all : length l ≡ max_pairs - 0 = omega arith in
    sym (zeros_replicated l t ∙ ap (λ n. replicate n 0) all)

-- what is left of a value where it has no pairs
abbrev pub tidy_value : Plan → Plan
tidy_value v =
    let z = tidy_size (size_of v) in
    record { arity = z.arity; roots = z.roots; pairs = z.pairs; from = v.from; to = v.to }

abbrev sized : Plan → Size → Plan
sized v z = record { arity = z.arity; roots = z.roots; pairs = z.pairs; from = v.from; to = v.to }

pub no_pairs_lem : (v : Plan) → length v.from ≡ max_pairs → length v.to ≡ max_pairs → v.pairs ≡ 0 → T (in_table v) → blank ≡ sized v no_size
unfolding blank
no_pairs_lem v f t e k =
    let z = unused_zeros v k in
    let from = zero_column v.from f (subst (λ n. T (zeros (drop n v.from))) e z.0) in
    let to = zero_column v.to t (subst (λ n. T (zeros (drop n v.to))) e z.1) in
    λ i. record { arity = 0; roots = 0; pairs = 0; from = from i; to = to i }

module _ (h : Head) (columns : List ℕ) (long : length columns ≡ columns_size) where
  pub from_places : (i : ℕ) → i ≤ draft_block → length (value_at h columns i).from ≡ max_pairs
  unfolding value_at
  from_places i k = length-take-le max_pairs (drop (from_place i) columns) (omega (arith, pair_limit, length-drop (from_place i) columns))

  pub to_places : (i : ℕ) → i ≤ draft_block → length (value_at h columns i).to ≡ max_pairs
  unfolding value_at
  to_places i k = length-take-le max_pairs (drop (to_place i) columns) (omega (arith, pair_limit, length-drop (to_place i) columns))

module _ (h : Head) (columns : List ℕ) (H : HoldsDesk h columns) where
  -- the value of what a slot holds
  pub held_value_lem : (i : ℕ) → i < slot_count → held_value (slot_at h columns i) ≡ tidy_value (value_at h columns i)
  unfolding value_at
  held_value_lem i k = by (eqb v.pairs 0) refl
    where
      v : Plan
      v = value_at h columns i

      below : i ≤ draft_block
      below = omega (arith, slots_eight)

      by : (b : Bool) → eqb v.pairs 0 ≡ b
          → held_value (elim b [ true ↦ none | false ↦ some (plan_of v) ]) ≡ sized v (elim b [ true ↦ no_size | false ↦ size_of v ])
      by true e =
          no_pairs_lem v (from_places h columns H.sized i below) (to_places h columns H.sized i below) (eqb-true v.pairs 0 e)
          (H.in_tables i k)
      by false e =
          held_packed v (record {
            from_places = from_places h columns H.sized i below;
            to_places = to_places h columns H.sized i below;
            taken = slot_plan h columns H i k (eqb-false v.pairs 0 e);
          })

filling_length : (n : ℕ) (l : List ℕ) → n ≤ length l → n ≤ max_pairs → length (filling n l) ≡ max_pairs
filling_length n l h k =
    let rest = length-replicate {A = ℕ} (max_pairs - n) 0 in
    omega (arith, length-append (take n l) (replicate (max_pairs - n) 0), length-take-le n l h)

pub blank_places : (length blank.from ≡ max_pairs) × (length blank.to ≡ max_pairs)
unfolding blank
blank_places =
    let all : max_pairs - 0 ≡ max_pairs = omega arith in
    let zeros = length-replicate {A = ℕ} (max_pairs - 0) 0 ∙ all in
    (zeros, zeros)

-- whether a plan is open
pub none_open : (o : Opened ℕ) → is_some o ≡ false → o ≡ None
none_open None e = refl
none_open (Some s) e = cc

pub some_open : (o : Opened ℕ) → is_some o ≡ true → (s : ℕ) × (o ≡ Some s)
some_open None e = absurd (cc)
some_open (Some s) e = (s, refl)

-- The value of the open plan.
module _ (h : Head) (columns : List ℕ) (H : HoldsDesk h columns) where
  abbrev v : Plan
  v = value_at h columns draft_block

  abbrev chosen : Opened ℕ → Option Draft
  chosen o = elim o [ None ↦ none | Some slot ↦ some (draft_in slot v) ]

  few : v.pairs ≤ max_pairs
  unfolding value_at
  few = H.few

  from_long : v.pairs ≤ length v.from
  from_long = omega (arith, few, from_places h columns H.sized draft_block (omega arith))

  to_long : v.pairs ≤ length v.to
  to_long = omega (arith, few, to_places h columns H.sized draft_block (omega arith))

  pub draft_closed : h.draft ≡ None → draft_of h columns ≡ none
  draft_closed e = ap chosen e

  pub draft_opened : (slot : ℕ) → h.draft ≡ Some slot → draft_of h columns ≡ some (draft_in slot v)
  draft_opened slot e = ap chosen e

  -- it is that of its pairs, with zeros behind them
  pub draft_filled : (slot : ℕ) → h.draft ≡ Some slot → draft_value (draft_of h columns) ≡ filled_plan v.arity v.roots v.pairs v.from v.to
  draft_filled slot e = ap draft_value (draft_opened slot e) ∙ sym (filled_packed v.arity v.roots v.pairs v.from v.to from_long to_long)

  pub draft_places : (length (draft_value (draft_of h columns)).from ≡ max_pairs) × (length (draft_value (draft_of h columns)).to ≡ max_pairs)
  draft_places = by h.draft refl
    where
      by : (o : Opened ℕ) → h.draft ≡ o → (length (draft_value (draft_of h columns)).from ≡ max_pairs) × (length (draft_value
          (draft_of h columns)).to ≡ max_pairs)
      by (Some slot) e = (
        ap (λ (p : Plan). length p.from) (draft_filled slot e) ∙ filling_length v.pairs v.from from_long few,
        ap (λ (p : Plan). length p.to) (draft_filled slot e) ∙ filling_length v.pairs v.to to_long few,
      )
      by None e = (
        ap (λ o. length (draft_value o).from) (draft_closed e) ∙ blank_places.0,
        ap (λ o. length (draft_value o).to) (draft_closed e) ∙ blank_places.1,
      )

-- a block in front of the words behind it
block_step : (l : List ℕ) (at : ℕ) (from to rest : List ℕ) → from ≡ take max_pairs (drop at l) → to ≡ take max_pairs (drop (at + 128) l)
    → rest ≡ drop (at + 256) l → (from ++ to) ++ rest ≡ drop at l
block_step l at from to rest f t r =
    let half : at + 128 + max_pairs ≡ at + 256 = omega (arith, pair_limit) in
    let start : at + max_pairs ≡ at + 128 = omega (arith, pair_limit) in
    append_assoc from to rest
    ∙ ap₂ (λ x y. from ++ (x ++ y)) t (r ∙ ap (λ k. drop k l) (sym half) ∙ sym (drop-drop max_pairs (at + 128) l))
    ∙ ap₂ ◌++◌ f (take-append-drop max_pairs (drop (at + 128) l) ∙ ap (λ k. drop k l) (sym start) ∙ sym (drop-drop max_pairs at l))
    ∙ take-append-drop max_pairs (drop at l)

-- The words of the blocks are a list in which each block stands in its place.
module _ (slots : ℕ → Option PlanOf) (draft : Plan) (l : List ℕ) (long : length l ≡ columns_size)
    (froms : (i : ℕ) → i < slot_count → (held_value (slots i)).from ≡ take max_pairs (drop (from_place i) l))
    (tos : (i : ℕ) → i < slot_count → (held_value (slots i)).to ≡ take max_pairs (drop (to_place i) l))
    (from : draft.from ≡ take max_pairs (drop (from_place draft_block) l)) (to : draft.to ≡ take max_pairs (drop
    (to_place draft_block) l)) where
  words_from : (n i : ℕ) → i + n ≡ slot_count → words_in (map held_value (map slots (count i n)) ++ (draft ∷ [])) ≡ drop (i * 256) l
  words_from zero i e =
      let last : 2048 ≡ i * 256 = omega (arith, slots_eight) in
      block_step l 2048 draft.from draft.to [] from to (sym (drop_of_length-le l {i = 2304} (omega arith))) ∙ ap (λ k. drop k l) last
  words_from (suc n) i e =
      let below : i < slot_count = omega arith in
      let next : suc i * 256 ≡ i * 256 + 256 = omega arith in
      block_step l (i * 256) (held_value (slots i)).from (held_value (slots i)).to
      (words_in (map held_value (map slots (count (suc i) n)) ++ (draft ∷ []))) (froms i below) (tos i below)
      (words_from n (suc i) (omega arith) ∙ ap (λ k. drop k l) next)

  pub words_are : words_in (map held_value (map slots (count 0 slot_count)) ++ (draft ∷ [])) ≡ l
  words_are = words_from slot_count 0 (omega arith)

-- The sizes of the blocks.
module _ (slots : ℕ → Option PlanOf) (draft : Plan) (sizes : ℕ → Size)
    (same : (i : ℕ) → i < slot_count → size_of (held_value (slots i)) ≡ sizes i) where
  sizes_from_lem : (n i : ℕ) → i + n ≡ slot_count
      → map size_of (map held_value (map slots (count i n)) ++ (draft ∷ [])) ≡ map sizes (count i n) ++ (size_of draft ∷ [])
  sizes_from_lem zero i e = refl
  sizes_from_lem (suc n) i e = ap₂ ◌∷◌ (same i (omega arith)) (sizes_from_lem n (suc i) (omega arith))

  pub sizes_are : map size_of (map held_value (map slots (count 0 slot_count)) ++ (draft
      ∷ [])) ≡ map sizes (count 0 slot_count) ++ (size_of draft ∷ [])
  sizes_are = sizes_from_lem slot_count 0 (omega arith)

-- The value of a desk is made by putting the open plan's into its block, and leaving no size of an empty slot.
module _ (h : Head) (columns : List ℕ) (H : HoldsDesk h columns) where
  abbrev draft : Plan
  draft = draft_value (draft_of h columns)

  inside : InColumns draft_block columns
  inside = record { block = omega arith; sized = H.sized }

  abbrev words : List ℕ
  words = put columns draft_block draft

  pub words_packed : words_in (map held_value (map (slot_at h columns) (count 0 slot_count)) ++ (draft ∷ [])) ≡ words
  unfolding value_at
  words_packed =
      let (from, to) = draft_places h columns H in
      words_are (slot_at h columns) draft words (put_length columns draft_block draft inside from to ∙ H.sized)
      (λ i k. ap (λ (p : Plan). p.from) (held_value_lem h columns H i k)
      ∙ sym (put_before columns draft_block draft inside from to (from_place i) max_pairs (omega (arith, pair_limit, slots_eight))))
      (λ i k. ap (λ (p : Plan). p.to) (held_value_lem h columns H i k)
      ∙ sym (put_before columns draft_block draft inside from to (to_place i) max_pairs (omega (arith, pair_limit, slots_eight))))
      (sym (put_from columns draft_block draft inside from to))
      (sym (put_to columns draft_block draft inside from to))

  pub sizes_packed : map size_of (map held_value (map (slot_at h columns) (count 0 slot_count)) ++ (draft
      ∷ [])) ≡ tidy_sizes h.sizes (size_of draft)
  unfolding value_at
  sizes_packed = sizes_are (slot_at h columns) draft (λ i. tidy_size (size_at h i)) (λ i k. ap size_of (held_value_lem h columns H i k))

  pub desk_packed : ((s : ℕ) → get_or h.control.rights s 0 < 65_536) → record {
    blocks = tidy_sizes h.sizes (size_of draft);
    opened = opened_by (draft_of h columns);
    control = h.control;
    columns = words;
  } ≡ packed_desk (desk_of h columns)
  unfolding packed_desk desk_of
  desk_packed narrow =
      let sizes = sizes_packed in
      let all = words_packed in
      let control = control_again h.control narrow in
      sym (λ i. record { blocks = sizes i; opened = opened_by (draft_of h columns); control = control i; columns = all i })
