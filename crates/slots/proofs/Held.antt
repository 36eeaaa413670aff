-- The desk that a head and its columns hold: whether a plan is open, what a slot holds, and the desk after a plan was put into a slot.
use Prim.Native.Nat.{ℕ, zero, suc, ◌+◌, ◌≤◌, ◌<◌}
use mathlib.Core.Path.{◌≡◌, refl, sym, ◌∙◌, ap, ap₂, subst}
use mathlib.Core.Bool.{Bool, true, false}
use mathlib.Core.List.{List, ◌∷◌, map}
use mathlib.Core.Option.{Option, none, some}
use native.Mathlib.Nat.{not-suc-le-zero, le_of_suc-le-suc}
use native.Mathlib.Omega.{arith}
use borrow.Author.Tests.{eq-eqb, ne_eqb, eqb-true, eqb-false, ltb-true, ltb-false}
use lib.Dec.{T, eqb, ltb}
use Rattle.std.specs.Prelude.{Option as Opened, Some, None, is_some}
use lib.ListN.{length, get_or, set, take, drop, length-set, length-drop}
use lib.Seq.{get_or-set_same, get_or-set_other, length-take-le}
use Rattle.higman.specs.Words.{count}
use Rattle.higman.specs.Limits.{Plan as PlanOf, Kept, max_pairs, slot_count}
use Rattle.higman.specs.Answers.{is_kept}
use Rattle.higman.proofs.Statements.{answers_exact}
use Rattle.higman.proofs.Tests.{so, and_intro}
use Rattle.desk.specs.Desk.{IsControl, IsDesk, held, pairs_of_slot, changed}
use Rattle.desk.specs.Replies.{is_open}
use Rattle.columns.proofs.Rows.{rows_length}
use Rattle.operations.specs.declared.Plan.{Plan}
use Rattle.operations.specs.Plans.{plan_of, in_table, is_plan}
use Rattle.operations.proofs.Values.{few_in_table}
use Rattle.slots.specs.declared.Size.{Size}
use Rattle.slots.specs.declared.Head.{Head}
use Rattle.slots.specs.Blocks.{InColumns, no_size, size_at, from_place, to_place, value_at, put, size_of, noted_in, filled_head}
use Rattle.slots.specs.Desks.{draft_block, held_by, slot_at, draft_in, control_of, desk_of, HoldsDesk}
use Rattle.columns.proofs.Limits.{pair_limit}
use Rattle.slots.proofs.Windows.{put_length, put_from, put_to, put_before, put_behind}

pub slots_eight : slot_count ≡ 8
unfolding slot_count
slots_eight = refl

lt_of_ne : (i j : ℕ) → i ≤ j → (j ≡ i → ⊥) → i < j
lt_of_ne i j h n = by (ltb i j) refl
  where
    by : (b : Bool) → ltb i j ≡ b → i < j
    by true e = ltb-true i j e
    by false e = let b : j ≤ i = ltb-false i j e in absurd (n (omega arith))

-- one of the values of a function at the numbers from a on
of_count : {A : Type 0} (f : ℕ → A) (z : A) (a n i : ℕ) → i < n → get_or (map f (count a n)) i z ≡ f (a + i)
of_count f z a zero i h = absurd (not-suc-le-zero h)
of_count f z a (suc n) zero h = ap f (omega arith)
of_count f z a (suc n) (suc i) h = of_count f z (suc a) n i (le_of_suc-le-suc h) ∙ ap f (omega arith)

-- another function there, which agrees with it, or differs at one number
pub same_count : {A : Type 0} (f g : ℕ → A) (a n : ℕ) → ((j : ℕ) → a ≤ j → j < a + n → g j ≡ f j) → map g (count a n) ≡ map f (count a n)
same_count f g a zero k = refl
same_count f g a (suc n) k =
    ap₂ ◌∷◌ (k a (omega arith) (omega arith)) (same_count f g (suc a) n (λ j x y. k j (omega arith) (omega arith)))

set_count : {A : Type 0} (f g : ℕ → A) (x : A) (a n i : ℕ) → i < n → g (a + i) ≡ x
    → ((j : ℕ) → a ≤ j → j < a + n → (j ≡ a + i → ⊥) → g j ≡ f j) → map g (count a n) ≡ set (map f (count a n)) i x
set_count f g x a zero i h e same = absurd (not-suc-le-zero h)
set_count f g x a (suc n) zero h e same =
    let first : a ≡ a + 0 = omega arith in
    ap₂ ◌∷◌ (ap g first ∙ e) (same_count f g (suc a) n (λ j b k. same j (omega arith) (omega arith) (λ q. omega arith)))
set_count f g x a (suc n) (suc i) h e same =
    let next : suc a + i ≡ a + suc i = omega arith in
    ap₂ ◌∷◌ (same a (omega arith) (omega arith) (λ q. omega arith))
    (set_count f g x (suc a) n i (le_of_suc-le-suc h) (ap g next ∙ e) (λ j b k q. same j (omega arith) (omega arith) (λ r. q (r ∙ sym next))))

-- the pairs of what a value holds
value_pairs : (v : Plan) → T (in_table v) → length v.from ≡ max_pairs → length v.to ≡ max_pairs → pairs_of_slot (held_by v) ≡ v.pairs
value_pairs v t from to = by (eqb v.pairs 0) refl
  where
    few : v.pairs ≤ max_pairs
    few = few_in_table v t

    by : (b : Bool) → eqb v.pairs 0 ≡ b → pairs_of_slot (elim b [ true ↦ none | false ↦ some (plan_of v) ]) ≡ v.pairs
    by true e = sym (eqb-true v.pairs 0 e)
    by false e = rows_length v.pairs v.from v.to (omega (arith, few, from)) (omega (arith, few, to))

-- the two columns of a block, and its pairs
module _ (h : Head) (columns : List ℕ) (i : ℕ) (inside : InColumns i columns) where
  value_from : length (value_at h columns i).from ≡ max_pairs
  unfolding value_at
  value_from =
      length-take-le max_pairs (drop (from_place i) columns)
      (omega (arith, pair_limit, length-drop (from_place i) columns, inside.sized, inside.block))

  value_to : length (value_at h columns i).to ≡ max_pairs
  unfolding value_at
  value_to =
      length-take-le max_pairs (drop (to_place i) columns)
      (omega (arith, pair_limit, length-drop (to_place i) columns, inside.sized, inside.block))

  pub block_pairs : T (in_table (value_at h columns i)) → pairs_of_slot (slot_at h columns i) ≡ (size_at h i).pairs
  unfolding value_at
  block_pairs t = value_pairs (value_at h columns i) t value_from value_to

module _ (h : Head) (columns : List ℕ) where
  pub open_is : is_open (desk_of h columns) ≡ is_some h.draft
  unfolding desk_of
  open_is = by h.draft refl
    where
      by : (o : Opened ℕ) → h.draft ≡ o → is_open (desk_of h columns) ≡ is_some h.draft
      by None e = rw e refl
      by (Some slot) e = rw e refl

  pub held_at : (i : ℕ) → i < slot_count → held (desk_of h columns) i ≡ slot_at h columns i
  unfolding desk_of
  held_at i k =
      let first : 0 + i ≡ i = omega arith in
      of_count (slot_at h columns) none 0 slot_count i k ∙ ap (slot_at h columns) first

  abbrev holding : ℕ → Bool → Option PlanOf
  holding i b = elim b [ true ↦ none | false ↦ some (plan_of (value_at h columns i)) ]

  pub slot_empty_lem : (i : ℕ) → i < slot_count → (size_at h i).pairs ≡ 0 → held (desk_of h columns) i ≡ none
  unfolding value_at
  slot_empty_lem i k e = held_at i k ∙ ap (holding i) (eq-eqb (size_at h i).pairs 0 e)

  pub slot_full : (i : ℕ) → i < slot_count → ((size_at h i).pairs ≡ 0 → ⊥) → held (desk_of h columns) i ≡ some (plan_of (value_at h columns i))
  unfolding value_at
  slot_full i k e = held_at i k ∙ ap (holding i) (ne_eqb (size_at h i).pairs 0 e)

  module _ (H : HoldsDesk h columns) where
    pub control_held : IsControl (control_of h.control)
    unfolding desk_of
    control_held = H.is_desk_lem.control

    pub slot_kept : (i : ℕ) → i < slot_count → ((size_at h i).pairs ≡ 0 → ⊥) → Kept (plan_of (value_at h columns i))
    slot_kept i k e = H.is_desk_lem.kept i (plan_of (value_at h columns i)) (slot_full i k e)

    pub slot_plan : (i : ℕ) → i < slot_count → ((size_at h i).pairs ≡ 0 → ⊥) → is_plan (value_at h columns i) ≡ true
    unfolding is_plan
    slot_plan i k e =
        let v = value_at h columns i in
        so (is_plan v) (and_intro (in_table v) (is_kept (plan_of v)) (H.in_tables i k) ((answers_exact.kept_test (plan_of v)).1 (slot_kept i k e)))

    -- a slot's block stands in the columns
    pub slot_inside : (i : ℕ) → i < slot_count → InColumns i columns
    unfolding slot_count
    slot_inside i k = record { block = omega arith; sized = H.sized }

    pub slot_pairs : (i : ℕ) → i < slot_count → pairs_of_slot (held (desk_of h columns) i) ≡ (size_at h i).pairs
    slot_pairs i k = ap pairs_of_slot (held_at i k) ∙ block_pairs h columns i (slot_inside i k) (H.in_tables i k)

    -- The head and columns after a plan, or no plan, was put into a slot.
    module _ (i : ℕ) (k : i < slot_count) (p : Plan) (from : length p.from ≡ max_pairs) (to : length p.to ≡ max_pairs) where
      abbrev head' : Head
      head' = filled_head h i p

      abbrev columns' : List ℕ
      columns' = put columns i p

      inside : InColumns i columns
      inside = slot_inside i k

      pub value_same : value_at head' columns' i ≡ p
      unfolding value_at filled_head
      value_same =
          let size : size_at head' i ≡ size_of p = get_or-set_same h.sizes i (size_of p) no_size (omega (arith, inside.block, H.headed)) in
          let from' = put_from columns i p inside from to in
          let to' = put_to columns i p inside from to in
          λ j. record { arity = (size j).arity; roots = (size j).roots; pairs = (size j).pairs; from = from' j; to = to' j }

      pub value_other : (j : ℕ) → (j ≡ i → ⊥) → value_at head' columns' j ≡ value_at h columns j
      unfolding value_at filled_head
      value_other j n =
          let size : size_at head' j ≡ size_at h j = get_or-set_other h.sizes i j (size_of p) no_size n in
          let (from', to') = windows (ltb j i) refl in
          λ x. record { arity = (size x).arity; roots = (size x).roots; pairs = (size x).pairs; from = from' x; to = to' x }
        where
          windows : (b : Bool) → ltb j i ≡ b
              → (take max_pairs (drop (from_place j) columns') ≡ take max_pairs (drop (from_place j) columns))
              × (take max_pairs (drop (to_place j) columns') ≡ take max_pairs (drop (to_place j) columns))
          windows true e =
              let below : j < i = ltb-true j i e in (
                put_before columns i p inside from to (from_place j) max_pairs (omega (arith, pair_limit)),
                put_before columns i p inside from to (to_place j) max_pairs (omega (arith, pair_limit)),
              )
          windows false e =
              let above : i ≤ j = ltb-false j i e in
              let past : i < j = lt_of_ne i j above n in (
                put_behind columns i p inside from to (from_place j) max_pairs (omega (arith, pair_limit)),
                put_behind columns i p inside from to (to_place j) max_pairs (omega (arith, pair_limit)),
              )

      pub filled_desk : T (in_table p) → desk_of head' columns' ≡ changed (desk_of h columns) i (held_by p)
      unfolding desk_of changed filled_head
      filled_desk t =
          let first : 0 + i ≡ i = omega arith in
          let lost = slot_pairs i k in
          let kept = value_pairs p t from to in
          let slots = set_count (slot_at h columns) (slot_at head' columns') (held_by p) 0 slot_count i k
          (ap (slot_at head' columns') first ∙ ap held_by value_same)
          (λ j a b n. ap held_by (value_other j (λ e. n (e ∙ sym first)))) in
          λ x. record { slots = slots x; draft = none; control = control_of (noted_in h.control (sym lost x) (sym kept x)) }

      pub holds_filled : T (in_table p) → IsDesk (changed (desk_of h columns) i (held_by p)) → HoldsDesk head' columns'
      unfolding filled_head
      holds_filled t d =
          record {
            sized = put_length columns i p inside from to ∙ H.sized;
            headed = length-set h.sizes i (size_of p) ∙ H.headed;
            is_desk_lem = subst IsDesk (sym (filled_desk t)) d;
            in_tables = λ j b. by_slot j b (eqb j i) refl;
            few = subst (λ (z : Size). z.pairs ≤ max_pairs) (sym (get_or-set_other h.sizes i draft_block (size_of p) no_size (λ e. omega (arith, eight)))) H.few;
          }
        where
          eight : slot_count ≡ 8
          eight = slots_eight

          by_slot : (j : ℕ) → j < slot_count → (b : Bool) → eqb j i ≡ b → T (in_table (value_at head' columns' j))
          by_slot j b true e = subst (λ x. T (in_table (value_at head' columns' x))) (sym (eqb-true j i e)) (subst (λ v. T (in_table v)) (sym value_same) t)
          by_slot j b false e = subst (λ v. T (in_table v)) (sym (value_other j (eqb-false j i e))) (H.in_tables j b)

-- the slot of the open plan
pub draft_slot : (o : Opened ℕ) → is_some o ≡ true → (slot : ℕ) × (o ≡ Some slot)
draft_slot None e = cc
draft_slot (Some slot) e = (slot, refl)

-- the open plan, and the two columns of its block
pub draft_open : (h : Head) (columns : List ℕ) (slot : ℕ) → h.draft ≡ Some slot
    → (desk_of h columns).draft ≡ some (draft_in slot (value_at h columns draft_block))
unfolding desk_of
draft_open h columns slot e = rw e refl

module _ (h : Head) (columns : List ℕ) (H : HoldsDesk h columns) where
  draft_inside : InColumns draft_block columns
  draft_inside = record { block = omega arith; sized = H.sized }

  pub draft_from : length (value_at h columns draft_block).from ≡ max_pairs
  draft_from = value_from h columns draft_block draft_inside

  pub draft_to : length (value_at h columns draft_block).to ≡ max_pairs
  draft_to = value_to h columns draft_block draft_inside

  pub draft_length : (slot : ℕ) → length (draft_in slot (value_at h columns draft_block)).rows ≡ (size_at h draft_block).pairs
  unfolding value_at
  draft_length slot =
      let v = value_at h columns draft_block in
      rows_length (size_at h draft_block).pairs v.from v.to (omega (arith, H.few, draft_from)) (omega (arith, H.few, draft_to))
