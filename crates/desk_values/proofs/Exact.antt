-- A value that passes the test holds a desk, and is what that desk packs into.
use Prim.Native.Nat.{ℕ, suc, ◌+◌, ◌≤◌, ◌<◌}
use mathlib.Core.Path.{◌≡◌, refl, sym, ◌∙◌, ap}
use mathlib.Core.Bool.{Bool, true, false, ◌&&◌}
use mathlib.Core.List.{List, [], ◌∷◌, ◌++◌, map}
use native.Mathlib.Omega.{arith}
use borrow.Author.Tests.{eqb-true}
use lib.Dec.{T, leb, eqb, eqb→eq, leb→le}
use lib.ListN.{length, get_or, drop, drop_of_length-le}
use lib.Seq.{drop-cons}
use mir.Val.{Val}
use denote.Laws.{Is}
use Rattle.std.specs.Prelude.{Option as Opened, None, Some}
use Rattle.higman.specs.Words.{count}
use Rattle.higman.specs.Limits.{slot_count, max_pairs}
use Rattle.higman.specs.Listing.{slot_number, is_slot, slot_byte}
use Rattle.desk.specs.Desk.{IsDesk}
use Rattle.higman.proofs.Tests.{and_left, and_right, all_at, count_mem}
use Rattle.operations.specs.declared.Plan.{Plan}
use Rattle.operations.specs.Plans.{in_table}
use Rattle.plans.proofs.Handed.{filled_again}
use Rattle.slots.specs.declared.Size.{Size}
use Rattle.slots.specs.declared.Head.{Head}
use Rattle.slots.specs.Blocks.{no_size, size_at, size_of, value_at}
use Rattle.slots.specs.Desks.{slot_at, draft_block, draft_of, desk_of, HoldsDesk}
use Rattle.slots.proofs.Held.{slots_eight, same_count}
use Rattle.slots.proofs.Rows.{control_again}
use Rattle.desks.specs.Tested.{holds_test}
use Rattle.desks.proofs.Chains.{by_place}
use Rattle.desks.proofs.Exact.{holds_exact}
use Rattle.desk_values.specs.declared.Desk.{Desk}
use Rattle.desk_values.specs.Values.{opened_test, head_of, desk_in, no_shape, size_test, sizes_test, blank_test, draft_test, is_desk_value}
use Rattle.desk_values.specs.Values.{draft_value, opened_by, tidy_size, tidy_sizes, packed_desk, Whole}
use Rattle.desk_values.specs.contracts.Desk.{the_row}
use Rattle.desk_values.proofs.Narrow.{narrow_rights}
use Rattle.desk_values.proofs.Blocks.{unused_zeros, no_pairs_lem, from_places, to_places, held_value_lem, draft_closed, draft_opened}
use Rattle.desk_values.proofs.Blocks.{draft_filled}
use Rattle.desk_values.proofs.Blocks.{words_are, sizes_packed}

-- a size that is tidy stays as it is
no_size_lem : (z : Size) → z.pairs ≡ 0 → T (no_shape z.arity z.roots) → no_size ≡ z
no_size_lem z p t =
    let arity = eqb→eq z.arity 0 (and_left (eqb z.arity 0) (eqb z.roots 0) t) in
    let roots = eqb→eq z.roots 0 (and_right (eqb z.arity 0) (eqb z.roots 0) t) in
    sym (λ i. record { arity = arity i; roots = roots i; pairs = p i })

tidy_size_lem : (z : Size) → T (size_test z) → tidy_size z ≡ z
tidy_size_lem z t = by (eqb z.pairs 0) refl t
  where
    by : (b : Bool) → eqb z.pairs 0 ≡ b → T (elim b [ true ↦ no_shape z.arity z.roots | false ↦ true ])
        → elim b [ true ↦ no_size | false ↦ z ] ≡ z
    by true e t = no_size_lem z (eqb-true z.pairs 0 e) t
    by false e t = refl

module _ (d : Desk) (whole : Whole d) (t : T (is_desk_value d)) where
  abbrev h : Head
  h = head_of d

  abbrev columns : List ℕ
  columns = d.columns

  abbrev v : Plan
  v = value_at h columns draft_block

  -- the slot that a plan is open for
  abbrev drafted : Bool → Opened ℕ
  drafted b = elim b [ true ↦ None | false ↦ Some (slot_number d.opened) ]

  -- the four tests
  abbrev o : Bool
  o = opened_test d.opened

  abbrev k : Bool
  k = holds_test h columns

  abbrev z : Bool
  z = sizes_test d.blocks

  abbrev b : Bool
  b = draft_test d.opened v

  first_three : T (o && k && z)
  unfolding is_desk_value
  first_three = and_left (o && k && z) b t

  pub opened_tested : T o
  opened_tested = and_left o k (and_left (o && k) z first_three)

  draft_tested : T b
  unfolding is_desk_value
  draft_tested = and_right (o && k && z) b t

  pub value_holds : HoldsDesk h columns
  value_holds = (holds_exact h columns whole.headed whole.sized).0 (and_right o k (and_left (o && k) z first_three))

  size_tested : (i : ℕ) → i < slot_count → T (size_test (size_at h i))
  size_tested i n =
      all_at (λ j. size_test (get_or d.blocks j no_size)) (count 0 slot_count) (and_right (o && k) z first_three) i
      (count_mem 0 slot_count i (omega arith) (omega arith))

  pub holds_desk : IsDesk (desk_in d)
  unfolding desk_in
  holds_desk = value_holds.is_desk_lem

  from_long : length v.from ≡ max_pairs
  from_long = from_places h columns whole.sized draft_block (omega arith)

  to_long : length v.to ≡ max_pairs
  to_long = to_places h columns whole.sized draft_block (omega arith)

  -- the block of the open plan holds its value
  draft_same : draft_value (draft_of h columns) ≡ v
  draft_same = by (eqb d.opened 0) refl draft_tested
    where
      by : (x : Bool) → eqb d.opened 0 ≡ x → T (elim x [ true ↦ blank_test v | false ↦ in_table v ]) → draft_value (draft_of h columns) ≡ v
      by true e w =
          let none : T (eqb v.pairs 0 && no_shape v.arity v.roots) = and_left (eqb v.pairs 0 && no_shape v.arity
          v.roots) (in_table v) w in
          let pairs = eqb→eq v.pairs 0 (and_left (eqb v.pairs 0) (no_shape v.arity v.roots) none) in
          let size = no_size_lem (size_of v) pairs (and_right (eqb v.pairs 0) (no_shape v.arity v.roots) none) in
          ap draft_value (draft_closed h columns value_holds (ap drafted e))
          ∙ no_pairs_lem v from_long to_long pairs (and_right (eqb v.pairs 0 && no_shape v.arity v.roots) (in_table v) w)
          ∙ (λ i. record { arity = (size i).arity; roots = (size i).roots; pairs = (size i).pairs; from = v.from; to = v.to })
      by false e w =
          let zero = unused_zeros v w in
          let from = filled_again v.pairs v.from zero.0 from_long in
          let to = filled_again v.pairs v.to zero.1 to_long in
          draft_filled h columns value_holds (slot_number d.opened) (ap drafted e)
          ∙ (λ i. record { arity = v.arity; roots = v.roots; pairs = v.pairs; from = from i; to = to i })

  opened_same : opened_by (draft_of h columns) ≡ d.opened
  opened_same = by (eqb d.opened 0) refl opened_tested
    where
      by : (x : Bool) → eqb d.opened 0 ≡ x → T (elim x [ true ↦ true | false ↦ is_slot d.opened ])
          → opened_by (draft_of h columns) ≡ d.opened
      by true e w = ap opened_by (draft_closed h columns value_holds (ap drafted e)) ∙ sym (eqb-true d.opened 0 e)
      by false e w =
          let low : 65 ≤ d.opened = leb→le 65 d.opened (and_left (leb 65 d.opened) (leb (suc d.opened) (slot_byte slot_count)) w) in
          ap opened_by (draft_opened h columns value_holds (slot_number d.opened) (ap drafted e)) ∙ omega arith

  sizes_same : tidy_sizes d.blocks (size_of v) ≡ d.blocks
  unfolding value_at slot_count
  sizes_same =
      let place : ℕ → Size = λ i. get_or d.blocks i no_size in
      let last : drop (0 + slot_count) d.blocks ≡ size_of v ∷ [] =
      ap (λ n. drop n d.blocks) slots_eight
      ∙ drop-cons d.blocks 8 no_size (omega (arith, whole.headed))
      ∙ ap (λ r. size_at h draft_block ∷ r) (drop_of_length-le d.blocks {i = 9} (omega (arith, whole.headed))) in
      ap (λ l. l ++ (size_of v ∷ [])) (same_count place (λ i. tidy_size (place i)) 0 slot_count (λ i a n. tidy_size_lem (place i)
      (size_tested i (omega arith))))
      ∙ ap (λ r. map place (count 0 slot_count) ++ r) (sym last)
      ∙ sym (by_place d.blocks no_size slot_count 0 (omega (arith, slots_eight, whole.headed)))

  pub one_value : packed_desk (desk_in d) ≡ d
  unfolding packed_desk desk_in desk_of value_at
  one_value =
      let sizes = sizes_packed h columns value_holds ∙ ap (λ p. tidy_sizes d.blocks (size_of p)) draft_same ∙ sizes_same in
      let words = words_are (slot_at h columns) (draft_value (draft_of h columns)) columns whole.sized
      (λ i n. ap (λ (p : Plan). p.from) (held_value_lem h columns value_holds i n)) (λ i n. ap (λ (p : Plan). p.to)
      (held_value_lem h columns value_holds i n))
      (ap (λ (p : Plan). p.from) draft_same) (ap (λ (p : Plan). p.to) draft_same) in
      let opened = opened_same in
      let control = control_again d.control whole.narrow in
      λ i. record { blocks = sizes i; opened = opened i; control = control i; columns = words i }

-- a value that a function is given is whole: what the caller owns says so
pub whole_of_good : (d : Desk) (values : List Val) → Is the_row d values → Whole d
whole_of_good d values good =
    record {
      headed = good.1.1.0.1.0.1;
      sized = good.1.1.1.1.1.0.1.0.1;
      narrow = narrow_rights d.control.rights _ good.1.1.1.1.0.1.1.1.1.0.1.1;
    }
