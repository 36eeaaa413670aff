-- The test of a head and columns holds exactly where they hold a desk.
use Prim.Native.Nat.{ℕ, zero, suc, ◌≤◌, ◌<◌}
use mathlib.Core.Path.{◌≡◌, refl, sym, ◌∙◌, ap, subst}
use mathlib.Core.Bool.{Bool, true, false, ◌&&◌}
use mathlib.Core.List.{List, [], ◌∷◌}
use mathlib.Core.Option.{none, some, none-ne-some, some-injective}
use Rattle.std.specs.Prelude.{Option as Opened, None, Some}
use native.Mathlib.Omega.{arith}
use borrow.Author.Tests.{eqb-true, eqb-false, ltb-true, ltb-false}
use lib.Dec.{T, leb, eqb, ltb, leb→le, le→leb, eqb→eq, eqb_refl}
use lib.ListN.{length, drop, length-map, length-drop, get_or-eq_default}
use lib.Seq.{length-take-le}
use Rattle.higman.specs.Words.{Shape, count}
use Rattle.higman.specs.Bases.{all}
use Rattle.higman.specs.Tables.{Table, froms, tos}
use Rattle.higman.specs.Limits.{Plan as PlanOf, Kept, max_pairs, slot_count, shape_in_range, fits, pair_fits, is_plan_word, granted}
use Rattle.higman.proofs.PlanWords.{plan_word_fits}
use Rattle.higman.proofs.Tests.{T_of, and_left, and_right, and_intro, all_head, all_tail, all_cons, all_at, all_of, count_mem, count_bounds}
use Rattle.columns.proofs.Rows.{rows_length}
use Rattle.desk.specs.Desk.{Draft, IsDraft, IsControl, held, pairs_of_slots}
use Rattle.desk.proofs.Desks.{control_test_lem}
use Rattle.operations.specs.declared.Plan.{Plan}
use Rattle.operations.specs.Plans.{shape_of, rows_of, plan_of, zeros, in_table, is_plan}
use Rattle.operations.proofs.KeptValues.{kept_plan}
use Rattle.operations.proofs.Values.{few_in_table}
use Rattle.operations.proofs.Verdicts.{words_of_plan, froms_rows, tos_rows}
use Rattle.slots.specs.declared.Head.{Head}
use Rattle.slots.specs.Blocks.{block_count, columns_size, from_place, to_place, size_at, value_at}
use Rattle.slots.specs.Desks.{draft_block, held_by, slot_at, slots_of, draft_in, draft_of, control_of, desk_of, HoldsDesk}
use Rattle.columns.proofs.Limits.{pair_limit}
use Rattle.slots.proofs.Held.{held_at, slot_plan}
use Rattle.changing.proofs.Drafts.{open_draft, draft_columns}
use Rattle.desks.specs.Tested.{slot_test, slots_test, words_test, draft_test, open_test, control_test, sizes_sum, holds_test, HoldsExact}
use Rattle.desks.proofs.Sums.{held_sum}

-- a value that a slot may hold has its pairs in its table, and what it holds is kept
slot_table : (v : Plan) → T (slot_test v) → T (in_table v)
unfolding in_table
slot_table v t = by (eqb v.pairs 0) refl t
  where
    by : (b : Bool) → eqb v.pairs 0 ≡ b → T (elim b [ true ↦ zeros v.from && zeros v.to | false ↦ is_plan v ]) → T (in_table v)
    by true e z =
        subst (λ n. T (leb n max_pairs && zeros (drop n v.from) && zeros (drop n v.to))) (sym (eqb-true v.pairs 0 e))
        (and_intro (leb 0 max_pairs && zeros v.from) (zeros v.to)
        (and_intro (leb 0 max_pairs) (zeros v.from) (le→leb 0 max_pairs (omega arith)) (and_left (zeros v.from) (zeros v.to) z))
        (and_right (zeros v.from) (zeros v.to) z))
    by false e p = (kept_plan v p).0

-- each slot by itself, where all are tested, and that it has so few pairs that they can be added up
one_tested : (h : Head) (columns : List ℕ) → T (slots_test h columns) → (i : ℕ) → i < slot_count → T (slot_test (value_at h columns i))
one_tested h columns t i k =
    all_at (λ j. slot_test (value_at h columns j)) (count 0 slot_count) t i (count_mem 0 slot_count i (omega arith) (omega (arith, k)))

pub few_tested : (h : Head) (columns : List ℕ) → T (slots_test h columns) → (i : ℕ) → i < slot_count → (size_at h i).pairs ≤ max_pairs
unfolding value_at
few_tested h columns t i k = few_in_table (value_at h columns i) (slot_table (value_at h columns i) (one_tested h columns t i k))

slot_keeps : (v : Plan) → T (slot_test v) → (p : PlanOf) → held_by v ≡ some p → Kept p
slot_keeps v t p = by (eqb v.pairs 0) t
  where
    by : (b : Bool) → T (elim b [ true ↦ zeros v.from && zeros v.to | false ↦ is_plan v ])
        → elim b [ true ↦ none | false ↦ some (plan_of v) ] ≡ some p → Kept p
    by true z e = absurd (none-ne-some p e)
    by false k e = subst Kept (some-injective (plan_of v) p e) (kept_plan v k).1

count_length : (a n : ℕ) → length (count a n) ≡ n
count_length a zero = refl
count_length a (suc n) = ap suc (count_length (suc a) n)

-- words that a plan may hold fit into it
pairs_fit : (s : Shape) (t : Table) → T (all (is_plan_word s) (froms t)) → T (all (is_plan_word s) (tos t)) → T (all pair_fits t)
pairs_fit s [] f t = tt
pairs_fit s (p ∷ r) f t =
    all_cons pair_fits p r
    (and_intro (fits p.from) (fits p.to) (plan_word_fits s p.from (all_head (is_plan_word s) p.from (froms r) f))
    (plan_word_fits s p.to (all_head (is_plan_word s) p.to (tos r) t)))
    (pairs_fit s r (all_tail (is_plan_word s) p.from (froms r) f) (all_tail (is_plan_word s) p.to (tos r) t))

module _ (h : Head) (columns : List ℕ) (headed : length h.sizes ≡ block_count) (sized : length columns ≡ columns_size) where
  abbrev v : Plan
  v = value_at h columns draft_block

  from_long : length v.from ≡ max_pairs
  unfolding value_at
  from_long = length-take-le max_pairs (drop (from_place draft_block) columns) (omega (arith, pair_limit, length-drop (from_place draft_block) columns))

  to_long : length v.to ≡ max_pairs
  unfolding value_at
  to_long = length-take-le max_pairs (drop (to_place draft_block) columns) (omega (arith, pair_limit, length-drop (to_place draft_block) columns))

  -- parts of the test
  abbrev counts : Bool
  counts = control_test h.control

  abbrev small : Bool
  small = leb (size_at h draft_block).pairs max_pairs

  abbrev summed : Bool
  summed = eqb h.control.pairs (sizes_sum h)

  open_is_draft : (slot : ℕ) → v.pairs ≤ max_pairs → T (draft_test slot v) → IsDraft (draft_in slot v)
  unfolding granted
  open_is_draft slot n w =
      let a = leb (suc slot) slot_count in
      let b = shape_in_range (shape_of v) in
      let c = words_test v v.from in
      let e = words_test v v.to in
      let s = shape_of v in
      let even = from_long ∙ sym to_long in
      let from_words : T (all (is_plan_word s) (froms (rows_of v))) = subst (λ l. T (all (is_plan_word s) l)) (sym (froms_rows v.pairs v.from v.to even)) (and_right (a && b) c (and_left (a && b && c) e w)) in
      let to_words : T (all (is_plan_word s) (tos (rows_of v))) = subst (λ l. T (all (is_plan_word s) l)) (sym (tos_rows v.pairs v.from v.to even)) (and_right (a && b && c) e w) in
      let count = rows_length v.pairs v.from v.to (omega (arith, from_long)) (omega (arith, to_long)) in
      record {
        slot_named = leb→le (suc slot) slot_count (and_left a b (and_left (a && b) c (and_left (a && b && c) e w)));
        in_range = and_right a b (and_left (a && b) c (and_left (a && b && c) e w));
        within = and_intro (leb (length (rows_of v)) max_pairs) (all pair_fits (rows_of v)) (le→leb (length (rows_of v)) max_pairs (omega (arith, count))) (pairs_fit s (rows_of v) from_words to_words);
        from_words = words_of_plan s (froms (rows_of v)) from_words;
        to_words = words_of_plan s (tos (rows_of v)) to_words;
      }

  -- where the test holds
  module _ (t : T (holds_test h columns)) where
    abbrev opens : Bool
    opens = open_test h v

    tested : T (counts && small && opens && slots_test h columns)
    unfolding holds_test
    tested = and_left (counts && small && opens && slots_test h columns) summed t

    control_passes : IsControl (control_of h.control)
    unfolding holds_test
    control_passes =
        (control_test_lem (control_of h.control)).0
        (and_left counts small (and_left (counts && small) opens (and_left (counts && small && opens) (slots_test h columns) tested)))

    pairs_few : (size_at h draft_block).pairs ≤ max_pairs
    unfolding holds_test
    pairs_few =
        leb→le (size_at h draft_block).pairs max_pairs
        (and_right counts small (and_left (counts && small) opens (and_left (counts && small && opens) (slots_test h columns) tested)))

    is_open_lem : T opens
    unfolding holds_test
    is_open_lem = and_right (counts && small) opens (and_left (counts && small && opens) (slots_test h columns) tested)

    slot_tested : (i : ℕ) → i < slot_count → T (slot_test (value_at h columns i))
    slot_tested i k = one_tested h columns (and_right (counts && small && opens) (slots_test h columns) tested) i k

    eight : length (slots_of h columns) ≡ slot_count
    eight = length-map (count 0 slot_count) (slot_at h columns) ∙ count_length 0 slot_count

    kept_in : (i : ℕ) (p : PlanOf) → held (desk_of h columns) i ≡ some p → Kept p
    unfolding desk_of
    kept_in i p e = by (ltb i slot_count) refl
      where
        by : (b : Bool) → ltb i slot_count ≡ b → Kept p
        by true q =
            let k : i < slot_count = ltb-true i slot_count q in
            slot_keeps (value_at h columns i) (slot_tested i k) p (sym (held_at h columns i k) ∙ e)
        by false q = absurd (none-ne-some p (sym (get_or-eq_default (slots_of h columns) none (omega (arith, eight, ltb-false i slot_count q))) ∙ e))

    drafted_in : (o : Draft) → draft_of h columns ≡ some o → IsDraft o
    unfolding value_at
    drafted_in o e = by h.draft is_open_lem e
      where
        by : (x : Opened ℕ) → T (elim x [ None ↦ true | Some slot ↦ draft_test slot v ])
            → elim x [ None ↦ none | Some slot ↦ some (draft_in slot v) ] ≡ some o → IsDraft o
        by None w q = absurd (none-ne-some o q)
        by (Some slot) w q = subst IsDraft (some-injective (draft_in slot v) o q) (open_is_draft slot pairs_few w)

    in_table_lem : (i : ℕ) → i < slot_count → T (in_table (value_at h columns i))
    in_table_lem i k = slot_table (value_at h columns i) (slot_tested i k)

    sum_stored : h.control.pairs ≡ pairs_of_slots (slots_of h columns)
    unfolding holds_test
    sum_stored =
        eqb→eq h.control.pairs (sizes_sum h) (and_right (counts && small && opens && slots_test h columns) summed t)
        ∙ sym (held_sum h columns sized in_table_lem)

    holds : HoldsDesk h columns
    unfolding desk_of
    holds =
        record {
          sized = sized;
          headed = headed;
          is_desk_lem = record { eight = eight; kept = kept_in; drafted = drafted_in; control = control_passes; summed = sum_stored };
          in_tables = in_table_lem;
          few = pairs_few;
        }

  -- where they hold a desk
  module _ (H : HoldsDesk h columns) where
    slot_passes : (i : ℕ) → i < slot_count → T (slot_test (value_at h columns i))
    unfolding value_at in_table
    slot_passes i k = by (eqb x.pairs 0) refl
      where
        x : Plan
        x = value_at h columns i

        by : (b : Bool) → eqb x.pairs 0 ≡ b → T (elim b [ true ↦ zeros x.from && zeros x.to | false ↦ is_plan x ])
        by true e =
            let z = subst (λ n. T (leb n max_pairs && zeros (drop n x.from) && zeros (drop n x.to))) (eqb-true x.pairs 0 e) (H.in_tables i k) in
            and_intro (zeros x.from) (zeros x.to) (and_right (leb 0 max_pairs) (zeros x.from) (and_left (leb 0 max_pairs && zeros x.from) (zeros x.to) z))
            (and_right (leb 0 max_pairs && zeros x.from) (zeros x.to) z)
        by false e = T_of (slot_plan h columns H i k (eqb-false x.pairs 0 e))

    open_passes : T (open_test h v)
    unfolding value_at
    open_passes = by h.draft refl
      where
        by : (x : Opened ℕ) → h.draft ≡ x → T (elim x [ None ↦ true | Some slot ↦ draft_test slot v ])
        by None e = tt
        by (Some slot) e =
            let k = draft_columns h columns H slot e in
            let o = open_draft h columns H slot e in
            let a = leb (suc slot) slot_count in
            let s = shape_in_range (shape_of v) in
            let f = words_test v v.from in
            and_intro (a && s && f) (words_test v v.to)
            (and_intro (a && s) f (and_intro a s (le→leb (suc slot) slot_count o.slot_named) k.in_range) k.from_words) k.to_words

    passes : T (holds_test h columns)
    unfolding holds_test desk_of
    passes =
        let opens = open_test h v in
        let equal = H.is_desk_lem.summed ∙ held_sum h columns sized H.in_tables in
        and_intro (counts && small && opens && slots_test h columns) summed
        (and_intro (counts && small && opens) (slots_test h columns)
        (and_intro (counts && small) opens
        (and_intro counts small ((control_test_lem (control_of h.control)).1 H.is_desk_lem.control)
        (le→leb (size_at h draft_block).pairs max_pairs H.few)) open_passes)
        (all_of (λ j. slot_test (value_at h columns j)) (count 0 slot_count)
        (λ i m. slot_passes i (omega (arith, count_bounds 0 slot_count i m)))))
        (subst (λ n. T (eqb h.control.pairs n)) equal (eqb_refl h.control.pairs))

pub holds_exact : HoldsExact
holds_exact h columns headed sized = (holds h columns headed sized, passes h columns headed sized)
