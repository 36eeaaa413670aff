-- The value of a desk place by place: a column of a block is a window on the words of all blocks.
use Prim.Native.Nat.{ℕ, zero, suc, ◌+◌, ◌*◌, ◌-◌, ◌≤◌, ◌<◌}
use mathlib.Core.Path.{◌≡◌, refl, sym, ◌∙◌, ap, subst}
use mathlib.Core.List.{List, [], ◌∷◌, ◌++◌, map}
use native.Mathlib.Nat.{not-suc-le-zero, le_of_suc-le-suc}
use native.Mathlib.Omega.{arith}
use lib.ListN.{length, get_or, take, drop, replicate, length-append, length-map, length-take}
use lib.Seq.{get_or-drop, get_or-take}
use Rattle.higman.specs.Words.{Word}
use Rattle.higman.specs.Tables.{froms, tos}
use Rattle.higman.specs.Limits.{Plan as PlanOf, max_pairs}
use Rattle.words.specs.Packed.{pack}
use Rattle.desk.specs.Limits.{station_count}
use Rattle.desk.specs.Desk.{Desk as DeskOf, IsDesk, right_of}
use Rattle.operations.specs.declared.Plan.{Plan}
use Rattle.operations.specs.Plans.{column, packed, blank}
use Rattle.slots.specs.Blocks.{from_place, to_place, value_at}
use Rattle.columns.proofs.Limits.{pair_limit}
use Rattle.slots.proofs.Held.{slots_eight}
use Rattle.slots.specs.Rights.{right_at, packed_row, packed_rights}
use Rattle.slots.specs.Desks.{control_of, control_in}
use Rattle.slots.proofs.Rows.{control_back, station_right}
use Rattle.desk.specs.Desk.{Control as ControlOf, IsControl}
use Rattle.desk_values.specs.declared.Desk.{Desk}
use Rattle.desk_values.specs.Values.{head_of, held_value, draft_value, opened_by, packed_desk}
use Rattle.desk_values.specs.Places.{WordsFrom, BlockHolds, BlockEmpty, DeskLayout}
use Rattle.desk_values.proofs.Taken.{sized, headed, slot_value, draft_value_fact}

-- a packed column with zeros behind
zeros_at : (k j : ℕ) → get_or {A = ℕ} (replicate k 0) j 0 ≡ 0
zeros_at zero j = refl
zeros_at (suc k) zero = refl
zeros_at (suc k) (suc j) = zeros_at k j

zeros_behind : (c : List Word) (k j : ℕ) → length c ≤ j → get_or (map pack c ++ replicate k 0) j 0 ≡ 0
zeros_behind [] k j h = zeros_at k j
zeros_behind (w ∷ c) k zero h = absurd (not-suc-le-zero h)
zeros_behind (w ∷ c) k (suc j) h = zeros_behind c k j (le_of_suc-le-suc h)

word_at_lem : (c : List Word) (k j : ℕ) → j < length c → get_or (map pack c ++ replicate k 0) j 0 ≡ pack (get_or c j [])
word_at_lem [] k j h = absurd (not-suc-le-zero h)
word_at_lem (w ∷ c) k zero h = refl
word_at_lem (w ∷ c) k (suc j) h = word_at_lem c k j (le_of_suc-le-suc h)

-- a window that shows a packed column
module _ (columns : List ℕ) (start : ℕ) (c : List Word) (shown : take max_pairs (drop start columns) ≡ column c) where
  few_words : length c ≤ max_pairs
  few_words =
      omega (
        arith,
        length-take max_pairs (drop start columns),
        ap length shown,
        length-append (map pack c) (replicate (max_pairs - length c) 0),
        length-map c pack,
      )

  in_window : (j : ℕ) → j < max_pairs → get_or columns (start + j) 0 ≡ get_or (column c) j 0
  in_window j h =
      sym (get_or-take max_pairs (drop start columns) j 0 h ∙ get_or-drop start columns j 0) ∙ ap (λ l. get_or l j 0) shown

  words_from : WordsFrom columns start c
  words_from =
      record {
        word = λ j h. in_window j (omega (arith, few_words)) ∙ word_at_lem c (max_pairs - length c) j h;
        unused_zero = λ j h k. in_window j (omega (arith, pair_limit)) ∙ zeros_behind c (max_pairs - length c) j h;
      }

-- a block that holds the value of a plan
block_holds : (v : Desk) (i : ℕ) (p : PlanOf) → value_at (head_of v) v.columns i ≡ packed p → BlockHolds v i p.shape p.rows
unfolding value_at packed
block_holds v i p e =
    let from : from_place i ≡ 256 * i = omega arith in
    let to : to_place i ≡ 256 * i + 128 = omega arith in
    record {
      size = λ k. record { arity = (e k).arity; roots = (e k).roots; pairs = (e k).pairs };
      from_words = subst (λ n. WordsFrom v.columns n (froms p.rows)) from
          (words_from v.columns (from_place i) (froms p.rows) (ap (λ (x : Plan). x.from) e));
      to_words = subst (λ n. WordsFrom v.columns n (tos p.rows)) to
          (words_from v.columns (to_place i) (tos p.rows) (ap (λ (x : Plan). x.to) e));
    }

block_empty : (v : Desk) (i : ℕ) → value_at (head_of v) v.columns i ≡ blank → BlockEmpty v i
unfolding packed blank
block_empty v i e = block_holds v i (record { shape = record { arity = 0; roots = 0 }; rows = [] }) e

eight_counts : (d : DeskOf) → IsDesk d → length d.control.changes ≡ 8
unfolding station_count
eight_counts d D = D.control.each

seven_rows : (d : DeskOf) → IsDesk d → length (packed_rights d.control.rights) ≡ 7
unfolding station_count
seven_rows d D = length-map d.control.rights packed_row ∙ D.control.rights.each_station

-- a right in the value is that of the control block that the value holds
right_kept : (d : DeskOf) → IsDesk d → (s i : ℕ) → 1 ≤ s → s < 8 → i < 8
    → right_at (get_or (packed_rights d.control.rights) (s - 1) 0) i ≡ right_of d.control.rights s i
unfolding station_count
right_kept d D s i low high k =
    let c = control_in d.control in
    let back : control_of c ≡ d.control = control_back d.control D.control in
    station_right c (subst IsControl (sym back) D.control) s i low high (omega (arith, slots_eight))
    ∙ ap (λ (x : ControlOf). right_of x.rights s i) back

pub desk_layout : DeskLayout
unfolding packed_desk
desk_layout d D =
    let v = packed_desk d in
    record {
      blocks = headed d D;
      words = sized d D;
      slot_held = λ i h p e. block_holds v i p (slot_value d D i (omega (arith, slots_eight)) ∙ ap held_value e);
      slot_empty_lem = λ i h e. block_empty v i (slot_value d D i (omega (arith, slots_eight)) ∙ ap held_value e);
      plan_open = λ o e. (
        block_holds v 8 (record { shape = o.shape; rows = o.rows }) (draft_value_fact d D ∙ ap draft_value e),
        ap opened_by e,
      );
      none_open = λ e. (block_empty v 8 (draft_value_fact d D ∙ ap draft_value e), ap opened_by e);
      station = refl;
      counts = eight_counts d D;
      count = λ s _. refl;
      rights = seven_rows d D;
      right = right_kept d D;
    }
