-- The tests for an open plan, for what a desk keeps beside its plans and for a desk say what these are.
use Prim.Native.Nat.{ℕ, zero, suc, ◌+◌, ◌-◌, ◌≤◌, ◌<◌, zero-le, suc-le-suc}
use native.Mathlib.Nat.{not-suc-le-zero, le_of_suc-le-suc, le_refl}
use native.Mathlib.Omega.{arith}
use mathlib.Core.Path.{◌≡◌, refl, sym, subst}
use mathlib.Core.Logic.{◌↔◌}
use mathlib.Core.Bool.{Bool, ◌&&◌}
use mathlib.Core.List.{List, [], ◌∷◌}
use mathlib.Core.Option.{Option, none, some, some-injective, none-ne-some}
use lib.Dec.{T, leb, eqb, leb→le, le→leb, eqb→eq, eqb_refl}
use lib.ListN.{length, get_or}
use Rattle.higman.specs.Limits.{Plan, Kept, slot_count}
use Rattle.higman.specs.Answers.{is_table_of, is_kept}
use Rattle.higman.proofs.Statements.{table_of, test_table, answers_exact}
use Rattle.higman.specs.Bases.{all}
use Rattle.higman.proofs.Tests.{and_left, and_right, and_intro, all_head, all_tail, all_cons}
use Rattle.desk.specs.Limits.{station_count, max_right, max_changes}
use Rattle.desk.specs.Desk.{Draft, Rights, Control, Desk, right_of, IsDraft, IsRights, IsControl, IsDesk, all_held, is_draft}
use Rattle.desk.specs.Desk.{is_station, are_slot_rights, are_rights, is_control, is_desk, pairs_of_slots}
use Rattle.desk.specs.Theorems.{DeskTest}

held_of : (l : List (Option Plan)) → T (all_held l) → (i : ℕ) (p : Plan) → get_or l i none ≡ some p → Kept p
held_of [] h i p e = absurd (none-ne-some p e)
held_of (none ∷ l) h zero p e = absurd (none-ne-some p e)
held_of (none ∷ l) h (suc i) p e = held_of l h i p e
held_of (some q ∷ l) h zero p e = subst Kept (some-injective q p e) ((answers_exact.kept_test q).0 (and_left (is_kept q) (all_held l) h))
held_of (some q ∷ l) h (suc i) p e = held_of l (and_right (is_kept q) (all_held l) h) i p e

test_held : (l : List (Option Plan)) → ((i : ℕ) (p : Plan) → get_or l i none ≡ some p → Kept p) → T (all_held l)
test_held [] k = tt
test_held (none ∷ l) k = test_held l (λ i p e. k (suc i) p e)
test_held (some q ∷ l) k = and_intro (is_kept q) (all_held l) ((answers_exact.kept_test q).1 (k zero q refl)) (test_held l (λ i p e. k (suc i) p e))

draft_of_lem : (x : Option Draft) → T (is_draft x) → (o : Draft) → x ≡ some o → IsDraft o
draft_of_lem none h o e = absurd (none-ne-some o e)
draft_of_lem (some q) h o e =
    let named = leb→le (q.slot + 1) slot_count (and_left (leb (q.slot + 1) slot_count) (is_table_of q.shape q.rows) h) in
    let table = table_of q.shape q.rows (and_right (leb (q.slot + 1) slot_count) (is_table_of q.shape q.rows) h) in
    subst IsDraft (some-injective q o e) (record { slot_named = omega (arith, named); in_range = table.in_range; within = table.within; from_words = table.from_words; to_words = table.to_words })

test_draft : (x : Option Draft) → ((o : Draft) → x ≡ some o → IsDraft o) → T (is_draft x)
test_draft none k = tt
test_draft (some q) k =
    let h = k q refl in
    and_intro (leb (q.slot + 1) slot_count) (is_table_of q.shape q.rows)
    (le→leb (q.slot + 1) slot_count (omega (arith, h.slot_named)))
    (test_table q.shape q.rows (record { in_range = h.in_range; within = h.within; from_words = h.from_words; to_words = h.to_words }))

pub station_test : (s : ℕ) → T (is_station s) ↔ (s < station_count)
station_test s = (λ h. let k = leb→le (s + 1) station_count h in omega arith, λ k. le→leb (s + 1) station_count (omega arith))

counts_within : (l : List ℕ) → T (all (λ n. leb n max_changes) l) → (s : ℕ) → get_or l s 0 ≤ max_changes
counts_within [] h s = zero-le
counts_within (n ∷ l) h zero = leb→le n max_changes (all_head (λ n. leb n max_changes) n l h)
counts_within (n ∷ l) h (suc s) = counts_within l (all_tail (λ n. leb n max_changes) n l h) s

within_counts : (l : List ℕ) → ((s : ℕ) → get_or l s 0 ≤ max_changes) → T (all (λ n. leb n max_changes) l)
within_counts [] k = tt
within_counts (n ∷ l) k = all_cons (λ n. leb n max_changes) n l (le→leb n max_changes (k zero)) (within_counts l (λ s. k (suc s)))

-- the rights of a station on its slots, and of all stations
abbrev rights_within : List ℕ → Bool
rights_within l = all (λ x. leb x max_right) l

slot_rights_lem : (l : List ℕ) → T (rights_within l) → (i : ℕ) → get_or l i 0 ≤ max_right
slot_rights_lem [] h i = zero-le
slot_rights_lem (x ∷ l) h zero = leb→le x max_right (all_head (λ x. leb x max_right) x l h)
slot_rights_lem (x ∷ l) h (suc i) = slot_rights_lem l (all_tail (λ x. leb x max_right) x l h) i

rights_slot : (l : List ℕ) → ((i : ℕ) → get_or l i 0 ≤ max_right) → T (rights_within l)
rights_slot [] k = tt
rights_slot (x ∷ l) k = all_cons (λ x. leb x max_right) x l (le→leb x max_right (k zero)) (rights_slot l (λ i. k (suc i)))

rows_eight : (l : Rights) → T (all are_slot_rights l) → (s : ℕ) → s < length l → length (get_or l s []) ≡ slot_count
rows_eight [] h s k = absurd (not-suc-le-zero k)
rows_eight (x ∷ l) h zero k = eqb→eq (length x) slot_count (and_left (eqb (length x) slot_count) (rights_within x)
    (all_head are_slot_rights x l h))
rows_eight (x ∷ l) h (suc s) k = rows_eight l (all_tail are_slot_rights x l h) s (le_of_suc-le-suc k)

rows_within : (l : Rights) → T (all are_slot_rights l) → (s i : ℕ) → get_or (get_or l s []) i 0 ≤ max_right
rows_within [] h s i = zero-le
rows_within (x ∷ l) h zero i = slot_rights_lem x (and_right (eqb (length x) slot_count) (rights_within x) (all_head are_slot_rights x l h)) i
rows_within (x ∷ l) h (suc s) i = rows_within l (all_tail are_slot_rights x l h) s i

test_rows : (l : Rights) → ((s : ℕ) → s < length l → length (get_or l s []) ≡ slot_count) → ((s i : ℕ) → get_or (get_or l s []) i 0 ≤ max_right)
    → T (all are_slot_rights l)
test_rows [] e w = tt
test_rows (x ∷ l) e w =
    let eight = subst (λ n. T (eqb (length x) n)) (e zero (suc-le-suc zero-le)) (eqb_refl (length x)) in
    all_cons are_slot_rights x l (and_intro (eqb (length x) slot_count) (rights_within x) eight (rights_slot x (w zero)))
    (test_rows l (λ s k. e (suc s) (suc-le-suc k)) (λ s. w (suc s)))

rights_of_lem : (rights : Rights) → T (are_rights rights) → IsRights rights
unfolding are_rights
rights_of_lem rights h =
    let seven = eqb→eq (length rights) (station_count - 1) (and_left (eqb (length rights) (station_count - 1))
    (all are_slot_rights rights) h) in
    let rows = and_right (eqb (length rights) (station_count - 1)) (all are_slot_rights rights) h in
    record {
      each_station = seven;
      each_slot = λ s k. rows_eight rights rows s (subst (λ n. s < n) (sym seven) k);
      within = within rows;
    }
  where
    within : T (all are_slot_rights rights) → (s i : ℕ) → right_of rights s i ≤ max_right
    within rows zero i = le_refl max_right
    within rows (suc s) i = rows_within rights rows s i

test_rights : (rights : Rights) → IsRights rights → T (are_rights rights)
unfolding are_rights
test_rights rights h =
    and_intro (eqb (length rights) (station_count - 1)) (all are_slot_rights rights)
    (subst (λ n. T (eqb (length rights) n)) h.each_station (eqb_refl (length rights)))
    (test_rows rights (λ s k. h.each_slot s (subst (λ n. s < n) h.each_station k)) (λ s. h.within (suc s)))

pub rights_test_lem : (rights : Rights) → T (are_rights rights) ↔ IsRights rights
rights_test_lem rights = (rights_of_lem rights, test_rights rights)

module _ (c : Control) where
  abbrev known : Bool
  known = is_station c.station

  abbrev eight_counts : Bool
  eight_counts = eqb (length c.changes) station_count

  abbrev each : Bool
  each = known && eight_counts

  abbrev counts : Bool
  counts = all (λ n. leb n max_changes) c.changes

  control_of_lem : T (is_control c) → IsControl c
  unfolding is_control
  control_of_lem h =
      let back = and_left (each && counts) (are_rights c.rights) h in
      let front = and_left each counts back in
      record {
        named = (station_test c.station).0 (and_left known eight_counts front);
        each = eqb→eq (length c.changes) station_count (and_right known eight_counts front);
        within = counts_within c.changes (and_right each counts back);
        rights = (rights_test_lem c.rights).0 (and_right (each && counts) (are_rights c.rights) h);
      }

  test_control : IsControl c → T (is_control c)
  unfolding is_control
  test_control h =
      and_intro (each && counts) (are_rights c.rights)
      (and_intro each counts
      (and_intro known eight_counts ((station_test c.station).1 h.named)
      (subst (λ n. T (eqb (length c.changes) n)) h.each (eqb_refl (length c.changes))))
      (within_counts c.changes h.within))
      ((rights_test_lem c.rights).1 h.rights)

pub control_test_lem : (c : Control) → T (is_control c) ↔ IsControl c
control_test_lem c = (control_of_lem c, test_control c)

module _ (d : Desk) where
  abbrev eight : Bool
  eight = eqb (length d.slots) slot_count

  abbrev filled : Bool
  filled = eight && all_held d.slots

  abbrev drafted : Bool
  drafted = filled && is_draft d.draft

  abbrev controlled : Bool
  controlled = drafted && is_control d.control

  abbrev summed : Bool
  summed = eqb d.control.pairs (pairs_of_slots d.slots)

  desk_of_lem : T (is_desk d) → IsDesk d
  unfolding is_desk
  desk_of_lem h =
      let back = and_left controlled summed h in
      let front = and_left drafted (is_control d.control) back in
      let slots = and_left filled (is_draft d.draft) front in
      record {
        eight = eqb→eq (length d.slots) slot_count (and_left eight (all_held d.slots) slots);
        kept = held_of d.slots (and_right eight (all_held d.slots) slots);
        drafted = draft_of_lem d.draft (and_right filled (is_draft d.draft) front);
        control = (control_test_lem d.control).0 (and_right drafted (is_control d.control) back);
        summed = eqb→eq d.control.pairs (pairs_of_slots d.slots) (and_right controlled summed h);
      }

  test_desk : IsDesk d → T (is_desk d)
  unfolding is_desk
  test_desk h =
      and_intro controlled summed
      (and_intro drafted (is_control d.control)
      (and_intro filled (is_draft d.draft) (and_intro eight (all_held d.slots) (subst (λ n. T (eqb (length d.slots) n)) h.eight (eqb_refl (length d.slots))) (test_held d.slots h.kept)) (test_draft d.draft h.drafted))
      ((control_test_lem d.control).1 h.control))
      (subst (λ n. T (eqb d.control.pairs n)) h.summed (eqb_refl d.control.pairs))

pub desk_test : DeskTest
desk_test d = (desk_of_lem d, test_desk d)
