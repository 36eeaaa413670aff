-- The rights in code are those of the desk: two bits for each slot hold a number up to 3, so that packing a row and reading it again gives
-- the row, and the other way round.
use Prim.Native.Nat.{ℕ, zero, suc, ◌+◌, ◌*◌, ◌-◌, ◌/◌, ◌%◌, ◌^◌, ◌≤◌, ◌<◌}
use native.Mathlib.Nat.{pow-suc, le_refl}
use native.Mathlib.Omega.{arith}
use mathlib.Core.Path.{◌≡◌, refl, sym, ◌∙◌, ap, ap₂, subst}
use mathlib.Core.List.{List, [], ◌∷◌}
use lib.ListN.{length, get_or, set, drop, length-map, length-set}
use lib.Pow.{shr-shr}
use mathlib.Core.Bool.{Bool, true}
use borrow.Author.Tests.{le-leb}
use lib.Dec.{leb}
use Rattle.higman.specs.Bases.{all}
use Rattle.higman.specs.Limits.{slot_count}
use Rattle.higman.specs.Listing.{is_slot, slot_number}
use Rattle.higman.proofs.Tests.{so, T_of, all_head, all_tail}
use Rattle.desk.specs.Limits.{station_count, max_right}
use Rattle.desk.specs.Desk.{Rights, Control as ControlOf, right_of, IsRights, IsControl, giving}
use Rattle.slots.specs.Rights.{right_at, slot_rights, row_of, rights_of, packed_row, packed_rights}
use Rattle.slots.specs.declared.Control.{Control}
use Rattle.slots.specs.Blocks.{given_in}
use Rattle.slots.proofs.Held.{slots_eight}
use Rattle.slots.specs.Desks.{control_of, control_in, has_right, allowed_in}

-- a row of rights
row_long : (n row : ℕ) → length (slot_rights n row) ≡ n
row_long zero row = refl
row_long (suc n) row = ap suc (row_long n (row / 4))

pub row_length : (row : ℕ) → length (row_of row) ≡ slot_count
row_length row = row_long slot_count row

right_next : (row i : ℕ) → right_at (row / 4) i ≡ right_at row (suc i)
right_next row i = let more : 2 + 2 * i ≡ 2 * suc i = omega arith in ap (λ n. n % 4) (shr-shr row 2 (2 * i) ∙ ap (λ k. row / 2 ^ k) more)

row_at : (n row i : ℕ) → i < n → get_or (slot_rights n row) i 0 ≡ right_at row i
row_at zero row i h = absurd (omega arith)
row_at (suc n) row zero h = let whole : row / 1 ≡ row = omega arith in ap (λ k. k % 4) (sym whole)
row_at (suc n) row (suc i) h = row_at n (row / 4) i (omega arith) ∙ right_next row i

pub right_in_row : (row i : ℕ) → i < slot_count → get_or (row_of row) i 0 ≡ right_at row i
right_in_row row i h = row_at slot_count row i h

pub row_below : (n row i : ℕ) → get_or (slot_rights n row) i 0 < 4
row_below zero row i = omega arith
row_below (suc n) row zero = omega arith
row_below (suc n) row (suc i) = row_below n (row / 4) i

-- read and packed again
packed_of_row : (n row : ℕ) → row < 4 ^ n → packed_row (slot_rights n row) ≡ row
packed_of_row zero row h = omega arith
packed_of_row (suc n) row h =
    let rest = packed_of_row n (row / 4) (omega (arith, pow-suc 4 n)) in
    omega (arith, rest)

abbrev Rows : List ℕ → Type 0
Rows l = (i : ℕ) → get_or l i 0 < 4

pub row_of_packed : (l : List ℕ) → Rows l → slot_rights (length l) (packed_row l) ≡ l
row_of_packed [] h = refl
row_of_packed (x ∷ l) h =
    let first : x < 4 = h zero in
    let low : (x + 4 * packed_row l) % 4 ≡ x = omega arith in
    let high : (x + 4 * packed_row l) / 4 ≡ packed_row l = omega arith in
    ap₂ ◌∷◌ low (ap (slot_rights (length l)) high ∙ row_of_packed l (λ i. h (suc i)))

pub packed_below : (l : List ℕ) → Rows l → packed_row l < 4 ^ length l
packed_below [] h = omega arith
packed_below (x ∷ l) h = let first : x < 4 = h zero in omega (arith, packed_below l (λ i. h (suc i)), pow-suc 4 (length l))

-- packed from the last right on
pub packed_from : (l : List ℕ) (i : ℕ) → i < length l → packed_row (drop i l) ≡ get_or l i 0 + 4 * packed_row (drop (i + 1) l)
packed_from [] i h = absurd (omega arith)
packed_from (x ∷ l) zero h = refl
packed_from (x ∷ l) (suc i) h = let next : suc i + 1 ≡ suc (i + 1) = omega arith in packed_from l i (omega arith)
    ∙ ap (λ k. get_or l i 0 + 4 * packed_row (drop k (x ∷ l))) (sym next)

pub packed_part : (l : List ℕ) (i : ℕ) → packed_row (drop i l) ≤ packed_row l
packed_part l zero = le_refl (packed_row l)
packed_part [] (suc i) = le_refl 0
packed_part (x ∷ l) (suc i) = omega (arith, packed_part l i)

pub packed_none : (l : List ℕ) (i : ℕ) → length l ≤ i → packed_row (drop i l) ≡ 0
packed_none [] zero h = refl
packed_none [] (suc i) h = refl
packed_none (x ∷ l) zero h = absurd (omega arith)
packed_none (x ∷ l) (suc i) h = packed_none l i (omega arith)

pub set_rows : (l : List ℕ) (i x : ℕ) → Rows l → x < 4 → Rows (set l i x)
set_rows [] i x h k = h
set_rows (y ∷ l) zero x h k = λ j. elim j as (λ j. get_or (x ∷ l) j 0 < 4) [ zero ↦ k | suc j ↦ h (suc j) ]
set_rows (y ∷ l) (suc i) x h k =
    let rest = set_rows l i x (λ j. h (suc j)) k in
    λ j. elim j as (λ j. get_or (y ∷ set l i x) j 0 < 4) [ zero ↦ h zero | suc j ↦ rest j ]

-- a row after a right has been given, packed
module _ (row slot right : ℕ) (k : right ≤ max_right) where
  abbrev next : List ℕ
  next = set (row_of row) slot right

  pub next_length : length next ≡ slot_count
  next_length = length-set (row_of row) slot right ∙ row_length row

  pub next_rows : Rows next
  unfolding max_right
  next_rows = set_rows (row_of row) slot right (row_below slot_count row) (omega arith)

  pub next_fits : packed_row next < 65_536
  unfolding slot_count
  next_fits = subst (λ n. packed_row next < 4 ^ n) next_length (packed_below next next_rows)

  -- packed from the last slot on: none of it, then one right more, and what is packed has 16 bits
  pub packed_start : 0 ≡ packed_row (drop 8 next)
  packed_start = sym (packed_none next 8 (omega (arith, next_length, slots_eight)))

  pub packed_next : (i : ℕ) → 0 < i → i ≤ 8 → packed_row (drop (i - 1) next) ≡ get_or next (i - 1) 0 + 4 * packed_row (drop i next)
  packed_next i more few =
      let again : i - 1 + 1 ≡ i = omega arith in
      packed_from next (i - 1) (omega (arith, next_length, slots_eight)) ∙ ap (λ k. get_or next (i - 1) 0 + 4 * packed_row (drop k next)) again

  pub packed_fits : (i : ℕ) → packed_row (drop i next) < 65_536
  packed_fits i = omega (arith, packed_part next i, next_fits)

-- the rows of all stations
pub row_of_station : (rows : List ℕ) (s : ℕ) → s < length rows → get_or (rights_of rows) s [] ≡ row_of (get_or rows s 0)
row_of_station [] s h = absurd (omega arith)
row_of_station (x ∷ rows) zero h = refl
row_of_station (x ∷ rows) (suc s) h = row_of_station rows s (omega arith)

set_station : (rows : List ℕ) (s row : ℕ) → rights_of (set rows s row) ≡ set (rights_of rows) s (row_of row)
set_station [] s row = refl
set_station (x ∷ rows) zero row = refl
set_station (x ∷ rows) (suc s) row = ap (λ l. row_of x ∷ l) (set_station rows s row)

high_right : max_right < 4
unfolding max_right
high_right = omega arith

-- a right given in code is given on the desk
pub given_control : (c : Control) → IsControl (control_of c) → (s i x : ℕ) → 1 ≤ s → s < station_count → x ≤ max_right
    → control_of (given_in c s i x) ≡ giving (control_of c) s i x
given_control c h zero i x a b k = absurd (omega arith)
given_control c h (suc s) i x a b k =
    let old = row_of (get_or c.rights s 0) in
    let seven : length c.rights ≡ station_count - 1 = sym (length-map c.rights row_of) ∙ h.rights.each_station in
    let below = set_rows old i x (row_below slot_count (get_or c.rights s 0)) (omega (arith, high_right)) in
    let long : length (set old i x) ≡ slot_count = length-set old i x ∙ row_length (get_or c.rights s 0) in
    let back : row_of (packed_row (set old i x)) ≡ set old i x =
    ap (λ n. slot_rights n (packed_row (set old i x))) (sym long) ∙ row_of_packed (set old i x) below in
    let before : suc s - 1 ≡ s = omega arith in
    let row = row_of_station c.rights s (omega (arith, seven)) in
    let rights : rights_of (set c.rights s (packed_row (set old i x)))
    ≡ set (rights_of c.rights) s (set (get_or (rights_of c.rights) s []) i x) =
    set_station c.rights s (packed_row (set old i x)) ∙ ap (set (rights_of c.rights) s) (back ∙ ap (λ r. set r i x) (sym row)) in
    ap (λ k. control_of (at_place k)) before
    ∙ (λ j. record { station = c.station; changes = c.changes; rights = rights j; pairs = c.pairs })
  where
    at_place : ℕ → Control
    at_place k =
        let row = packed_row (set (row_of (get_or c.rights k 0)) i x) in
        record { station = c.station; changes = c.changes; rights = set c.rights k row; pairs = c.pairs }

-- the right of a station in code
pub station_right : (c : Control) → IsControl (control_of c) → (s i : ℕ) → 1 ≤ s → s < station_count → i < slot_count
    → right_at (get_or c.rights (s - 1) 0) i ≡ right_of (control_of c).rights s i
station_right c h zero i a b k = absurd (omega arith)
station_right c h (suc s) i a b k =
    let seven : length c.rights ≡ station_count - 1 = sym (length-map c.rights row_of) ∙ h.rights.each_station in
    let before : suc s - 1 ≡ s = omega arith in
    ap (λ k. right_at (get_or c.rights k 0) i) before
    ∙ sym (ap (λ r. get_or r i 0) (row_of_station c.rights s (omega (arith, seven))) ∙ right_in_row (get_or c.rights s 0) i k)

-- a control block in code is that of its control block on the desk, and the other way round
rows_back : (rights : Rights) → ((s : ℕ) → s < length rights → length (get_or rights s []) ≡ slot_count)
    → ((s i : ℕ) → get_or (get_or rights s []) i 0 ≤ max_right)
    → rights_of (packed_rights rights) ≡ rights
rows_back [] e w = refl
rows_back (l ∷ rights) e w =
    ap₂ ◌∷◌ (ap (λ n. slot_rights n (packed_row l)) (sym (e zero (omega arith))) ∙ row_of_packed l (λ i. omega (arith, w zero i, high_right)))
    (rows_back rights (λ s h. e (suc s) (omega arith)) (λ s. w (suc s)))

pub control_back : (c : ControlOf) → IsControl c → control_of (control_in c) ≡ c
control_back c h =
    let r = h.rights in
    let rights = rows_back c.rights (λ s k. r.each_slot s (omega (arith, r.each_station))) (λ s. r.within (suc s)) in
    λ i. record { station = c.station; changes = c.changes; rights = rights i; pairs = c.pairs }

rows_again : (rows : List ℕ) → ((s : ℕ) → get_or rows s 0 < 4 ^ slot_count) → packed_rights (rights_of rows) ≡ rows
rows_again [] h = refl
rows_again (row ∷ rows) h = ap₂ ◌∷◌ (packed_of_row slot_count row (h zero)) (rows_again rows (λ s. h (suc s)))

-- of 16 bits each
pub control_again : (c : Control) → ((s : ℕ) → get_or c.rights s 0 < 65_536) → control_in (control_of c) ≡ c
unfolding slot_count
control_again c h =
    let rights = rows_again c.rights h in λ i. record { station = c.station; changes = c.changes; rights = rights i; pairs = c.pairs }

pub packed_narrow : (rights : Rights) → IsRights rights → (s : ℕ) → get_or (packed_rights rights) s 0 < 65_536
packed_narrow rights h = narrow rights (λ s k. h.each_slot s (omega (arith, h.each_station))) (λ s. h.within (suc s))
  where
    row_narrow : (l : List ℕ) → length l ≡ slot_count → ((i : ℕ) → get_or l i 0 ≤ max_right) → packed_row l < 65_536
    row_narrow l e w = subst (λ n. packed_row l < 4 ^ n) (e ∙ slots_eight) (packed_below l (λ i. omega (arith, w i, high_right)))

    narrow : (rights : Rights) → ((s : ℕ) → s < length rights → length (get_or rights s []) ≡ slot_count)
        → ((s i : ℕ) → get_or (get_or rights s []) i 0 ≤ max_right) → (s : ℕ) → get_or (packed_rights rights) s 0 < 65_536
    narrow [] e w s = omega arith
    narrow (l ∷ rights) e w zero = row_narrow l (e zero (omega arith)) (w zero)
    narrow (l ∷ rights) e w (suc s) = narrow rights (λ s h. e (suc s) (omega arith)) (λ s. w (suc s)) s

-- station 0 is allowed everything
pub not_first : (s : ℕ) → (s ≡ 0 → ⊥) → 1 ≤ s
not_first zero n = absurd (n refl)
not_first (suc s) n = omega arith

-- one of some names of slots
pub named_at : (l : List ℕ) (i d : ℕ) → i < length l → all is_slot l ≡ true → is_slot (get_or l i d) ≡ true
named_at [] i d h e = absurd (omega arith)
named_at (b ∷ l) zero d h e = so (is_slot b) (all_head is_slot b l (T_of e))
named_at (b ∷ l) (suc i) d h e = named_at l i d (omega arith) (so (all is_slot l) (all_tail is_slot b l (T_of e)))

-- station 0 is allowed all
all_pass : (f : ℕ → Bool) → ((b : ℕ) → f b ≡ true) → (l : List ℕ) → all f l ≡ true
all_pass f h [] = refl
all_pass f h (b ∷ l) = rw (h b, all) (all_pass f h l)

pub first_allowed : (c : Control) → c.station ≡ 0 → (right : ℕ) → right ≤ max_right → (names : List ℕ) → allowed_in c right names ≡ true
unfolding allowed_in
first_allowed c e right k names =
    all_pass (has_right c right) (λ b. ap (λ s. leb right (right_of (control_of c).rights s (slot_number b))) e
    ∙ le-leb right max_right k) names
