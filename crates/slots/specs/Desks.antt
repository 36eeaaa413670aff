-- The desk that a head and its columns hold, and what it is for them to hold one. Read Works.antt next.
use Rattle.std.specs.Prelude.{ℕ, ◌+◌, ◌≤◌, ◌<◌, ◌≡◌, refl, Bool, true, false}
use Rattle.std.specs.Prelude.{List, [], ◌∷◌, ◌++◌, map, T, leb, eqb, length, replicate, Some, None}
use Rattle.std.proofs.Math.Option.{Option, none, some}
use Rattle.higman.specs.Words.{count}
use Rattle.higman.specs.Tables.{row}
use Rattle.higman.specs.Limits.{Plan as PlanOf, max_pairs, slot_count}
use Rattle.higman.specs.Bases.{all}
use Rattle.higman.specs.Listing.{is_slot, slot_number}
use Rattle.words.specs.Packed.{unpack_in, unpack}
use Rattle.desk.specs.Limits.{station_count, max_right, max_changes}
use Rattle.desk.specs.Desk.{Draft, Desk, Control as ControlOf, count_in, right_of, IsControl, IsDesk, fresh_desk, changed}
use Rattle.operations.specs.declared.Plan.{Plan}
use Rattle.operations.specs.Plans.{shape_of, rows_of, plan_of, in_table, blank}
use Rattle.slots.specs.declared.Control.{Control}
use Rattle.slots.specs.declared.Head.{Head}
use Rattle.slots.specs.Rights.{rights_of, packed_rights, Givable}
use Rattle.slots.specs.Blocks.{block_count, columns_size, no_size, size_at, value_at, put, filled_head}

-- the block of the open plan, behind those of the slots
abbrev pub draft_block : ℕ
draft_block = 8

-- what a slot holds: no plan where there are no pairs
abbrev pub held_by : Plan → Option PlanOf
held_by v = elim (eqb v.pairs 0) [ true ↦ none | false ↦ some (plan_of v) ]

abbrev pub slot_at : Head → List ℕ → ℕ → Option PlanOf
slot_at h columns i = held_by (value_at h columns i)

abbrev pub slots_of : Head → List ℕ → List (Option PlanOf)
slots_of h columns = map (slot_at h columns) (count 0 slot_count)

-- the open plan that a block holds
abbrev pub draft_in : ℕ → Plan → Draft
draft_in slot v = record { slot = slot; shape = shape_of v; rows = rows_of v }

abbrev pub draft_of : Head → List ℕ → Option Draft
draft_of h columns = elim h.draft [ None ↦ none | Some slot ↦ some (draft_in slot (value_at h columns draft_block)) ]

-- what a desk keeps beside its plans
abbrev pub control_of : Control → ControlOf
control_of c = record { station = c.station; changes = c.changes; rights = rights_of c.rights; pairs = c.pairs }

-- and its block
abbrev pub control_in : ControlOf → Control
control_in c = record { station = c.station; changes = c.changes; rights = packed_rights c.rights; pairs = c.pairs }

-- no change more of the named station is counted
abbrev pub full_in : Control → Bool
full_in c = leb max_changes (count_in (control_of c))

-- one more is, by which so many pairs of those that are held are lost and so many kept, and the sum has 16 bits
pub record Countable (c : Control) (lost kept : ℕ) : Type 0 where
  pub is_control : IsControl (control_of c)
  pub room : full_in c ≡ false
  pub held : lost ≤ c.pairs
  pub fits : c.pairs + kept < 65_536

-- the named station's right on a slot may be asked
pub record RightAsked (c : Control) (i : ℕ) : Type 0 where
  pub is_control : IsControl (control_of c)
  pub named : i < slot_count

-- a right that may be given to a station
pub record RightGiven (s i x : ℕ) : Type 0 where
  pub other : 1 ≤ s
  pub known : s < station_count
  pub given : Givable i x

-- some right of the named station on slots may be asked
pub record RightsAsked (c : Control) (names : List ℕ) (right : ℕ) : Type 0 where
  pub is_control : IsControl (control_of c)
  pub named : all is_slot names ≡ true
  pub fits : right ≤ max_right

-- whether the named station has at least this right on the slot of a name, and on those of all of these names
abbrev pub has_right : Control → ℕ → ℕ → Bool
has_right c right b = leb right (right_of (control_of c).rights c.station (slot_number b))

unfoldable pub allowed_in : Control → ℕ → List ℕ → Bool
allowed_in c right names = all (has_right c right) names

-- "The desk has slots A to H, at most one open plan, and a count of changes"
unfoldable pub desk_of : Head → List ℕ → Desk
desk_of h columns = record { slots = slots_of h columns; draft = draft_of h columns; control = control_of h.control }

-- A head and columns that hold a desk: "Each slot holds a fixed table of 128 pairs, its unused places zero."
pub record HoldsDesk (h : Head) (columns : List ℕ) : Type 0 where
  pub sized : length columns ≡ columns_size
  pub headed : length h.sizes ≡ block_count
  pub is_desk_lem : IsDesk (desk_of h columns)
  pub in_tables : (i : ℕ) → i < slot_count → T (in_table (value_at h columns i))
  -- an open plan has its pairs in its block
  pub few : (size_at h draft_block).pairs ≤ max_pairs

-- 11→12, 12→11 in slot A, as the columns hold it, and the slot emptied again
abbrev held_head : Head
held_head =
    record {
      sizes = record { arity = 2; roots = 1; pairs = 2 } ∷ replicate 8 no_size;
      draft = None;
      control = record { station = 0; changes = 1 ∷ replicate 7 0; rights = replicate 7 0xAAAA; pairs = 2 };
    }

abbrev held_columns : List ℕ
held_columns = (0x11 ∷ 0x12 ∷ replicate 126 0) ++ (0x12 ∷ 0x11 ∷ replicate 126 0)

abbrev exchange : PlanOf
exchange = record { shape = record { arity = 2; roots = 1 }; rows = row 11 12 ∷ row 12 11 ∷ [] }

desk_of_example : desk_of held_head held_columns ≡ changed fresh_desk 0 (some exchange)
unfolding desk_of value_at slot_count station_count max_right fresh_desk changed max_pairs unpack unpack_in
desk_of_example = refl

emptied_example : desk_of (filled_head held_head 0 blank) (put held_columns 0 blank) ≡ changed (changed fresh_desk 0 (some exchange)) 0 none
unfolding desk_of value_at filled_head put blank slot_count station_count max_right fresh_desk changed max_pairs unpack unpack_in
emptied_example = refl
