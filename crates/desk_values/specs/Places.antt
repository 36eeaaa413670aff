-- The value of a desk place by place, in the figures that include/desk.h publishes: nine blocks, those of the slots A to H and then that of
-- the open plan, and for each 128 from-words and 128 to-words; and eight counts. How a word packs is `WordsPack` of the crate `plans`.
use Rattle.std.specs.Prelude.{ℕ, ◌+◌, ◌*◌, ◌-◌, ◌/◌, ◌%◌, ◌^◌, ◌≤◌, ◌<◌, ◌≡◌, List, [], length, get_or}
use Rattle.std.proofs.Math.Option.{none, some}
use Rattle.higman.specs.Words.{Word, Shape}
use Rattle.higman.specs.Tables.{Table, froms, tos}
use Rattle.higman.specs.Text.{byte}
use Rattle.higman.specs.Limits.{Plan as PlanOf}
use Rattle.words.specs.Packed.{pack}
use Rattle.desk.specs.Desk.{Draft, Desk as DeskOf, station_of, changes_of, held, IsDesk, right_of}
use Rattle.slots.specs.Blocks.{no_size}
use Rattle.desk_values.specs.declared.Desk.{Desk}
use Rattle.desk_values.specs.Values.{packed_desk}

-- words one behind the other from a place on, and zeros behind them: "Each slot holds a fixed table of 128 pairs, its unused places zero."
pub record WordsFrom (columns : List ℕ) (start : ℕ) (words : List Word) : Type 0 where
  pub word : (j : ℕ) → j < length words → get_or columns (start + j) 0 ≡ pack (get_or words j [])
  pub unused_zero : (j : ℕ) → length words ≤ j → j < 128 → get_or columns (start + j) 0 ≡ 0

-- block i of a value holds pairs of a shape
pub record BlockHolds (v : Desk) (i : ℕ) (s : Shape) (pairs : Table) : Type 0 where
  pub size : get_or v.blocks i no_size ≡ record { arity = s.arity; roots = s.roots; pairs = length pairs }
  pub from_words : WordsFrom v.columns (256 * i) (froms pairs)
  pub to_words : WordsFrom v.columns (256 * i + 128) (tos pairs)

-- or nothing: all zero
abbrev pub BlockEmpty : Desk → ℕ → Type 0
BlockEmpty v i = BlockHolds v i (record { arity = 0; roots = 0 }) []

pub record DeskLaidOut (d : DeskOf) (v : Desk) : Type 0 where
  pub blocks : length v.blocks ≡ 9
  pub words : length v.columns ≡ 2_304
  pub slot_held : (i : ℕ) → i < 8 → (p : PlanOf) → held d i ≡ some p → BlockHolds v i p.shape p.rows
  pub slot_empty_lem : (i : ℕ) → i < 8 → held d i ≡ none → BlockEmpty v i
  -- the open plan, and the letter of the slot that it is meant for
  pub plan_open : (o : Draft) → d.draft ≡ some o → BlockHolds v 8 o.shape o.rows × (v.opened ≡ byte "A" + o.slot)
  pub none_open : d.draft ≡ none → BlockEmpty v 8 × (v.opened ≡ 0)
  -- the station that is named, and each station's count at its place
  pub station : v.control.station ≡ station_of d
  pub counts : length v.control.changes ≡ 8
  pub count : (s : ℕ) → s < 8 → get_or v.control.changes s 0 ≡ changes_of d.control s
  -- the rights of stations 1 to 7, two bits for each slot, A lowest
  pub rights : length v.control.rights ≡ 7
  pub right : (s i : ℕ) → 1 ≤ s → s < 8 → i < 8 → get_or v.control.rights (s - 1) 0 / 2 ^ (2 * i) % 4 ≡ right_of d.control.rights s i

abbrev pub DeskLayout : Type 0
DeskLayout = (d : DeskOf) → IsDesk d → DeskLaidOut d (packed_desk d)
