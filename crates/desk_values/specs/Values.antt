-- A desk as one value: the desk that a value holds, the test that it is one, and the value of a desk. That the values that pass the test
-- are just those of desks is a statement, `DeskValues`, with a term of it in proofs/.
use Rattle.std.specs.Prelude.{ℕ, ◌<◌, ◌≡◌, refl, Bool, true, false, ◌&&◌, List, [], ◌∷◌, ◌++◌, map, T, eqb, length, get_or, set, None, Some}
use Rattle.std.proofs.Math.Option.{Option, none, some}
use Rattle.higman.specs.Words.{count}
use Rattle.higman.specs.Bases.{all}
use Rattle.higman.specs.Tables.{row}
use Rattle.higman.specs.Normal.{joined, normal, normal_form, keep}
use Rattle.higman.specs.Limits.{Plan as PlanOf, slot_count, max_pairs, max_digits, shape_in_range, granted, is_plan_word}
use Rattle.higman.specs.Answers.{verdict, is_kept}
use Rattle.higman.specs.Listing.{is_slot, slot_byte, slot_number}
use Rattle.words.specs.Packed.{pack_on, pack, unpack_in, unpack}
use Rattle.desk.specs.Limits.{station_count, max_right, max_changes}
use Rattle.desk.specs.Desk.{Draft, Desk as DeskOf, IsDesk, fresh_desk, changed, with_draft, are_rights, is_control}
use Rattle.operations.specs.declared.Plan.{Plan}
use Rattle.operations.specs.Plans.{in_table, is_plan, packed, blank}
use Rattle.slots.specs.declared.Size.{Size}
use Rattle.slots.specs.declared.Control.{Control}
use Rattle.slots.specs.declared.Head.{Head}
use Rattle.slots.specs.Blocks.{block_count, columns_size, no_size, size_of, value_at}
use Rattle.slots.specs.Desks.{draft_block, control_in, desk_of}
use Rattle.desks.specs.Tested.{sizes_sum, holds_test}
use Rattle.desk_values.specs.declared.Desk.{Desk}

-- the letter of a slot where a plan is open for it, and 0 where none is open
abbrev pub opened_test : ℕ → Bool
opened_test b = elim (eqb b 0) [ true ↦ true | false ↦ is_slot b ]

abbrev pub head_of : Desk → Head
head_of d =
    record {
      sizes = d.blocks;
      draft = elim (eqb d.opened 0) [ true ↦ None | false ↦ Some (slot_number d.opened) ];
      control = d.control;
    }

-- the desk that a value holds
unfoldable pub desk_in : Desk → DeskOf
desk_in d = desk_of (head_of d) d.columns

abbrev pub no_shape : ℕ → ℕ → Bool
no_shape arity roots = eqb arity 0 && eqb roots 0

-- a slot without pairs has no shape
abbrev pub size_test : Size → Bool
size_test z = elim (eqb z.pairs 0) [ true ↦ no_shape z.arity z.roots | false ↦ true ]

abbrev pub sizes_test : List Size → Bool
sizes_test zs = all (λ i. size_test (get_or zs i no_size)) (count 0 slot_count)

-- the value of no plan
abbrev pub blank_test : Plan → Bool
blank_test v = eqb v.pairs 0 && no_shape v.arity v.roots && in_table v

-- the block of the open plan: zeros behind its pairs, and nothing at all where none is open
abbrev pub draft_test : ℕ → Plan → Bool
draft_test opened v = elim (eqb opened 0) [ true ↦ blank_test v | false ↦ in_table v ]

-- "15 .. a plan or desk handed in isn't one as described above": what is not this
unfoldable pub is_desk_value : Desk → Bool
is_desk_value d =
    opened_test d.opened
    && holds_test (head_of d) d.columns
    && sizes_test d.blocks
    && draft_test d.opened (value_at (head_of d) d.columns draft_block)

-- the value in the block of a slot
abbrev pub held_value : Option PlanOf → Plan
held_value none = blank
held_value (some p) = packed p

-- and in that of the open plan
abbrev pub draft_value : Option Draft → Plan
draft_value none = blank
draft_value (some o) = packed (record { shape = o.shape; rows = o.rows })

abbrev pub opened_by : Option Draft → ℕ
opened_by none = 0
opened_by (some o) = slot_byte o.slot

-- the blocks of a desk, those of its slots and then that of its open plan
abbrev pub blocks_of : DeskOf → List Plan
blocks_of d = map held_value d.slots ++ (draft_value d.draft ∷ [])

-- the words of blocks: from-words and then to-words of each
abbrev pub words_in : List Plan → List ℕ
words_in [] = []
words_in (v ∷ vs) = (v.from ++ v.to) ++ words_in vs

-- the value of a desk
unfoldable pub packed_desk : DeskOf → Desk
packed_desk d =
    record {
      blocks = map size_of (blocks_of d);
      opened = opened_by d.draft;
      control = control_in d.control;
      columns = words_in (blocks_of d);
    }

-- how the code makes the sizes
abbrev pub tidy_size : Size → Size
tidy_size z = elim (eqb z.pairs 0) [ true ↦ no_size | false ↦ z ]

abbrev pub tidy_sizes : List Size → Size → List Size
tidy_sizes zs draft = map (λ i. tidy_size (get_or zs i no_size)) (count 0 slot_count) ++ (draft ∷ [])

-- a value whose arrays have their lengths, and its rights 16 bits, as every value has that a function is given; the lengths of the counts
-- and of the rights are part of the test
pub record Whole (d : Desk) : Type 0 where
  pub headed : length d.blocks ≡ block_count
  pub sized : length d.columns ≡ columns_size
  pub narrow : (s : ℕ) → get_or d.control.rights s 0 < 65_536

-- The values that pass the test are those of desks: each holds a desk, and is the one value of it; and the value of a desk passes, and
-- holds that desk.
pub record DeskValues : Type 0 where
  pub holds : (v : Desk) → Whole v → T (is_desk_value v) → IsDesk (desk_in v)
  pub one_value : (v : Desk) → Whole v → T (is_desk_value v) → packed_desk (desk_in v) ≡ v
  pub taken : (d : DeskOf) → IsDesk d → Whole (packed_desk d) × T (is_desk_value (packed_desk d))
  pub held : (d : DeskOf) → IsDesk d → desk_in (packed_desk d) ≡ d

-- 11→12, 12→11 in slot A; and with it a plan open for B that has one pair
abbrev exchange : PlanOf
exchange = record { shape = record { arity = 2; roots = 1 }; rows = row 11 12 ∷ row 12 11 ∷ [] }

abbrev held : DeskOf
held = changed fresh_desk 0 (some exchange)

abbrev opened : DeskOf
opened = with_draft held (record { slot = 1; shape = record { arity = 2; roots = 1 }; rows = row 12 1 ∷ [] })

-- their values are desks, and hold them
is_desk_value_example : map (λ d. is_desk_value (packed_desk d)) (fresh_desk ∷ held ∷ opened ∷ []) ≡ true ∷ true ∷ true ∷ []
unfolding is_desk_value packed_desk value_at holds_test sizes_sum is_plan in_table is_kept shape_in_range granted is_plan_word max_pairs max_digits
    max_changes max_right slot_count station_count are_rights is_control verdict keep normal_form normal joined packed blank pack pack_on unpack
    unpack_in fresh_desk changed with_draft
is_desk_value_example = refl

desk_in_example : desk_in (packed_desk opened) ≡ opened
unfolding desk_in packed_desk desk_of value_at max_pairs slot_count station_count max_right packed blank pack pack_on unpack unpack_in fresh_desk
    changed with_draft
desk_in_example = refl

-- a word behind the pairs of a slot; a shape of an empty slot; a letter where no plan is open; a byte that is no slot's; a station above 7;
-- a count above the limit, of a station that isn't named; a right of 3, of station 7 on slot H; and a sum that is one too low or too high
abbrev spoiled : List Desk
spoiled =
    let v = packed_desk held in
    record { blocks = v.blocks; opened = 0; control = v.control; columns = set v.columns 2 0x11 }
    ∷ record {
      blocks = set v.blocks 1 (record { arity = 2; roots = 1; pairs = 0 });
      opened = 0;
      control = v.control;
      columns = v.columns;
    }
    ∷ record { blocks = v.blocks; opened = 65; control = v.control; columns = v.columns }
    ∷ record { blocks = v.blocks; opened = 1; control = v.control; columns = v.columns }
    ∷ record { blocks = v.blocks; opened = 0; control = keeping 8 v.control.changes v.control.rights 2; columns = v.columns }
    ∷ record {
      blocks = v.blocks;
      opened = 0;
      control = keeping 0 (set v.control.changes 7 4_000_000_001) v.control.rights 2;
      columns = v.columns;
    }
    ∷ record {
      blocks = v.blocks;
      opened = 0;
      control = keeping 0 v.control.changes (set v.control.rights 6 0xEAAA) 2;
      columns = v.columns;
    }
    ∷ record { blocks = v.blocks; opened = 0; control = keeping 0 v.control.changes v.control.rights 1; columns = v.columns }
    ∷ record { blocks = v.blocks; opened = 0; control = keeping 0 v.control.changes v.control.rights 3; columns = v.columns }
    ∷ []
  where
    keeping : ℕ → List ℕ → List ℕ → ℕ → Control
    keeping station changes rights pairs = record { station = station; changes = changes; rights = rights; pairs = pairs }

spoiled_example : map is_desk_value spoiled ≡ false ∷ false ∷ false ∷ false ∷ false ∷ false ∷ false ∷ false ∷ false ∷ []
unfolding is_desk_value packed_desk value_at holds_test sizes_sum is_plan in_table is_kept shape_in_range granted is_plan_word max_pairs max_digits
    max_changes max_right slot_count station_count are_rights is_control verdict keep normal_form normal joined packed blank pack pack_on unpack
    unpack_in fresh_desk changed with_draft
spoiled_example = refl
