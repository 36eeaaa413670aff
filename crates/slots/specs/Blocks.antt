-- The blocks of the columns: what stands in one, and the columns with another plan in one.
use Rattle.std.specs.Prelude.{ℕ, ◌+◌, ◌*◌, ◌-◌, ◌<◌, ◌≡◌, None, List, length, get_or, set, take, drop}
use Rattle.higman.specs.Limits.{max_pairs}
use Rattle.higman.specs.Buffers.{written}
use Rattle.operations.specs.declared.Plan.{Plan}
use Rattle.slots.specs.Rights.{row_of, packed_row}
use Rattle.slots.specs.declared.Size.{Size}
use Rattle.slots.specs.declared.Control.{Control}
use Rattle.slots.specs.declared.Head.{Head}

-- a block for each slot and, behind them, that of the open plan
abbrev pub block_count : ℕ
block_count = 9

-- the words of all blocks
abbrev pub columns_size : ℕ
columns_size = 2304

-- a block of the columns
pub record InColumns (i : ℕ) (columns : List ℕ) : Type 0 where
  pub block : i < block_count
  pub sized : length columns ≡ columns_size

-- where the from-words and the to-words of a block start
abbrev pub from_place : ℕ → ℕ
from_place i = i * 256

abbrev pub to_place : ℕ → ℕ
to_place i = i * 256 + 128

abbrev pub no_size : Size
no_size = record { arity = 0; roots = 0; pairs = 0 }

abbrev pub size_at : Head → ℕ → Size
size_at h i = get_or h.sizes i no_size

unfoldable pub value_at : Head → List ℕ → ℕ → Plan
value_at h columns i =
    record {
      arity = (size_at h i).arity;
      roots = (size_at h i).roots;
      pairs = (size_at h i).pairs;
      from = take max_pairs (drop (from_place i) columns);
      to = take max_pairs (drop (to_place i) columns);
    }

-- the columns with the words of a plan in a block
unfoldable pub put : List ℕ → ℕ → Plan → List ℕ
put columns i p = written (written columns (from_place i) p.from) (to_place i) p.to

-- the size of what a block is to hold
abbrev pub size_of : Plan → Size
size_of p = record { arity = p.arity; roots = p.roots; pairs = p.pairs }

-- one change more of the station that is named, by which so many pairs are lost and so many kept
abbrev pub noted_in : Control → ℕ → ℕ → Control
noted_in c lost kept =
    record {
      station = c.station;
      changes = set c.changes c.station (get_or c.changes c.station 0 + 1);
      rights = c.rights;
      pairs = c.pairs - lost + kept;
    }

-- this station named
abbrev pub named_in : Control → ℕ → Control
named_in c s = record { station = s; changes = c.changes; rights = c.rights; pairs = c.pairs }

-- a right on a slot given to a station from 1 on
abbrev pub given_in : Control → ℕ → ℕ → ℕ → Control
given_in c s i x =
    let row = packed_row (set (row_of (get_or c.rights (s - 1) 0)) i x) in
    record { station = c.station; changes = c.changes; rights = set c.rights (s - 1) row; pairs = c.pairs }

-- the head after a plan, or no plan, was put into a slot: no plan is open, and the change is counted, with the pairs of both
unfoldable pub filled_head : Head → ℕ → Plan → Head
filled_head h i p =
    record {
      sizes = set h.sizes i (size_of p);
      draft = None;
      control = noted_in h.control (size_at h i).pairs p.pairs;
    }
