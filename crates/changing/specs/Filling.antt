-- A plan, or no plan, put into a slot as one change of the desk; and a plan kept in a slot, whatever record asks for it.
use Rattle.std.specs.Prelude.{ℕ, ◌≤◌, ◌<◌, ◌≡◌, true, false, List, Result, Ok, Err}
use Rattle.higman.specs.Limits.{max_pairs, slot_count}
use Rattle.desk.specs.Desk.{Desk}
use Rattle.desk.specs.Records.{Record, is_change}
use Rattle.desk.specs.Replies.{pass, admission, job, keep_in}
use Rattle.operations.specs.declared.Plan.{Plan}
use Rattle.operations.specs.declared.refusals.Refusal.TheVariants.{CountFull}
use Rattle.operations.specs.Plans.{plan_of, is_plan}
use Rattle.slots.specs.declared.Head.{Head}
use Rattle.slots.specs.declared.Refused.{Refused}
use Rattle.slots.specs.Blocks.{filled_head, put}
use Rattle.slots.specs.Desks.{full_in, desk_of, HoldsDesk}
use Rattle.slots.specs.Refused.{refusing}
use Rattle.slots.specs.Works.{Work, DoneSilently}

-- what may be put into a slot of a desk
pub record Fillable (h : Head) (columns : List ℕ) (i : ℕ) (v : Plan) : Type 0 where
  pub holds : HoldsDesk h columns
  pub slot : i < slot_count
  pub few : v.pairs ≤ max_pairs

-- the head that is left, where it was changed
abbrev pub head_of : Head → Result (Unit {0}) Refused → Result Head Refused
head_of h (Ok x) = Ok h
head_of h (Err f) = Err f

-- "16, the count is at its limit", and otherwise the head and the columns with it in the slot
abbrev pub filled : Head → ℕ → Plan → Result Head Refused
filled h i v = elim (full_in h.control) [ true ↦ refusing CountFull | false ↦ Ok (filled_head h i v) ]

abbrev pub filled_columns : Head → List ℕ → ℕ → Plan → List ℕ
filled_columns h columns i v = elim (full_in h.control) [ true ↦ columns | false ↦ put columns i v ]

-- what may be kept in a slot of a desk
pub record Keepable (h : Head) (columns : List ℕ) (i : ℕ) (v : Plan) : Type 0 where
  pub holds : HoldsDesk h columns
  pub slot : i < slot_count
  pub is_plan_fact : is_plan v ≡ true

-- a record whose job is to keep it there, behind the tests that all records have in common
pub record ToKeep (r : Record) (d : Desk) (i : ℕ) (v : Plan) : Type 0 where
  pub admitted : admission d r ≡ pass tt
  pub changes : is_change r ≡ true
  pub keeps : job d r ≡ pass (keep_in d i (plan_of v))

-- whatever record asks for it
abbrev pub DoneKeeping : Head → ℕ → Plan → List ℕ → Result Work Refused → List ℕ → Type 0
DoneKeeping h i v columns w columns' = (r : Record) → ToKeep r (desk_of h columns) i v → DoneSilently r h columns w columns'
