-- A change that puts a plan, or no plan, into a slot is done: it is refused with 16, or the plan stands in the slot and the change is
-- counted.
use Prim.Native.Nat.{ℕ, ◌<◌}
use mathlib.Core.Path.{◌≡◌, refl, sym, ◌∙◌, ap, ap₂, subst₂}
use mathlib.Core.Bool.{Bool, true, false, ◌&&◌}
use mathlib.Core.List.{List, []}
use lib.Dec.{T}
use lib.ListN.{length}
use Rattle.std.specs.Prelude.{Result, Ok, Err}
use Rattle.higman.specs.Limits.{max_pairs, slot_count}
use Rattle.higman.specs.Buffers.{written}
use Rattle.desk.specs.Desk.{Desk, changed}
use Rattle.desk.specs.Records.{Record, is_change}
use Rattle.desk.specs.Replies.{Reply as ReplyOf, pass, admission, job}
use Rattle.operations.specs.declared.Plan.{Plan}
use Rattle.operations.specs.declared.refusals.Refusal.TheVariants.{CountFull}
use Rattle.operations.specs.Plans.{in_table}
use Rattle.slots.specs.declared.Head.{Head}
use Rattle.slots.specs.declared.Refused.{Refused}
use Rattle.slots.specs.declared.Reply.{Reply}
use Rattle.slots.specs.Blocks.{filled_head, put}
use Rattle.slots.specs.Desks.{held_by, full_in, desk_of, HoldsDesk}
use Rattle.slots.specs.Refused.{refused_for, refusing}
use Rattle.slots.specs.Works.{Work, direct, told, Done}
use Rattle.slots.proofs.Held.{filled_desk, holds_filled}
use Rattle.slots.proofs.Steps.{done_refused, at_limit_lem, at_end, done_passed}
use Rattle.changing.specs.Filling.{filled, filled_columns}

-- by whether the count is at its limit
module _ (h : Head) (columns : List ℕ) (i : ℕ) (v : Plan) where
  abbrev head_by : Bool → Result Head Refused
  head_by b = elim b [ true ↦ refusing CountFull | false ↦ Ok (filled_head h i v) ]

  abbrev columns_by : Bool → List ℕ
  columns_by b = elim b [ true ↦ columns | false ↦ put columns i v ]

  module _ (e : full_in h.control ≡ true) where
    pub filled_none : filled h i v ≡ refusing CountFull
    filled_none = ap head_by e

    pub columns_same : filled_columns h columns i v ≡ columns
    columns_same = ap columns_by e

  module _ (e : full_in h.control ≡ false) where
    pub filled_one : filled h i v ≡ Ok (filled_head h i v)
    filled_one = ap head_by e

    pub columns_put : filled_columns h columns i v ≡ put columns i v
    columns_put = ap columns_by e

-- what a record returns where its slot is filled
abbrev pub replying : Reply → Result Head Refused → Result Work Refused
replying reply (Ok h) = Ok (record { head = h; reply = reply })
replying reply (Err f) = Err f

module _ (h : Head) (columns : List ℕ) (H : HoldsDesk h columns) (i : ℕ) (slot : i < slot_count) (v : Plan)
    (from : length v.from ≡ max_pairs) (to : length v.to ≡ max_pairs) (table : T (in_table v)) where
  abbrev d : Desk
  d = desk_of h columns

  pub done_filling : (r : Record) → admission d r ≡ pass tt → is_change r ≡ true → (answer : ReplyOf)
      → job d r ≡ pass (changed d i (held_by v), answer) → direct answer ≡ [] → (reply : Reply)
      → pass reply ≡ told answer → (out : List ℕ) (w : Result Head Refused) → w ≡ filled h i v → (columns' : List ℕ)
      → columns' ≡ filled_columns h columns i v → (result : Result Work Refused) → result ≡ replying reply w
      → Done r h columns out result columns' out
  unfolding desk_of
  done_filling r admitted changes answer fills silent reply tells out w e columns' q result k =
      subst₂ (λ x y. Done r h columns out x y out) (sym (k ∙ ap (replying reply) e)) (sym q) (by (full_in h.control) refl)
    where
      by : (b : Bool) → full_in h.control ≡ b
          → Done r h columns out (replying reply (head_by h columns i v b)) (columns_by h columns i v b) out
      by true l =
          done_refused h columns H r out (refused_for CountFull)
          (at_limit_lem d r admitted (changed d i (held_by v), answer) fills changes l) _ refl
      by false l =
          done_passed h columns H r out (changed d i (held_by v), answer)
          (at_end d r admitted (changed d i (held_by v), answer) fills (ap₂ ◌&&◌ changes l))
          (record { head = filled_head h i v; reply = reply }) (put columns i v) out
          (holds_filled h columns H i slot v from to table) (filled_desk h columns H i slot v from to table) tells
          (ap (written out 0) (sym silent))
