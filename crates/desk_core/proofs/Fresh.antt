-- The fresh desk in code: empty slots, count 0, and no line begun.
use Prim.Native.Nat.{ℕ, zero, suc, ◌<◌}
use mathlib.Core.Path.{◌≡◌, refl, sym, ap, subst}
use mathlib.Core.Bool.{Bool, false, ◌&&◌}
use mathlib.Core.List.{List, [], ◌∷◌}
use mathlib.Core.Option.{none}
use Rattle.std.specs.Prelude.{None}
use native.Mathlib.Omega.{arith}
use lib.Dec.{T, leb, eqb}
use lib.ListN.{length, take, drop, replicate, get_or, get_or-replicate}
use Rattle.higman.specs.Bases.{all}
use Rattle.higman.specs.Limits.{max_pairs, slot_count}
use Rattle.higman.proofs.Tests.{and_intro, all_head, all_tail, all_cons}
use Rattle.desk.specs.Limits.{max_line}
use Rattle.desk.specs.Desk.{Control as ControlOf, IsDesk, fresh_control, fresh_desk}
use Rattle.desk.specs.Session.{idle}
use Rattle.desk.proofs.Stays.{desk_stays}
use Rattle.operations.specs.Plans.{zeros, in_table}
use Rattle.slots.specs.declared.Size.{Size}
use Rattle.slots.specs.declared.Control.{Control}
use Rattle.slots.specs.declared.Head.{Head}
use Rattle.slots.specs.Blocks.{no_size, from_place, to_place, value_at}
use Rattle.slots.specs.Desks.{control_of, desk_of}
use Rattle.slots.proofs.Held.{slots_eight}
use Rattle.desk_core.specs.declared.feeding.State.{State}
use Rattle.desk_core.specs.Feeding.{state_of, HoldsState}

all_drop : {A : Type 0} (f : A → Bool) (k : ℕ) (l : List A) → T (all f l) → T (all f (drop k l))
all_drop f zero l h = h
all_drop f (suc k) [] h = h
all_drop f (suc k) (x ∷ l) h = all_drop f k l (all_tail f x l h)

all_take : {A : Type 0} (f : A → Bool) (k : ℕ) (l : List A) → T (all f l) → T (all f (take k l))
all_take f zero l h = tt
all_take f (suc k) [] h = tt
all_take f (suc k) (x ∷ l) h = all_cons f x (take k l) (all_head f x l h) (all_take f k l (all_tail f x l h))

pub all_zeros : (n : ℕ) → T (zeros (replicate n 0))
all_zeros zero = tt
all_zeros (suc n) = all_zeros n

-- the head and the columns of no plan
abbrev pub fresh_head : Control → Head
fresh_head k = record { sizes = replicate 9 no_size; draft = None; control = k }

module _ (k : Control) (count-0 : control_of k ≡ fresh_control) (columns line : List ℕ) (sized : length columns ≡ 2304)
    (empty : T (zeros columns)) (lined : length line ≡ 1100) where
  abbrev fresh_state : State
  fresh_state = record { head = fresh_head k; columns = columns; line = line; begun = 0; overlong = false }

  fresh_is : desk_of (fresh_head k) columns ≡ fresh_desk
  unfolding desk_of value_at slot_count fresh_desk
  fresh_is = ap (λ (c : ControlOf). record { slots = fresh_desk.slots; draft = none; control = c }) count-0

  -- a window of columns that hold nothing
  window : (at : ℕ) → T (zeros (take max_pairs (drop at columns)))
  window at = all_take (λ x. eqb x 0) max_pairs (drop at columns) (all_drop (λ x. eqb x 0) at columns empty)

  fresh_table : (i : ℕ) → i < slot_count → T (in_table (value_at (fresh_head k) columns i))
  unfolding value_at in_table max_pairs
  fresh_table i h =
      let size : get_or (replicate 9 no_size) i no_size ≡ no_size = get_or-replicate 9 i no_size no_size (omega (arith, slots_eight)) in
      let from = take 128 (drop (from_place i) columns) in
      let to = take 128 (drop (to_place i) columns) in
      subst (λ (z : Size). T (leb z.pairs 128 && zeros (drop z.pairs from) && zeros (drop z.pairs to))) (sym size)
      (and_intro (zeros from) (zeros to) (window (from_place i)) (window (to_place i)))

  pub fresh_holds : HoldsState fresh_state
  unfolding max_line
  fresh_holds =
      record {
        holds = record {
          sized = sized;
          headed = refl;
          is_desk_lem = subst IsDesk (sym fresh_is) desk_stays.fresh;
          in_tables = fresh_table;
          few = omega arith;
        };
        lined = lined;
        fits = omega arith;
        let_go = λ _. refl;
      }

  pub fresh_state_lem : state_of fresh_state ≡ idle fresh_desk
  unfolding state_of
  fresh_state_lem = ap idle fresh_is
