-- The statements about values. Document 01 counts plans "handed to a library call included if it gives no 15" among the kept ones of
-- demand 3: so a value is tied to the plan that it holds, place by place and digit by digit, and the laws of demand 3 are said of what
-- the calls make of values. `LibraryExact` gathers the statements, and proofs/ has one term of it, `library_exact`. What is left of
-- this folder is what the functions beneath the public calls promise.
use Rattle.std.specs.Prelude.{ℕ, suc, ◌+◌, ◌*◌, ◌^◌, ◌≤◌, ◌<◌, ◌≡◌, refl, ◌↔◌, true, false}
use Rattle.std.specs.Prelude.{List, [], ◌∷◌, map, T, leb, length, get_or, take, drop, replicate}
use Rattle.std.specs.Prelude.{ℤ, pos, negsuc, nat_abs, ◌+ℤ◌, ◌*ℤ◌, Ok, IsOk}
use Rattle.std.proofs.Math.Option.{some}
use Rattle.higman.specs.Words.{Word, count, is_ways, is_word, child, spell}
use Rattle.higman.specs.Tables.{BlockMap, image, row, φ, ψ}
use Rattle.higman.specs.Normal.{and_then, times, compose, repeated, identity, joined, normal, normal_form, keep}
use Rattle.higman.specs.Limits.{Plan as PlanOf, Kept, fits, shape_in_range, granted, max_pairs, max_digits, max_power, slot_count}
use Rattle.higman.specs.Answers.{verdict, is_kept, repeatable, identity_plan}
use Rattle.higman.specs.Listing.{pair_records, listing as lines_of, is_slot}
use Rattle.higman.specs.Theorems.{ActAlike}
use Rattle.words.specs.Packed.{pack_on, pack, unpack_in, unpack}
use Rattle.words.specs.Bytes.{shape}
use Rattle.operations.specs.declared.Plan.{Plan}
use Rattle.operations.specs.Plans.{shape_of, plan_of, pair_at, in_table, is_plan, packed}
use Rattle.operations.specs.Answers.{value21}
use Rattle.plans.specs.Answers.{following, inverting, raising, alike}
use Rattle.plans.specs.Listing.{listing_answer, listed_buffer}
use Rattle.plans.specs.CallsExact.{CallsExact}

-- "A plan word packs into 64 bits, four bits a digit, its last digit lowest and zeros above."
pub record WordsPack : Type 0 where
  pub no_digit : pack [] ≡ 0
  pub last_lowest : (w : Word) (d : ℕ) → pack (child w d) ≡ pack w * 2 ^ 4 + d
  pub in_64_bits : (w : Word) → T (is_ways 9 w) → T (fits w) → pack w < 2 ^ 64
  pub unpacked : (w : Word) → T (is_ways 9 w) → unpack (pack w) ≡ w
  -- no two numbers hold one word
  pub packed_again : (x : ℕ) → pack (unpack x) ≡ x

-- A value "handed to a library call .. if it gives no 15". Its columns are arrays: "a fixed table of 128 pairs".
pub record Handed (v : Plan) : Type 0 where
  pub from_places : length v.from ≡ max_pairs
  pub to_places : length v.to ≡ max_pairs
  pub taken : is_plan v ≡ true

-- A value and the plan that it holds.
pub record ValuesHold : Type 0 where
  pub shape_held : (v : Plan) → (plan_of v).shape ≡ record { arity = v.arity; roots = v.roots }
  pub pairs_held : (v : Plan) → Handed v → (plan_of v).rows ≡ map (pair_at v) (count 0 v.pairs)
  -- "its unused places zero"
  pub unused_zero : (v : Plan) → Handed v → (i : ℕ) → v.pairs ≤ i → (get_or v.from i 0 ≡ 0) × (get_or v.to i 0 ≡ 0)
  pub in_64_bits : (v : Plan) → Handed v → (i : ℕ) → (get_or v.from i 0 < 2 ^ 64) × (get_or v.to i 0 < 2 ^ 64)
  -- a kept plan packs into a value that a call takes, and that value holds it
  pub packed_handed : (p : PlanOf) → Kept p → Handed (packed p)
  pub packed_holds : (p : PlanOf) → Kept p → plan_of (packed p) ≡ p
  -- a value that a call takes holds a kept plan, and is the one value that does
  pub held_kept : (v : Plan) → is_plan v ≡ true → Kept (plan_of v)
  pub held_packed : (v : Plan) → Handed v → packed (plan_of v) ≡ v

-- where a value sends a code: "to the paired to-word followed by the tail"
abbrev pub sends : Plan → BlockMap
sends v = image (plan_of v).rows

-- a value sends each code of its shape where a map does
abbrev pub SendsAs : Plan → BlockMap → Type 0
SendsAs v f = (c x : Word) → T (is_word (shape_of v) c) → f c ≡ some x → sends v c ≡ some x

-- k is within its limit, and every power from 1 up to its size within those of a plan
pub record PowerWithin (p : PlanOf) (k : ℤ) : Type 0 where
  pub size : T (leb (nat_abs k) max_power)
  pub powers : (j : ℕ) → 1 ≤ j → j ≤ nat_abs k → granted (repeated p.shape (repeatable p k) j) ≡ true

-- "such a plan is granted if neither 11 nor 12 holds of it": what is granted.
pub record ValuesGranted : Type 0 where
  -- 11, "the reduced result breaks a limit"
  pub follow_granted : (v w : Plan) → Handed v → Handed w → shape_of v ≡ shape_of w
      → IsOk (following v w) ↔ T (granted (compose (shape_of v) (plan_of v).rows (plan_of w).rows))
  pub inverse_granted : (v : Plan) → Handed v → IsOk (inverting v)
  -- 12, "k outside −1,000 to 1,000"; 11, "some reduced power from 1 up to the size of k breaks a limit"
  pub power_granted : (v : Plan) (k : ℤ) → Handed v → IsOk (raising v k) ↔ PowerWithin (plan_of v) k

-- "*a then b*, the inverse and a power are those of demand 2": what they do to codes.
pub record ValuesAct : Type 0 where
  pub follow_acts : (v w u : Plan) → Handed v → Handed w → following v w ≡ Ok u → SendsAs u (and_then (sends v) (sends w))
  pub inverse_acts : (v u : Plan) → Handed v → inverting v ≡ Ok u
      → (c x : Word) → T (is_word (shape_of v) c) → sends v c ≡ some x → sends u x ≡ some c
  pub power_acts : (v u : Plan) (k : ℕ) → Handed v → raising v (pos k) ≡ Ok u → SendsAs u (times k (sends v))
  -- "below zero, the power −k of the inverse" (negsuc k is −(k + 1))
  pub power_acts_below : (v i u : Plan) (k : ℕ) → Handed v → inverting v ≡ Ok i → raising v (negsuc k) ≡ Ok u
      → SendsAs u (times (suc k) (sends i))

-- What S says of two values of one shape.
pub record Compared (v w : Plan) : Type 0 where
  pub acts : (alike v w ≡ Ok true) ↔ ActAlike (plan_of v) (plan_of w)
  -- "Two have the same pairs if these records agree in number, in order and in every digit."
  pub records : (alike v w ≡ Ok true) ↔ (pair_records (plan_of v).rows ≡ pair_records (plan_of w).rows)
  pub values : (alike v w ≡ Ok true) ↔ (v ≡ w)
  -- there is no third answer
  pub otherwise : (alike v w ≡ Ok false) ↔ (ActAlike (plan_of v) (plan_of w) → ⊥)

-- the value of "the plan that moves nothing (each belt to itself)", in the shape of another value
abbrev pub identity_of : Plan → Plan
identity_of v = packed (identity_plan (shape_of v))

-- Demand 3 of values, as `Demand3` of higman has it of plans. A law speaks wherever the values that it names are granted, and these are
-- taken again by every call.
pub record ValueDemand3 : Type 0 where
  pub followed_handed : (v w u : Plan) → Handed v → Handed w → following v w ≡ Ok u → Handed u
  pub inverted_handed : (v u : Plan) → Handed v → inverting v ≡ Ok u → Handed u
  pub raised_handed : (v u : Plan) (k : ℤ) → Handed v → raising v k ≡ Ok u → Handed u
  -- (a then b) then c is a then (b then c): both are granted and the same value, or both are refused with one number
  pub associative : (v w u vw wu : Plan) → Handed v → Handed w → Handed u → following v w ≡ Ok vw → following w u ≡ Ok wu
      → following vw u ≡ following v wu
  -- power 0 is the identity, on both sides
  pub power_zero : (v : Plan) → Handed v → raising v (pos 0) ≡ Ok (identity_of v)
  pub identity_left : (v : Plan) → Handed v → following (identity_of v) v ≡ Ok v
  pub identity_right : (v : Plan) → Handed v → following v (identity_of v) ≡ Ok v
  -- power 1 is the plan itself, and power −1 its inverse
  pub power_one : (v : Plan) → Handed v → raising v (pos 1) ≡ Ok v
  pub power_minus_one : (v : Plan) → Handed v → raising v (negsuc 0) ≡ inverting v
  -- the inverse, on both sides
  pub inverse_left : (v u : Plan) → Handed v → inverting v ≡ Ok u → following u v ≡ Ok (identity_of v)
  pub inverse_right : (v u : Plan) → Handed v → inverting v ≡ Ok u → following v u ≡ Ok (identity_of v)
  -- power j then power k is power j + k
  pub power_sum : (v p q u : Plan) (j k : ℤ) → Handed v → raising v j ≡ Ok p → raising v k ≡ Ok q
      → raising v (j +ℤ k) ≡ Ok u → following p q ≡ Ok u
  -- power k of power j is power jk
  pub power_product : (v p q u : Plan) (j k : ℤ) → Handed v → raising v j ≡ Ok p → raising p k ≡ Ok q
      → raising v (j *ℤ k) ≡ Ok u → q ≡ u
  -- S says whether every code long enough for both, whatever its length, is sent to the same place, and so do the M records
  pub compared : (v w : Plan) → Handed v → Handed w → shape_of v ≡ shape_of w → Compared v w

-- L answers the length of these bytes and writes them at the front of the buffer: "On success only the bytes of the output change".
pub record Lists (v : Plan) (slot : ℕ) (out bytes : List ℕ) : Type 0 where
  pub answer : listing_answer v slot (length out) ≡ Ok (length bytes)
  pub front : take (length bytes) (listed_buffer v slot out) ≡ bytes
  pub rest : drop (length bytes) (listed_buffer v slot out) ≡ drop (length bytes) out

-- L of values: what it writes is the listing of the plan that the value holds, wherever there is room, and determines the value.
pub record ListingsExact : Type 0 where
  pub listed : (v : Plan) (slot : ℕ) (out : List ℕ) → Handed v → is_slot slot ≡ true → length (lines_of slot (plan_of v)) ≤ length out
      → Lists v slot out (lines_of slot (plan_of v))
  pub determines : (v w : Plan) (slot : ℕ) (out out' bytes : List ℕ) → Handed v → Handed w
      → Lists v slot out bytes → Lists w slot out' bytes → v ≡ w

-- What a caller of the library may rely on, beside the promises of the calls.
pub record LibraryExact : Type 0 where
  pub words : WordsPack
  pub values : ValuesHold
  pub grants : ValuesGranted
  pub acts : ValuesAct
  pub laws : ValueDemand3
  pub listings : ListingsExact
  -- the verdict, keeping, routes and matches, and the numbers of refusals
  pub calls : CallsExact

handed_example : Handed (value21 φ)
unfolding packed is_plan in_table is_kept shape_in_range granted max_pairs max_digits verdict keep normal_form normal joined
    pack pack_on unpack unpack_in
handed_example = record { from_places = refl; to_places = refl; taken = refl }

sends_example : sends (value21 ψ) (spell 1122) ≡ some (spell 1212)
unfolding packed pack pack_on unpack unpack_in max_pairs
sends_example = refl

identity_of_example : identity_of (value21 φ) ≡ value21 (row 1 1 ∷ [])
unfolding identity_plan identity packed pack pack_on max_pairs
identity_of_example = refl

-- 1→1 in slot B, the 16 bytes of its listing in a buffer of 17
lists_example : Lists (value21 (row 1 1 ∷ [])) 66 (replicate 17 7) (lines_of 66 (record { shape = shape 2 1; rows = row 1 1 ∷ [] }))
unfolding listing_answer listed_buffer slot_count packed is_plan in_table is_kept shape_in_range granted max_pairs max_digits
    verdict keep normal_form normal joined pack pack_on unpack unpack_in
lists_example = record { answer = refl; front = refl; rest = refl }
