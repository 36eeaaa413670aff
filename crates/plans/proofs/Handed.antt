-- A value that a call takes and the plan that it holds: its pairs stand at the first places of its columns, with zeros behind and in 64
-- bits each, and its plan packs into it again. Every value that a function is given has such columns (`handed_of_good`).
use Prim.Native.Nat.{ℕ, zero, suc, ◌+◌, ◌-◌, ◌^◌, ◌≤◌, ◌<◌}
use mathlib.Core.Path.{◌≡◌, refl, sym, ◌∙◌, ap, ap₂, subst}
use mathlib.Core.Logic.{◌⊎◌, inl, inr}
use mathlib.Core.Bool.{true, false, ◌&&◌}
use mathlib.Core.List.{List, [], ◌∷◌, ◌++◌, map}
use native.Mathlib.Omega.{arith}
use borrow.Author.Tests.{leb-true, leb-false}
use lib.Dec.{T, leb, eqb, eqb→eq, leb→le, lit<, lit≤}
use lib.ListN.{length, get_or, take, drop, replicate, length-append, length-drop, length-map, length-replicate, take-append-drop}
use lib.Seq.{length-take-le, get_or-take, get_or-drop}
use mir.Val.{Val}
use denote.Laws.{Is}
use Rattle.higman.specs.Words.{Word, count}
use Rattle.higman.specs.Bases.{all}
use Rattle.higman.specs.Tables.{froms, tos}
use Rattle.higman.specs.Limits.{Plan as PlanOf, Kept, granted, pair_fits, max_pairs, max_digits}
use Rattle.higman.proofs.Tests.{passes, T_of, and_left, and_right, all_head, all_tail, ways_of_test}
use Rattle.words.specs.Packed.{pack, is_packed}
use Rattle.words.proofs.Packing.{pack_empty, pack_child, pack_unpack, unpack_pack}
use Rattle.higman.proofs.PlanWords.{more_ways}
use Rattle.words.proofs.Packed.{packed_length, packed_pack}
use Rattle.words.proofs.Sizes.{below_of_length}
use Rattle.tables.specs.Spreading.{packed_words}
use Rattle.tables.proofs.Lookup.{packed_at}
use Rattle.operations.specs.declared.Plan.{Plan}
use Rattle.operations.specs.declared.lent.Lent.{Lent}
use Rattle.operations.specs.Plans.{plan_of, pair_at, zeros, in_table, is_plan, column, packed}
use Rattle.operations.specs.Filled.{filling}
use Rattle.plans.specs.Theorems.{WordsPack, Handed, ValuesHold}
use Rattle.operations.specs.contracts.Plan.{the_row}
use Rattle.operations.proofs.Sizes.{from_long, to_long}
use Rattle.operations.proofs.Values.{pairs_by_place}
use Rattle.operations.proofs.Filled.{filled_packed}
use Rattle.columns.proofs.Limits.{pair_limit}
use Rattle.operations.proofs.KeptValues.{kept_plan, pairs_few, kept, is_kept_plan, lent_plain}
use Rattle.operations.proofs.Repacked.{holds, packed_is_plan}

-- a number that holds a word of at most maxDigits digits has 64 bits
packed_below : (x : ℕ) → T (is_packed x) → x < 2 ^ 64
unfolding max_digits
packed_below x t = below_of_length 16 x (packed_length x t)

pub words_pack : WordsPack
words_pack =
    record {
      no_digit = pack_empty;
      last_lowest = pack_child;
      in_64_bits = λ w h l. packed_below (pack w) (packed_pack w (ways_of_test 9 w h) (leb→le (length w) max_digits l));
      unpacked = λ w h. unpack_pack w (more_ways w (lit≤ tt) (ways_of_test 9 w h));
      packed_again = pack_unpack;
    }

pub zeros_replicated : (l : List ℕ) → T (zeros l) → l ≡ replicate (length l) 0
zeros_replicated [] t = refl
zeros_replicated (x ∷ l) t =
    ap₂ ◌∷◌ (eqb→eq x 0 (all_head (λ y. eqb y 0) x l t)) (zeros_replicated l (all_tail (λ y. eqb y 0) x l t))

zero_at : (l : List ℕ) → T (zeros l) → (i : ℕ) → get_or l i 0 ≡ 0
zero_at [] t i = refl
zero_at (x ∷ l) t zero = eqb→eq x 0 (all_head (λ y. eqb y 0) x l t)
zero_at (x ∷ l) t (suc i) = zero_at l (all_tail (λ y. eqb y 0) x l t) i

-- a column of n packed words with zeros behind
module _ (n : ℕ) (l : List ℕ) (z : T (zeros (drop n l))) where
  zero_behind : (i : ℕ) → n ≤ i → get_or l i 0 ≡ 0
  zero_behind i h =
      let place : n + (i - n) ≡ i = omega arith in
      ap (λ j. get_or l j 0) (sym place) ∙ sym (get_or-drop n l (i - n) 0) ∙ zero_at (drop n l) z (i - n)

  pub filled_again : length l ≡ max_pairs → filling n l ≡ l
  filled_again e =
      ap (λ k. take n l ++ replicate k 0) (ap (λ k. k - n) (sym e) ∙ sym (length-drop n l))
      ∙ ap (λ u. take n l ++ u) (sym (zeros_replicated (drop n l) z))
      ∙ take-append-drop n l

  number_below : n ≤ length l → packed_words (take n l) → (i : ℕ) → get_or l i 0 < 2 ^ 64
  number_below h p i = go (passes (leb n i))
    where
      go : (leb n i ≡ true) ⊎ (leb n i ≡ false) → get_or l i 0 < 2 ^ 64
      go (inl b) = subst (λ x. x < 2 ^ 64) (sym (zero_behind i (leb-true n i b))) (lit< tt)
      go (inr b) =
          let inside : i < n = leb-false n i b in
          let within : i < length (take n l) = omega (arith, length-take-le n l h) in
          packed_below (get_or l i 0) (subst (λ x. T (is_packed x)) (get_or-take n l i 0 inside) (packed_at (take n l) p i within))

column_places : (c : List Word) → length c ≤ max_pairs → length (column c) ≡ max_pairs
column_places c h =
    let words = length-map c pack in
    let rest = length-replicate {A = ℕ} (max_pairs - length c) 0 in
    omega (arith, length-append (map pack c) (replicate (max_pairs - length c) 0))

module _ (p : PlanOf) (K : Kept p) where
  rows_few : length p.rows ≤ max_pairs
  unfolding granted
  rows_few = leb→le (length p.rows) max_pairs (and_left (leb (length p.rows) max_pairs) (all pair_fits p.rows) K.within)

  pub packed_handed : Handed (packed p)
  unfolding packed
  packed_handed =
      record {
        from_places = column_places (froms p.rows) (subst (λ k. k ≤ max_pairs) (sym (length-map p.rows (λ q. q.from))) rows_few);
        to_places = column_places (tos p.rows) (subst (λ k. k ≤ max_pairs) (sym (length-map p.rows (λ q. q.to))) rows_few);
        taken = packed_is_plan p K;
      }

module _ (v : Plan) (h : Handed v) where
  from_room : v.pairs ≤ length v.from
  from_room = omega (arith, pairs_few v h.taken, h.from_places)

  to_room : v.pairs ≤ length v.to
  to_room = omega (arith, pairs_few v h.taken, h.to_places)

  columns_zero : T (zeros (drop v.pairs v.from)) × T (zeros (drop v.pairs v.to))
  unfolding in_table
  columns_zero =
      let few = leb v.pairs max_pairs in
      let from = zeros (drop v.pairs v.from) in
      let to = zeros (drop v.pairs v.to) in
      let t = (kept_plan v (T_of h.taken)).0 in
      (and_right few from (and_left (few && from) to t), and_right (few && from) to t)

  pairs_held : (plan_of v).rows ≡ map (pair_at v) (count 0 v.pairs)
  pairs_held = pairs_by_place v from_room to_room

  unused_zero : (i : ℕ) → v.pairs ≤ i → (get_or v.from i 0 ≡ 0) × (get_or v.to i 0 ≡ 0)
  unused_zero i l = (zero_behind v.pairs v.from columns_zero.0 i l, zero_behind v.pairs v.to columns_zero.1 i l)

  -- the pairs as they are lent
  abbrev lent : Lent
  lent =
      record {
        shape = record { arity = v.arity; roots = v.roots };
        from = record { ref_ptr = (0, 0); now = take v.pairs v.from };
        to = record { ref_ptr = (0, 0); now = take v.pairs v.to };
        paired = length-take-le v.pairs v.from from_room ∙ sym (length-take-le v.pairs v.to to_room);
        kept = is_kept_plan v h.taken;
      }

  in_64_bits : (i : ℕ) → (get_or v.from i 0 < 2 ^ 64) × (get_or v.to i 0 < 2 ^ 64)
  in_64_bits i =
      let words = lent_plain lent in (
        number_below v.pairs v.from columns_zero.0 from_room words.from_packed i,
        number_below v.pairs v.to columns_zero.1 to_room words.to_packed i,
      )

  pub held_packed : packed (plan_of v) ≡ v
  held_packed =
      let from = filled_again v.pairs v.from columns_zero.0 h.from_places in
      let to = filled_again v.pairs v.to columns_zero.1 h.to_places in
      sym (filled_packed v.arity v.roots v.pairs v.from v.to from_room to_room)
      ∙ (λ i. record { arity = v.arity; roots = v.roots; pairs = v.pairs; from = from i; to = to i })

pub values_hold : ValuesHold
values_hold =
    record {
      shape_held = λ v. refl;
      pairs_held = pairs_held;
      unused_zero = unused_zero;
      in_64_bits = in_64_bits;
      packed_handed = packed_handed;
      packed_holds = holds;
      held_kept = kept;
      held_packed = held_packed;
    }

-- what a caller owns has columns of 128 places, so that a plan that a function is given is handed to it
pub handed_of_good : (v : Plan) (values : List Val) → Is the_row v values → is_plan v ≡ true → Handed v
handed_of_good v values good h =
    record {
      from_places = from_long v values good ∙ sym pair_limit;
      to_places = to_long v values good ∙ sym pair_limit;
      taken = h;
    }
