-- The value of a desk passes the test and holds that desk: each block of it stands in its place, and holds what was packed into it.
use Prim.Native.Nat.{ℕ, zero, suc, ◌+◌, ◌*◌, ◌-◌, ◌≤◌, ◌<◌}
use mathlib.Core.Path.{◌≡◌, refl, sym, ◌∙◌, ap, subst}
use mathlib.Core.Bool.{Bool, true, false, ◌&&◌}
use mathlib.Core.List.Memᴰ
use mathlib.Core.List.{List, [], ◌∷◌, ◌++◌, map, append_assoc}
use mathlib.Core.Option.{Option, none, some, none-ne-some}
use native.Mathlib.Nat.{not-suc-le-zero, le_of_suc-le-suc}
use native.Mathlib.Omega.{arith}
use borrow.Author.Tests.{ne_eqb}
use lib.Dec.{T, leb, eqb, leb→le}
use lib.ListN.{length, get_or, take, drop, replicate, length-append, length-map, length-replicate}
use lib.Seq.{take_at, drop_at, drop-append-add}
use Rattle.std.specs.Prelude.{Option as Opened, None, Some}
use Rattle.higman.specs.Words.{Word, is_word, count}
use Rattle.higman.specs.Bases.{all}
use Rattle.higman.specs.Tables.{Table, froms, tos}
use Rattle.higman.specs.Limits.{Plan as PlanOf, Kept, granted, pair_fits, max_pairs, slot_count}
use Rattle.higman.specs.Listing.{is_slot, slot_byte, slot_number}
use Rattle.higman.proofs.Listing.{slots_exact}
use Rattle.higman.proofs.Tests.{and_left, and_intro, all_at, all_of, count_bounds, word_of_test}
use Rattle.desk.specs.Desk.{Draft, Desk as DeskOf, IsDraft, IsDesk, held}
use Rattle.words.specs.Packed.{pack}
use Rattle.operations.specs.declared.Plan.{Plan}
use Rattle.operations.specs.Plans.{plan_of, in_table, column, packed, blank}
use Rattle.operations.proofs.Values.{rows_of_words}
use Rattle.operations.proofs.Repacked.{packed_in_table}
use Rattle.slots.specs.declared.Size.{Size}
use Rattle.slots.specs.declared.Head.{Head}
use Rattle.slots.specs.Blocks.{block_count, columns_size, no_size, size_at, size_of, from_place, to_place, value_at}
use Rattle.slots.specs.Desks.{held_by, slot_at, draft_block, draft_in, draft_of, desk_of, HoldsDesk}
use Rattle.columns.proofs.Limits.{pair_limit}
use Rattle.slots.proofs.Held.{slots_eight, same_count}
use Rattle.slots.proofs.Rows.{control_back, packed_narrow}
use Rattle.changing.proofs.Kept.{kept_table, kept_held}
use Rattle.operations.proofs.Repacked.{holds as rows_back, packed_is_plan}
use Rattle.desks.specs.Tested.{holds_test}
use Rattle.desks.proofs.Chains.{all_places}
use Rattle.desks.proofs.Exact.{holds_exact}
use Rattle.desk_values.specs.Values.{opened_test, head_of, desk_in, size_test, sizes_test, blank_test, draft_test, is_desk_value}
use Rattle.desk_values.specs.Values.{held_value, draft_value, opened_by, words_in, packed_desk, Whole, DeskValues}
use Rattle.desk_values.proofs.Blocks.{blank_places}
use Rattle.desk_values.proofs.Exact.{holds_desk, one_value}

-- a block of two columns of 128 places
abbrev Placed : Plan → Type 0
Placed v = (length v.from ≡ max_pairs) × (length v.to ≡ max_pairs)

abbrev AllPlaced : List Plan → Type 0
AllPlaced [] = Unit {0}
AllPlaced (v ∷ vs) = Placed v × AllPlaced vs

block_length : (v : Plan) → Placed v → length (v.from ++ v.to) ≡ 256
block_length v (f, t) = omega (arith, pair_limit, length-append v.from v.to)

words_length : (vs : List Plan) → AllPlaced vs → length (words_in vs) ≡ length vs * 256
words_length [] p = refl
words_length (v ∷ vs) (p, ps) = omega (arith, length-append (v.from ++ v.to) (words_in vs), block_length v p, words_length vs ps)

-- what stands behind the first block
behind_block : (v : Plan) (vs : List Plan) → Placed v → (at k : ℕ) → k ≡ 256 + at → drop k (words_in (v ∷ vs)) ≡ drop at (words_in vs)
behind_block v vs p at k e =
    let place : k ≡ length (v.from ++ v.to) + at = omega (arith, block_length v p) in
    ap (λ n. drop n (words_in (v ∷ vs))) place ∙ drop-append-add (v.from ++ v.to) (words_in vs) at

from_window : (vs : List Plan) → AllPlaced vs → (i : ℕ) → i < length vs
    → take max_pairs (drop (from_place i) (words_in vs)) ≡ (get_or vs i blank).from
from_window [] p i h = absurd (not-suc-le-zero h)
from_window (v ∷ vs) (p, ps) zero h =
    ap (take max_pairs) (append_assoc v.from v.to (words_in vs)) ∙ take_at v.from (v.to ++ words_in vs) max_pairs p.0
from_window (v ∷ vs) (p, ps) (suc i) h =
    ap (take max_pairs) (behind_block v vs p (from_place i) (from_place (suc i)) (omega arith)) ∙ from_window vs ps i (le_of_suc-le-suc h)

to_window : (vs : List Plan) → AllPlaced vs → (i : ℕ) → i < length vs → take max_pairs (drop (to_place i) (words_in vs)) ≡ (get_or vs i blank).to
to_window [] p i h = absurd (not-suc-le-zero h)
to_window (v ∷ vs) (p, ps) zero h =
    let start : 128 ≡ max_pairs = sym pair_limit in
    ap (take max_pairs)
    (ap (drop 128) (append_assoc v.from v.to (words_in vs)) ∙ ap (λ n. drop n (v.from ++ (v.to ++ words_in vs))) start
    ∙ drop_at v.from (v.to ++ words_in vs) max_pairs p.0)
    ∙ take_at v.to (words_in vs) max_pairs p.1
to_window (v ∷ vs) (p, ps) (suc i) h =
    ap (take max_pairs) (behind_block v vs p (to_place i) (to_place (suc i)) (omega arith)) ∙ to_window vs ps i (le_of_suc-le-suc h)

size_at_lem : (vs : List Plan) (i : ℕ) → get_or (map size_of vs) i no_size ≡ size_of (get_or vs i blank)
unfolding blank
size_at_lem [] i = refl
size_at_lem (v ∷ vs) zero = refl
size_at_lem (v ∷ vs) (suc i) = size_at_lem vs i

-- the block of a slot, and that of the open plan
slot_block : (l : List (Option PlanOf)) (x : Plan) (i : ℕ) → i < length l
    → get_or (map held_value l ++ (x ∷ [])) i blank ≡ held_value (get_or l i none)
slot_block [] x i h = absurd (not-suc-le-zero h)
slot_block (y ∷ l) x zero h = refl
slot_block (y ∷ l) x (suc i) h = slot_block l x i (le_of_suc-le-suc h)

last_block : (l : List (Option PlanOf)) (x : Plan) → get_or (map held_value l ++ (x ∷ [])) (length l) blank ≡ x
last_block [] x = refl
last_block (y ∷ l) x = last_block l x

blocks_count : (l : List (Option PlanOf)) (x : Plan) → length (map held_value l ++ (x ∷ [])) ≡ length l + 1
blocks_count l x = length-append (map held_value l) (x ∷ []) ∙ ap (λ n. n + 1) (length-map l held_value)

-- columns of few words have 128 places
packed_placed : (p : PlanOf) → length p.rows ≤ max_pairs → Placed (packed p)
unfolding packed
packed_placed p h = (
  long (froms p.rows) (omega (arith, length-map p.rows (λ q. q.from))),
  long (tos p.rows) (omega (arith, length-map p.rows (λ q. q.to))),
)
  where
    long : (c : List Word) → length c ≤ max_pairs → length (column c) ≡ max_pairs
    long c k =
        let words = length-map c pack in
        let rest = length-replicate {A = ℕ} (max_pairs - length c) 0 in
        omega (arith, length-append (map pack c) (replicate (max_pairs - length c) 0))

few_rows : (t : Table) → T (granted t) → length t ≤ max_pairs
unfolding granted
few_rows t g = leb→le (length t) max_pairs (and_left (leb (length t) max_pairs) (all pair_fits t) g)

blank_in_table : T (in_table blank)
unfolding in_table blank max_pairs
blank_in_table = tt

blank_passes : T (blank_test blank)
unfolding in_table blank max_pairs
blank_passes = tt

held_placed : (x : Option PlanOf) → ((p : PlanOf) → x ≡ some p → Kept p) → Placed (held_value x)
held_placed none k = blank_places
held_placed (some p) k = packed_placed p (few_rows p.rows (k p refl).within)

-- a slot that holds the value of a kept plan holds the plan
packed_held : (p : PlanOf) → Kept p → held_by (packed p) ≡ some p
packed_held p k =
    let (from, to) = packed_placed p (few_rows p.rows k.within) in
    kept_held (packed p) (packed_is_plan p k) from to ∙ ap some (rows_back p k)

held_in_table : (x : Option PlanOf) → ((p : PlanOf) → x ≡ some p → Kept p) → T (in_table (held_value x))
held_in_table none k = blank_in_table
held_in_table (some p) k = kept_table (packed p) (packed_is_plan p (k p refl))

held_back : (x : Option PlanOf) → ((p : PlanOf) → x ≡ some p → Kept p) → held_by (held_value x) ≡ x
unfolding blank
held_back none k = refl
held_back (some p) k = packed_held p (k p refl)

-- a plan that is held has pairs, so that its size is tidy
held_tidy : (x : Option PlanOf) → ((p : PlanOf) → x ≡ some p → Kept p) → T (size_test (size_of (held_value x)))
unfolding blank
held_tidy none k = tt
held_tidy (some p) k = by (eqb (packed p).pairs 0) (packed_held p (k p refl))
  where
    by : (b : Bool) → elim b [ true ↦ none | false ↦ some (plan_of (packed p)) ] ≡ some p
        → T (elim b [ true ↦ eqb (packed p).arity 0 && eqb (packed p).roots 0 | false ↦ true ])
    by true e = absurd (none-ne-some p e)
    by false e = tt

all_placed : (l : List (Option PlanOf)) (x : Plan) → ((i : ℕ) (p : PlanOf) → get_or l i none ≡ some p → Kept p) → Placed x
    → AllPlaced (map held_value l ++ (x ∷ []))
all_placed [] x k p = (p, tt)
all_placed (y ∷ l) x k p = (held_placed y (k 0), all_placed l x (λ i. k (suc i)) p)

module _ (d : DeskOf) (D : IsDesk d) where
  abbrev draft : Plan
  draft = draft_value d.draft

  abbrev blocks : List Plan
  blocks = map held_value d.slots ++ (draft ∷ [])

  abbrev head : Head
  head = head_of (packed_desk d)

  abbrev columns : List ℕ
  columns = (packed_desk d).columns

  -- the open plan's value
  pub record DraftPacked (o : Option Draft) : Type 0 where
    pub placed : Placed (draft_value o)
    pub in_table_lem : T (in_table (draft_value o))
    pub few : (draft_value o).pairs ≤ max_pairs

  draft_packed : (o : Option Draft) → ((x : Draft) → o ≡ some x → IsDraft x) → DraftPacked o
  unfolding blank packed
  draft_packed none k = record { placed = blank_places; in_table_lem = blank_in_table; few = omega arith }
  draft_packed (some x) k =
      let few = few_rows x.rows (k x refl).within in
      let p : PlanOf = record { shape = x.shape; rows = x.rows } in
      record { placed = packed_placed p few; in_table_lem = packed_in_table p few; few = few }

  drafted : DraftPacked d.draft
  drafted = draft_packed d.draft D.drafted

  placed : AllPlaced blocks
  placed = all_placed d.slots draft D.kept drafted.placed

  nine : length blocks ≡ 9
  nine = blocks_count d.slots draft ∙ omega (arith, D.eight, slots_eight)

  pub sized : length columns ≡ columns_size
  unfolding packed_desk
  sized = words_length blocks placed ∙ ap (λ n. n * 256) nine

  pub headed : length (packed_desk d).blocks ≡ block_count
  unfolding packed_desk
  headed = length-map blocks size_of ∙ nine

  -- each block holds what was packed into it
  block_value : (i : ℕ) → i < 9 → value_at head columns i ≡ get_or blocks i blank
  unfolding value_at packed_desk
  block_value i h =
      let size = size_at_lem blocks i in
      let from = from_window blocks placed i (omega (arith, nine)) in
      let to = to_window blocks placed i (omega (arith, nine)) in
      λ j. record { arity = (size j).arity; roots = (size j).roots; pairs = (size j).pairs; from = from j; to = to j }

  pub slot_value : (i : ℕ) → i < slot_count → value_at head columns i ≡ held_value (held d i)
  slot_value i h = block_value i (omega (arith, slots_eight)) ∙ slot_block d.slots draft i (omega (arith, D.eight))

  pub draft_value_fact : value_at head columns draft_block ≡ draft
  draft_value_fact =
      let last : 8 ≡ length d.slots = omega (arith, D.eight, slots_eight) in
      block_value 8 (omega arith) ∙ ap (λ n. get_or blocks n blank) last ∙ last_block d.slots draft

  slots_back : map (slot_at head columns) (count 0 slot_count) ≡ d.slots
  slots_back =
      same_count (λ i. get_or d.slots i none) (slot_at head columns) 0 slot_count
      (λ i a h. ap held_by (slot_value i (omega arith)) ∙ held_back (held d i) (D.kept i))
      ∙ all_places d.slots none slot_count D.eight

  -- the open plan as its value holds it
  draft_held : (x : Draft) → IsDraft x → draft_in (slot_number (slot_byte x.slot)) (draft_value (some x)) ≡ x
  unfolding packed
  draft_held x k =
      let slot : slot_number (slot_byte x.slot) ≡ x.slot = omega arith in
      let rows = rows_of_words x.shape x.rows k.in_range
      (λ p m. (
        word_of_test x.shape p.from (all_at (is_word x.shape) (froms x.rows) k.from_words p.from (Memᴰ.map
            (λ q. q.from) m)),
        word_of_test x.shape p.to (all_at (is_word x.shape) (tos x.rows) k.to_words p.to (Memᴰ.map (λ q. q.to) m)),
      )) in
      λ i. record { slot = slot i; shape = x.shape; rows = rows i }

  -- the open plan that a block holds, by whether there is one and its letter
  abbrev opened : Bool → ℕ → Plan → Option Draft
  opened none_open letter v =
      elim (elim none_open as (λ _. Opened ℕ) [ true ↦ None | false ↦ Some (slot_number letter) ]) [ None ↦ none | Some slot ↦ some (draft_in slot v) ]

  draft_back : draft_of head columns ≡ d.draft
  unfolding packed_desk
  draft_back = ap (opened (eqb (opened_by d.draft) 0) (opened_by d.draft)) draft_value_fact ∙ by d.draft D.drafted
    where
      by : (o : Option Draft) → ((x : Draft) → o ≡ some x → IsDraft x) → opened (eqb (opened_by o) 0) (opened_by o) (draft_value o) ≡ o
      by none k = refl
      by (some x) k =
          let letter = slot_byte x.slot in
          ap (λ (b : Bool). opened b letter (draft_value (some x))) (ne_eqb letter 0 (λ e. omega arith)) ∙ ap some (draft_held x (k x refl))

  pub desk_back : desk_in (packed_desk d) ≡ d
  unfolding desk_in desk_of packed_desk
  desk_back =
      let slots = slots_back in
      let drafted = draft_back in
      let control = control_back d.control D.control in
      λ i. record { slots = slots i; draft = drafted i; control = control i }

  value_holds_desk : HoldsDesk head columns
  unfolding desk_in value_at
  value_holds_desk =
      record {
        sized = sized;
        headed = headed;
        is_desk_lem = subst IsDesk (sym desk_back) D;
        in_tables = λ i k. subst (λ v. T (in_table v)) (sym (slot_value i k)) (held_in_table (held d i) (D.kept i));
        few = few_open;
      }
    where
      few_open : (size_at head draft_block).pairs ≤ max_pairs
      few_open = subst (λ (v : Plan). v.pairs ≤ max_pairs) (sym draft_value_fact) drafted.few

  opened_passes : T (opened_test (opened_by d.draft))
  opened_passes = by d.draft D.drafted
    where
      by : (o : Option Draft) → ((x : Draft) → o ≡ some x → IsDraft x) → T (opened_test (opened_by o))
      by none k = tt
      by (some x) k =
          let letter = slot_byte x.slot in
          subst (λ b. T (elim b [ true ↦ true | false ↦ is_slot letter ])) (sym (ne_eqb letter 0 (λ e. omega arith)))
          (slots_exact.named x.slot (k x refl).slot_named)

  sizes_pass : T (sizes_test (packed_desk d).blocks)
  unfolding packed_desk
  sizes_pass =
      all_of (λ i. size_test (get_or (map size_of blocks) i no_size)) (count 0 slot_count)
      (λ i m. let below : i < slot_count = omega (arith, count_bounds 0 slot_count i m) in
      subst (λ (z : Size). T (size_test z)) (sym (size_at_lem blocks i ∙ ap size_of (slot_block d.slots draft i (omega (arith, D.eight)))))
      (held_tidy (held d i) (D.kept i)))

  draft_passes : T (draft_test (opened_by d.draft) draft)
  draft_passes = by d.draft drafted
    where
      by : (o : Option Draft) → DraftPacked o → T (draft_test (opened_by o) (draft_value o))
      by none k = blank_passes
      by (some x) k =
          let v = draft_value (some x) in
          subst (λ b. T (elim b [ true ↦ blank_test v | false ↦ in_table v ])) (sym (ne_eqb (slot_byte x.slot) 0 (λ e. omega arith)))
          k.in_table_lem

  pub value_taken : Whole (packed_desk d) × T (is_desk_value (packed_desk d))
  unfolding is_desk_value packed_desk
  value_taken =
      let o = opened_test (opened_by d.draft) in
      let h = holds_test head columns in
      let z = sizes_test (packed_desk d).blocks in
      let t = draft_test (opened_by d.draft) (value_at head columns draft_block) in (
        record { headed = headed; sized = sized; narrow = packed_narrow d.control.rights D.control.rights },
        and_intro (o && h && z) t (and_intro (o && h) z (and_intro o h opened_passes holds) sizes_pass)
            (subst (λ v. T (draft_test (opened_by d.draft) v)) (sym draft_value_fact) draft_passes),
      )
    where
      holds : T (holds_test head columns)
      holds = (holds_exact head columns headed sized).1 value_holds_desk

pub desk_values : DeskValues
desk_values = record { holds = holds_desk; one_value = one_value; taken = value_taken; held = desk_back }
