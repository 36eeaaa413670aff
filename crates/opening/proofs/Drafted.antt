-- The open plan: the desk after its block was written, which leaves the slots as they were, and the jobs of P and M.
use Prim.Native.Nat.{ℕ, ◌+◌, ◌-◌, ◌≤◌, ◌<◌}
use mathlib.Core.Path.{◌≡◌, refl, sym, ◌∙◌, ap, ap₂, subst}
use mathlib.Core.Bool.{Bool, true, false, ◌&&◌}
use mathlib.Core.List.{List, [], ◌∷◌, ◌++◌}
use mathlib.Core.Option.{none, some}
use native.Mathlib.Omega.{arith}
use borrow.Author.Tests.{le-leb, lt-leb}
use lib.Dec.{T, leb}
use Rattle.std.specs.Prelude.{Option, Some, None, is_some, Ok}
use lib.ListN.{length, set, take, drop, length-set, length-drop}
use lib.Seq.{get_or-set_same, get_or-set_other, length-take-le, drop-set-add, drop-set-lt, take-set-le, take-set-lt}
use Rattle.higman.specs.Words.{Shape, is_word}
use Rattle.higman.specs.Limits.{max_pairs, slot_count, shape_in_range, is_plan_word}
use Rattle.higman.specs.Refusals.{shape_outside, bad_word, pairs_full}
use Rattle.higman.specs.Text.{Bytes, word_of}
use Rattle.higman.proofs.PlanWords.{word_of_plan_word}
use Rattle.higman.proofs.Tests.{so, T_of}
use Rattle.desk.specs.Desk.{Draft, Desk, IsDesk, with_draft, with_pair}
use Rattle.desk.specs.Records.{P, M, kind}
use Rattle.desk.specs.Replies.{◌>>=◌, refuse, pass, Effect, silent, new_draft, admission, job}
use Rattle.operations.specs.Plans.{in_table}
use Rattle.words.specs.Bytes.{shape}
use Rattle.words.specs.Bytes.{read_word}
use Rattle.words.specs.Packed.{pack, unpack}
use Rattle.words.proofs.Codes.{unpack_spelled}
use Rattle.columns.specs.Packed.{pair_of, rows}
use Rattle.columns.proofs.Rows.{rows_set}
use Rattle.slots.specs.declared.Size.{Size}
use Rattle.slots.specs.declared.Head.{Head}
use Rattle.slots.specs.Blocks.{no_size, size_at, from_place, to_place, value_at}
use Rattle.slots.specs.Desks.{draft_block, held_by, slot_at, draft_in, control_of, desk_of, HoldsDesk}
use Rattle.columns.proofs.Limits.{pair_limit}
use Rattle.slots.specs.declared.Reply.TheVariants.{Silent}
use Rattle.slots.specs.Works.{Done}
use Rattle.slots.proofs.Held.{slots_eight, same_count, draft_open, draft_length}
use Rattle.slots.proofs.Steps.{plan_open, at_end, done_passed}

-- the head with another size of the open plan
abbrev pub drafted : Head → ℕ → Size → Head
drafted h slot size = record { sizes = set h.sizes draft_block size; draft = Some slot; control = h.control }

-- columns that show the same in the blocks of the slots
pub record SlotsSame (columns columns' : List ℕ) : Type 0 where
  pub long : length columns' ≡ length columns
  pub from : (j : ℕ) → j < slot_count → take max_pairs (drop (from_place j) columns') ≡ take max_pairs (drop (from_place j) columns)
  pub to : (j : ℕ) → j < slot_count → take max_pairs (drop (to_place j) columns') ≡ take max_pairs (drop (to_place j) columns)

pub slots_untouched : (columns : List ℕ) → SlotsSame columns columns
slots_untouched columns = record { long = refl; from = λ j h. refl; to = λ j h. refl }

module _ (h : Head) (columns columns' : List ℕ) (H : HoldsDesk h columns) (same : SlotsSame columns columns') (slot : ℕ) (size : Size) where
  abbrev head' : Head
  head' = drafted h slot size

  not_draft : (j : ℕ) → j < slot_count → j ≡ draft_block → ⊥
  not_draft j k e = omega (arith, slots_eight)

  slot_same : (j : ℕ) → j < slot_count → value_at head' columns' j ≡ value_at h columns j
  unfolding value_at
  slot_same j k =
      let sizes : size_at head' j ≡ size_at h j = get_or-set_other h.sizes draft_block j size no_size (not_draft j k) in
      λ x. record { arity = (sizes x).arity; roots = (sizes x).roots; pairs = (sizes x).pairs; from = same.from j k x; to = same.to j k x }

  pub drafted_size : size_at head' draft_block ≡ size
  drafted_size = get_or-set_same h.sizes draft_block size no_size (omega (arith, H.headed))

  pub drafted_desk : desk_of head' columns' ≡ with_draft (desk_of h columns) (draft_in slot (value_at head' columns' draft_block))
  unfolding desk_of with_draft
  drafted_desk =
      let slots = same_count (slot_at h columns) (slot_at head' columns') 0 slot_count (λ j a b. ap held_by (slot_same j (omega arith))) in
      λ x. record { slots = slots x; draft = some (draft_in slot (value_at head' columns' draft_block)); control = control_of h.control }

  pub holds_drafted : size.pairs ≤ max_pairs → IsDesk (desk_of head' columns') → HoldsDesk head' columns'
  holds_drafted few d =
      record {
        sized = same.long ∙ H.sized;
        headed = length-set h.sizes draft_block size ∙ H.headed;
        is_desk_lem = d;
        in_tables = λ j k. subst (λ v. T (in_table v)) (sym (slot_same j k)) (H.in_tables j k);
        few = subst (λ (z : Size). z.pairs ≤ max_pairs) (sym drafted_size) few;
      }

-- P: 3, or the plan is open and has no pairs
module _ (d : Desk) (a n r : ℕ) where
  pub open_outside : shape_in_range (shape n r) ≡ false → job d (P a n r) ≡ refuse shape_outside none
  unfolding job ◌>>=◌
  open_outside e = rw e refl

  pub open_done : shape_in_range (shape n r) ≡ true → job d (P a n r) ≡ pass (with_draft d (new_draft a (shape n r)), silent)
  unfolding job ◌>>=◌
  open_done e = rw e refl

-- no pairs in the block of the open plan
pub draft_empty : (h : Head) (columns : List ℕ) → (slot a r : ℕ) → size_at h draft_block ≡ record { arity = a; roots = r; pairs = 0 }
    → draft_in slot (value_at h columns draft_block) ≡ record { slot = slot; shape = shape a r; rows = [] }
unfolding value_at
draft_empty h columns slot a r e =
    let from = take max_pairs (drop (from_place draft_block) columns) in
    let to = take max_pairs (drop (to_place draft_block) columns) in
    ap (λ (z : Size). record { slot = slot; shape = shape z.arity z.roots; rows = rows z.pairs from to }) e

-- The columns with one more pair in the block of the open plan.
module _ (columns : List ℕ) (sized : length columns ≡ 2304) (n : ℕ) (few : n < 128) (x y : ℕ) where
  abbrev pub paired : List ℕ
  paired = set (set columns (2048 + n) x) (2048 + n + 128) y

  -- a number set behind a window
  set_behind : (l : List ℕ) (b i v : ℕ) → b + 128 ≤ i → take max_pairs (drop b (set l i v)) ≡ take max_pairs (drop b l)
  set_behind l b i v h =
      let k = i - b in
      let there : b + k ≡ i = omega arith in
      ap (λ j. take max_pairs (drop b (set l j v))) (sym there)
      ∙ ap (take max_pairs) (drop-set-add b l k v)
      ∙ take-set-le max_pairs (drop b l) k v (omega (arith, pair_limit))

  paired_before : (b : ℕ) → b + 128 ≤ 2048 → take max_pairs (drop b paired) ≡ take max_pairs (drop b columns)
  paired_before b h =
      set_behind (set columns (2048 + n) x) b (2048 + n + 128) y (omega arith)
      ∙ set_behind columns b (2048 + n) x (omega arith)

  pub paired_slots : SlotsSame columns paired
  paired_slots =
      record {
        long = length-set (set columns (2048 + n) x) (2048 + n + 128) y ∙ length-set columns (2048 + n) x;
        from = λ j k. paired_before (from_place j) (omega (arith, slots_eight));
        to = λ j k. paired_before (to_place j) (omega (arith, slots_eight));
      }

  paired_from : take max_pairs (drop (from_place draft_block) paired) ≡ set (take max_pairs (drop (from_place draft_block) columns)) n x
  paired_from =
      set_behind (set columns (2048 + n) x) 2048 (2048 + n + 128) y (omega arith)
      ∙ ap (take max_pairs) (drop-set-add 2048 columns n x)
      ∙ take-set-lt max_pairs (drop 2048 columns) n x (omega (arith, pair_limit))

  paired_to : take max_pairs (drop (to_place draft_block) paired) ≡ set (take max_pairs (drop (to_place draft_block) columns)) n y
  paired_to =
      let there : 2048 + n + 128 ≡ 2176 + n = omega arith in
      ap (λ j. take max_pairs (drop 2176 (set (set columns (2048 + n) x) j y))) there
      ∙ ap (take max_pairs) (drop-set-add 2176 (set columns (2048 + n) x) n y)
      ∙ ap (λ l. take max_pairs (set l n y)) (drop-set-lt 2176 columns (2048 + n) x (omega arith))
      ∙ take-set-lt max_pairs (drop 2176 columns) n y (omega (arith, pair_limit))

  -- the draft then has the pair behind its others
  pub draft_paired : (h : Head) (slot a r : ℕ) → size_at h draft_block ≡ record { arity = a; roots = r; pairs = n } → (h' : Head)
      → size_at h' draft_block ≡ record { arity = a; roots = r; pairs = n + 1 }
      → draft_in slot (value_at h' paired draft_block) ≡ with_pair (draft_in slot (value_at h columns draft_block)) (pair_of x y)
  unfolding value_at
  draft_paired h slot a r e h' e' =
      let from = take max_pairs (drop 2048 columns) in
      let to = take max_pairs (drop 2176 columns) in
      let from_long : length from ≡ max_pairs = length-take-le max_pairs (drop 2048 columns) (omega (arith, pair_limit, length-drop 2048 columns)) in
      let to_long : length to ≡ max_pairs = length-take-le max_pairs (drop 2176 columns) (omega (arith, pair_limit, length-drop 2176 columns)) in
      let table : rows (n + 1) (take max_pairs (drop 2048 paired)) (take max_pairs (drop 2176 paired)) ≡ rows n from to ++ (pair_of x y ∷ []) =
      ap₂ (rows (n + 1)) paired_from paired_to ∙ rows_set n from to x y (omega (arith, pair_limit)) (omega (arith, pair_limit)) in
      ap (λ (z : Size). record { slot = slot; shape = shape z.arity z.roots; rows = rows z.pairs (take max_pairs (drop 2048 paired)) (take max_pairs (drop 2176 paired)) }) e'
      ∙ ap (λ t. record { slot = slot; shape = shape a r; rows = t }) table
      ∙ sym (ap (λ (z : Size). record { slot = slot; shape = shape z.arity z.roots; rows = rows z.pairs from to ++ (pair_of x y ∷ []) }) e)

-- what reading a word tells
no_word : (s : Shape) (code : Bytes) (b : Bool) → is_plan_word s (word_of code) ≡ b
    → ◌≡◌ {A = Option ℕ} (elim b [ true ↦ Some (pack (word_of code)) | false ↦ None ]) None → is_plan_word s (word_of code) ≡ false
no_word s code true e q = cc
no_word s code false e q = e

some_word : (s : Shape) (code : Bytes) (b : Bool) → is_plan_word s (word_of code) ≡ b → (x : ℕ)
    → ◌≡◌ {A = Option ℕ} (elim b [ true ↦ Some (pack (word_of code)) | false ↦ None ]) (Some x)
    → (is_plan_word s (word_of code) ≡ true) × (pack (word_of code) ≡ x)
some_word s code true e x q = (e, cc)
some_word s code false e x q = cc

module _ (s : Shape) (code : Bytes) where
  read_none : read_word s code ≡ None → is_plan_word s (word_of code) ≡ false
  unfolding read_word
  read_none q = no_word s code (is_plan_word s (word_of code)) refl q

  read_some : (x : ℕ) → read_word s code ≡ Some x → (is_plan_word s (word_of code) ≡ true) × (unpack x ≡ word_of code)
  unfolding read_word
  read_some x q =
      let (h, e) = some_word s code (is_plan_word s (word_of code)) refl x q in
      (h, ap unpack (sym e) ∙ unpack_spelled s code (so (is_word s (word_of code)) (word_of_plan_word s (word_of code) (T_of h))))

-- M: 4, 5, or the pair is added
module _ (d : Desk) (o : Draft) (e : d.draft ≡ some o) (from to : Bytes) where
  abbrev are_words : Bool
  are_words = is_plan_word o.shape (word_of from) && is_plan_word o.shape (word_of to)

  pair_bad : are_words ≡ false → job d (M from to) ≡ refuse bad_word none
  unfolding job ◌>>=◌
  pair_bad w = rw (e, w) refl

  pair_full : are_words ≡ true → leb max_pairs (length o.rows) ≡ true → job d (M from to) ≡ refuse pairs_full none
  unfolding job ◌>>=◌
  pair_full w f = rw (e, w, f) refl

  pair_done : are_words ≡ true → leb max_pairs (length o.rows) ≡ false
      → job d (M from to) ≡ pass (with_draft d (with_pair o (record { from = word_of from; to = word_of to })), silent)
  unfolding job ◌>>=◌
  pair_done w f = rw (e, w, f) refl

-- M where a plan is open, by what is read of its words
module _ (h : Head) (columns : List ℕ) (H : HoldsDesk h columns) (slot : ℕ) (e : h.draft ≡ Some slot) (from to : Bytes) where
  abbrev d : Desk
  d = desk_of h columns

  abbrev plan : Draft
  plan = draft_in slot (value_at h columns draft_block)

  abbrev size : Size
  size = size_at h draft_block

  abbrev s : Shape
  s = shape size.arity size.roots

  is_draft : d.draft ≡ some plan
  is_draft = draft_open h columns slot e

  pub pair_admitted : admission d (M from to) ≡ pass tt
  unfolding kind
  pair_admitted = plan_open h columns (M from to) false refl (ap is_some e)

  pub bad_from : read_word s from ≡ None → job d (M from to) ≡ refuse bad_word none
  unfolding value_at
  bad_from q = pair_bad d plan is_draft from to (ap (λ b. b && is_plan_word s (word_of to)) (read_none s from q))

  pub bad_to : (x : ℕ) → read_word s from ≡ Some x → read_word s to ≡ None → job d (M from to) ≡ refuse bad_word none
  unfolding value_at
  bad_to x p q = pair_bad d plan is_draft from to (ap₂ ◌&&◌ (read_some s from x p).0 (read_none s to q))

  module _ (x y : ℕ) (p : read_word s from ≡ Some x) (q : read_word s to ≡ Some y) where
    words_are : are_words d plan is_draft from to ≡ true
    unfolding value_at
    words_are = ap₂ ◌&&◌ (read_some s from x p).0 (read_some s to y q).0

    pub no_room : 128 ≤ size.pairs → job d (M from to) ≡ refuse pairs_full none
    no_room many =
        pair_full d plan is_draft from to words_are
        (le-leb max_pairs (length plan.rows) (omega (arith, pair_limit, draft_length h columns H slot)))

    -- the pair is set behind the others
    module _ (few : size.pairs < 128) where
      abbrev grown : Size
      grown = record { arity = size.arity; roots = size.roots; pairs = size.pairs + 1 }

      abbrev next : Option ℕ → Head
      next o = record { sizes = set h.sizes draft_block grown; draft = o; control = h.control }

      abbrev columns' : List ℕ
      columns' = paired columns H.sized size.pairs few x y

      abbrev with_next : Effect
      with_next = (with_draft d (with_pair plan (record { from = word_of from; to = word_of to })), silent)

      next_desk : desk_of (drafted h slot grown) columns' ≡ with_next.0
      unfolding value_at
      next_desk =
          let same = paired_slots columns H.sized size.pairs few x y in
          let from_word = (read_some s from x p).1 in
          let to_word = (read_some s to y q).1 in
          let pair : pair_of x y ≡ record { from = word_of from; to = word_of to } = λ i. record { from = from_word i; to = to_word i } in
          drafted_desk h columns columns' H same slot grown
          ∙ ap (with_draft d) (draft_paired columns H.sized size.pairs few x y h slot size.arity size.roots refl (drafted h slot grown)
          (drafted_size h columns columns' H same slot grown) ∙ ap (with_pair plan) pair)

      pub paired_done : (out : List ℕ) → Done (M from to) h columns out (Ok (record { head = next h.draft; reply = Silent })) columns' out
      unfolding kind
      paired_done out =
          let same = paired_slots columns H.sized size.pairs few x y in
          let room : length plan.rows < max_pairs = omega (arith, pair_limit, draft_length h columns H slot) in
          let full = lt-leb max_pairs (length plan.rows) room in
          let step = at_end d (M from to) pair_admitted with_next (pair_done d plan is_draft from to words_are full) refl in
          let holds : IsDesk with_next.0 → HoldsDesk (drafted h slot grown) columns' =
          λ k. holds_drafted h columns columns' H same slot grown (omega (arith, pair_limit)) (subst IsDesk (sym next_desk) k) in
          subst (λ o. Done (M from to) h columns out (Ok (record { head = next o; reply = Silent })) columns' out) (sym e)
          (done_passed h columns H (M from to) out with_next step (record { head = next (Some slot); reply = Silent }) columns' out
          holds next_desk refl refl)
