-- `desks::is_open_plan` meets its contract: a part of a column is what the value has of it.
use Prim.Native.Nat.{ℕ, suc, ◌≤◌}
use mathlib.Core.Path.{◌≡◌, sym, ◌∙◌, ap, ap₂}
use mathlib.Core.Bool.{true, ◌&&◌}
use mathlib.Core.List.{List}
use borrow.Author.Tests.{le-leb, lt-leb, le-ltb}
use native.Mathlib.Omega.{arith}
use lib.Dec.{leb}
use lib.ListN.{take, drop}
use lib.Seq.{take-take}
use Rattle.std.specs.Prelude.{Option, None, Some}
use Rattle.higman.specs.Words.{Shape}
use Rattle.higman.specs.Bases.{all}
use Rattle.higman.specs.Limits.{max_pairs, slot_count, shape_in_range, is_plan_word}
use Rattle.columns.specs.Packed.{words_of}
use Rattle.operations.specs.Plans.{shape_of}
use Rattle.slots.specs.Blocks.{from_place, to_place, value_at}
use Rattle.slots.specs.Desks.{draft_block}
use Rattle.desks.specs.Tested.{words_test, draft_test, open_test}
use Rattle.desks.proofs.is_open_plan.Goals.{then-is_in_range, else-is_in_range, then-slot-lt-SLOTS, else-slot-lt-SLOTS}
use Rattle.desks.proofs.is_open_plan.Goals as goal

part_tested : {s t : Shape} {l : List ℕ} (k : List ℕ) (n : ℕ) → n ≤ max_pairs → s ≡ t → l ≡ take n k
    → all (is_plan_word s) (words_of l) ≡ all (is_plan_word t) (words_of (take n (take max_pairs k)))
part_tested k n h e f = ap₂ (λ s l. all (is_plan_word s) (words_of l)) e (f ∙ sym (take-take n max_pairs k h))

pub returns-then-are_words : goal.returns-then-are_words
unfolding value_at slot_count
returns-then-are_words c =
    let h = c.args.head in
    let v = value_at h c.args.columns.now draft_block in
    let slot = c.in-Some.slot in
    let few = c.requires.draft_block_bound in
    let from = part_tested (drop (from_place draft_block) c.args.columns.now) v.pairs few c.shape-shape.ensures c.pairs.ensures.from in
    let named : (leb (suc slot) slot_count && shape_in_range (shape_of v)) ≡ c.if-slot-lt-SLOTS.value = elim c.if-slot-lt-SLOTS.branch [
      | then-slot-lt-SLOTS w ↦ ap₂ ◌&&◌ (le-leb (suc slot) slot_count (omega arith)) (ap shape_in_range (sym c.shape-shape.ensures) ∙ sym w.is_in_range.ensures ∙ sym w.value-is)
      | else-slot-lt-SLOTS w ↦ ap (λ b. b && shape_in_range (shape_of v)) (lt-leb (suc slot) slot_count (omega arith)) ∙ sym (le-ltb slot 8 (omega arith)) ∙ sym w.value-is
    ] in
    let before : (leb (suc slot) slot_count && shape_in_range (shape_of v) && words_test v v.from) ≡ c.if-is_in_range.value = elim c.if-is_in_range.branch [
      | then-is_in_range w ↦ ap₂ ◌&&◌ (named ∙ w.if-is_in_range.true) (sym from ∙ sym w.are_words.ensures ∙ sym w.value-is)
      | else-is_in_range w ↦ ap (λ b. b && words_test v v.from) (named ∙ w.if-is_in_range.false) ∙ sym w.if-is_in_range.false ∙ sym w.value-is
    ] in
    let opened : open_test h v ≡ draft_test slot v = ap (λ (o : Option ℕ). elim o [ None ↦ true | Some s ↦ draft_test s v ]) c.in-Some.is in
    let to = part_tested (drop (to_place draft_block) c.args.columns.now) v.pairs few c.shape-shape.ensures c.pairs.ensures.to in
    c.are_words-then-are_words.ensures ∙ to ∙ sym (opened ∙ ap (λ b. b && words_test v v.to) (before ∙ c.if-are_words.true))

pub returns-else-are_words : goal.returns-else-are_words
unfolding value_at slot_count
returns-else-are_words c =
    let h = c.args.head in
    let v = value_at h c.args.columns.now draft_block in
    let slot = c.in-Some.slot in
    let few = c.requires.draft_block_bound in
    let from = part_tested (drop (from_place draft_block) c.args.columns.now) v.pairs few c.shape-shape.ensures c.pairs.ensures.from in
    let named : (leb (suc slot) slot_count && shape_in_range (shape_of v)) ≡ c.if-slot-lt-SLOTS.value = elim c.if-slot-lt-SLOTS.branch [
      | then-slot-lt-SLOTS w ↦ ap₂ ◌&&◌ (le-leb (suc slot) slot_count (omega arith)) (ap shape_in_range (sym c.shape-shape.ensures) ∙ sym w.is_in_range.ensures ∙ sym w.value-is)
      | else-slot-lt-SLOTS w ↦ ap (λ b. b && shape_in_range (shape_of v)) (lt-leb (suc slot) slot_count (omega arith)) ∙ sym (le-ltb slot 8 (omega arith)) ∙ sym w.value-is
    ] in
    let before : (leb (suc slot) slot_count && shape_in_range (shape_of v) && words_test v v.from) ≡ c.if-is_in_range.value = elim c.if-is_in_range.branch [
      | then-is_in_range w ↦ ap₂ ◌&&◌ (named ∙ w.if-is_in_range.true) (sym from ∙ sym w.are_words.ensures ∙ sym w.value-is)
      | else-is_in_range w ↦ ap (λ b. b && words_test v v.from) (named ∙ w.if-is_in_range.false) ∙ sym w.if-is_in_range.false ∙ sym w.value-is
    ] in
    let opened : open_test h v ≡ draft_test slot v = ap (λ (o : Option ℕ). elim o [ None ↦ true | Some s ↦ draft_test s v ]) c.in-Some.is in
    c.if-are_words.false ∙ sym (opened ∙ ap (λ b. b && words_test v v.to) (before ∙ c.if-are_words.false))
