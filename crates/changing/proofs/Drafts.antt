-- The open plan in its block: words as M takes them, and what closing keeps of them.
use Prim.Native.Nat.{ℕ, ◌≤◌}
use mathlib.Core.Path.{◌≡◌, sym, ◌∙◌, ap, subst}
use mathlib.Core.Bool.{true}
use mathlib.Core.List.{List, [], ◌∷◌}
use lib.Dec.{T, leb}
use lib.ListN.{length}
use Rattle.std.specs.Prelude.{Some}
use Rattle.higman.specs.Words.{Shape, is_word}
use Rattle.higman.specs.Bases.{all}
use Rattle.higman.specs.Tables.{Table, froms, tos}
use Rattle.higman.specs.Limits.{Kept, max_pairs, fits, pair_fits, is_plan_word, granted}
use Rattle.higman.specs.Answers.{verdict, Accepted}
use Rattle.higman.proofs.Tests.{and_left, and_right, and_intro, all_head, all_tail, all_cons}
use Rattle.desk.specs.Desk.{IsDraft}
use Rattle.desk.specs.Replies.{closed as kept_of}
use Rattle.desk.proofs.Stays.{closed_kept}
use Rattle.operations.specs.declared.Plan.{Plan}
use Rattle.operations.specs.Plans.{shape_of, rows_of, plan_of, is_plan, packed}
use Rattle.operations.specs.Closing.{DraftColumns}
use Rattle.operations.proofs.Repacked.{holds, packed_is_plan}
use Rattle.operations.proofs.Verdicts.{froms_rows, tos_rows}
use Rattle.slots.specs.declared.Head.{Head}
use Rattle.slots.specs.Blocks.{value_at}
use Rattle.slots.specs.Desks.{draft_block, draft_in, HoldsDesk}
use Rattle.slots.proofs.Held.{draft_open, draft_from, draft_to}

module _ (s : Shape) where
  -- words of the shape that fit are words that a plan may hold
  from_fit : (t : Table) → T (all (is_word s) (froms t)) → T (all pair_fits t) → T (all (is_plan_word s) (froms t))
  unfolding is_plan_word
  from_fit [] w f = tt
  from_fit (p ∷ t) w f =
      all_cons (is_plan_word s) p.from (froms t)
      (and_intro (is_word s p.from) (fits p.from) (all_head (is_word s) p.from (froms t) w)
      (and_left (fits p.from) (fits p.to) (all_head pair_fits p t f)))
      (from_fit t (all_tail (is_word s) p.from (froms t) w) (all_tail pair_fits p t f))

  to_fit : (t : Table) → T (all (is_word s) (tos t)) → T (all pair_fits t) → T (all (is_plan_word s) (tos t))
  unfolding is_plan_word
  to_fit [] w f = tt
  to_fit (p ∷ t) w f =
      all_cons (is_plan_word s) p.to (tos t)
      (and_intro (is_word s p.to) (fits p.to) (all_head (is_word s) p.to (tos t) w)
      (and_right (fits p.from) (fits p.to) (all_head pair_fits p t f)))
      (to_fit t (all_tail (is_word s) p.to (tos t) w) (all_tail pair_fits p t f))

module _ (h : Head) (columns : List ℕ) (H : HoldsDesk h columns) (slot : ℕ) (e : h.draft ≡ Some slot) where
  pub open_draft : IsDraft (draft_in slot (value_at h columns draft_block))
  open_draft = H.is_desk_lem.drafted _ (draft_open h columns slot e)

  few : (value_at h columns draft_block).pairs ≤ max_pairs
  unfolding value_at
  few = H.few

  pub draft_columns : DraftColumns (value_at h columns draft_block)
  unfolding granted
  draft_columns =
      let v = value_at h columns draft_block in
      let s = shape_of v in
      let t = rows_of v in
      let fit = and_right (leb (length t) max_pairs) (all pair_fits t) open_draft.within in
      let even = draft_from h columns H ∙ sym (draft_to h columns H) in
      record {
        few = few;
        in_range = open_draft.in_range;
        from_words = subst (λ c. T (all (is_plan_word s) c)) (froms_rows v.pairs v.from v.to even) (from_fit s t open_draft.from_words fit);
        to_words = subst (λ c. T (all (is_plan_word s) c)) (tos_rows v.pairs v.from v.to even) (to_fit s t open_draft.to_words fit);
      }

  -- what closing keeps of it, where it is accepted
  module _ (accepts : let v = value_at h columns draft_block in verdict (shape_of v) (rows_of v) ≡ Accepted) (p : Plan)
      (packs : p ≡ packed (kept_of (draft_in slot (value_at h columns draft_block)))) where
    kept_draft : Kept (kept_of (draft_in slot (value_at h columns draft_block)))
    kept_draft = closed_kept _ open_draft accepts

    pub closed_is : kept_of (draft_in slot (value_at h columns draft_block)) ≡ plan_of p
    closed_is = sym (ap plan_of packs ∙ holds _ kept_draft)

    pub closed_is_plan : is_plan p ≡ true
    closed_is_plan = ap is_plan packs ∙ packed_is_plan _ kept_draft
