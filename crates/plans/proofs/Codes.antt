-- What match and route answer of values: 15, and then what is found by the columns that a plan lends.
use Prim.Native.Nat.{ℕ}
use mathlib.Core.Path.{◌≡◌, sym, ◌∙◌, ap, ap₂}
use mathlib.Core.Bool.{true, false}
use mathlib.Core.List.{List}
use lib.ListN.{length}
use Rattle.higman.specs.Tables.{froms}
use Rattle.higman.specs.Limits.{is_code}
use Rattle.higman.specs.Answers.{routed}
use Rattle.higman.specs.Text.{word_of}
use Rattle.words.specs.Bytes.{shape_of as the_shape}
use Rattle.columns.specs.Packed.{words_of}
use Rattle.columns.proofs.Rearranged.{froms_table}
use Rattle.operations.specs.declared.Plan.{Plan}
use Rattle.operations.specs.declared.lent.Lent.{Lent}
use Rattle.operations.specs.declared.Route.TheVariants.{Refused}
use Rattle.operations.specs.declared.refusals.Refusal.TheVariants.{BadWord, InvalidValue}
use Rattle.operations.specs.Plans.{shape_of, rows_of, plan_of, is_plan, lent_plan}
use Rattle.operations.specs.Routing.{matched_in, matched_place_in, routing_by, image_into}
use Rattle.plans.specs.Routing.{matched, matched_place, routing, routed_buffer}

module _ (p : Plan) (code : List ℕ) where
  pub matched_no_plan : is_plan p ≡ false → matched p code ≡ 0
  unfolding matched
  matched_no_plan h = rw (h, matched)

  pub place_no_plan : is_plan p ≡ false → matched_place p code ≡ 0
  unfolding matched_place
  place_no_plan h = rw (h, matched_place)

  pub routing_no_plan : (out : List ℕ) → is_plan p ≡ false
      → (Refused InvalidValue ≡ routing p code (length out)) × (out ≡ routed_buffer p code out)
  unfolding routing routed_buffer
  routing_no_plan out h = (sym (rw (h, routing)), sym (rw (h, routed_buffer)))

  module _ (h : is_plan p ≡ true) where
    pub routing_plan : (room : ℕ) → routing_by (plan_of p) (word_of code) room ≡ routing p code room
    unfolding routing
    routing_plan room = sym (rw (h, routing))

    pub buffer_plan : (out : List ℕ) → image_into (routed (plan_of p) (word_of code)) out ≡ routed_buffer p code out
    unfolding routed_buffer
    buffer_plan out = sym (rw (h, routed_buffer))

    pub routing_no_code : (out : List ℕ) → is_code (shape_of p) (word_of code) ≡ false
        → (Refused BadWord ≡ routing p code (length out)) × (out ≡ routed_buffer p code out)
    unfolding routing routed_buffer routed
    routing_no_code out k = (sym (rw (h, k, routing, routed)), sym (rw (h, k, routed_buffer, routed)))

    pub matched_no_code : is_code (shape_of p) (word_of code) ≡ false → matched p code ≡ 0
    unfolding matched
    matched_no_code k = rw (h, matched, k, matched_in)

    pub place_no_code : is_code (shape_of p) (word_of code) ≡ false → matched_place p code ≡ 0
    unfolding matched_place
    place_no_code k = rw (h, matched_place, k, matched_place_in)

    module _ (lent : Lent) (e : lent_plan lent ≡ plan_of p) where
      -- the column that is lent has the from-words of the plan's pairs
      lent_words : words_of lent.from.now ≡ froms (rows_of p)
      lent_words = sym (froms_table lent.from.now lent.to.now lent.paired) ∙ ap (λ q. froms q.rows) e

      pub matched_plan : matched_in (the_shape lent.shape) (words_of lent.from.now) code ≡ matched p code
      unfolding matched
      matched_plan = ap₂ (λ s c. matched_in s c code) (ap (λ q. q.shape) e) lent_words ∙ sym (rw (h, matched))

      pub place_plan : matched_place_in (the_shape lent.shape) (words_of lent.from.now) code ≡ matched_place p code
      unfolding matched_place
      place_plan = ap₂ (λ s c. matched_place_in s c code) (ap (λ q. q.shape) e) lent_words ∙ sym (rw (h, matched_place))

      pub lent_route : (room : ℕ) → routing_by (lent_plan lent) (word_of code) room ≡ routing p code room
      lent_route room = ap (λ q. routing_by q (word_of code) room) e ∙ routing_plan room

      pub lent_buffer : (out : List ℕ) → image_into (routed (lent_plan lent) (word_of code)) out ≡ routed_buffer p code out
      lent_buffer out = ap (λ q. image_into (routed q (word_of code)) out) e ∙ buffer_plan out
