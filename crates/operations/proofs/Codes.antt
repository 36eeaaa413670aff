-- Codes under the columns that a plan lends: when a code is one that a plan routes, and what match and route answer, case by case: 4,
-- and then by the image of the code.
use Prim.Native.Nat.{ℕ, ◌≤◌, ◌<◌}
use mathlib.Core.Path.{◌≡◌, refl, sym, ◌∙◌, ap, ap₂}
use mathlib.Core.Bool.{Bool, true, false, ◌&&◌, and-true, and-false}
use mathlib.Core.List.{List}
use mathlib.Core.Option.{Option, none, some}
use borrow.Author.Tests.{le-leb, lt-leb}
use lib.Dec.{T, leb}
use lib.ListN.{length, drop, length-map}
use Rattle.higman.specs.Words.{Shape, Word, is_word}
use Rattle.higman.specs.Tables.{image}
use Rattle.higman.specs.Places.{place_of}
use Rattle.higman.specs.Limits.{shape_in_range, is_code, max_code}
use Rattle.higman.specs.Answers as Of
use Rattle.higman.specs.Answers.{routed}
use Rattle.higman.specs.Text.{word_bytes, digit_of, word_of}
use Rattle.higman.proofs.Tests.{T_of, and_left, word_of_test, test_of_ways}
use Rattle.higman.proofs.KeptPlans.{in_range}
use Rattle.higman.proofs.PlanWords.{ways_of_word}
use Rattle.columns.specs.Packed.{words_of, table}
use Rattle.columns.proofs.Rearranged.{froms_table}
use Rattle.tables.specs.Routing.{IsCode, Searchable, matched_digits, further, routed_in, routed_into}
use Rattle.tables.specs.declared.routing.Image.{Image}
use Rattle.tables.specs.declared.routing.RouteError.{RouteError}
use Rattle.tables.specs.declared.routing.RouteError.TheVariants.{TooShort, NoRoom}
use Rattle.tables.proofs.Routes.{here}
use Rattle.std.specs.Prelude.{Result, Ok, Err}
use Rattle.operations.specs.declared.refusals.Refusal.TheVariants.{BadWord, BufferTooShort}
use Rattle.operations.specs.declared.lent.Lent.{Lent}
use Rattle.operations.specs.Plans.{lent_plan}
use Rattle.operations.specs.declared.Route.{Route}
use Rattle.operations.specs.declared.Route.TheVariants as Routes
use Rattle.operations.specs.Routing.{matched_in, matched_place_in, routing_in, routing_by, image_into}
use Rattle.operations.proofs.KeptValues.{lent_kept, lent_operand}

pub code_limit : max_code ≡ 1024
unfolding max_code
code_limit = refl

module _ (s : Shape) (code : List ℕ) where
  within : Bool → Bool
  within b = is_word s (word_of code) && b

  pub code_long : max_code < length code → false ≡ is_code s (word_of code)
  unfolding is_code within
  code_long h =
      sym
      (ap (λ n. within (leb n max_code)) (length-map code digit_of) ∙ ap within (lt-leb (length code) max_code h)
      ∙ and-false (is_word s (word_of code)))

  pub code_short : length code ≤ max_code → is_word s (word_of code) ≡ is_code s (word_of code)
  unfolding is_code within
  code_short h =
      sym
      (ap (λ n. within (leb n max_code)) (length-map code digit_of) ∙ ap within (le-leb (length code) max_code h)
      ∙ and-true (is_word s (word_of code)))

  -- the digits of such a code are those that packed words have
  pub digits_of_code : T (shape_in_range s) → is_code s (word_of code) ≡ true → IsCode code
  unfolding is_code
  digits_of_code r h =
      let w = word_of code in
      let range = in_range s r in
      let word = word_of_test s w (and_left (is_word s w) (leb (length w) max_code) (T_of h)) in
      test_of_ways 9 w (ways_of_word s w range.arity_high range.roots_high word)

-- the reply to what was found in the columns
abbrev pub replied : Result Image RouteError → Route
replied (Ok i) = Routes.Image i
replied (Err TooShort) = Routes.TooShort
replied (Err NoRoom) = Routes.Refused BufferTooShort

abbrev found : Option Word → Of.Route
found o = elim o [ some v ↦ Of.Image v | none ↦ Of.TooShort ]

replied_is : (k : ℕ) (o : Option Word) (room : ℕ) → replied (routed_in k o room) ≡ routing_in k (found o) room
replied_is k none room = refl
replied_is k (some v) room = by_room (leb (length (word_bytes v)) room)
  where
    by_room : (b : Bool) → replied (elim b [ true ↦ Ok (record { length = length (word_bytes v); place = k }) | false ↦ Err NoRoom ])
        ≡ elim b [ true ↦ Routes.Image (record { length = length (word_bytes v); place = k }) | false ↦ Routes.Refused BufferTooShort ]
    by_room true = refl
    by_room false = refl

buffer_is : (o : Option Word) (out : List ℕ) → routed_into o out ≡ image_into (found o) out
buffer_is none out = refl
buffer_is (some v) out = refl

-- nothing is matched: the part is the whole code
pub whole_code : (n : ℕ) (code : List ℕ) (place : ℕ × ℕ) → n ≡ 0 → (code ≡ drop n code) × (place ≡ further n place)
whole_code n code place e = (ap (λ k. drop k code) (sym e), here place ∙ ap (λ k. further k place) (sym e))

module _ (s : Shape) (from : List Word) (code : List ℕ) where
  pub matched_no_code : is_code s (word_of code) ≡ false → matched_in s from code ≡ 0
  matched_no_code k = rw (k, matched_in)

  pub matched_code : is_code s (word_of code) ≡ true → matched_digits from (word_of code) ≡ matched_in s from code
  matched_code k = sym (rw (k, matched_in))

  pub place_no_code : is_code s (word_of code) ≡ false → matched_place_in s from code ≡ 0
  place_no_code k = rw (k, matched_place_in)

  pub place_code : is_code s (word_of code) ≡ true → place_of from (word_of code) ≡ matched_place_in s from code
  place_code k = sym (rw (k, matched_place_in))

module _ (lent : Lent) (code : List ℕ) where
  abbrev answer : Of.Route
  answer = routed (lent_plan lent) (word_of code)

  abbrev s : Shape
  s = (lent_plan lent).shape

  abbrev from : List ℕ
  from = lent.from.now

  abbrev to : List ℕ
  to = lent.to.now

  pub searchable : Searchable from
  searchable =
      let o = lent_operand lent in
      record { packed = o.plain.from_packed; in_order = o.in_order; apart = o.apart }

  abbrev reply : ℕ → Route
  reply room = routing_by (lent_plan lent) (word_of code) room

  pub route_no_code : (out : List ℕ) → is_code s (word_of code) ≡ false
      → (Routes.Refused BadWord ≡ reply (length out)) × (out ≡ image_into answer out)
  unfolding routed
  route_no_code out k = (sym (rw (k, routed)), sym (rw (k, routed)))

  module _ (k : is_code s (word_of code) ≡ true) where
    pub code_digits : IsCode code
    code_digits = digits_of_code s code (lent_kept lent).in_range k

    routed_is : answer ≡ found (image (table from to) (word_of code))
    unfolding routed
    routed_is = rw (k, routed)

    pub route_found : (out : List ℕ) (r : Result Image RouteError) (out' : List ℕ)
        → r ≡ routed_in (place_of (words_of from) (word_of code)) (image (table from to) (word_of code)) (length out)
        → out' ≡ routed_into (image (table from to) (word_of code)) out
        → (replied r ≡ reply (length out)) × (out' ≡ image_into answer out)
    route_found out r out' e f =
        let o = image (table from to) (word_of code) in
        let column = sym (froms_table from to lent.paired) in (
          ap replied e ∙ replied_is (place_of (words_of from) (word_of code)) o (length out)
              ∙ ap₂ (λ c x. routing_in (place_of c (word_of code)) x (length out)) column (sym routed_is),
          f ∙ buffer_is o out ∙ ap (λ x. image_into x out) (sym routed_is),
        )
