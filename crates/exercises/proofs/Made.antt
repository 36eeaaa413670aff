-- What is made of a shape, a number of splits and a seed, case by case, as the code finds it: by the seed, by the number of pairs, by the
-- words of each column, and by the columns that are left at the end.
use Prim.Native.Nat.{ℕ, ◌+◌, ◌*◌, ◌-◌, ◌≤◌, ◌<◌}
use mathlib.Core.Path.{◌≡◌, refl, sym, ◌∙◌, ap, ap₂, subst}
use mathlib.Core.Bool.{true, false}
use mathlib.Core.List.{List, [], ◌∷◌}
use Rattle.std.proofs.Common.{Ok, Err}
use native.Mathlib.Omega.{arith}
use lib.Dec.{T}
use lib.ListN.{length, take, length-take, length-map}
use Rattle.higman.specs.Words.{Shape, Word}
use Rattle.higman.specs.Bases.{all}
use Rattle.higman.specs.Tables.{froms, tos}
use Rattle.higman.specs.Normal.{ordered, keep}
use Rattle.higman.specs.Limits.{shape_in_range, seed_in_range, pair_fits, fits, max_pairs}
use Rattle.higman.specs.Exercises.{drawn, grown, shuffled, from_column, unshuffled, to_column, paired, exercised, exercise_plan, exercise}
use Rattle.higman.proofs.Tests.{T_of, clash}
use Rattle.higman.proofs.Columns.{fails, column_is_basis}
use Rattle.higman.proofs.Draws.{draws_in_range, drawn_on}
use Rattle.higman.proofs.KeptPlans.{in_range, arity_of_range}
use Rattle.higman.proofs.Lengths.{longest_of_fits}
use Rattle.higman.proofs.Splits.{grown_size, grown_ordered}
use Rattle.higman.proofs.Exercises.{columns_alike, exercised_froms, exercised_bases, exercised_fits, fits_of_columns}
use Rattle.higman.proofs.Exercises.{seed_first, then_pairs, then_words, else_granted}
use Rattle.words.specs.Packed.{unpack}
use Rattle.columns.specs.Packed.{words_of, table}
use Rattle.tables.specs.Reduction.{Reducible}
use Rattle.operations.specs.declared.refusals.Refusal.TheVariants as The
use Rattle.operations.specs.Plans.{packed}
use Rattle.operations.specs.Answers.{making}
use Rattle.operations.specs.Keeping.{ReducibleColumns}
use Rattle.exercises.specs.declared.splits.Grown.{Grown}
use Rattle.exercises.specs.Growing.{Growable, Grows, Shufflable}
use Rattle.exercises.proofs.Growing.{fitting}

-- the pairs of two packed columns
table_paired : (from to : List ℕ) → table from to ≡ paired (words_of from) (words_of to)
table_paired [] to = refl
table_paired (f ∷ from) [] = refl
table_paired (f ∷ from) (t ∷ to) = ap (λ l. record { from = unpack f; to = unpack t } ∷ l) (table_paired from to)

module _ (s : Shape) (range : T (shape_in_range s)) (k seed : ℕ) where
  ways : 1 ≤ s.arity
  ways = arity_of_range s range

  belts : 1 ≤ s.roots
  belts = (in_range s range).roots_low

  pub refused_seed : seed_in_range seed ≡ false → making (exercise s k seed) ≡ Err The.SeedOutside
  refused_seed e = ap making (seed_first s k seed e)

  module _ (e : T (seed_in_range seed)) where
    pub refused_pairs : max_pairs < s.roots + k * (s.arity - 1) → making (exercise s k seed) ≡ Err The.PairsFull
    refused_pairs h = ap making (then_pairs s ways belts k seed e h)

    module _ (h : s.roots + k * (s.arity - 1) ≤ max_pairs) where
      -- a column that is grown has room
      pub grown_room : (x : ℕ) → length (grown s x k) ≤ max_pairs
      grown_room x = omega (arith, grown_size s ways belts x k)

      refused_words : (T (all pair_fits (exercised s k seed)) → ⊥) → making (exercise s k seed) ≡ Err The.BadWord
      refused_words g =
          ap making (then_words s ways belts k seed e h (fails (all pair_fits (exercised s k seed)) (λ t. g (T_of t))))

      pub refused_from : all fits (from_column s k seed) ≡ false → making (exercise s k seed) ≡ Err The.BadWord
      refused_from g = refused_words (λ t. clash (fitting (from_column s k seed) (exercised_fits s ways belts k seed t).0) g)

      pub refused_to : all fits (unshuffled s k seed) ≡ false → making (exercise s k seed) ≡ Err The.BadWord
      refused_to g = refused_words (λ t. clash (fitting (unshuffled s k seed) (exercised_fits s ways belts k seed t).1) g)

      pub made : all fits (from_column s k seed) ≡ true → all fits (unshuffled s k seed) ≡ true
          → making (exercise s k seed) ≡ Ok (packed (exercise_plan s k seed))
      made f g =
          let from = longest_of_fits (from_column s k seed) (T_of f) in
          let to = longest_of_fits (unshuffled s k seed) (T_of g) in
          ap making (else_granted s ways belts k seed e h (fits_of_columns s ways belts k seed from to))

  -- the columns at the end
  module _ (keys values : List ℕ) (from : words_of keys ≡ from_column s k seed) (to : words_of values ≡ to_column s k seed) where
    pub table_made : table keys values ≡ exercised s k seed
    unfolding exercised
    table_made = table_paired keys values ∙ ap₂ paired from to

    pub columns_reducible : length keys ≤ max_pairs → ReducibleColumns s keys values
    columns_reducible h =
        let alike =
        sym (length-map keys unpack) ∙ ap length from ∙ columns_alike s ways belts k seed ∙ sym (ap length to) ∙ length-map values unpack in
        let t = exercised s k seed in
        let bases = exercised_bases s ways belts k seed in
        let reducible : Reducible s t = record {
          in_order = ap ordered (exercised_froms s ways belts k seed) ∙ grown_ordered s ways belts seed k;
          column = (column_is_basis s ways (froms t)).0 bases.from_basis;
          to_words = ((column_is_basis s ways (tos t)).0 bases.to_basis).words;
        } in
        record { paired = alike; few = h; in_range = range; reducible = subst (Reducible s) (sym table_made) reducible }

-- a column has the words that were found in it
front_inside : (column : List ℕ) (n : ℕ) (c : List Word) → words_of (take n column) ≡ c → length c ≡ n → n ≤ length column
front_inside column n c e f = omega (arith, length-take n column, length-map (take n column) unpack, ap length e)

-- The two columns as they are grown, the second by the draws that follow the first.
module _ (s : Shape) (range : T (shape_in_range s)) (k seed : ℕ) (e : T (seed_in_range seed)) (h : s.roots + k * (s.arity - 1) ≤ max_pairs) where
  abbrev pairs : ℕ
  pairs = s.roots + k * (s.arity - 1)

  size : (x : ℕ) → length (grown s x k) ≡ pairs
  size x = grown_size s (arity_of_range s range) (in_range s range).roots_low x k

  pub first_growable : Growable s seed k
  first_growable = record { in_range = range; seed = e; room = grown_room s range k seed e h seed }

  module _ (from : Grown) (f : Grows s seed k from) where
    pub second_growable : Growable s from.last k
    second_growable =
        record {
          in_range = range;
          seed = subst (λ x. T (seed_in_range x)) (sym f.draws) (draws_in_range seed e k);
          room = grown_room s range k seed e h from.last;
        }

    pub refused_second : all fits (grown s from.last k) ≡ false → making (exercise s k seed) ≡ Err The.BadWord
    refused_second g = refused_to s range k seed e h (sym (ap (λ x. all fits (grown s x k)) f.draws) ∙ g)

    module _ (to : Grown) (t : Grows s from.last k to) where
      last_draw : to.last ≡ drawn seed (k + k)
      last_draw = t.draws ∙ ap (λ x. drawn x k) f.draws ∙ drawn_on seed k k

      pub shufflable : Shufflable pairs to.last
      shufflable =
          record {
            some_word = omega (arith, (in_range s range).roots_low);
            room = h;
            seed = subst (λ x. T (seed_in_range x)) (sym last_draw) (draws_in_range seed e (k + k));
          }

      from_held : words_of (take pairs from.words) ≡ from_column s k seed
      from_held = ap (λ n. words_of (take n from.words)) (sym (size seed)) ∙ f.column

      to_held : words_of (take pairs to.words) ≡ unshuffled s k seed
      to_held = ap (λ n. words_of (take n to.words)) (sym (size from.last)) ∙ t.column ∙ ap (λ x. grown s x k) f.draws

      -- and the to-words shuffled
      module _ (values : List ℕ) (v : words_of (take pairs values) ≡ shuffled to.last (words_of (take pairs to.words)) (pairs - 1)) where
        values_held : words_of (take pairs values) ≡ to_column s k seed
        values_held =
            v
            ∙ ap₂ (λ x w. shuffled x w (pairs - 1)) last_draw to_held
            ∙ ap (λ n. shuffled (drawn seed (k + k)) (unshuffled s k seed) (n - 1)) (sym (size (drawn seed k)))

        pub from_inside : pairs ≤ length from.words
        from_inside = front_inside from.words pairs (from_column s k seed) from_held (size seed)

        pub values_inside : pairs ≤ length values
        values_inside =
            front_inside values pairs (to_column s k seed) values_held
            (sym (columns_alike s (arity_of_range s range) (in_range s range).roots_low k seed) ∙ size seed)

        pub reducible : ReducibleColumns s (take pairs from.words) (take pairs values)
        reducible =
            columns_reducible s range k seed (take pairs from.words) (take pairs values) from_held values_held
            (omega (arith, h, length-take pairs from.words))

        pub granted : Ok (packed (record { shape = s; rows = keep s (table (take pairs from.words) (take pairs values)) })) ≡ making (exercise s k seed)
        granted =
            let short = sym (ap (λ x. all fits (grown s x k)) f.draws) ∙ t.short in
            ap (λ t. Ok (packed (record { shape = s; rows = keep s t }))) (table_made s range k seed (take pairs from.words) (take pairs values) from_held values_held)
            ∙ sym (made s range k seed e h f.short short)
