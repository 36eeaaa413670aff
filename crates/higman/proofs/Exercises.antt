-- The term of the statement of specs/Exercises.antt: plans made by numbers are made as the request says, and both their columns are bases.
use Prim.Native.Nat.{ℕ, suc, ◌+◌, ◌*◌, ◌-◌, ◌%◌, ◌≤◌, ◌<◌}
use mathlib.Core.Path.{◌≡◌, refl, sym, ◌∙◌, ap, subst}
use mathlib.Core.Bool.{Bool, true, false}
use mathlib.Core.List.Permᴰ
use mathlib.Core.List.{List, [], ◌∷◌, Permᴰ}
use native.Mathlib.Omega.{arith}
use borrow.Author.Tests.{le-leb, lt-leb}
use lib.Dec.{T, leb}
use lib.ListN.{length}
use Rattle.higman.specs.Words.{Shape, Word}
use Rattle.higman.specs.Bases.{root_words, all, longest}
use Rattle.higman.specs.Tables.{Table, froms, tos}
use Rattle.higman.specs.Limits.{Plan, Bases, Kept, shape_in_range, seed_in_range, granted, pair_fits, max_pairs, max_digits}
use Rattle.higman.specs.Answers.{verdict, Accepted, Answer, Granted, Refused, SeedOutside, TooManyPairs, WordTooLong}
use Rattle.higman.specs.Exercises.{next_draw, drawn, from_column, unshuffled, to_column, paired, exercised, exercise_plan, exercise}
use Rattle.higman.specs.Exercises.{Splits, ExerciseMade, ExercisesExact}
use Rattle.higman.proofs.Tests.{so, T_of, and_intro}
use Rattle.higman.proofs.Columns.{column_is_basis}
use Rattle.higman.proofs.KeptPlans.{in_range, arity_of_range}
use Rattle.higman.proofs.Answers.{not_granted, granted_path}
use Rattle.higman.proofs.Statements.{answers_exact}
use Rattle.higman.proofs.Draws.{draws_in_range, drawn_on}
use Rattle.higman.proofs.Splits.{grown_expands, grown_size, grown_nonempty, grown_ordered, grown_longest, grown_splits}
use Rattle.higman.proofs.Shuffles.{shuffled_length, shuffled_permutes, shuffled_made}
use Rattle.higman.proofs.Determined.{determined}
use Rattle.higman.proofs.Lengths.{longest_of_fits, fits_of_longest, longest_of_perm, columns_fit, pairs_fit}

-- columns of one length are those of the table that pairs them
pub froms_paired : (f t : List Word) → length f ≡ length t → froms (paired f t) ≡ f
froms_paired [] t e = refl
froms_paired (v ∷ f) [] e = absurd (omega arith)
froms_paired (v ∷ f) (w ∷ t) e = ap (λ c. v ∷ c) (froms_paired f t (omega arith))

pub tos_paired : (f t : List Word) → length f ≡ length t → tos (paired f t) ≡ t
tos_paired [] [] e = refl
tos_paired [] (w ∷ t) e = absurd (omega arith)
tos_paired (v ∷ f) [] e = absurd (omega arith)
tos_paired (v ∷ f) (w ∷ t) e = ap (λ c. w ∷ c) (tos_paired f t (omega arith))

pub length_paired : (f t : List Word) → length f ≡ length t → length (paired f t) ≡ length f
length_paired [] t e = refl
length_paired (v ∷ f) [] e = absurd (omega arith)
length_paired (v ∷ f) (w ∷ t) e = ap suc (length_paired f t (omega arith))

-- X's answer by what its three tests find
module _ (s : Shape) (k seed : ℕ) where
  answer_by : Bool → Bool → Bool → Answer
  answer_by a b c =
      elim a [
        | false ↦ Refused SeedOutside
        | true ↦ elim b [ false ↦ Refused TooManyPairs | true ↦ elim c [ false ↦ Refused WordTooLong | true ↦ Granted (exercise_plan s k seed) ] ]
      ]

  by_tests : (a b c : Bool) → seed_in_range seed ≡ a → leb (length (exercised s k seed)) max_pairs ≡ b → all pair_fits (exercised s k seed) ≡ c
      → exercise s k seed ≡ answer_by a b c
  unfolding exercise answer_by
  by_tests a b c e f g =
      let few = leb (length (exercised s k seed)) max_pairs in
      let short = all pair_fits (exercised s k seed) in
      ap (λ x. answer_by x few short) e ∙ ap (λ x. answer_by a x short) f ∙ ap (answer_by a b) g

  -- what X grants: the seed is in range, the plan keeps the limits before it is reduced, and it is reduced and kept
  pub exercise_cases : (p : Plan) → exercise s k seed ≡ Granted p
      → T (seed_in_range seed) × T (granted (exercised s k seed)) × (p ≡ exercise_plan s k seed)
  unfolding answer_by granted
  exercise_cases p e = go (seed_in_range seed) (leb (length t) max_pairs) (all pair_fits t) refl refl refl (sym (by_tests _ _ _ refl refl refl) ∙ e)
    where
      t : Table
      t = exercised s k seed

      go : (a b c : Bool) → seed_in_range seed ≡ a → leb (length t) max_pairs ≡ b → all pair_fits t ≡ c → answer_by a b c ≡ Granted p
          → T (seed_in_range seed) × T (granted t) × (p ≡ exercise_plan s k seed)
      go false b c x y z h = absurd (not_granted SeedOutside p h)
      go true false c x y z h = absurd (not_granted TooManyPairs p h)
      go true true false x y z h = absurd (not_granted WordTooLong p h)
      go true true true x y z h =
          (T_of x, and_intro (leb (length t) max_pairs) (all pair_fits t) (T_of y) (T_of z), sym (granted_path (exercise_plan s k seed) p h))

  pub seed_first : seed_in_range seed ≡ false → exercise s k seed ≡ Refused SeedOutside
  unfolding answer_by
  seed_first e = by_tests false _ _ e refl refl

module _ (s : Shape) (n : 1 ≤ s.arity) (r : 1 ≤ s.roots) (k seed : ℕ) where
  abbrev last : ℕ
  last = length (unshuffled s k seed) - 1

  -- the columns have as many words
  pub columns_alike : length (from_column s k seed) ≡ length (to_column s k seed)
  columns_alike =
      grown_size s n r seed k
      ∙ sym (grown_size s n r (drawn seed k) k)
      ∙ sym (shuffled_length (drawn seed (k + k)) (unshuffled s k seed) last)

  pub exercised_froms : froms (exercised s k seed) ≡ from_column s k seed
  unfolding exercised
  exercised_froms = froms_paired (from_column s k seed) (to_column s k seed) columns_alike

  pub exercised_tos : tos (exercised s k seed) ≡ to_column s k seed
  unfolding exercised
  exercised_tos = tos_paired (from_column s k seed) (to_column s k seed) columns_alike

  pub exercised_size : length (exercised s k seed) ≡ s.roots + k * (s.arity - 1)
  unfolding exercised
  exercised_size = length_paired (from_column s k seed) (to_column s k seed) columns_alike ∙ grown_size s n r seed k

  last_inside : last < length (unshuffled s k seed)
  last_inside = omega (arith, grown_nonempty s n r (drawn seed k) k)

  to_listing : Permᴰ (to_column s k seed) (unshuffled s k seed)
  to_listing = shuffled_permutes (drawn seed (k + k)) (unshuffled s k seed) last last_inside

  pub exercised_bases : Bases s (exercised s k seed)
  exercised_bases =
      record {
        from_basis =
            record {
              folds = k;
              expansion = from_column s k seed;
              expands = grown_expands s n r seed k;
              listing = rw exercised_froms (Permᴰ.refl (from_column s k seed));
            };
        to_basis =
            record {
              folds = k;
              expansion = unshuffled s k seed;
              expands = grown_expands s n r (drawn seed k) k;
              listing = rw exercised_tos to_listing;
            };
      }

  pub exercised_made : ExerciseMade s k seed (exercised s k seed)
  exercised_made =
      record {
        from_draw = drawn seed k;
        to_draw = drawn seed (k + k);
        to_words = unshuffled s k seed;
        from_column_lem = rw exercised_froms (grown_splits s n r seed k);
        to_column_lem =
            subst
            (λ y. Splits s.arity (drawn seed k) (root_words s) k y (unshuffled s k seed))
            (drawn_on seed k k)
            (grown_splits s n r (drawn seed k) k);
        shuffle = rw exercised_tos (shuffled_made (drawn seed (k + k)) (unshuffled s k seed) last last_inside);
      }

  -- E would accept it: the words of bases are words of the shape
  pub exercised_accepted : verdict s (exercised s k seed) ≡ Accepted
  exercised_accepted =
      let t = exercised s k seed in
      let from_words = ((column_is_basis s n (froms t)).0 exercised_bases.from_basis).words in
      let to_words = ((column_is_basis s n (tos t)).0 exercised_bases.to_basis).words in
      (answers_exact.accepted s n t from_words to_words).1 exercised_bases

  -- the pairs fit exactly where the longest word of each column does, before the shuffle too
  pub exercised_fits : T (all pair_fits (exercised s k seed))
      → (longest (from_column s k seed) ≤ max_digits) × (longest (unshuffled s k seed) ≤ max_digits)
  exercised_fits h =
      let (from_fit, to_fit) = columns_fit (exercised s k seed) h in (
        longest_of_fits (from_column s k seed) (rw exercised_froms at from_fit),
        omega (arith, longest_of_perm to_listing, longest_of_fits (to_column s k seed) (rw exercised_tos at to_fit)),
      )

  pub fits_of_columns : longest (from_column s k seed) ≤ max_digits → longest (unshuffled s k seed) ≤ max_digits
      → T (all pair_fits (exercised s k seed))
  fits_of_columns f g =
      pairs_fit
      (exercised s k seed)
      (rw exercised_froms (fits_of_longest (from_column s k seed) f))
      (rw exercised_tos (fits_of_longest (to_column s k seed) (omega (arith, longest_of_perm to_listing))))

  module _ (e : T (seed_in_range seed)) where
    pub then_pairs : max_pairs < s.roots + k * (s.arity - 1) → exercise s k seed ≡ Refused TooManyPairs
    unfolding answer_by
    then_pairs h =
        let many = lt-leb (length (exercised s k seed)) max_pairs (omega (arith, exercised_size)) in
        by_tests s k seed true false _ (so (seed_in_range seed) e) many refl

    module _ (h : s.roots + k * (s.arity - 1) ≤ max_pairs) where
      few : leb (length (exercised s k seed)) max_pairs ≡ true
      few = le-leb (length (exercised s k seed)) max_pairs (omega (arith, exercised_size))

      pub then_words : all pair_fits (exercised s k seed) ≡ false → exercise s k seed ≡ Refused WordTooLong
      unfolding answer_by
      then_words g = by_tests s k seed true true false (so (seed_in_range seed) e) few g

      pub else_granted : T (all pair_fits (exercised s k seed)) → exercise s k seed ≡ Granted (exercise_plan s k seed)
      unfolding answer_by
      else_granted g = by_tests s k seed true true true (so (seed_in_range seed) e) few (so (all pair_fits (exercised s k seed)) g)

kept : (s : Shape) → T (shape_in_range s) → (k seed : ℕ) (p : Plan) → exercise s k seed ≡ Granted p → Kept p
kept s range k seed p e =
    let (seed-fits, within, is) = exercise_cases s k seed p e in
    let bases = exercised_bases s (arity_of_range s range) (in_range s range).roots_low k seed in
    subst Kept (sym is) (answers_exact.keeps s range (exercised s k seed) bases within)

next_draw_lem : (x : ℕ) → drawn x 1 ≡ 16_807 * x % 2_147_483_647
unfolding drawn next_draw
next_draw_lem x = refl

pub exercises_exact : ExercisesExact
exercises_exact =
    record {
      next_draw_lem = next_draw_lem;
      draws = draws_in_range;
      made = exercised_made;
      determined = determined;
      size = grown_size;
      in_order = grown_ordered;
      expands = grown_expands;
      pairs = exercised_size;
      bases = exercised_bases;
      accepted = exercised_accepted;
      permutes = shuffled_permutes;
      outgrown = grown_longest;
      seed_first = seed_first;
      then_pairs = then_pairs;
      then_words = then_words;
      else_granted = else_granted;
      kept = kept;
    }
