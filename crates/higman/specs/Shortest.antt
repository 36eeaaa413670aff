-- No shorter sheet (change request E10): no table that acts as a reduced plan does (`ActsAs`) has fewer pairs, whatever the number of its
-- pairs and digits, and its from-words each begin with one of the plan's. `NoShorterTable` says so of reduced plans of any size and of the
-- M records of a kept plan, and `NoShorterSheet` of desk of what L replies. Read Algebras.antt next.
use Rattle.std.specs.Prelude.{◌≤◌, ◌≡◌, refl, ◌⊎◌, T, length}
use Rattle.std.proofs.Common.{sym, subst, inl, inr, lit≤}
use mathlib.Core.List.Memᴰ
use mathlib.Core.List.{List, [], ◌∷◌, map, Memᴰ}
use Rattle.higman.specs.Words.{Shape, Word, begins, spell}
use Rattle.higman.specs.Bases.{Basis}
use Rattle.higman.specs.Tables.{Pair, Table, froms, tos, image, row}
use Rattle.higman.specs.Normal.{joined, normal, normal_form, keep}
use Rattle.higman.specs.Limits.{Plan, Kept}
use Rattle.higman.specs.Listing.{pair_record, pair_records}
use Rattle.higman.specs.Theorems.{ActAlike, ReducedPlan}

-- A "table of pairs with the same shape and the same action, its from column a basis of any size and its to-words of at least a belt".
-- No limit is asked of it, nor that its to column is a basis.
pub record ActsAs (s : Shape) (a t : Table) : Type 0 where
  pub from_basis : Basis s (froms t)
  pub at_least_a_belt : (v : Word) → Memᴰ v (tos t) → 1 ≤ length v
  pub same_action : ActAlike (record { shape = s; rows = a }) (record { shape = s; rows = t })

-- beside some listed pairs: a table hasn't fewer, and its "from-words each begin with a listed one"
pub record NotShorter (listed t : Table) : Type 0 where
  pub no_fewer_pairs : length listed ≤ length t
  pub begun_by_listed : (w : Word) → Memᴰ w (froms t) → (u : Word) × Memᴰ u (froms listed) × T (begins u w)

pub record NoShorterTable : Type 0 where
  pub reduced_plan : (s : Shape) → 1 ≤ s.arity → (a t : Table) → ReducedPlan s a → ActsAs s a t → NotShorter a t
  -- the plan is such a table itself, so there is none with fewer pairs and one with as many
  pub itself : (s : Shape) → 1 ≤ s.arity → (a : Table) → ReducedPlan s a → ActsAs s a a
  -- "Printing a plan costs a line a pair": the M records of a kept plan's listing are no more than the pairs of the table, and each
  -- from-word of the table begins with that of an M record
  pub no_more_records : (a : Plan) → Kept a → (t : Table) → ActsAs a.shape a.rows t → length (pair_records a.rows) ≤ length t
  pub begun_by_record : (a : Plan) → Kept a → (t : Table) → ActsAs a.shape a.rows t → (w : Word) → Memᴰ w (froms t)
      → (p : Pair) × Memᴰ (pair_record p) (pair_records a.rows) × T (begins p.from w)

-- "11→11, 12→12 is kept as 1→1, one pair", and 11 and 12 begin with 1
not_shorter_example : NotShorter (row 1 1 ∷ []) (row 11 11 ∷ row 12 12 ∷ [])
not_shorter_example =
    record {
      no_fewer_pairs = lit≤ tt;
      begun_by_listed = λ w m. (spell 1, Memᴰ.head refl, by_1 w (Memᴰ.cases_cons m));
    }
  where
    by_1 : (w : Word) → (w ≡ spell 11) ⊎ Memᴰ w (spell 12 ∷ []) → T (begins (spell 1) w)
    by_1 w (inl e) = subst (λ v. T (begins (spell 1) v)) (sym e) tt
    by_1 w (inr m) = subst (λ v. T (begins (spell 1) v)) (sym (Memᴰ.eq_of_singleton m)) tt

-- Why "at least a belt": of two ways and three belts, four pairs of which none join, since there is no word above the to-words 1 and 2, nor
-- above the from-words 2 and 3
abbrev shape23 : Shape
shape23 = record { arity = 2; roots = 3 }

abbrev four_pairs : Table
four_pairs = row 11 1 ∷ row 12 2 ∷ row 2 31 ∷ row 3 32 ∷ []

four_pairs_example : keep shape23 four_pairs ≡ four_pairs
unfolding keep normal_form normal joined
four_pairs_example = refl

-- and three that send codes as they do, the first of them to the tail alone
abbrev three_pairs : Table
three_pairs = record { from = spell 1; to = [] } ∷ row 2 31 ∷ row 3 32 ∷ []

abbrev some_codes : List Word
some_codes = spell 11 ∷ spell 12 ∷ spell 1121 ∷ spell 22 ∷ spell 3 ∷ []

three_pairs_example : map (image three_pairs) some_codes ≡ map (image four_pairs) some_codes
three_pairs_example = refl
