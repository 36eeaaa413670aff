-- The values of the library: the plan that a value holds, what it is for a value to be a draft or a kept plan, and the value of a plan.
-- A caller of the library believes it; `LibraryExact` of plans says place by place what a value holds. Read Refusals.antt next.
use Rattle.std.specs.Prelude.{ℕ, ◌-◌, ◌≡◌, refl, Bool, true, false, ◌&&◌, List, [], ◌∷◌, ◌++◌, map, leb, eqb, length, get_or, take, drop, replicate}
use Rattle.higman.specs.Words.{Shape, Word}
use Rattle.higman.specs.Bases.{all}
use Rattle.higman.specs.Tables.{Pair, Table, froms, tos, row, φ, ψ}
use Rattle.higman.specs.Normal.{joined, normal, normal_form, keep}
use Rattle.higman.specs.Limits.{Plan as PlanOf, shape_in_range, granted, max_pairs, max_digits, is_plan_word}
use Rattle.higman.specs.Answers.{verdict, is_table_of, is_kept}
use Rattle.words.specs.Packed.{pack_on, pack, unpack_in, unpack}
use Rattle.words.specs.Bytes.{shape}
use Rattle.operations.specs.declared.Plan.{Plan}
use Rattle.operations.specs.declared.lent.Lent.{Lent}
use Rattle.columns.specs.Packed.{words_of, rows}
use Rattle.tables.specs.Lines.{plan_of_columns}

abbrev pub shape_of : Plan → Shape
shape_of p = shape p.arity p.roots

-- the pairs at the first places
abbrev pub rows_of : Plan → Table
rows_of p = rows p.pairs p.from p.to

-- the plan that a value holds
abbrev pub plan_of : Plan → PlanOf
plan_of p = record { shape = shape_of p; rows = rows_of p }

-- the pair at a place: the from-word stands in the one column, the to-word in the other
abbrev pub pair_at : Plan → ℕ → Pair
pair_at v i = record { from = unpack (get_or v.from i 0); to = unpack (get_or v.to i 0) }

abbrev pub zeros : List ℕ → Bool
zeros l = all (λ x. eqb x 0) l

-- words that a plan of the shape may hold at the first n places of a column, and zeros behind
abbrev pub is_column : Shape → ℕ → List ℕ → Bool
is_column s n l = zeros (drop n l) && all (is_plan_word s) (words_of (take n l))

-- "Each slot holds a fixed table of 128 pairs, its unused places zero."
unfoldable pub in_table : Plan → Bool
in_table p = leb p.pairs max_pairs && zeros (drop p.pairs p.from) && zeros (drop p.pairs p.to)

-- pairs as M takes them, of a shape in range
unfoldable pub is_draft : Plan → Bool
is_draft p = in_table p && is_table_of (shape_of p) (rows_of p)

-- "15 .. a plan or desk handed in isn't one as described above": what is not this
unfoldable pub is_plan : Plan → Bool
is_plan p = in_table p && is_kept (plan_of p)

-- the plan in columns that are lent
abbrev pub lent_plan : Lent → PlanOf
lent_plan l = plan_of_columns l.shape.arity l.shape.roots l.from.now l.to.now

-- a packed column with zeros behind
abbrev pub column : List Word → List ℕ
column c = map pack c ++ replicate (max_pairs - length c) 0

-- the value that holds a plan
unfoldable pub packed : PlanOf → Plan
packed p =
    record {
      arity = p.shape.arity;
      roots = p.shape.roots;
      pairs = length p.rows;
      from = column (froms p.rows);
      to = column (tos p.rows);
    }

-- no plan: what a call that refuses hands back
unfoldable pub blank : Plan
blank = record { arity = 0; roots = 0; pairs = 0; from = column []; to = column [] }

plan_of_example : plan_of (packed (record { shape = shape 2 1; rows = row 11 12 ∷ row 12 11 ∷ [] })) ≡ record { shape = shape 2 1; rows = row 11 12 ∷ row 12 11 ∷ [] }
unfolding packed pack pack_on unpack unpack_in max_pairs
plan_of_example = refl

-- one word with a zero behind it, and with a second word behind it
is_column_example : map (is_column (shape 2 1) 1) ((0x11 ∷ 0 ∷ []) ∷ (0x11 ∷ 0x12 ∷ []) ∷ []) ≡ true ∷ false ∷ []
unfolding is_plan_word max_digits unpack unpack_in
is_column_example = refl

-- a value of shape (2,1) with pairs and something behind them
abbrev value21 : Table → ℕ → Plan
value21 t behind =
    record {
      arity = 2;
      roots = 1;
      pairs = length t;
      from = map pack (froms t) ++ behind ∷ replicate (max_pairs - length t - 1) 0;
      to = map pack (tos t) ++ replicate (max_pairs - length t) 0;
    }

-- the third pair of ψ, 12 to 122, and what stands behind its pairs
pair_at_example : map (pair_at (value21 ψ 0)) (2 ∷ 3 ∷ []) ≡ row 12 122 ∷ record { from = []; to = [] } ∷ []
unfolding pack pack_on unpack unpack_in max_pairs
pair_at_example = refl

-- φ; φ with a word behind its pairs; the pairs of φ out of order; the plan that moves nothing on two pairs, which is not reduced; a gap
values : List Plan
values =
    value21 φ 0
    ∷ value21 φ 0x11
    ∷ value21 (row 12 11 ∷ row 111 122 ∷ row 112 121 ∷ []) 0
    ∷ value21 (row 11 11 ∷ row 12 12 ∷ []) 0
    ∷ value21 (row 11 1 ∷ []) 0
    ∷ []

is_draft_example : map is_draft values ≡ true ∷ false ∷ true ∷ true ∷ true ∷ []
unfolding values is_draft in_table shape_in_range granted max_pairs max_digits pack pack_on unpack unpack_in
is_draft_example = refl

is_plan_example : map is_plan values ≡ true ∷ false ∷ false ∷ false ∷ false ∷ []
unfolding values is_plan in_table is_kept shape_in_range granted max_pairs max_digits verdict keep normal_form normal joined pack pack_on unpack unpack_in
is_plan_example = refl

-- 129 pairs
in_table_example : in_table (record { arity = 2; roots = 1; pairs = 129; from = replicate 129 0; to = replicate 129 0 }) ≡ false
unfolding in_table max_pairs
in_table_example = refl
