-- Drafts by what they mean: the parts of the test `is_draft` as the code makes them, that they say the same as the test, and the
-- judgement by the test.
use Prim.Native.Nat.{ℕ, ◌≤◌}
use mathlib.Core.Path.{◌≡◌, sym, ◌∙◌, ap, subst}
use mathlib.Core.Bool.{Bool, true, false, ◌&&◌}
use mathlib.Core.List.Memᴰ
use mathlib.Core.List.{List, map, Memᴰ}
use native.Mathlib.Omega.{arith}
use lib.Dec.{T, leb, leb→le, le→leb}
use lib.ListN.{length, take, drop, length-take}
use Rattle.higman.specs.Words.{Shape, Word, is_word}
use Rattle.higman.specs.Bases.{all}
use Rattle.higman.specs.Tables.{Pair, Table, froms, tos}
use Rattle.higman.specs.Limits.{shape_in_range, granted, max_pairs, fits, pair_fits, is_plan_word}
use Rattle.higman.specs.Answers as Of
use Rattle.higman.proofs.Tests.{T_of, same_test, and_left, and_right, and_intro, all_at, all_of}
use Rattle.higman.proofs.Statements.{TableOf, table_of, test_table}
use Rattle.operations.specs.declared.Plan.{Plan}
use Rattle.operations.specs.declared.Fault.{Fault}
use Rattle.std.proofs.Common.{Result, Err}
use Rattle.plans.specs.declared.Rejection.TheVariants.{NotADraft}
use Rattle.columns.specs.Packed.{words_of}
use Rattle.operations.specs.Plans.{shape_of, rows_of, zeros, is_column, in_table, is_draft}
use Rattle.operations.specs.Closing.{DraftColumns, verdict_of}
use Rattle.plans.specs.Answers.{judgement_by, judgement_of, judged}
use Rattle.columns.proofs.Rows.{table_length}
use Rattle.operations.proofs.Verdicts.{words_of_plan, paired, froms_rows, tos_rows}

-- one column of a table, whose words fit where the pairs do
module _ (s : Shape) (t : Table) (word : Pair → Word) where
  fitting_words : ((p : Pair) → T (pair_fits p) → T (fits (word p))) → T (all pair_fits t) → T (all (is_word s) (map word t)) → T (all (is_plan_word s) (map word t))
  unfolding is_plan_word
  fitting_words fit h k =
      all_of (is_plan_word s) (map word t) (λ w m. let (p, n, e) = Memᴰ.of_map word t m in and_intro (is_word s w) (fits w) (all_at (is_word s) (map word t) k w m) (subst (λ u. T (fits u)) e (fit p (all_at pair_fits t h p n))))

  word_fitting : T (all (is_plan_word s) (map word t)) → (p : Pair) → Memᴰ p t → T (fits (word p))
  unfolding is_plan_word
  word_fitting h p m =
      and_right (is_word s (word p)) (fits (word p)) (all_at (is_plan_word s) (map word t) h (word p) (Memᴰ.map word m))

-- the checks that the code makes of a draft
pub record Draft (p : Plan) : Type 0 where
  pub in_range : T (shape_in_range (shape_of p))
  pub few : p.pairs ≤ max_pairs
  pub from_column_lem : T (is_column (shape_of p) p.pairs p.from)
  pub to_column_lem : T (is_column (shape_of p) p.pairs p.to)

module _ (p : Plan) (even : length p.from ≡ length p.to) where
  -- the four parts of the tests of the columns
  few_pairs : Bool
  few_pairs = leb p.pairs max_pairs

  from_tail : Bool
  from_tail = zeros (drop p.pairs p.from)

  to_tail : Bool
  to_tail = zeros (drop p.pairs p.to)

  from_front : Bool
  from_front = all (is_plan_word (shape_of p)) (words_of (take p.pairs p.from))

  to_front : Bool
  to_front = all (is_plan_word (shape_of p)) (words_of (take p.pairs p.to))

  pub draft_of_lem : T (is_draft p) → Draft p
  unfolding is_draft in_table granted few_pairs from_tail to_tail from_front to_front
  draft_of_lem d =
      let s = shape_of p in
      let t = rows_of p in
      let inside = and_left (in_table p) (Of.is_table_of s t) d in
      let front = and_left (few_pairs && from_tail) to_tail inside in
      let is = table_of s t (and_right (in_table p) (Of.is_table_of s t) d) in
      let fit = and_right (leb (length t) max_pairs) (all pair_fits t) is.within in
      let froms-fit = fitting_words s t (λ q. q.from) (λ q. and_left (fits q.from) (fits q.to)) fit is.from_words in
      let tos-fit = fitting_words s t (λ q. q.to) (λ q. and_right (fits q.from) (fits q.to)) fit is.to_words in
      let from_words = subst (λ c. T (all (is_plan_word s) c)) (froms_rows p.pairs p.from p.to even) froms-fit in
      let to_words = subst (λ c. T (all (is_plan_word s) c)) (tos_rows p.pairs p.from p.to even) tos-fit in
      record {
        in_range = is.in_range;
        few = leb→le p.pairs max_pairs (and_left few_pairs from_tail front);
        from_column_lem = and_intro from_tail from_front (and_right few_pairs from_tail front) from_words;
        to_column_lem = and_intro to_tail to_front (and_right (few_pairs && from_tail) to_tail inside) to_words;
      }

  pub test_draft : Draft p → T (is_draft p)
  unfolding is_draft in_table granted few_pairs from_tail to_tail from_front to_front
  test_draft d =
      let s = shape_of p in
      let t = rows_of p in
      let froms-are = sym (froms_rows p.pairs p.from p.to even) in
      let tos-are = sym (tos_rows p.pairs p.from p.to even) in
      let from_words = subst (λ c. T (all (is_plan_word s) c)) froms-are (and_right from_tail from_front d.from_column_lem) in
      let to_words = subst (λ c. T (all (is_plan_word s) c)) tos-are (and_right to_tail to_front d.to_column_lem) in
      let pair_fits_lem : (q : Pair) → Memᴰ q t → T (pair_fits q) = λ q m. and_intro (fits q.from) (fits q.to) (word_fitting s t (λ r. r.from) from_words q m) (word_fitting s t (λ r. r.to) to_words q m) in
      let long = table_length (take p.pairs p.from) (take p.pairs p.to) (paired p.pairs p.from p.to even) in
      let few : length t ≤ max_pairs = omega (arith, long, length-take p.pairs p.from, d.few) in
      let is : TableOf s t = record {
        in_range = d.in_range;
        within = and_intro (leb (length t) max_pairs) (all pair_fits t) (le→leb (length t) max_pairs few) (all_of pair_fits t pair_fits_lem);
        from_words = words_of_plan s (froms t) from_words;
        to_words = words_of_plan s (tos t) to_words;
      } in
      let front = and_intro few_pairs from_tail (le→leb p.pairs max_pairs d.few) (and_left from_tail from_front d.from_column_lem) in
      and_intro (in_table p) (Of.is_table_of s t) (and_intro (few_pairs && from_tail) to_tail front (and_left to_tail to_front d.to_column_lem)) (test_table s t is)

  -- the checks, in the order in which they are made
  pub checked : is_draft p ≡ (((leb p.pairs max_pairs && shape_in_range (shape_of p)) && is_column (shape_of p) p.pairs p.from) && is_column (shape_of p) p.pairs p.to)
  checked =
      let few = leb p.pairs max_pairs in
      let range = shape_in_range (shape_of p) in
      let from = is_column (shape_of p) p.pairs p.from in
      let to = is_column (shape_of p) p.pairs p.to in
      same_test (is_draft p) (((few && range) && from) && to)
      (λ t.
      let d = draft_of_lem t in
      let two = and_intro few range (le→leb p.pairs max_pairs d.few) d.in_range in
      and_intro ((few && range) && from) to (and_intro (few && range) from two d.from_column_lem) d.to_column_lem)
      (λ t.
      let three = and_left ((few && range) && from) to t in
      let two = and_left (few && range) from three in
      test_draft (record {
        in_range = and_right few range two;
        few = leb→le p.pairs max_pairs (and_left few range two);
        from_column_lem = and_right (few && range) from three;
        to_column_lem = and_right ((few && range) && from) to t;
      }))

-- the columns of a draft, as closing asks for them
pub draft_columns : (p : Plan) → Draft p → DraftColumns p
draft_columns p d =
    let words : List ℕ → Bool = λ column. all (is_plan_word (shape_of p)) (words_of (take p.pairs column)) in
    record {
      few = d.few;
      in_range = d.in_range;
      from_words = and_right (zeros (drop p.pairs p.from)) (words p.from) d.from_column_lem;
      to_words = and_right (zeros (drop p.pairs p.to)) (words p.to) d.to_column_lem;
    }

-- the judgement, by the test
pub judged_none : (p : Plan) → is_draft p ≡ false → judged p ≡ Err NotADraft
unfolding judged
judged_none p e = rw (e, judged)

pub judged_draft : (p : Plan) → is_draft p ≡ true → judged p ≡ judgement_of (Of.verdict (shape_of p) (rows_of p))
unfolding judged
judged_draft p e = rw (e, judged)

-- a draft is judged as its columns are
pub judged_as : (p : Plan) (r : Result (Unit {0}) Fault) → is_draft p ≡ true → r ≡ verdict_of (Of.verdict (shape_of p) (rows_of p)) → judgement_by r ≡ judged p
judged_as p r d e = ap judgement_by e ∙ sym (judged_draft p d)

-- what closing asks for, by the test
pub draft_closes : (p : Plan) → length p.from ≡ length p.to → is_draft p ≡ true → DraftColumns p
draft_closes p even e = draft_columns p (draft_of_lem p even (T_of e))
