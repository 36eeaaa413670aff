-- The verdict on two columns from what is wrong with each, the from column first, and what closing answers by it. Where it is Accepted,
-- columns of words are bases.
use Prim.Native.Nat.{ℕ, ◌≤◌}
use mathlib.Core.Path.{◌≡◌, refl, sym, ◌∙◌, ap, ap₂, subst}
use mathlib.Core.List.{List}
use mathlib.Core.Option.{Option, none, some}
use native.Mathlib.Omega.{arith}
use lib.Dec.{T}
use lib.ListN.{length, take, length-take}
use Rattle.higman.specs.Words.{Shape, Word, is_word}
use Rattle.higman.specs.Bases.{all}
use Rattle.higman.specs.Tables.{Table, froms, tos}
use Rattle.higman.specs.Normal.{keep}
use Rattle.higman.specs.Limits.{Bases, fits, is_plan_word, max_pairs, shape_in_range}
use Rattle.higman.specs.Answers as Of
use Rattle.higman.proofs.Tests.{and_left, all_at, all_of}
use Rattle.higman.proofs.KeptPlans.{arity_of_range}
use Rattle.higman.proofs.Statements.{answers_exact}
use Rattle.columns.specs.Packed.{words_of, rows}
use Rattle.columns.proofs.Rearranged.{froms_table, tos_table}
use Rattle.std.specs.Prelude.{Result, Ok, Err, IsErrAnd, MatchResult}
use Rattle.std.specs.Result.{result_and}
use Rattle.operations.specs.declared.Plan.{Plan}
use Rattle.operations.specs.declared.Reason.{Reason}
use Rattle.operations.specs.declared.Fault.{Fault}
use Rattle.operations.specs.declared.Fault.TheVariants.{InFrom, InTo}
use Rattle.operations.specs.Plans.{shape_of, rows_of, packed}
use Rattle.operations.proofs.Exits.{with_error, mapped}
use Rattle.operations.specs.Closing.{fault_of, verdict_of, closed_by, closing, DraftColumns}

-- the fault of a column as that of a plan
abbrev pub in_from : Option Of.Reason → Result (Unit {0}) Fault
in_from f = with_error InFrom (fault_of f)

abbrev pub in_to : Option Of.Reason → Result (Unit {0}) Fault
in_to f = with_error InTo (fault_of f)

verdict_by_faults : (s : Shape) (t : Table)
    → verdict_of (Of.verdict s t) ≡ result_and (in_from (Of.fault s (froms t))) (in_to (Of.fault s (tos t)))
unfolding Of.verdict
verdict_by_faults s t = go (Of.fault s (froms t)) (Of.fault s (tos t))
  where
    go : (f g : Option Of.Reason)
        → verdict_of
        (elim f as (λ _. Of.Verdict) [ some r ↦ Of.InFrom r | none ↦ elim g as (λ _. Of.Verdict) [ some r ↦ Of.InTo r | none ↦ Of.Accepted ] ])
        ≡ result_and (in_from f) (in_to g)
    go (some r) g = refl
    go none (some r) = refl
    go none none = refl

accepted_only : (v : Of.Verdict) → verdict_of v ≡ Ok tt → v ≡ Of.Accepted
accepted_only Of.Accepted e = refl
accepted_only (Of.InFrom r) e = cc
accepted_only (Of.InTo r) e = cc

-- words that a plan may hold are words
pub words_of_plan : (s : Shape) (c : List Word) → T (all (is_plan_word s) c) → T (all (is_word s) c)
unfolding is_plan_word
words_of_plan s c h = all_of (is_word s) c (λ w m. and_left (is_word s w) (fits w) (all_at (is_plan_word s) c h w m))

-- the first n pairs of two columns
module _ (n : ℕ) (from to : List ℕ) (even : length from ≡ length to) where
  pub paired : length (take n from) ≡ length (take n to)
  paired = simp length-take (omega arith)

  pub froms_rows : froms (rows n from to) ≡ words_of (take n from)
  froms_rows = froms_table (take n from) (take n to) paired

  pub tos_rows : tos (rows n from to) ≡ words_of (take n to)
  tos_rows = tos_table (take n from) (take n to) paired

-- a draft
module _ (p : Plan) (d : DraftColumns p) where
  abbrev s : Shape
  s = shape_of p

  abbrev t : Table
  t = rows_of p

  abbrev front : List ℕ → List ℕ
  front column = take p.pairs column

  abbrev pub from_fault : Result (Unit {0}) Fault
  from_fault = in_from (Of.fault s (words_of (front p.from)))

  abbrev pub to_fault : Result (Unit {0}) Fault
  to_fault = in_to (Of.fault s (words_of (front p.to)))

  -- what is asked of a column, by a shape that is the draft's
  module _ {u : Shape} (same : u ≡ s) where
    pub from_asked : (length (front p.from) ≤ max_pairs) × T (shape_in_range u) × T (all (is_word u) (words_of (front p.from)))
    from_asked = rw same (simp length-take (omega (arith, d.few)), d.in_range, words_of_plan s (words_of (front p.from)) d.from_words)

    pub to_asked : (length (front p.to) ≤ max_pairs) × T (shape_in_range u) × T (all (is_word u) (words_of (front p.to)))
    to_asked = rw same (simp length-take (omega (arith, d.few)), d.in_range, words_of_plan s (words_of (front p.to)) d.to_words)

  -- what is wrong with it, told by such a shape, and then by `map_err` as the fault of a plan
  module _ {u : Shape} (same : u ≡ s) {r : Result (Unit {0}) Reason} {q : Result (Unit {0}) Fault} where
    pub found_from : r ≡ fault_of (Of.fault u (words_of (front p.from)))
        → MatchResult r (λ a. q ≡ Ok a) (λ e. IsErrAnd q (λ d. d ≡ InFrom e))
        → q ≡ from_fault
    found_from e m = mapped InFrom r q m ∙ ap (with_error InFrom) (e ∙ ap (λ u. fault_of (Of.fault u (words_of (front p.from)))) same)

    pub found_to : r ≡ fault_of (Of.fault u (words_of (front p.to)))
        → MatchResult r (λ a. q ≡ Ok a) (λ e. IsErrAnd q (λ d. d ≡ InTo e))
        → q ≡ to_fault
    found_to e m = mapped InTo r q m ∙ ap (with_error InTo) (e ∙ ap (λ u. fault_of (Of.fault u (words_of (front p.to)))) same)

  module _ (even : length p.from ≡ length p.to) where
    verdict_by_columns : verdict_of (Of.verdict s t) ≡ result_and from_fault to_fault
    verdict_by_columns =
        verdict_by_faults s t
        ∙ ap₂ (λ c e. result_and (in_from (Of.fault s c)) (in_to (Of.fault s e))) (froms_rows p.pairs p.from p.to even)
        (tos_rows p.pairs p.from p.to even)

    pub judged_from : (f : Fault) → Err f ≡ from_fault → Err f ≡ verdict_of (Of.verdict s t)
    judged_from f e = sym (verdict_by_columns ∙ ap (λ r. result_and r to_fault) (sym e))

    pub judged_to : Ok tt ≡ from_fault → to_fault ≡ verdict_of (Of.verdict s t)
    judged_to e = sym (verdict_by_columns ∙ ap (λ r. result_and r to_fault) (sym e))

    pub closed_from : (f : Fault) → Err f ≡ from_fault → Err f ≡ closing s t
    unfolding closing
    closed_from f e = ap (closed_by s t) (judged_from f e)

    pub closed_to : (f : Fault) → Ok tt ≡ from_fault → Err f ≡ to_fault → Err f ≡ closing s t
    unfolding closing
    closed_to f e g = ap (closed_by s t) (g ∙ judged_to e)

    module _ (e : Ok tt ≡ from_fault) (g : Ok tt ≡ to_fault) where
      pub closed : Ok (packed (record { shape = s; rows = keep s t })) ≡ closing s t
      unfolding closing
      closed = ap (closed_by s t) (g ∙ judged_to e)

      -- an accepted draft has bases for columns
      pub accepted_bases : Bases s t
      accepted_bases =
          (answers_exact.accepted s (arity_of_range s d.in_range) t
          (words_of_plan s (froms t) (subst (λ c. T (all (is_plan_word s) c)) (sym (froms_rows p.pairs p.from p.to even)) d.from_words))
          (words_of_plan s (tos t) (subst (λ c. T (all (is_plan_word s) c)) (sym (tos_rows p.pairs p.from p.to even)) d.to_words))
          ).0
          (accepted_only (Of.verdict s t) (sym (g ∙ judged_to e)))
