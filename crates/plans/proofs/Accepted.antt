-- What an accepted draft is, what is kept of it, and when a value is a kept plan: exactly when it is accepted, reduced and in order.
use Prim.Native.Nat.{◌≤◌}
use mathlib.Core.Path.{◌≡◌, refl, sym, ◌∙◌, ap}
use mathlib.Core.Logic.{◌↔◌, ◌⊎◌, inl, inr}
use mathlib.Core.Bool.{Bool, true, false, ◌&&◌}
use lib.Dec.{T}
use Rattle.std.proofs.Common.{Result, Ok, Err}
use Rattle.std.specs.Result.{is_ok}
use Rattle.higman.specs.Words.{Shape}
use Rattle.higman.specs.Tables.{Table, froms, same_table}
use Rattle.higman.specs.Normal.{keep, Reduced, ordered}
use Rattle.higman.specs.Limits.{Bases, Kept, max_pairs, shape_in_range}
use Rattle.higman.specs.Answers as Of
use Rattle.higman.proofs.Tests.{passes, so, T_of, clash, same_test, and_left, and_right, and_intro}
use Rattle.higman.proofs.KeptPlans.{arity_of_range}
use Rattle.higman.proofs.Statements.{table_of, answers_exact}
use Rattle.operations.specs.declared.Plan.{Plan}
use Rattle.operations.specs.declared.Fault.{Fault}
use Rattle.plans.specs.declared.Rejection.{Rejection}
use Rattle.plans.specs.declared.Rejection.TheVariants.{NotADraft, Faulty}
use Rattle.tables.specs.Joining.{is_normal}
use Rattle.tables.proofs.Joining.{normal_exactly}
use Rattle.operations.specs.Plans.{shape_of, rows_of, plan_of, in_table, is_draft, is_plan}
use Rattle.operations.specs.Closing.{verdict_of, closed_by, closing}
use Rattle.plans.specs.Answers.{judgement_by, judgement_of, judged, kept_of, keeping, verdict_in}
use Rattle.operations.proofs.Values.{few_in_table}
use Rattle.operations.proofs.KeptValues.{kept_plan}
use Rattle.plans.proofs.DraftChecks.{judged_draft}

-- an accepted draft
pub record Approved (p : Plan) : Type 0 where
  pub within : T (in_table p)
  pub few : p.pairs ≤ max_pairs
  pub draft : T (Of.is_table_of (shape_of p) (rows_of p))
  pub in_range : T (shape_in_range (shape_of p))
  pub verdict : Of.verdict (shape_of p) (rows_of p) ≡ Of.Accepted
  pub bases : Bases (shape_of p) (rows_of p)

rejected : {r : Rejection} → ◌≡◌ {A = Result (Unit {0}) Rejection} (Err r) (Ok tt) → ⊥
rejected e = cc

accepted_cases : (b : Bool) (v : Of.Verdict)
    → elim b as (λ _. Result (Unit {0}) Rejection) [ true ↦ judgement_of v | false ↦ Err NotADraft ] ≡ Ok tt
    → (b ≡ true) × (v ≡ Of.Accepted)
accepted_cases false v e = absurd (rejected e)
accepted_cases true Of.Accepted e = (refl, refl)
accepted_cases true (Of.InFrom r) e = absurd (rejected e)
accepted_cases true (Of.InTo r) e = absurd (rejected e)

module _ (p : Plan) where
  abbrev s : Shape
  s = shape_of p

  abbrev t : Table
  t = rows_of p

  pub approved : judged p ≡ Ok tt → Approved p
  unfolding judged is_draft
  approved e =
      let (d, v) = accepted_cases (is_draft p) (Of.verdict s t) e in
      let draft = and_right (in_table p) (Of.is_table_of s t) (T_of d) in
      let words = table_of s t draft in
      let within = and_left (in_table p) (Of.is_table_of s t) (T_of d) in
      record {
        within = within;
        few = few_in_table p within;
        draft = draft;
        in_range = words.in_range;
        verdict = v;
        bases = (answers_exact.accepted s (arity_of_range s words.in_range) t words.from_words words.to_words).0 v;
      }

  judged_approved : T (in_table p) → T (Of.is_table_of s t) → Of.verdict s t ≡ Of.Accepted → judged p ≡ Ok tt
  unfolding judged is_draft
  judged_approved w d v = rw (so (is_draft p) (and_intro (in_table p) (Of.is_table_of s t) w d), v, judged)

-- what keeping answers, by the judgement
pub keeping_by : (p : Plan) (j : Result (Unit {0}) Rejection) → j ≡ judged p → kept_of p j ≡ keeping p
unfolding keeping
keeping_by p j e = ap (kept_of p) e

-- what is closed of a draft is kept of it
abbrev told : Result Plan Fault → Result Plan Rejection
told (Ok q) = Ok q
told (Err f) = Err (Faulty f)

told_by : (p : Plan) (v : Result (Unit {0}) Fault) → told (closed_by (shape_of p) (rows_of p) v) ≡ kept_of p (judgement_by v)
told_by p (Ok x) = refl
told_by p (Err f) = refl

pub keeping_closed : (p : Plan) (c : Result Plan Fault) → is_draft p ≡ true → c ≡ closing (shape_of p) (rows_of p) → told c ≡ keeping p
unfolding closing
keeping_closed p c d e =
    let v = verdict_of (Of.verdict (shape_of p) (rows_of p)) in
    ap told e ∙ told_by p v ∙ keeping_by p (judgement_by v) (sym (judged_draft p d))

-- what is not accepted is not kept
pub none_kept : (p : Plan) (j : Result (Unit {0}) Rejection) → (j ≡ Ok tt → ⊥) → (r : Rejection) × (kept_of p j ≡ Err r)
none_kept p (Ok x) h = absurd (h refl)
none_kept p (Err r) h = (r, refl)

-- and what is kept or not tells the verdict
pub verdict_told : (p : Plan) (j : Result (Unit {0}) Rejection) → verdict_in (kept_of p j) ≡ j
verdict_told p (Ok x) = refl
verdict_told p (Err r) = refl

judged_plan : (p : Plan) → T (is_plan p) → judged p ≡ Ok tt
unfolding is_plan Rattle.higman.specs.Answers.is_kept
judged_plan p h =
    let s = shape_of p in
    let t = rows_of p in
    let (w, k) = kept_plan p h in
    let d = Of.is_table_of s t in
    let v = Of.accepts (Of.verdict s t) in
    let draft = and_left d v (and_left (d && v) (same_table (keep s t) t) (and_right (in_table p) (Of.is_kept (plan_of p)) h)) in
    let words = table_of s t draft in
    judged_approved p w draft ((answers_exact.accepted s (arity_of_range s words.in_range) t words.from_words words.to_words).1 k.bases)

-- a value that is not accepted is no plan
pub no_plan_lem : (p : Plan) → (judged p ≡ Ok tt → ⊥) → is_plan p ≡ false
no_plan_lem p h = go (passes (is_plan p))
  where
    go : (is_plan p ≡ true) ⊎ (is_plan p ≡ false) → is_plan p ≡ false
    go (inl e) = absurd (h (judged_plan p (T_of e)))
    go (inr e) = e

-- an accepted value is a plan exactly when it is reduced and its from-words are in order
pub plan_normal : (p : Plan) → judged p ≡ Ok tt → is_normal p.arity (rows_of p) ≡ is_plan p
unfolding is_plan
plan_normal p e = same_test (is_normal p.arity (rows_of p)) (is_plan p) to from
  where
    a : Approved p
    a = approved p e

    normal : T (is_normal p.arity (rows_of p)) ↔ (Reduced p.arity (rows_of p) × (ordered (froms (rows_of p)) ≡ true))
    normal = normal_exactly p.arity (rows_of p) (arity_of_range (shape_of p) a.in_range)

    to : T (is_normal p.arity (rows_of p)) → T (is_plan p)
    to h =
        let (reduced, in_order) = normal.0 h in
        let kept : Kept (plan_of p) = record {
          in_range = a.in_range;
          within = (table_of (shape_of p) (rows_of p) a.draft).within;
          bases = a.bases;
          reduced = reduced;
          in_order = in_order;
        } in
        and_intro (in_table p) (Of.is_kept (plan_of p)) a.within ((answers_exact.kept_test (plan_of p)).1 kept)

    from : T (is_plan p) → T (is_normal p.arity (rows_of p))
    from h = let k = (kept_plan p h).1 in normal.1 (k.reduced, k.in_order)

-- by what the verdict answers
ok_unit : (r : Result (Unit {0}) Rejection) → true ≡ is_ok r → r ≡ Ok tt
ok_unit (Ok x) e = refl
ok_unit (Err r) e = absurd (clash (sym e) refl)

module _ (p : Plan) (r : Result (Unit {0}) Rejection) (is : r ≡ judged p) where
  pub accepted_value : true ≡ is_ok r → judged p ≡ Ok tt
  accepted_value e = sym is ∙ ok_unit r e

  pub rejected_value : false ≡ is_ok r → false ≡ is_plan p
  rejected_value e = sym (no_plan_lem p (λ f. clash (ap is_ok (is ∙ f)) (sym e)))
