-- `plans::kept::holds_plan` meets its contract: a plan is an accepted value that is reduced and in order. The parts that are lent are the
-- pairs of the value, whose columns have as many places as a table has pairs.
use mathlib.Core.Path.{◌≡◌, sym, ◌∙◌, subst}
use mathlib.Core.Bool.{false}
use Rattle.std.proofs.Common.{Ok}
use native.Mathlib.Omega.{arith}
use lib.ListN.{take}
use lib.Seq.{length-take-le}
use Rattle.higman.specs.Bases.{overlap}
use Rattle.higman.specs.Tables.{froms}
use Rattle.higman.proofs.Columns.{column_is_basis}
use Rattle.higman.proofs.KeptPlans.{arity_of_range, in_range}
use Rattle.columns.proofs.Limits.{pair_limit}
use Rattle.columns.proofs.Rearranged.{froms_table}
use Rattle.operations.specs.Plans.{shape_of, rows_of}
use Rattle.plans.specs.Answers.{judged}
use Rattle.plans.proofs.Accepted.{approved, plan_normal, accepted_value, rejected_value}
use Rattle.plans.proofs.kept.holds_plan.Goals.{Then-is_ok}
use Rattle.plans.proofs.kept.holds_plan.Goals as goal

accepted : (c : Then-is_ok) → judged c.args.p.now ≡ Ok tt
accepted c = accepted_value c.args.p.now c.judge.result c.judge.ensures c.if-is_ok.ensures.value

pub shared_ref_as_front-is_normal : goal.shared_ref_as_front-is_normal
shared_ref_as_front-is_normal c =
    let a = approved c.args.p.now (accepted (goal.at.shared_ref_as_front-is_normal c).Then-is_ok) in omega (arith, pair_limit)

pub is_normal-requires : goal.is_normal-requires
is_normal-requires c =
    let p = c.args.p.now in
    let a = approved p (accepted (goal.at.is_normal-requires c).Then-is_ok) in
    let arity = arity_of_range (shape_of p) a.in_range in
    let from = length-take-le p.pairs p.from (omega (arith, pair_limit)) in
    let to = length-take-le p.pairs p.to (omega (arith, pair_limit)) in
    let paired = from ∙ sym to in (
      arity,
      (in_range (shape_of p) a.in_range).arity_high,
      paired,
      subst (λ w. overlap w ≡ false) (froms_table (take p.pairs p.from) (take p.pairs p.to) paired)
          ((column_is_basis (shape_of p) arity (froms (rows_of p))).0 a.bases.from_basis).apart,
    )

pub returns-then-is_ok : goal.returns-then-is_ok
returns-then-is_ok c = c.is_normal.ensures ∙ plan_normal c.args.p.now (accepted (goal.at.returns-then-is_ok c).Then-is_ok)

pub returns-else-is_ok : goal.returns-else-is_ok
returns-else-is_ok c = c.if-is_ok.false ∙ rejected_value c.args.p.now c.judge.result c.judge.ensures c.if-is_ok.ensures.value
