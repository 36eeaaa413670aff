-- `desk_c::serving::perform` meets its contract: each letter has its record.
use Prim.Native.Nat.{ℕ}
use mathlib.Core.Path.{◌≡◌, refl, ap, subst}
use mathlib.Core.List.{List}
use mir.Syntax.{w32}
use mir.Val.{to_z, of_z}
use mir.ValLaws.{to_z-of_z}
use borrow.Author.Rules.{rules}
use borrow.Author.Tests.{tests}
use native.Mathlib.Omega.{arith}
use Rattle.std.specs.Prelude.{Err}
use Rattle.higman.specs.Text.{bytes}
use Rattle.slots.specs.Works.{work_of, Done}
use Rattle.desk.specs.Records.{Record, P, E, F, I, K, S, C, T, X, Z, H}
use Rattle.desk.specs.Replies.{grant_by}
use Rattle.desk_c.proofs.Jobs.{job_meant, job_done, job_told, no_job}
use Rattle.desk_c.proofs.JobLines.{OtherThan, job_record_lem, grant_lettered, not_read, none_other, splits_few}
use Rattle.desk_c.specs.CallsExact.{IsJobOf}
use Rattle.desk_c.proofs.serving.perform.Goals.{in_default-via-in-88+else-job-le-MAX_SPLITS, in_default-via-in_default-1}
use Rattle.desk_c.proofs.serving.perform.Goals as goal

pub returns-in-80-clause-done : goal.returns-in-80-clause-done
returns-in-80-clause-done c =
    let a = c.args in
    let j = a.job in
    job_done j a.head.now a.columns.now _ _ (P j.a j.b j.c) (job_record_lem (P j.a j.b j.c) j (c.in-80.is, refl, refl, refl))
    (λ out. c.«open».ensures.done a.columns.now out c.requires)

pub returns-in-69-clause-done : goal.returns-in-69-clause-done
returns-in-69-clause-done c =
    let a = c.args in
    job_done a.job a.head.now a.columns.now _ _ E (job_record_lem E a.job c.in-69.is) c.close.ensures.done

pub returns-in-70-clause-done : goal.returns-in-70-clause-done
returns-in-70-clause-done c =
    let a = c.args in
    let j = a.job in
    job_done j a.head.now a.columns.now _ _ (F j.a j.b j.c) (job_record_lem (F j.a j.b j.c) j (c.in-70.is, refl, refl, refl)) c.follow.ensures.done

pub returns-in-73-clause-done : goal.returns-in-73-clause-done
returns-in-73-clause-done c =
    let a = c.args in
    let j = a.job in
    job_done j a.head.now a.columns.now _ _ (I j.a j.b) (job_record_lem (I j.a j.b) j (c.in-73.is, refl, refl)) c.invert.ensures.done

pub returns-in-75-clause-done : goal.returns-in-75-clause-done
returns-in-75-clause-done c =
    let a = c.args in
    let j = a.job in
    let same : to_z w32 (of_z w32 j.k) ≡ j.k = to_z-of_z w32 j.k (search (rules, c.struct_told-1.given)) in
    job_done j a.head.now a.columns.now _ _ (K j.a j.k j.b) (job_record_lem (K j.a j.k j.b) j (c.in-75.is, refl, refl, refl))
    (subst (λ k. (out : List ℕ) → Done (K j.a k j.b) a.head.now a.columns.now out (work_of c.power.new.head c.power.result) c.power.new.columns out) same c.power.ensures.done)

pub returns-in-83-clause-done : goal.returns-in-83-clause-done
returns-in-83-clause-done c =
    let a = c.args in
    let j = a.job in
    job_told j a.head.now a.columns.now c.requires _ c.compare.result (S j.a j.b) (job_record_lem (S j.a j.b) j (c.in-83.is, refl, refl)) c.compare.ensures
    refl

pub returns-in-67-clause-done : goal.returns-in-67-clause-done
returns-in-67-clause-done c =
    let a = c.args in
    let j = a.job in
    job_done j a.head.now a.columns.now _ _ (C j.a) (job_record_lem (C j.a) j (c.in-67.is, refl)) c.empty.ensures.done

pub returns-in-84-clause-done : goal.returns-in-84-clause-done
returns-in-84-clause-done c =
    let a = c.args in
    job_told a.job a.head.now a.columns.now c.requires _ c.count.result T (job_record_lem T a.job c.in-84.is) (c.count.ensures a.columns.now)
    refl

pub returns-in-88-clause-done : goal.returns-in-88-clause-done
returns-in-88-clause-done c =
    let a = c.args in
    let j = a.job in
    let r = X j.a j.b j.c j.splits j.seed in
    job_done j a.head.now a.columns.now _ _ r (job_record_lem r j (c.in-88.is, refl, refl, refl, refl, refl, omega arith)) c.exercise.ensures.done

pub returns-in-90-clause-done : goal.returns-in-90-clause-done
returns-in-90-clause-done c =
    let a = c.args in
    let j = a.job in
    job_done j a.head.now a.columns.now _ _ (Z j.a) (job_record_lem (Z j.a) j (c.in-90.is, refl)) (λ out. c.name.ensures.done a.columns.now out c.requires)

pub returns-in-71-clause-done : goal.returns-in-71-clause-done
returns-in-71-clause-done c =
    let a = c.args in
    let j = a.job in
    job_meant j a.head.now a.columns.now _ _ (grant_by j.a j.b j.c) (grant_lettered j c.in-71.is) (λ out. c.grant.ensures.done a.columns.now out c.requires)

pub returns-in-72-clause-done : goal.returns-in-72-clause-done
returns-in-72-clause-done c =
    let a = c.args in
    job_told a.job a.head.now a.columns.now c.requires _ c.sum.result H (job_record_lem H a.job c.in-72.is) (c.sum.ensures a.columns.now)
    refl

-- X with splits of three digits, and another letter
pub returns-in_default-clause-done : goal.returns-in_default-clause-done
returns-in_default-clause-done c =
    let a = c.args in
    let j = a.job in
    let none : (r : Record) → IsJobOf r j → ⊥ = elim c.in_default.branch [
      | in_default-via-in-88+else-job-le-MAX_SPLITS w ↦ λ r k. absurd (omega (arith, splits_few r j k w.in-88.is))
      | in_default-via-in_default-1 w ↦
          let other : OtherThan j.letter (bytes "PEFIKSCTXZGH") = search (rules, tests) in none_other j other
    ] in
    no_job j a.head.now a.columns.now c.requires _ (not_read j none) (ap Err c.into.ensures)
