-- `lines::perform` meets its contract: each record goes to its work, with the parts of the line that it names.
use Prim.Native.Nat.{◌^◌, ◌<◌}
use mathlib.Core.Path.{refl, subst}
use lib.IntN.{nat_abs}
use mir.Syntax.{w32}
use Rattle.desk.specs.Limits.{max_numeral}
use Rattle.desk.specs.Records.{K}
use Rattle.records.specs.Reading.{InBounds}
use Rattle.operations.proofs.Signs.{read_is}
use Rattle.slots.specs.Works.{work_of, Done}
use Rattle.lines.proofs.Performed.{line_meant, line_done, line_told, small_fits}
use Rattle.lines.proofs.perform.Goals as goal

pub returns-in-Open-clause-done : goal.returns-in-Open-clause-done
returns-in-Open-clause-done c =
    let a = c.args in
    line_done a.head.now a.columns.now a.line.now a.«record» a.out.now _ _ _ _ _ c.in-Open.is refl
    (c.open.ensures.done a.columns.now a.out.now c.requires.asked.holds)

pub returns-in-Pair-clause-done : goal.returns-in-Pair-clause-done
returns-in-Pair-clause-done c =
    let a = c.args in
    line_done a.head.now a.columns.now a.line.now a.«record» a.out.now _ _ _ _ _ c.in-Pair.is refl
    (c.pair.ensures.done a.out.now)

pub returns-in-Close-clause-done : goal.returns-in-Close-clause-done
returns-in-Close-clause-done c =
    let a = c.args in
    line_done a.head.now a.columns.now a.line.now a.«record» a.out.now _ _ _ _ _ c.in-Close.is refl
    (c.close.ensures.done a.out.now)

pub returns-in-Follow-clause-done : goal.returns-in-Follow-clause-done
returns-in-Follow-clause-done c =
    let a = c.args in
    line_done a.head.now a.columns.now a.line.now a.«record» a.out.now _ _ _ _ _ c.in-Follow.is refl
    (c.follow.ensures.done a.out.now)

pub returns-in-Invert-clause-done : goal.returns-in-Invert-clause-done
returns-in-Invert-clause-done c =
    let a = c.args in
    line_done a.head.now a.columns.now a.line.now a.«record» a.out.now _ _ _ _ _ c.in-Invert.is refl
    (c.invert.ensures.done a.out.now)

-- the power fits into 32 bits, so that the work reads it back as it is
pub returns-in-Power-clause-done : goal.returns-in-Power-clause-done
unfolding max_numeral
returns-in-Power-clause-done c =
    let a = c.args in
    let k = c.in-Power.k in
    let small : nat_abs k < 10 ^ max_numeral = subst (InBounds a.line.now) c.in-Power.is c.requires.bounds in
    line_done a.head.now a.columns.now a.line.now a.«record» a.out.now _ _ _ _ _ c.in-Power.is refl
    (subst (λ k. Done (K c.in-Power.a k c.in-Power.c) a.head.now a.columns.now a.out.now (work_of c.power.new.head c.power.result) c.power.new.columns a.out.now)
    (read_is w32 k (small_fits k small)) (c.power.ensures.done a.out.now))

pub returns-in-Same-clause-done : goal.returns-in-Same-clause-done
returns-in-Same-clause-done c =
    let a = c.args in
    line_told a.head.now a.columns.now c.requires.asked.holds a.line.now a.«record» a.out.now _ _ _ refl _ _
    c.in-Same.is refl
    (c.compare.ensures a.out.now)

pub returns-in-Route-clause-done : goal.returns-in-Route-clause-done
returns-in-Route-clause-done c =
    let a = c.args in
    line_told a.head.now a.columns.now c.requires.asked.holds a.line.now a.«record» a.out.now _ _ _ refl _ _
    c.in-Route.is refl
    c.route.ensures

pub returns-in-List-clause-done : goal.returns-in-List-clause-done
returns-in-List-clause-done c =
    let a = c.args in
    line_told a.head.now a.columns.now c.requires.asked.holds a.line.now a.«record» a.out.now _ _ _ refl _ _
    c.in-List.is refl
    c.list.ensures

pub returns-in-Empty-clause-done : goal.returns-in-Empty-clause-done
returns-in-Empty-clause-done c =
    let a = c.args in
    line_done a.head.now a.columns.now a.line.now a.«record» a.out.now _ _ _ _ _ c.in-Empty.is refl
    (c.empty.ensures.done a.out.now)

pub returns-in-Count-clause-done : goal.returns-in-Count-clause-done
returns-in-Count-clause-done c =
    let a = c.args in
    line_told a.head.now a.columns.now c.requires.asked.holds a.line.now a.«record» a.out.now _ _ _ refl _ _
    c.in-Count.is refl
    (c.count.ensures a.columns.now a.out.now)

pub returns-in-Survey-clause-done : goal.returns-in-Survey-clause-done
returns-in-Survey-clause-done c =
    let a = c.args in
    line_told a.head.now a.columns.now c.requires.asked.holds a.line.now a.«record» a.out.now _ _ _ refl _ _
    c.in-Survey.is refl
    (c.survey.ensures a.columns.now c.requires.asked.holds)

pub returns-in-Exercise-clause-done : goal.returns-in-Exercise-clause-done
returns-in-Exercise-clause-done c =
    let a = c.args in
    line_done a.head.now a.columns.now a.line.now a.«record» a.out.now _ _ _ _ _ c.in-Exercise.is refl
    (c.exercise.ensures.done a.out.now)

pub returns-in-Station-clause-done : goal.returns-in-Station-clause-done
returns-in-Station-clause-done c =
    let a = c.args in
    line_done a.head.now a.columns.now a.line.now a.«record» a.out.now _ _ _ _ _ c.in-Station.is refl
    (c.name.ensures.done a.columns.now a.out.now c.requires.asked.holds)

pub returns-in-Grant-clause-done : goal.returns-in-Grant-clause-done
returns-in-Grant-clause-done c =
    let a = c.args in
    line_meant a.head.now a.columns.now a.line.now a.«record» a.out.now _ _ _ _ _ c.in-Grant.is refl
    (c.grant.ensures.done a.columns.now a.out.now c.requires.asked.holds)

pub returns-in-Sum-clause-done : goal.returns-in-Sum-clause-done
returns-in-Sum-clause-done c =
    let a = c.args in
    line_told a.head.now a.columns.now c.requires.asked.holds a.line.now a.«record» a.out.now _ _ _ refl _ _
    c.in-Sum.is refl
    (c.sum.ensures a.columns.now a.out.now)
