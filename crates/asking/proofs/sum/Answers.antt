-- `asking::sum` meets its contract.
use mathlib.Core.Path.{◌≡◌, refl, sym, ◌∙◌, ap}
use mathlib.Core.Bool.{Bool, false, not}
use mathlib.Core.List.{List, []}
use Prim.Native.Nat.{ℕ}
use borrow.Author.Tests.{eq-eqb, ne_eqb}
use Rattle.std.specs.Prelude.{Err, is_some}
use Rattle.higman.specs.Refusals.{station_refused}
use Rattle.desk.specs.Desk.{Desk}
use Rattle.desk.specs.Records.{H, kind}
use Rattle.desk.specs.Replies.{ok_number, Outcome, pass, ◌>>=◌, ◌when◌, Effect, job}
use Rattle.operations.specs.declared.refusals.Refusal.TheVariants as The
use Rattle.slots.specs.declared.Head.{Head}
use Rattle.slots.specs.Desks.{desk_of, allowed_in}
use Rattle.slots.specs.Refused.{refused_for}
use Rattle.slots.proofs.Steps.{admission_open, admission_passed, tells_by, tells_job}
use Rattle.asking.proofs.Answered.{Asks, asks_by, answered}
use Rattle.asking.proofs.sum.Goals as goal

-- the job of H, by whether another station than 0 is named
abbrev told : Desk → Bool → Outcome Effect
told d b = (station_refused when not b) >>= λ _. pass (d, ok_number d.control.pairs)

-- where no plan is open
asks : (h : Head) (columns : List ℕ) → is_some h.draft ≡ false → Asks h columns H
unfolding kind allowed_in
asks h columns o = asks_by h columns H [] refl (admission_passed h [] [] o refl refl refl refl)

pub returns-then-is_some : goal.returns-then-is_some
unfolding kind
returns-then-is_some c = λ columns out.
    let h = c.args.head.now in
    tells_by h columns H out [] [] false refl (refused_for The.WrongState) (admission_open h [] [] (sym c.is_some.ensures ∙ c.if-is_some.true)) _
    (ap Err c.into.ensures)

pub returns-then-head-ne0 : goal.returns-then-head-ne0
unfolding job desk_of ◌>>=◌
returns-then-head-ne0 c = λ columns out.
    let h = c.args.head.now in
    tells_job h columns H out (asks h columns (sym c.is_some.ensures ∙ c.if-is_some.false)).admitted (refused_for The.StationRefused)
    (ap (told (desk_of h columns)) (ne_eqb h.control.station 0 c.if-head-ne0.true)) _ (ap Err c.into-then-head-ne0.ensures)

pub returns : goal.returns
unfolding job desk_of ◌>>=◌
returns c = λ columns out.
    let h = c.args.head.now in
    answered h columns H out (asks h columns (sym c.is_some.ensures ∙ c.if-is_some.false)) (ok_number h.control.pairs)
    (ap (told (desk_of h columns)) (eq-eqb h.control.station 0 c.if-head-ne0.false)) _ refl out refl
