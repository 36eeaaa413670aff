-- `asking::count` meets its contract.
use mathlib.Core.Path.{refl, ap}
use mathlib.Core.Bool.{false}
use mathlib.Core.List.{[]}
use Rattle.desk.specs.Records.{T, kind}
use Rattle.desk.specs.Replies.{pass, ok_number, job}
use Rattle.desk.specs.Desk.{count_of}
use Rattle.slots.specs.declared.Reply.TheVariants.{Number}
use Rattle.slots.specs.Desks.{desk_of}
use Rattle.slots.proofs.Held.{control_held}
use Rattle.slots.proofs.Steps.{returned, tells_by}
use Rattle.asking.proofs.Answered.{asks_by, answered}
use Rattle.asking.proofs.count.Goals as goal

pub returns-in_err-admission : goal.returns-in_err-admission
unfolding kind
returns-in_err-admission c = λ columns out.
    tells_by c.args.head.now columns T out [] [] false refl _ c.in_err-admission.ensures _ (returned _ _ c.from_residual.ensures.1)

pub count-requires : goal.count-requires
count-requires c = control_held c.args.head.now c.requires.0 c.requires.1

pub returns : goal.returns
unfolding kind job desk_of
returns c = λ columns out.
    let h = c.args.head.now in
    answered h columns T out (asks_by h columns T [] refl c.in_ok-admission.ensures)
    (ok_number (count_of (desk_of h columns))) refl _ (ap (λ n. pass (Number n)) c.count.ensures) out refl
