-- `lines::write_reply` meets its contract, by the form of the reply.
use mathlib.Core.Path.{sym, ◌∙◌, ap}
use native.Mathlib.Omega.{arith}
use Rattle.desk.specs.Replies.{pass}
use Rattle.replies.proofs.Sizes.{rooms, ok_number_size}
use Rattle.lines.proofs.Settled.{wrote_silent, wrote_standing, wrote_ok, wrote_number}
use Rattle.lines.proofs.write_reply.Goals as goal

pub ok-requires : goal.ok-requires
ok-requires c = omega (arith, rooms.ok, c.requires)

pub ok_number-requires : goal.ok_number-requires
ok_number-requires c =
    let small = ok_number_size c.in-Number.k (omega arith) in
    omega (arith, rooms.ok_number_fact, c.requires)

pub returns-in-Silent : goal.returns-in-Silent
returns-in-Silent c = λ q out₀ t o. wrote_silent q out₀ c.args.out.now o (ap pass (sym c.in-Silent.is) ∙ t)

pub returns-in-Ok : goal.returns-in-Ok
returns-in-Ok c = λ q out₀ t o. wrote_ok q out₀ c.args.out.now o _ _ (ap pass (sym c.in-Ok.is) ∙ t) c.ok.ensures

pub returns-in-Number : goal.returns-in-Number
returns-in-Number c = λ q out₀ t o.
    wrote_number q out₀ c.args.out.now o _ _ c.in-Number.k (ap pass (sym c.in-Number.is) ∙ t) c.ok_number.ensures

pub returns-in-Written : goal.returns-in-Written
returns-in-Written c = λ q out₀ t o. wrote_standing q out₀ c.args.out.now o _ (ap pass (sym c.in-Written.is) ∙ t)
