-- `plandesk::read_all`: what the reader lost was fed to the first state, led to this one and was answered.
use Rattle.std.proofs.Common.{◌≡◌, length, true}
use Rattle.plandesk.specs.Session.{Conversed}
use Rattle.plandesk.proofs.read_all.Given as goal

abbrev pub invariant-loop : goal.invariant-loop
invariant-loop g l =
    Conversed l.initial.state (g.R.Read.remaining l.initial.from) (g.R.Read.remaining l.from) (g.W.Write.contents l.initial.to)
    (g.W.Write.contents l.to) true l.state
    × (length l.input ≡ 65536) × (length l.out ≡ length l.initial.out)
