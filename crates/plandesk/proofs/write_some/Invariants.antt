-- `plandesk::write_some`: as long as no try takes a byte the writer holds what it held.
use Rattle.std.specs.Io.KnownBytes.{Keeps}
use Rattle.plandesk.proofs.write_some.Given as goal

abbrev pub invariant-loop : goal.invariant-loop
invariant-loop g l = Keeps (g.W.Write.contents l.initial.to) (g.W.Write.contents l.to)
