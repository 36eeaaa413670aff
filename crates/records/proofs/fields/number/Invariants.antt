-- `records::fields::number` meets its contract. The invariant: n is what the digits so far spell, and the others are still to be looked at.
use Rattle.records.proofs.fields.Numbers.{Spelling}
use Rattle.records.proofs.fields.number.Given as goal

abbrev pub invariant-loop-b : goal.invariant-loop-b
invariant-loop-b l = Spelling l.field l.n l.b-index
