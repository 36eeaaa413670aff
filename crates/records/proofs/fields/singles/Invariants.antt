-- `records::fields::singles` meets its contract. The invariant is `SinglesSoFar`.
use Rattle.records.proofs.fields.SoFar.{SinglesSoFar}
use Rattle.records.proofs.fields.singles.Given as goal

abbrev pub invariant-loop-byte : goal.invariant-loop-byte
invariant-loop-byte g l = SinglesSoFar g.row.N l.fields l.byte-index l.byte-items l.rest
