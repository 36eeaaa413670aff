-- `plandesk::read_piece`: as long as every try fails the reader has left what it had, and the buffer keeps its length.
use Rattle.std.proofs.Common.{◌≡◌, length}
use Rattle.std.specs.Io.KnownBytes.{Keeps}
use Rattle.plandesk.proofs.read_piece.Given as goal

abbrev pub invariant-loop : goal.invariant-loop
invariant-loop g l =
    (length l.input ≡ length l.initial.input) × Keeps (g.R.Read.remaining l.initial.from) (g.R.Read.remaining l.from)
