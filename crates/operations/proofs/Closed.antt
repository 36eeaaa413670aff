-- What is kept of a draft that passes both checks: its pairs, which are sorted by then, may be reduced.
use Prim.Native.Nat.{ℕ}
use mathlib.Core.Path.{◌≡◌, ◌∙◌, ap}
use mathlib.Core.List.{List}
use native.Mathlib.Omega.{arith}
use lib.ListN.{length, take, length-take}
use Rattle.std.specs.Prelude.{Ok}
use Rattle.higman.specs.Words.{Shape}
use Rattle.higman.specs.Limits.{Bases}
use Rattle.higman.specs.Normal.{keep}
use Rattle.columns.specs.Packed.{table}
use Rattle.columns.specs.Sorts.{SortedPairs}
use Rattle.operations.specs.declared.Plan.{Plan}
use Rattle.operations.specs.Plans.{shape_of, rows_of, packed}
use Rattle.operations.specs.Keeping.{ReducibleColumns}
use Rattle.operations.specs.Closing.{closing, DraftColumns}
use Rattle.operations.proofs.Verdicts.{from_fault, to_fault, closed, accepted_bases}
use Rattle.operations.proofs.Reordered.{draft_reducible, draft_plan}

module _ (p : Plan) (d : DraftColumns p) (even : length p.from ≡ length p.to) (e : Ok tt ≡ from_fault p d) (g : Ok tt ≡ to_fault p d) where
  bases : Bases (shape_of p) (rows_of p)
  bases = accepted_bases p d even e g

  paired : length (take p.pairs p.from) ≡ length (take p.pairs p.to)
  paired = simp length-take (omega arith)

  -- told by a shape that is the draft's
  module _ {ks vs : List ℕ} (sorts : SortedPairs (take p.pairs p.from) (take p.pairs p.to) ks vs) {u : Shape} (same : u ≡ shape_of p) where
    pub closed_reducible : ReducibleColumns u ks vs
    closed_reducible = rw same (draft_reducible p d.few d.in_range bases paired sorts)

    pub closed_plan : {q : Plan} → q ≡ packed (record { shape = u; rows = keep u (table ks vs) }) → Ok q ≡ closing (shape_of p) (rows_of p)
    closed_plan h = ap Ok (draft_plan p d.few d.in_range bases paired sorts same h) ∙ closed p d even e g
