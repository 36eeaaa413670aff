-- `tables::list::open_line` meets its contract: the letter, the three fields and the line end are one run.
use Prim.Native.Nat.{ℕ}
use mathlib.Core.Path.{◌≡◌, subst}
use mathlib.Core.List.{List, [], ◌∷◌}
use native.Mathlib.Omega.{arith}
use Rattle.higman.specs.Text.{tab}
use Rattle.words.specs.Writing.{Wrote}
use Rattle.words.proofs.Runs.{wrote_then}
use Rattle.tables.proofs.list.open_line.Goals as goal

-- a field of a byte that is known
field_of : {b d : ℕ} {l l' : List ℕ} {at e : ℕ} → b ≡ d → Wrote (tab ∷ b ∷ []) l at l' e → Wrote (tab ∷ d ∷ []) l at l' e
field_of {l = l} {l' = l'} {at = at} {e = e} q w = subst (λ x. Wrote (tab ∷ x ∷ []) l at l' e) q w

pub returns : goal.returns
returns c =
    wrote_then
    (omega arith)
    c.put-slot_at.ensures
    (wrote_then
    (omega arith)
    c.put_field-arity_at.ensures
    (wrote_then
    (omega arith)
    (field_of c.byte-n.ensures c.put_field-roots_at.ensures)
    (wrote_then (omega arith) (field_of c.byte-r.ensures c.put_field-end_at.ensures) c.put.ensures)))
