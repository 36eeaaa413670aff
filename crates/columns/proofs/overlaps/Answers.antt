-- `columns::overlaps` meets its contract: in a sorted column a word that begins another begins its right neighbour.
use Rattle.std.proofs.Common.{◌≡◌, ◌∙◌, ap, rules, arith}
use mathlib.Core.Path.{subst₂}
use Rattle.std.specs.Slice.Iter.{windows_rest, windows_size}
use Rattle.columns.proofs.Neighbours.{Windows, told_by_windows, overlap_by_neighbours}
use Rattle.columns.proofs.overlaps.Goals as goal

pub returns : goal.returns
returns c =
    let column = c.args.column.now in
    let (p, from, told) = c.any.ensures.runs in
    let size : windows_size p.from ≡ 2 = ap windows_size from ∙ c.windows.ensures.size in
    let rest : windows_rest p.from ≡ column = ap windows_rest from ∙ c.windows.ensures.rest in
    let run = c.windows.ensures.runs p p.seen (omega (arith, size)) in
    let read = subst₂ (λ n xs. Windows n xs p.len p.whole p.at) size rest (run.1, run.2, run.3) in
    overlap_by_neighbours column c.any.result c.requires
    (told_by_windows column p.len p.whole p.at read _ (λ a r f' k. search rules) _ _ (λ x k. search rules) (λ x k. search rules) c.any.result told)
