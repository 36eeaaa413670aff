-- `records::read` meets its contract: by the length of the line, then by its letter.
use Prim.Native.Nat.{◌-◌}
use mathlib.Core.Path.{◌≡◌, ◌∙◌}
use native.Mathlib.Omega.{arith}
use lib.ListN.{length, take, drop, length-drop}
use lib.Seq.{take_all}
use Rattle.records.proofs.Lines.{line_limit, line_read, no_line_read, read_too_long}
use Rattle.records.proofs.read.Goals as goal

pub returns-in-len1-up : goal.returns-in-len1-up
returns-in-len1-up c =
    let line = c.args.line.now in
    let rest : take (length line - 1) (drop 1 line) ≡ drop 1 line =
    take_all (length line - 1) (drop 1 line) (omega (arith, length-drop 1 line)) in
    c.read_fields.ensures ∙ line_read line (take (length line - 1) (drop 1 line)) (omega arith) rest (omega arith)

pub returns-in_default : goal.returns-in_default
returns-in_default c = no_line_read c.args.line.now c.in_default.len_below

pub returns-in_default-2 : goal.returns-in_default-2
returns-in_default-2 c = read_too_long c.args.line.now (omega (arith, line_limit))
