-- `records::fields::first` meets its contract: the first field ends at the first tab, or with the line.
use lib.ListN.{take, drop, get_or, length-drop}
use lib.Seq.{take_all}
use native.Mathlib.Omega.{arith}
use Rattle.std.proofs.Common.{rules, ◌-◌, ◌≢◌, ◌≡◌, length, sym, ◌∙◌, refl}
use Rattle.std.proofs.lemmas.Iterator.{YieldsList-from_slice, IsFirst-from_position, index_from_first}
use borrow.Author.Tests.{tests}
use Rattle.higman.specs.Text.{tab}
use Rattle.records.specs.Fields.{first_field}
use Rattle.records.proofs.fields.Behind.{first_split, first_at_tab, first_goes_on}
use Rattle.records.proofs.fields.first.Goals as goal

pub returns-clause-read : goal.returns-clause-read
returns-clause-read c =
    let line = c.args.fields.now in
    let rest = take (length line - 1) (drop 1 line) in
    let cases = IsFirst-from_position _ _ _ (λ x. x ≡ tab) (λ x. x ≢ tab) c.position.ensures.ran (YieldsList-from_slice rest cc)
    (λ x q k. search (rules, tests)) (λ x q k. search (rules, tests)) in
    let ends = index_from_first (λ l. length (first_field l)) (λ x. x ≡ tab)
    (λ x. x ≢ tab) refl first_at_tab first_goes_on rest c.position.result cases in
    let all : rest ≡ drop 1 line = take_all (length line - 1) (drop 1 line) (omega (arith, length-drop 1 line)) in
    let starts : get_or line 0 0 ≡ tab = omega arith in
    first_split line rest c.unwrap_or-end.result (omega arith) starts all (c.unwrap_or-end.ensures ∙ sym ends) ∙ cc
