-- `tables::routing::unmatched` meets its contract: the place found gives the digits that are matched, and none are where there is none.
use mathlib.Core.Path.{refl, sym, ◌∙◌, ap}
use native.Mathlib.Numerals.{add-one}
use Rattle.std.specs.Prelude.{Some}
use lib.ListN.{drop}
use Rattle.higman.specs.Text.{word_of}
use Rattle.columns.specs.Columns.{word_at}
use Rattle.columns.proofs.Search.{first_of_begun, first_of_unbegun}
use Rattle.tables.specs.Routing.{further, at_place}
use Rattle.tables.proofs.Routes.{here, matched_digits_lem, matched_place_lem, matched_none, matched_nowhere, begins_within}
use Rattle.tables.proofs.routing.unmatched.Goals as goal

pub behind-requires : goal.behind-requires
behind-requires c =
    let a = c.args in
    let (first, within) = first_of_begun a.from.now (word_of a.code.now) c.in-Some.k (sym c.in-Some.ensures) in
    begins_within (word_at a.from.now c.in-Some.k) a.code.now (first.found within)

pub returns-in-Some : goal.returns-in-Some
returns-in-Some c =
    let a = c.args in
    let w = word_of a.code.now in
    let k = c.in-Some.k in
    let (first, within) = first_of_begun a.from.now w k (sym c.in-Some.ensures) in
    let found = sym (matched_digits_lem a.from.now w k first within) in
    record {
      tail = c.behind.ensures.result_value ∙ ap (λ n. drop n a.code.now) found;
      tail_ref_ptr = c.behind.ensures.ref_ptr_value ∙ ap (λ n. further n a.code.ref_ptr) found;
      place = ap Some (add-one k) ∙ sym (ap at_place (matched_place_lem a.from.now w k first within ∙ add-one k));
    }

pub returns-in-None : goal.returns-in-None
returns-in-None c =
    let a = c.args in
    let w = word_of a.code.now in
    let first = first_of_unbegun a.from.now w (sym c.in-None.ensures) in
    let none = sym (matched_none a.from.now w _ first refl) in
    record {
      tail = ap (λ n. drop n a.code.now) none;
      tail_ref_ptr = here a.code.ref_ptr ∙ ap (λ n. further n a.code.ref_ptr) none;
      place = ap at_place (sym (matched_nowhere a.from.now w _ first refl));
    }
