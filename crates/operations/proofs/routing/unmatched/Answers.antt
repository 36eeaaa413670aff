-- `operations::routing::unmatched` meets its contract: the whole code where 4 applies, and otherwise what the search in the from-words
-- leaves.
use Rattle.std.proofs.Common.{◌≡◌, true, sym, ◌∙◌, ap, subst, drop}
use Rattle.higman.specs.Limits.{is_code}
use Rattle.higman.specs.Text.{word_of}
use Rattle.columns.specs.Packed.{words_of}
use Rattle.tables.specs.Routing.{Searchable, further, at_place}
use Rattle.words.specs.Bytes.{shape_of}
use Rattle.operations.specs.Routing.{matched_in}
use Rattle.operations.proofs.Codes.{matched_no_code, matched_code, place_no_code, place_code, whole_code, code_digits, searchable}
use Rattle.operations.proofs.routing.unmatched.Goals as goal

pub returns-then-not-is_code : goal.returns-then-not-is_code
returns-then-not-is_code c =
    let s = shape_of c.args.shape in
    let from = words_of c.args.from.now in
    let refused = sym c.is_code.ensures ∙ c.if-not-is_code.true in
    let none = matched_no_code s from c.args.code.now refused in
    let whole = whole_code (matched_in s from c.args.code.now) c.args.code.now c.args.code.ref_ptr none in
    record { tail = whole.0; tail_ref_ptr = whole.1; place = sym (ap at_place (place_no_code s from c.args.code.now refused)) }

pub unmatched-requires : goal.unmatched-requires
unmatched-requires c =
    let (plan, same_shape, same_from) = c.requires in
    let code = subst (λ s. is_code (shape_of s) (word_of c.args.code.now) ≡ true) (sym same_shape) (sym c.is_code.ensures ∙ c.if-not-is_code.false) in
    record { searchable = subst Searchable same_from (searchable plan c.args.code.now); code = code_digits plan c.args.code.now code }

pub returns : goal.returns
returns c =
    let s = shape_of c.args.shape in
    let from = words_of c.args.from.now in
    let code = sym c.is_code.ensures ∙ c.if-not-is_code.false in
    let found = matched_code s from c.args.code.now code in
    record {
      tail = c.unmatched.ensures.tail ∙ ap (λ n. drop n c.args.code.now) found;
      tail_ref_ptr = c.unmatched.ensures.tail_ref_ptr ∙ ap (λ n. further n c.args.code.ref_ptr) found;
      place = c.unmatched.ensures.place ∙ ap at_place (place_code s from c.args.code.now code);
    }
