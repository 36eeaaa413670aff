-- `operations::routing::route` meets its contract: 4 leaves the buffer as it came, and otherwise the reply and the buffer are those of
-- what was found in the columns.
use Rattle.std.proofs.Common.{Err, sym, ◌∙◌, ap}
use Rattle.operations.proofs.KeptValues.{lent_operand}
use Rattle.operations.proofs.Codes.{route_no_code, code_digits, route_found, replied}
use Rattle.operations.proofs.routing.route.Goals as goal

pub returns-then-not-is_code : goal.returns-then-not-is_code
returns-then-not-is_code c =
    let (value, out_after) = route_no_code c.args.plan c.args.code.now c.args.out.now (sym c.is_code.ensures ∙ c.if-not-is_code.true) in
    record { value = value; out_after = out_after }

pub route_into-requires : goal.route_into-requires
route_into-requires c =
    record {
      operand = lent_operand c.args.plan;
      code = code_digits c.args.plan c.args.code.now (sym c.is_code.ensures ∙ c.if-not-is_code.false);
    }

pub returns-in-Ok : goal.returns-in-Ok
returns-in-Ok c =
    let f = route_found c.args.plan c.args.code.now (sym c.is_code.ensures ∙ c.if-not-is_code.false) c.args.out.now c.route_into.result
    c.route_into.new.out c.route_into.ensures.value c.route_into.ensures.out_after in
    record { value = ap replied (sym c.in-Ok.is) ∙ f.0; out_after = f.1 }

pub returns-in-Err-TooShort : goal.returns-in-Err-TooShort
returns-in-Err-TooShort c =
    let f = route_found c.args.plan c.args.code.now (sym c.is_code.ensures ∙ c.if-not-is_code.false) c.args.out.now c.route_into.result
    c.route_into.new.out c.route_into.ensures.value c.route_into.ensures.out_after in
    record {
      value = ap (λ e. replied (Err e)) (sym c.in-Err-TooShort.field-0-is) ∙ ap replied (sym c.in-Err-TooShort.is) ∙ f.0;
      out_after = f.1;
    }

pub returns-in-Err-NoRoom : goal.returns-in-Err-NoRoom
returns-in-Err-NoRoom c =
    let f = route_found c.args.plan c.args.code.now (sym c.is_code.ensures ∙ c.if-not-is_code.false) c.args.out.now c.route_into.result
    c.route_into.new.out c.route_into.ensures.value c.route_into.ensures.out_after in
    record {
      value = ap (λ e. replied (Err e)) (sym c.in-Err-NoRoom.field-0-is) ∙ ap replied (sym c.in-Err-NoRoom.is) ∙ f.0;
      out_after = f.1;
    }
