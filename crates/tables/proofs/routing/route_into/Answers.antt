-- `tables::routing::route_into` meets its contract: the image is the to-word at the place found, and behind it the tail.
use Prim.Native.Nat.{◌+◌}
use mathlib.Core.Path.{◌≡◌, refl, sym, ◌∙◌, ap, ap₂}
use mathlib.Core.List.{◌++◌}
use native.Mathlib.Omega.{arith}
use lib.ListN.{length}
use Rattle.std.specs.Prelude.{Ok}
use Rattle.higman.specs.Places.{place_of}
use Rattle.higman.specs.Text.{word_bytes, word_of}
use Rattle.higman.specs.Buffers.{written}
use Rattle.words.proofs.Runs.{word_size}
use Rattle.columns.specs.Packed.{words_of}
use Rattle.columns.specs.Columns.{word_at}
use Rattle.columns.proofs.Search.{first_of_begun, first_of_unbegun}
use Rattle.tables.proofs.Lookup.{image_nowhere}
use Rattle.tables.proofs.Routes.{begins_within, found_at, written_part}
use Rattle.tables.proofs.Routes.{route_too_short, route_no_room, route_image}
use Rattle.tables.proofs.routing.route_into.Goals as goal

pub returns-in_default : goal.returns-in_default
returns-in_default c =
    let a = c.args in
    let w = word_of a.code.now in
    let first = first_of_unbegun a.from.now w (sym c.in_default.ensures) in
    let nowhere = image_nowhere a.from.now a.to.now c.requires.operand.plain.long w _ first refl in
    let answer = route_too_short a.out.now (place_of (words_of a.from.now) w) nowhere in
    record { value = answer.0; out_after = answer.1 }

pub behind-tail-requires : goal.behind-tail-requires
behind-tail-requires c =
    let a = c.args in
    let (first, within) = first_of_begun a.from.now (word_of a.code.now) c.in-Some.k (sym c.in-Some.ensures) in
    begins_within (word_at a.from.now c.in-Some.k) a.code.now (first.found within)

pub returns-then-out-head : goal.returns-then-out-head
returns-then-out-head c =
    let a = c.args in
    let f = found_at a.from.now a.to.now c.requires.operand a.code.now c.requires.code c.in-Some.k (sym c.in-Some.ensures) in
    let answer = route_no_room a.out.now (place_of (words_of a.from.now) (word_of a.code.now)) f.word f.image (omega (arith, f.long)) in
    record { value = answer.0; out_after = answer.1 }

pub returns-then-out-head-2 : goal.returns-then-out-head-2
returns-then-out-head-2 c =
    let a = c.args in
    let f = found_at a.from.now a.to.now c.requires.operand a.code.now c.requires.code c.in-Some.k (sym c.in-Some.ensures) in
    let answer = route_no_room a.out.now (place_of (words_of a.from.now) (word_of a.code.now)) f.word f.image
    (omega (arith, f.long, ap length c.behind-tail.ensures.result_value)) in
    record { value = answer.0; out_after = answer.1 }

pub returns : goal.returns
returns c =
    let a = c.args in
    let f = found_at a.from.now a.to.now c.requires.operand a.code.now c.requires.code c.in-Some.k (sym c.in-Some.ensures) in
    let tail = ap length c.behind-tail.ensures.result_value in
    let head = word_at a.to.now c.in-Some.k in
    let size : c.write-end.result + length c.behind-tail.result.now ≡ length (word_bytes f.word) =
    omega (arith, f.long, tail, c.write-end.ensures.place, word_size head) in
    let answer = route_image a.out.now (place_of (words_of a.from.now) (word_of a.code.now)) f.word f.image (omega (arith, f.long, tail)) in
    record {
      value = ap₂ (λ n k. Ok (record { length = n; place = k })) size (sym f.place) ∙ answer.0;
      out_after =
          written_part a.out.now (word_bytes head) c.behind-tail.result.now c.write-end.new.out c.copy.new.out
          c.write-end.result _ c.write-end.ensures c.copy.ensures (omega arith)
          ∙ ap (written a.out.now 0) (ap (λ l. word_bytes head ++ l) c.behind-tail.ensures.result_value ∙ sym f.bytes)
          ∙ answer.1;
    }
